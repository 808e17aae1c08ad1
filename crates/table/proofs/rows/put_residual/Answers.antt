-- `put_residual`: no line, or the one line.
use mathlib.Core.Path.{◌≡◌, sym, ap, ◌∙◌}
use mathlib.Core.Bool.{Bool, true, false}
use mathlib.Core.List.{[], ◌∷◌}
use native.Mathlib.Omega.{arith}
use lib.IntN.{ℤ, pos}
use mir.Syntax.{w64}
use mir.Val.{of_z, to_z}
use mir.ValLaws.{to_z-of_z}
use Rattle.rules.specs.Table.{row_bytes, rows_bytes, signed, word_residual}
use Rattle.decimal.proofs.Writing.{wrote_nil, wrote_as}
use Rattle.table.specs.Names.{among, residual_of}
use Rattle.table.specs.Skeletons.{places_of}
use Rattle.table.proofs.RowLaws.{among_any, residual_none, residual_zero, residual_line}
use Rattle.table.proofs.rows.put_residual.Goals as goal
use Rattle.table.proofs.rows.put_residual.Goals.{else-residual-ne0-via-then-residual-ne0+else-contains, else-residual-ne0-via-else-residual-ne0}

pub shared_ref_as_front-contains : goal.shared_ref_as_front-contains
shared_ref_as_front-contains c = omega (arith, c.size-sources.ensures, c.args.table.now.sources.now.few)

pub returns-then-contains : goal.returns-then-contains
returns-then-contains c =
    let a = c.args in
    let found : among a.place (places_of a.table.now) ≡ true = rw c.size-sources.ensures at (among_any a.place _ ∙ sym c.contains.ensures.value ∙ c.if-contains.true) in
    let more : (a.residual ≡ pos 0) → ⊥ = λ z. c.if-residual-ne0.true (ap (of_z w64) z) in
    let same : to_z w64 (of_z w64 a.residual) ≡ a.residual = to_z-of_z w64 a.residual c.ranges.residual in
    let e = ap (λ (d : ℤ). row_bytes (a.stratum.now ∷ word_residual ∷ signed d ∷ [])) same ∙ sym (residual_line a.stratum.now (among a.place (places_of a.table.now)) a.residual found more) in
    wrote_as a.out.now a.at e c.put_row.ensures

pub returns : goal.returns
returns c =
    let a = c.args in
    let none = wrote_nil a.out.now a.at in
    elim c.else-residual-ne0.branch [
      | else-residual-ne0-via-then-residual-ne0+else-contains w ↦
          let e : among a.place (places_of a.table.now) ≡ false = rw c.size-sources.ensures at (among_any a.place _ ∙ sym w.contains.ensures.value ∙ w.if-contains.false) in
          wrote_as a.out.now a.at (sym (ap (λ (b : Bool). rows_bytes (residual_of a.stratum.now b a.residual)) e ∙ residual_none a.stratum.now a.residual)) none
      | else-residual-ne0-via-else-residual-ne0 w ↦
          let e : a.residual ≡ pos 0 = sym (to_z-of_z w64 a.residual c.ranges.residual) ∙ ap (to_z w64) w.if-residual-ne0.false in
          wrote_as a.out.now a.at (sym (residual_zero a.stratum.now (among a.place (places_of a.table.now)) a.residual e)) none
    ]
