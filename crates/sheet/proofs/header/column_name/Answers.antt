use Prim.Native.Nat.{ℕ, suc, ◌≤◌}
use mathlib.Core.Path.{◌≡◌, sym, ap, ◌∙◌, subst}
use native.Mathlib.Omega.{arith}
use lib.ListN.{length, drop}
use Rattle.std.specs.Prelude.{Some, None}
use Rattle.sheet.specs.declared.header.Span.{Span}
use Rattle.rules.specs.Sheet.{header}
use Rattle.sheet.specs.Answers.{span_from}
use Rattle.sheet.proofs.NameLaws.{span_start, end_inside, span_first, Passed, passed_kind, passed_other, span_unended, span_last, span_on}
use Rattle.sheet.proofs.header.column_name.Goals as goal
use Rattle.sheet.proofs.header.column_name.Goals.{After-end_of-e, Joined-is_kind, then-is_kind+else-left-eq0, else-is_kind, then-text-e-via-then-text-e, then-text-e-via-else-text-e+then-text-e-eq10}

-- the field at hand ends inside the text
held : (c : After-end_of-e) → c.end_of-e.result ≤ length c.args.text.now
held c =
    end_inside c.args.text.now c.loop-mark.at c.end_of-e.result c.end_of-e.ensures c.loop-mark.invariant.0

-- how it is counted
counts : (c : Joined-is_kind) → Passed c.args.text.now c.loop-mark.at c.end_of-e.result c.end_of-e.ensures c.args.mark c.loop-mark.left c.if-is_kind.left
counts c =
    let a = c.args in
    let t = a.text.now in
    elim c.if-is_kind.branch [
      | then-is_kind+else-left-eq0 w ↦
          let p : suc c.if-is_kind.left ≡ c.loop-mark.left = omega arith in
          subst (λ (m : ℕ). Passed t c.loop-mark.at c.end_of-e.result c.end_of-e.ensures a.mark m c.if-is_kind.left) p
          (passed_kind t c.loop-mark.at c.end_of-e.result c.end_of-e.ensures a.mark c.if-is_kind.left (sym c.is_kind.ensures ∙ w.if-is_kind.true))
      | else-is_kind w ↦
          subst (λ (m : ℕ). Passed t c.loop-mark.at c.end_of-e.result c.end_of-e.ensures a.mark c.loop-mark.left m) (sym w.left-is)
          (passed_other t c.loop-mark.at c.end_of-e.result c.end_of-e.ensures a.mark c.loop-mark.left (sym c.is_kind.ensures ∙ w.if-is_kind.false))
    ]

pub loop-mark-init : goal.loop-mark-init
loop-mark-init c = let a = c.args in (omega arith, span_start a.mark a.c a.text.now)

pub is_kind-requires : goal.is_kind-requires
is_kind-requires c = held c

pub returns-then-left-eq0 : goal.returns-then-left-eq0
returns-then-left-eq0 c =
    let a = c.args in
    ap (λ (s : Span). Some s) c.name_in.ensures
    ∙ sym (span_first a.text.now c.loop-mark.at c.end_of-e.result c.end_of-e.ensures a.mark (sym c.is_kind.ensures ∙ c.if-is_kind.true)) ∙ (rw c.if-left-eq0.true at c.loop-mark.invariant.1)

pub returns-then-text-e : goal.returns-then-text-e
returns-then-text-e c =
    let j = (goal.at.returns-then-text-e c).Joined-is_kind in
    let a = j.args in
    let t = a.text.now in
    let e : span_from a.mark j.loop-mark.left j.loop-mark.at (header (drop j.loop-mark.at t)) ≡ None = elim c.then-text-e.branch [
      | then-text-e-via-then-text-e w ↦
          span_unended t j.loop-mark.at j.end_of-e.result j.end_of-e.ensures a.mark j.loop-mark.left j.if-is_kind.left (counts j) w.if-text-e.true
      | then-text-e-via-else-text-e+then-text-e-eq10 w ↦
          span_last t j.loop-mark.at j.end_of-e.result j.end_of-e.ensures a.mark j.loop-mark.left j.if-is_kind.left (counts j) (omega arith) w.if-text-e-eq10.true
    ] in
    sym e ∙ j.loop-mark.invariant.1

pub loop-mark-preserved : goal.loop-mark-preserved
loop-mark-preserved c =
    let j = (goal.at.loop-mark-preserved c).Joined-is_kind in
    let a = j.args in
    let t = a.text.now in (
      omega arith,
      sym (span_on t j.loop-mark.at j.end_of-e.result j.end_of-e.ensures a.mark j.loop-mark.left j.if-is_kind.left (counts j) (omega arith) c.if-text-e-eq10.false) ∙ j.loop-mark.invariant.1,
    )
