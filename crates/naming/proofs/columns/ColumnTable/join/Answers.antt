-- `join` meets its contract: what the two make, or the column itself where nothing was joined.
use mathlib.Core.List.{List, []}
use mathlib.Core.Path.{◌≡◌, refl, sym, ap, ap₂, ◌∙◌}
use Prim.Native.Nat.{ℕ}
use native.Mathlib.Omega.{arith}
use lib.ListN.{length, get_or, take, replicate}
use lib.Seq.{length-take-le}
use borrow.Author.Rules.{rules}
use Rattle.rules.specs.Factor.{Column}
use Rattle.rules.proofs.Buffer.{length_members}
use Rattle.rules.proofs.WellFormed.{numbered_at}
use Rattle.factor.specs.Lent.{on_common, overlay}
use Rattle.decimal.specs.Writing.{written}
use Rattle.naming.proofs.SideWalks.{side_laws, join_alone, join_of_lem}
use Rattle.naming.proofs.Tables.{join_part, column_part}
use Rattle.naming.specs.Columns.{side_of, made_of}
use Rattle.naming.specs.Tables.{columns_in}
use Rattle.naming.proofs.columns.ColumnTable.join.Goals as goal

pub returns-in-Some : goal.returns-in-Some
returns-in-Some c =
    let t = c.args.self.now in
    let n = t.plots in
    let side = c.args.side in
    let op : Column → Column → Column = (side_of n side).join in
    let C : Column = get_or (columns_in t) c.args.c [] in
    let M : List ℕ = c.in-Some.made in
    let zeros : List ℕ = replicate 240 0 in
    let made : length M ≡ 240 = search rules in
    let on : length C ≡ n = sym (ap length c.column-column.ensures.is) ∙ c.column-column.ensures.plots in
    let lM : length (take n M) ≡ n = length-take-le n M (omega (arith, t.placed.few_plots)) in
    let is : c.join.new.out ≡ overlay zeros (on_common op C M) =
    c.join.ensures ∙ ap₂ (λ (f : Column → Column → Column) (X : Column). overlay zeros (on_common f X M)) (join_of_lem n side) c.column-column.ensures.is in
    ap (take n) is ∙ join_part op n zeros C M t.placed.few_plots on made ((side_laws n side).join_on C (take n M) on lM)
    ∙ ap (λ (m : _). op C (made_of n (side_of n side) m)) (sym c.in-Some.is)

pub returns-in_default : goal.returns-in_default
returns-in_default c =
    let t = c.args.self.now in
    let n = t.plots in
    let side = c.args.side in
    let S = columns_in t in
    let C : Column = get_or S c.args.c [] in
    let zeros : List ℕ = replicate 240 0 in
    let on : length C ≡ n = sym (ap length c.column-column.ensures.is) ∙ c.column-column.ensures.plots in
    let size : length S ≡ t.count = length_members n t.placed.few_plots t.bytes.now t.count in
    let alone = join_alone n (side_of n side) (side_laws n side) C on (numbered_at S t.numbered c.args.c (omega (arith, c.requires))) in
    ap (take n) (c.write_bytes.ensures.bytes ∙ ap (written zeros 0) c.column-column.ensures.is) ∙ column_part n zeros C t.placed.few_plots refl on
    ∙ sym (ap (λ (m : _). (side_of n side).join C (made_of n (side_of n side) m)) c.in_default.is ∙ alone)
