-- `columns::within_parent`: the numbers of the infimum are written over the column.
use Prim.Native.Nat.{ℕ, ◌*◌}
use mathlib.Core.Path.{◌≡◌, sym, ap, ap₂, ◌∙◌}
use native.Mathlib.Omega.{arith}
use lib.ListN.{length, take, length-take}
use lib.Seq.{paste}
use Rattle.rules.specs.Factor.{Column, infimum}
use Rattle.rules.proofs.Bounds.{length_infimum'}
use Rattle.factor.specs.Lent.{column_at}
use Rattle.factor.proofs.Lent.{length_part}
use Rattle.conversion.specs.Table.{within_column}
use Rattle.conversion.proofs.columns.within_parent.Goals as goal
use Rattle.conversion.proofs.columns.within_parent.Goals.{After-number_infimum}

-- the numbers are those of the infimum, one a plot
abbrev met : After-number_infimum → Column
met w = infimum (column_at w.args.plots w.args.levels.now w.args.c) (column_at w.args.plots w.args.levels.now w.args.parent)

one_each : (w : After-number_infimum) → length (take w.args.plots w.number_infimum.new.out) ≡ w.args.plots
one_each w =
    let s = w in
    let a = s.args in
    let n = a.plots in
    ap length w.number_infimum.ensures ∙ length_infimum' n (column_at n a.levels.now a.c) (column_at n a.levels.now a.parent) (length_part n a.c a.levels.now s.requires.own) (length_part n a.parent a.levels.now s.requires.other)

pub slice_bounds-numbers-end : goal.slice_bounds-numbers-end
slice_bounds-numbers-end c = omega (arith, one_each (goal.at.slice_bounds-numbers-end c).After-number_infimum, length-take (goal.at.slice_bounds-numbers-end c).After-number_infimum.args.plots c.number_infimum.new.out)

pub slice_bounds-write_column-end : goal.slice_bounds-write_column-end
slice_bounds-write_column-end c = sym (one_each (goal.at.slice_bounds-write_column-end c).After-number_infimum)

pub write_column-requires : goal.write_column-requires
write_column-requires c = omega (arith, one_each (goal.at.write_column-requires c).After-number_infimum, (goal.at.write_column-requires c).After-number_infimum.requires.own)

pub returns : goal.returns
unfolding within_column
returns c =
    let w = (goal.at.returns c).After-number_infimum in
    let a = w.args in
    c.write_column.ensures ∙ ap₂ (λ (X : Column) (k : ℕ). paste a.levels.now (240 * a.c) X k) w.number_infimum.ensures (one_each w)
