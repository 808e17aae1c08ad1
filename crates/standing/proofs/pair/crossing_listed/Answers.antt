-- `crossing_listed` meets its contract: the listed cells stand for all plots.
use mathlib.Core.Path.{◌≡◌, sym, ap, ◌∙◌}
use Prim.Native.Nat.{ℕ}
use native.Mathlib.Omega.{arith}
use lib.ListN.{length}
use Rattle.rules.specs.Factor.{Column}
use Rattle.factor.specs.Lent.{overlay}
use Rattle.factor.specs.Sizes.{labelled}
use Rattle.standing.specs.Cells.{Listed, InRanges, LabelSizes, label_sum}
use Rattle.factor.proofs.SizeTable.{labelled_le}
use Rattle.standing.proofs.Joining.{joins_supremum, number_spread, classes_spread}
use Rattle.standing.proofs.CellTable.{cells_orthogonal}
use Rattle.standing.proofs.CellSums.{sums_first, sums_second}
use Rattle.standing.proofs.pair.crossing_listed.Goals as goal
use Rattle.standing.proofs.pair.crossing_listed.Goals.{After-second-y, After-sum_cells-in_g}

-- the labels of the cells, as they are lent
lent : (c : After-second-y) → Listed c.args.columns.f.now c.args.columns.g.now c.first-x.result.now c.second-y.result.now
lent c = rw (c.first-x.ensures, c.second-y.ensures) c.requires.listed

-- what is known of the listed cells
module _ (c : After-second-y) where
  abbrev F : Column
  F = c.args.columns.f.now

  abbrev G : Column
  G = c.args.columns.g.now

  abbrev X : Column
  X = c.first-x.result.now

  abbrev Y : Column
  Y = c.second-y.result.now

  abbrev ranges : InRanges c.args.columns.past_f c.args.columns.past_g F G
  ranges = c.args.columns.in_ranges

  listed : Listed F G X Y
  listed = lent c

  by_first : (z : ℕ) → label_sum c.args.sizes.now X z ≡ labelled (length F) F z
  by_first = sums_first F G ranges.few (sym ranges.even) X Y listed c.args.sizes.now c.requires.sizes

  by_second : (z : ℕ) → label_sum c.args.sizes.now Y z ≡ labelled (length F) G z
  by_second = sums_second F G ranges.few (sym ranges.even) X Y listed c.args.sizes.now c.requires.sizes

-- the sizes of the labels
module _ (c : After-sum_cells-in_g) where
  abbrev k : After-second-y
  k = (goal.at.After-sum_cells-in_g c).After-second-y

  sizes_f : LabelSizes (F k) c.sum_cells-in_f.result
  sizes_f z h = c.sum_cells-in_f.ensures z h ∙ by_first k z

  sizes_g : LabelSizes (G k) c.sum_cells-in_g.result
  sizes_g z h = c.sum_cells-in_g.ensures z h ∙ by_second k z ∙ ap (λ (n : ℕ). labelled n (G k) z) (sym (ranges k).even)

pub sum_cells-in_f-requires-clause-small : goal.sum_cells-in_f-requires-clause-small
sum_cells-in_f-requires-clause-small c =
    let k = (goal.at.sum_cells-in_f-requires-clause-small c).After-second-y in
    λ z. omega (arith, by_first k z, labelled_le (length (F k)) (F k) z, (ranges k).few)

pub sum_cells-in_g-requires-clause-small : goal.sum_cells-in_g-requires-clause-small
sum_cells-in_g-requires-clause-small c =
    let k = (goal.at.sum_cells-in_g-requires-clause-small c).After-second-y in
    λ z. omega (arith, by_second k z, labelled_le (length (F k)) (G k) z, (ranges k).few)

pub entry_sizes-in_k-requires-clause-sizes : goal.entry_sizes-in_k-requires-clause-sizes
entry_sizes-in_k-requires-clause-sizes c = sizes_f (goal.at.entry_sizes-in_k-requires-clause-sizes c).After-sum_cells-in_g

pub returns : goal.returns
returns c =
    let sum = (goal.at.returns c).After-sum_cells-in_g in
    let k = k sum in
    let r = ranges k in
    let l = listed k in
    let t = c.join_labels-joins.result.entries in
    let joins = c.join_labels-joins.ensures.entries in
    let e = joins_supremum (F k) (G k) r.even (X k) (Y k) t l.stands joins in
    record {
      supremum = c.number_joins-supremum.ensures.answer ∙ classes_spread (F k) (G k) r.even t e;
      orthogonal = rw (← c.first-x.ensures, ← c.second-y.ensures) at c.even_cells-orthogonal.ensures
          ∙ cells_orthogonal (F k) (G k) r.few r.even (λ u h. omega (arith, r.few_f, r.below_f u h)) (λ u h. omega (arith, r.few_g, r.below_g u h)) (X k) (Y k) l
          t joins c.args.sizes.now c.entry_sizes-in_k.result c.sum_cells-in_f.result c.sum_cells-in_g.result
          c.requires.sizes c.entry_sizes-in_k.ensures (sizes_f sum) (sizes_g sum);
      above = c.number_joins-supremum.ensures.numbers ∙ ap (overlay c.args.above.now) (number_spread (F k) (G k) r.even t e);
    }
