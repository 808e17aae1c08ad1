-- `columns::number_infimum`: both columns are numbered; a numbered column has the same infimum with another.
use mathlib.Core.Path.{◌≡◌, sym, ap, ap₂, ◌∙◌}
use mathlib.Core.List.{List}
use Prim.Native.Nat.{ℕ}
use native.Mathlib.Omega.{arith}
use lib.ListN.{take, replicate}
use Rattle.rules.specs.Factor.{number, infimum}
use Rattle.rules.proofs.Bounds.{infimum_number, infimum_comm, length_infimum'}
use Rattle.factor.specs.Lent.{column_at, on_common, overlay}
use Rattle.factor.proofs.Lent.{common_all, take_overlay}
use Rattle.levels.proofs.Numbered.{Numbered, column_numbered}
use Rattle.conversion.proofs.columns.number_infimum.Goals as goal
use Rattle.conversion.proofs.columns.number_infimum.Goals.{After-column_numbers, After-column_numbers-2}

-- the first column, numbered
own : (w : After-column_numbers) → Numbered w.args.plots (column_at w.args.plots w.args.levels.now w.args.c) w.column_numbers.new.out w.column_numbers.result
own w =
    let s = w in
    let zeros : List ℕ = replicate 240 0 in
    column_numbered s.args.plots s.args.c s.args.levels.now zeros w.column_numbers.new.out w.column_numbers.result s.requires.few s.requires.own w.column_numbers.ensures.answer w.column_numbers.ensures.numbers

-- and the other
above : (w : After-column_numbers-2) → Numbered w.args.plots (column_at w.args.plots w.args.levels.now w.args.parent) w.column_numbers-2.new.out w.column_numbers-2.result
above w =
    let s = w in
    let zeros : List ℕ = replicate 240 0 in
    column_numbered s.args.plots s.args.parent s.args.levels.now zeros w.column_numbers-2.new.out w.column_numbers-2.result s.requires.few s.requires.other w.column_numbers-2.ensures.answer w.column_numbers-2.ensures.numbers

pub slice_bounds-own-end : goal.slice_bounds-own-end
slice_bounds-own-end c = (own (goal.at.slice_bounds-own-end c).After-column_numbers).room

pub slice_bounds-infimum-end : goal.slice_bounds-infimum-end
slice_bounds-infimum-end c = sym (own (goal.at.slice_bounds-infimum-end c).After-column_numbers).lent_plots

pub slice_bounds-above-end : goal.slice_bounds-above-end
slice_bounds-above-end c = (above (goal.at.slice_bounds-above-end c).After-column_numbers-2).room

pub slice_bounds-infimum-end-2 : goal.slice_bounds-infimum-end-2
slice_bounds-infimum-end-2 c = sym (above (goal.at.slice_bounds-infimum-end-2 c).After-column_numbers-2).lent_plots

pub returns : goal.returns
returns c =
    let w = (goal.at.returns c).After-column_numbers-2 in
    let a = w.args in
    let n = a.plots in
    let F = column_at n a.levels.now a.c in
    let G = column_at n a.levels.now a.parent in
    let f = own (goal.at.returns c).After-column_numbers in
    let g = above w in
    let out = a.out.now in
    let same : on_common infimum (take n w.column_numbers.new.out) (take n w.column_numbers-2.new.out) ≡ infimum F G =
    ap₂ (on_common infimum) f.numbers g.numbers ∙ common_all infimum (number F) (number G) (f.numbered_plots ∙ sym g.numbered_plots) (omega (arith, f.numbered_plots, w.requires.few))
    ∙ infimum_number n F (number G) f.plots g.numbered_plots ∙ infimum_comm n F (number G) f.plots g.numbered_plots ∙ infimum_number n G F g.plots f.plots ∙ infimum_comm n G F g.plots f.plots in
    ap (take n) (c.infimum.ensures.numbers ∙ ap (overlay out) same) ∙ take_overlay out (infimum F G) n (length_infimum' n F G f.plots g.plots)
