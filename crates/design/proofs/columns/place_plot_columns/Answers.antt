use mathlib.Core.Path.{◌≡◌, sym, ◌∙◌, subst}
use mathlib.Core.List.{List}
use Prim.Native.Nat.{ℕ}
use native.Mathlib.Omega.{arith}
use Rattle.rules.specs.Factor.{Column}
use Rattle.design.specs.State.{Begun}
use Rattle.design.proofs.Start.{first_of, first_none, first_more, length_first}
use Rattle.design.proofs.columns.place_plot_columns.Goals as goal

pub place_extremes-size-requires : goal.place_extremes-size-requires
place_extremes-size-requires c =
    (c.requires.0, c.requires.1, c.requires.4, c.requires.5)

pub loop-j-init : goal.loop-j-init
loop-j-init c = (
  omega arith,
  subst (λ (As : List Column). Begun c.args.n As c.place_extremes-size.new.store c.place_extremes-size.new.counts c.place_extremes-size.result) (sym (first_none c.args.n c.args.levels.now)) c.place_extremes-size.ensures,
)

pub place_column-size-requires : goal.place_column-size-requires
place_column-size-requires c =
    (c.loop-j.invariant.1.held, omega (arith, c.loop-j.invariant.1.most, length_first c.args.n c.args.levels.now c.loop-j.j), omega arith)

pub loop-j-preserved : goal.loop-j-preserved
loop-j-preserved c =
    let n = c.args.n in
    let levels = c.args.levels.now in (
      omega arith,
      subst (λ (As : List Column). Begun n As c.place_column-size.new.store c.place_column-size.new.counts c.place_column-size.result) (sym (first_more n levels c.loop-j.j)) (c.place_column-size.ensures.begun (first_of n levels c.loop-j.j) c.loop-j.invariant.1),
    )

pub shape_of-store : goal.shape_of-store
shape_of-store c = c.loop-j.invariant.1.held.room ∙ sym c.requires.4

pub returns : goal.returns
returns c =
    let e : c.loop-j.j ≡ c.args.c = omega arith in
    subst (λ (j : ℕ). Begun c.args.n (first_of c.args.n c.args.levels.now j) c.loop-j.store c.loop-j.counts c.loop-j.size) e c.loop-j.invariant.1
