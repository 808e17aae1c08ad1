use mathlib.Core.Path.{◌≡◌, refl, sym, ap, ap₂, ◌∙◌}
use mathlib.Core.List.{List}
use Prim.Native.Nat.{ℕ, ◌+◌, ◌*◌, ◌≤◌}
use native.Mathlib.Nat.{not-suc-le-zero}
use native.Mathlib.Omega.{arith}
use lib.ListN.{length, take}
use lib.Seq.{paste}
use Rattle.rules.specs.Factor.{Column}
use Rattle.design.specs.State.{column_at}
use Rattle.design.specs.Points.{points_on_plots}
use Rattle.design.proofs.Choosing.{length_pasted}
use Rattle.design.proofs.PointLaws.{plots_length}
use Rattle.design.proofs.Pasted.{pasted_more}
use Rattle.design.proofs.points.spread_all.Goals as goal
use Rattle.design.proofs.points.spread_all.Goals.{After-spread-column}

-- the member as a column of plots
abbrev made : After-spread-column → Column
made c = points_on_plots (take c.args.n c.args.points.now) (column_at 240 c.args.own.now c.loop-i.i)

-- it is on n plots
length_made : (c : After-spread-column) → length (take c.args.n c.spread-column.result) ≡ c.args.n
length_made c =
    let a = c.args in
    ap length c.spread-column.ensures ∙ plots_length (take a.n a.points.now) (column_at 240 a.own.now c.loop-i.i) ∙ c.requires.4.0

pub loop-i-init : goal.loop-i-init
loop-i-init c = (omega arith, c.requires.2, λ k h. absurd (not-suc-le-zero h))

pub spread-column-requires : goal.spread-column-requires
spread-column-requires c =
    (c.requires.0, c.requires.1, omega arith, c.requires.4)

pub slice_bounds-put-end : goal.slice_bounds-put-end
slice_bounds-put-end c = sym (length_made (goal.at.slice_bounds-put-end c).After-spread-column)

pub put-requires : goal.put-requires
put-requires c =
    let w = (goal.at.put-requires c).After-spread-column in
    let l = length_made w in
    (omega (arith, w.requires.0), omega arith)

pub loop-i-preserved : goal.loop-i-preserved
loop-i-preserved c =
    let w = (goal.at.loop-i-preserved c).After-spread-column in
    let n = c.args.n in
    let i = c.loop-i.i in
    let F = made w in
    let e : c.put.new.store ≡ paste c.loop-i.store (240 * i) F n = c.put.ensures ∙ ap₂ (λ (X : Column) (k : ℕ). paste c.loop-i.store (240 * i) X k) w.spread-column.ensures (length_made w) in
    let l : length F ≡ n = ap length (sym w.spread-column.ensures) ∙ length_made w in
    let fits : 240 * i + 240 ≤ length c.loop-i.store = omega arith in
    let plots : ℕ → Column = λ k. points_on_plots (take n c.args.points.now) (column_at 240 c.args.own.now k) in (
      omega arith,
      ap length e ∙ length_pasted n c.requires.0 c.loop-i.store i F l fits ∙ c.loop-i.invariant.1,
      λ k h. ap (λ (x : List ℕ). column_at n x k) e ∙ pasted_more n c.requires.0 c.loop-i.store i F l fits plots refl c.loop-i.invariant.2 k h,
    )

pub shape_of-store : goal.shape_of-store
shape_of-store c = c.loop-i.invariant.1 ∙ sym c.requires.2

pub returns : goal.returns
returns c =
    let e : c.loop-i.i ≡ c.args.size = omega arith in
    record {
      room = c.loop-i.invariant.1;
      members = rw e at c.loop-i.invariant.2;
    }
