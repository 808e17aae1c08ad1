use mathlib.Core.Path.{◌≡◌, refl, sym, ap, ap₂, ◌∙◌}
use mathlib.Core.List.{[], ◌∷◌, ◌++◌, map, map-append}
use Prim.Native.Nat.{ℕ, ◌+◌, ◌-◌, ◌*◌, ◌≤◌, ◌<◌}
use native.Mathlib.Numerals.{add-one}
use native.Mathlib.Omega.{arith}
use lib.ListN.{length, get_or, take, drop, set, length-set, length-take}
use lib.Seq.{take-suc, take-suc-set, get_or-take, get_or-drop}
use Rattle.rules.specs.Factor.{Column, at}
use Rattle.design.specs.State.{column_at}
use Rattle.design.specs.Points.{points_on_plots}
use Rattle.design.proofs.Pasted.{in_range}
use Rattle.design.proofs.points.spread.Goals as goal
use Rattle.design.proofs.points.spread.Goals.{Start}

-- one plot more
plots_more : (p F : Column) (u : ℕ) → u < length p → points_on_plots (take (u + 1) p) F ≡ points_on_plots (take u p) F ++ at F (at p u - 1) ∷ []
unfolding points_on_plots
plots_more p F u h =
    ap (λ (k : ℕ). map (λ (x : ℕ). at F (x - 1)) (take k p)) (add-one u)
    ∙ ap (map (λ (x : ℕ). at F (x - 1))) (take-suc p u 0 h)
    ∙ map-append (λ (x : ℕ). at F (x - 1)) (take u p) (at p u ∷ [])

-- there is a point for each plot
taken : (c : Start) → length (take c.args.n c.args.points.now) ≡ c.args.n
taken c = c.requires.3.0

-- the point of plot u
point : (c : Start) (u : ℕ) → u < c.args.n → get_or (take c.args.n c.args.points.now) u 0 ≡ get_or c.args.points.now u 0
point c u l = get_or-take c.args.n c.args.points.now u 0 l

-- it is within range
ranged : (c : Start) (u : ℕ) → u < c.args.n → (1 ≤ get_or (take c.args.n c.args.points.now) u 0) × (get_or (take c.args.n c.args.points.now) u 0 ≤ 240)
ranged c u l =
    let r = in_range c.args.n c.args.points.now c.requires.3 u l in
    rw (point c u l) (omega (arith, r, c.requires.0), omega (arith, r, c.requires.0))

pub loop-u-init : goal.loop-u-init
unfolding points_on_plots
loop-u-init c = (refl, refl)

pub overflow_cast-x : goal.overflow_cast-x
overflow_cast-x c =
    let s = (goal.at.overflow_cast-x c).Start in
    omega (arith, ranged s c.loop-u.u (omega (arith, taken s)))

pub overflow_sub-x : goal.overflow_sub-x
overflow_sub-x c =
    let s = (goal.at.overflow_sub-x c).Start in
    omega (arith, ranged s c.loop-u.u (omega (arith, taken s)))

pub overflow_add-column : goal.overflow_add-column
overflow_add-column c =
    let s = (goal.at.overflow_add-column c).Start in
    omega (arith, ranged s c.loop-u.u (omega (arith, taken s)))

pub bounds-own-at : goal.bounds-own-at
bounds-own-at c =
    let s = (goal.at.bounds-own-at c).Start in
    omega (arith, ranged s c.loop-u.u (omega (arith, taken s)))

pub loop-u-preserved : goal.loop-u-preserved
loop-u-preserved c =
    let p = c.args.points.now in
    let own = c.args.own.now in
    let u = c.loop-u.u in
    let column = c.loop-u.column in
    let F = column_at 240 own c.args.i in
    let s = (goal.at.loop-u-preserved c).Start in
    let l : u < c.args.n = omega (arith, taken s) in
    let x = at p u - 1 in
    let long : c.args.n ≤ length p = omega (arith, c.requires.3.0, length-take c.args.n p) in
    let r = in_range c.args.n p c.requires.3 u l in
    let v : at F x ≡ get_or own (240 * c.args.i + x) 0 = get_or-take 240 (drop (240 * c.args.i) own) x 0 (omega arith) ∙ get_or-drop (240 * c.args.i) own x 0 in
    let h : u < length column = omega arith in
    rw (point s u l) (
      simp length-set c.loop-u.invariant.0,
      ap (λ (k : ℕ). take k (set column u (get_or own (240 * c.args.i + x) 0))) (add-one u)
          ∙ take-suc-set column u (get_or own (240 * c.args.i + x) 0) h
          ∙ ap₂ (λ (l : Column) (y : ℕ). l ++ y ∷ []) c.loop-u.invariant.1 (sym v)
          ∙ sym (plots_more p F u (omega arith)),
    )

pub returns : goal.returns
returns c =
    let e : c.loop-u.u ≡ c.args.n = omega (arith, taken (goal.at.returns c).Start) in
    rw (← e) c.loop-u.invariant.1
