use mathlib.Core.Path.{◌≡◌, refl, ap, ◌∙◌}
use mathlib.Core.List.{List}
use Prim.Native.Nat.{ℕ, ◌+◌, ◌<◌}
use native.Mathlib.Omega.{arith}
use lib.ListN.{length, take, set, replicate, length-take}
use Rattle.rules.specs.Factor.{equality, up_from}
use Rattle.factor.specs.Lent.{overlay}
use Rattle.factor.proofs.PlotNumbers.{equality_step, equality_filled}
use Rattle.factor.proofs.extremes.equality.Goals as goal

pub loop-u-init : goal.loop-u-init
unfolding equality up_from
loop-u-init c = refl

pub loop-u-preserved : goal.loop-u-preserved
loop-u-preserved c =
    let u = c.loop-u.u in
    let n = c.numbered_plots.result in
    let part : List ℕ = take n (replicate 240 0) in
    let k : length c.loop-u.label-items ≡ length part = c.loop-u.auto.label-items in
    let h : u < length part = omega (arith, k) in
    ap (λ (l : List ℕ). set l u (u + 1)) c.loop-u.invariant ∙ equality_step part u h

pub returns : goal.returns
returns c =
    let zeros : List ℕ = replicate 240 0 in
    let n = c.numbered_plots.result in
    let part : List ℕ = take n zeros in
    let k : length c.loop-u.label-items ≡ length part = c.loop-u.auto.label-items in
    let l : length part ≡ n = simp length-take (omega (arith, c.numbered_plots.ensures)) in
    let e : c.loop-u.u ≡ n = omega (arith, k, l) in
    equality_filled zeros n c.loop-u.label-items (rw e at c.loop-u.invariant) ∙ ap (λ (k : ℕ). overlay zeros (equality k)) c.numbered_plots.ensures
