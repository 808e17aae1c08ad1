-- `meet` meets its contract: the column and what was met have the column's plots in common.
use mathlib.Core.Path.{◌≡◌, refl, ap, ◌∙◌}
use mathlib.Core.List.{List}
use Prim.Native.Nat.{ℕ}
use native.Mathlib.Omega.{arith}
use borrow.Author.Rules.{rules}
use lib.ListN.{length, take, replicate}
use lib.Seq.{length-take-le}
use Rattle.rules.specs.Factor.{Column, classes, infimum}
use Rattle.rules.proofs.Bounds.{length_infimum'}
use Rattle.factor.specs.Lent.{on_common, overlay}
use Rattle.factor.proofs.Lent.{take_overlay}
use Rattle.design.proofs.Common.{common_front}
use Rattle.design.proofs.points.meet.Goals as goal

pub returns : goal.returns
returns c =
    let P = c.args.column.now in
    let n = length P in
    let M = c.args.points.now in
    let lM : length M ≡ 240 = search rules in
    let zeros : List ℕ = replicate 240 0 in
    let same : on_common infimum P M ≡ infimum P (take n M) = common_front n P M c.requires refl lM in
    let wide = length_infimum' n P (take n M) refl (length-take-le n M (omega arith)) in record {
      answer = c.infimum-m.ensures.answer ∙ ap classes same;
      met = ap (take n) c.infimum-m.ensures.numbers ∙ ap (λ (X : Column). take n (overlay zeros X)) same ∙ take_overlay zeros (infimum P (take n M)) n wide;
    }
