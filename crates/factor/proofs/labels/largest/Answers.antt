-- `largest` meets its contract: the greatest of 0 and the items.
use Rattle.std.proofs.Common.{rules, ◌∙◌}
use borrow.Author.Tests.{tests}
use Prim.Native.Nat.{max}
use Rattle.std.proofs.lemmas.Iterator.{YieldsList-from_slice}
use Rattle.std.proofs.lemmas.Iterator.Consumers.{fold_from_yields_List}
use Rattle.factor.proofs.LargestLabel.{largest_folded}
use Rattle.factor.proofs.labels.largest.Goals as goal

pub returns : goal.returns
returns c =
    let F = c.args.column.now in
    fold_from_yields_List _ max 0 c.fold.result c.fold.ensures.ran (YieldsList-from_slice F cc) (λ a x b q k. search (rules, tests)) ∙ largest_folded F
