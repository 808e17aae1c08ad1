-- `nonzero` meets its contract: each level passes the test.
use mathlib.Core.Path.{◌∙◌}
use mathlib.Core.Bool.{not}
use Prim.Native.Nat.{ℕ}
use lib.Dec.{eqb}
use borrow.Author.Rules.{rules}
use borrow.Author.Tests.{tests}
use Rattle.std.proofs.lemmas.Iterator.{YieldsList-from_slice}
use Rattle.std.proofs.lemmas.Iterator.Search.{all_from_yields_List}
use Rattle.levels.proofs.Asked.{nonzero_tested}
use Rattle.levels.proofs.nonzero.Goals as goal

pub returns : goal.returns
returns c =
    let F = c.args.column.now in
    all_from_yields_List (λ (x : ℕ). not (eqb x 0)) _ _ c.all.result c.all.ensures.ran (YieldsList-from_slice F cc) (λ x b q k. search (rules, tests)) ∙ nonzero_tested F
