-- `one_class` meets its contract: each label is the first.
use mathlib.Core.Path.{◌≡◌, sym, ◌∙◌}
use Prim.Native.Nat.{◌<◌}
use native.Mathlib.Omega.{arith}
use lib.Dec.{eqb}
use lib.ListN.{length}
use borrow.Author.Tests.{ne_eqb}
use Rattle.std.proofs.Common.{rules, tests}
use Rattle.std.proofs.lemmas.Grind.{common_steps}
use Rattle.std.specs.List.{list_all}
use Rattle.std.proofs.lemmas.Iterator.{YieldsList-from_slice}
use Rattle.std.proofs.lemmas.Iterator.Search.{all_from_yields_List}
use Rattle.rules.specs.Factor.{at, classes}
use Rattle.naming.proofs.Apart.{one_empty, one_told}
use Rattle.naming.proofs.extremes.one_class.Goals as goal

pub returns-in_default : goal.returns-in_default
returns-in_default c =
    let F = c.args.column.now in
    let empty : length F < 1 = grind (arith, common_steps) in
    sym (ne_eqb (classes F) 1 (one_empty F empty))

pub returns : goal.returns
returns c =
    let F = c.args.column.now in
    let x = c.in-Some.first in
    let all : c.all.result ≡ list_all (λ y. eqb y x) F = all_from_yields_List (λ y. eqb y x) _ _ c.all.result c.all.ensures.ran (YieldsList-from_slice F c.iter.ensures.rest) (λ y b q k. search (rules, tests)) in
    let some : 0 < length F = grind (arith, common_steps) in
    let first : x ≡ at F 0 = grind (arith, common_steps) in
    all ∙ one_told x F some first
