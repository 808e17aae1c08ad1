use Rattle.std.proofs.Common.{rules, ◌∙◌, ◌||◌, false}
use native.Mathlib.Omega.{arith}
use borrow.Author.Tests.{tests}
use lib.ListN.{get_or}
use Rattle.std.proofs.lemmas.Iterator.{YieldsList-from_slice}
use Rattle.std.proofs.lemmas.Iterator.Consumers.{fold_from_yields_List}
use Rattle.factor.proofs.Gathered.{gathered}
use Rattle.factor.proofs.SizeTable.{other_size, one_size_told}
use Rattle.factor.proofs.sizes.one_size.Goals as goal

pub returns : goal.returns
returns c =
    let f = c.args.f.now in
    let table = c.sizes-table.result in
    let first = get_or table (get_or f 0 0) 0 in
    let told = fold_from_yields_List _ (λ other size. other || other_size first size) false c.fold.result c.fold.ensures.ran (YieldsList-from_slice table cc) (λ a x b q k. search (rules, tests)) in
    one_size_told f c.sizes-table.ensures (λ u. (c.type_inv.f u).fits) c.fold.result (omega arith) (told ∙ gathered (other_size first) table)
