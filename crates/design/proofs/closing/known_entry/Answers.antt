-- `known_entry` meets its contract: each entry that is answered follows.
use mathlib.Core.Path.{◌≡◌, refl, sym, ◌∙◌}
use mathlib.Core.Bool.{true}
use Prim.Native.Nat.{◌/◌, ◌^◌, ◌<◌}
use native.Mathlib.Omega.{arith}
use lib.Bits.{and_mask}
use borrow.Author.Tests.{eq-eqb}
use lib.ListN.{get_or}
use lib.Seq.{get_or-take, length-take-le}
use Rattle.rules.specs.Lists.{bit_at}
use Rattle.design.proofs.KnownOrder.{known_follows}
use Rattle.design.proofs.closing.known_entry.Goals as goal

pub returns-then-names_coarser : goal.returns-then-names_coarser
unfolding bit_at
returns-then-names_coarser c store held known =
    let y = c.loop-y.y in
    let above = c.args.above.now in
    let l : y < c.args.j = omega (arith, c.loop-y-test.true, length-take-le c.args.j above (omega (arith, c.requires))) in
    let t = rw (get_or-take c.args.j above y 0 l) at c.if-word-j-eq1.true in
    let bit : bit_at (get_or above y 0) c.args.j ≡ true = eq-eqb _ _ (sym (and_mask (get_or above y 0 / 2 ^ c.args.j) 1) ∙ t) in
    known_follows {marks = c.args.marks.now} {i = c.args.i} held known (omega arith) y l bit (c.names_coarser.ensures c.if-names_coarser.true) refl
