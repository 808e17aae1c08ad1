-- `close_family` meets its contract: what is written is the closed family in its order.
use mathlib.Core.Path.{refl}
use mathlib.Core.List.{List}
use Prim.Native.Nat.{ℕ, ◌<◌}
use native.Mathlib.Omega.{arith}
use lib.ListN.{get_or}
use Rattle.rules.specs.Factor.{Column}
use Rattle.rules.specs.Family.{members_of}
use Rattle.rules.proofs.Buffer.{length_members}
use Rattle.design.specs.State.{Work}
use Rattle.design.proofs.Judge.{family_listed}
use Rattle.design.proofs.closed.close_family.Goals as goal
use Rattle.design.proofs.closed.close_family.Goals.{After-sort-order, In_ok-size}

-- the members that the family starts from
abbrev own : In_ok-size → List Column
own c = members_of c.args.n c.args.store.now c.args.start

-- the store of the closed family
work : (c : In_ok-size) → Work c.args.n c.args.infima (own c) c.close.new.store c.close.new.counts c.close.new.marks c.in_ok-size.size c.in_ok-size.size 0
work c = (c.in_ok-size.ensures.closes (own c) c.requires.0).0

-- the entries of the order are places
places : (c : After-sort-order) (p : ℕ) → p < c.in_ok-size.size → get_or c.sort-order.result p 0 < 32
places c p h =
    let w = work (goal.at.After-sort-order c).In_ok-size in
    let l = length_members c.args.n w.held.most c.close.new.store c.in_ok-size.size in
    omega (arith, c.sort-order.ensures.places p (rw l h), l, w.held.few)

pub close-requires : goal.close-requires
close-requires c = (c.requires.0.held, c.requires.1)

pub returns-in_err-size : goal.returns-in_err-size
returns-in_err-size c = λ Gs b. rw c.from_residual.ensures (c.in_err-size.ensures.closes Gs b, refl)

pub sort-order-requires : goal.sort-order-requires
sort-order-requires c =
    let w = work (goal.at.sort-order-requires c).In_ok-size in
    (w.held, w.found.distinct)

pub write-requires : goal.write-requires
write-requires c =
    let t = (goal.at.write-requires c).After-sort-order in
    let w = work (goal.at.write-requires c).In_ok-size in
    (w.held.most, w.held.room, w.held.few, t.requires.2, t.sort-order.ensures.entries, places t)

pub returns : goal.returns
returns c =
    λ Gs b. family_listed (work (goal.at.returns c).In_ok-size) c.sort-order.ensures Gs (c.in_ok-size.ensures.closes Gs b).1 c.write.ensures
