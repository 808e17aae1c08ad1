-- `add` meets its contract: there is room, or what is there is found.
use mathlib.Core.Path.{refl}
use Rattle.design.proofs.Joins.{room_growing, room_grown, room_stands, room_adds, full_adds, old_stands, old_adds}
use Rattle.design.proofs.crossing.Suprema.add.Goals as goal

pub returns-then-self-lt-MEMBERS-clause-growing : goal.returns-then-self-lt-MEMBERS-clause-growing
returns-then-self-lt-MEMBERS-clause-growing c = rw c.grown-self.ensures (room_growing c.requires.0 c.requires.2 c.if-self-lt-MEMBERS.true c.place-p.ensures)

pub returns-then-self-lt-MEMBERS-clause-grown : goal.returns-then-self-lt-MEMBERS-clause-grown
returns-then-self-lt-MEMBERS-clause-grown c = rw c.grown-self.ensures (room_grown c.requires.0 c.requires.2 c.if-self-lt-MEMBERS.true c.place-p.ensures)

pub returns-then-self-lt-MEMBERS-clause-stands : goal.returns-then-self-lt-MEMBERS-clause-stands
returns-then-self-lt-MEMBERS-clause-stands c = rw c.grown-self.ensures (room_stands c.requires.0 c.requires.2 c.if-self-lt-MEMBERS.true c.place-p.ensures)

pub returns-then-self-lt-MEMBERS-clause-adds : goal.returns-then-self-lt-MEMBERS-clause-adds
returns-then-self-lt-MEMBERS-clause-adds c = rw c.grown-self.ensures (room_adds c.requires.0 c.requires.2 c.if-self-lt-MEMBERS.true c.place-p.ensures)

pub returns-in_default-clause-adds : goal.returns-in_default-clause-adds
returns-in_default-clause-adds c = full_adds c.requires.0 c.requires.2 refl c.if-self-lt-MEMBERS.false c.in_default.ensures

pub returns-clause-stands : goal.returns-clause-stands
returns-clause-stands c = old_stands c.requires.0 c.requires.2 refl c.if-self-lt-MEMBERS.false c.in-Some.ensures.0 c.in-Some.ensures.1

pub returns-clause-adds : goal.returns-clause-adds
returns-clause-adds c = old_adds c.requires.0 c.requires.2 refl c.if-self-lt-MEMBERS.false c.in-Some.ensures.0 c.in-Some.ensures.1
