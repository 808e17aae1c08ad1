-- `formed` meets its contract: the number of members is asked, then their numbering and order.
use mathlib.Core.Path.{◌≡◌, sym, ◌∙◌}
use mathlib.Core.Bool.{true, false, ◌&&◌}
use native.Mathlib.Omega.{arith}
use lib.Dec.{ltb, leb}
use Rattle.factor.proofs.Ranges.{in_range}
use Rattle.families.proofs.Lent.{formed_parts}
use Rattle.families.proofs.formed.Goals as goal
use Rattle.families.proofs.formed.Goals.{After-contains}

-- whether there are as many members as a family has
asked : (c : After-contains) → c.contains.result ≡ ltb 0 c.args.size && leb c.args.size 32
asked c = in_range c.contains.result 1 32 c.args.size (c.contains.ensures.value ∙ rw (c.new.ensures.start, c.new.ensures.end, c.new.ensures.exhausted))

pub returns-then-contains : goal.returns-then-contains
returns-then-contains c =
    let s = c.args in
    let e : ltb 0 s.size && leb s.size 32 ≡ true = sym (asked (goal.at.returns-then-contains c).After-contains) ∙ c.if-contains.true in
    sym (formed_parts s.n (omega arith) s.family.now s.size ∙ rw e (sym c.numbered_in_order.ensures))

pub returns-else-contains : goal.returns-else-contains
returns-else-contains c =
    let s = c.args in
    let e : ltb 0 s.size && leb s.size 32 ≡ false = sym (asked (goal.at.returns-else-contains c).After-contains) ∙ c.if-contains.false in
    sym (formed_parts s.n (omega arith) s.family.now s.size ∙ rw e (sym c.if-contains.false))
