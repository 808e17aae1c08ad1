use mathlib.Core.Path.{◌≡◌, refl, sym, ◌∙◌}
use mathlib.Core.Bool.{Bool, true, false}
use Prim.Native.Nat.{ℕ, ◌+◌, ◌<◌}
use native.Mathlib.Omega.{arith}
use borrow.Author.Rules.{rules}
use Rattle.design.specs.Search.{partner, first_place, second_place, first_pair_of}
use Rattle.design.proofs.Search.{from_on, from_here, from_end, alone, alone_yes, alone_no, partner_start, second_of, first_start}
use Rattle.design.proofs.questions.first_apart.Invariants.{test}
use Rattle.design.proofs.questions.first_apart.Goals as goal

pub pairs-init : goal.pairs-init
pairs-init c =
    let s = c.args in
    let t : ℕ → ℕ → Bool = test s.order.now s.marks.now in
    (omega arith, refl, refl, first_start t s.size)

pub loop-j-init : goal.loop-j-init
loop-j-init c =
    let p = c.pairs in
    let s = c.args in
    let t : ℕ → ℕ → Bool = test s.order.now s.marks.now in
    (omega arith, p.invariant.1, p.invariant.2, omega arith, partner_start t s.size p.i)

pub overflow_cast-order : goal.overflow_cast-order
overflow_cast-order c =
    let p = c.pairs in
    omega (arith, c.requires.1 p.i (omega arith))

pub overflow_cast-order-in-loop-j : goal.overflow_cast-order-in-loop-j
overflow_cast-order-in-loop-j c =
    omega (arith, c.requires.1 c.loop-j.j (omega arith))

pub marked-requires : goal.marked-requires
marked-requires c =
    let p = c.pairs in
    let i : p.i < c.args.size = omega arith in
    let j : c.loop-j.j < c.args.size = omega arith in
    (search rules, c.requires.1 p.i i, c.requires.1 c.loop-j.j j)

pub loop-j-preserved : goal.loop-j-preserved
loop-j-preserved c =
    let p = c.pairs in
    let s = c.args in
    let t : ℕ → ℕ → Bool = test s.order.now s.marks.now in
    let e : t p.i c.loop-j.j ≡ true = sym c.marked.ensures ∙ c.if-not-marked.false in
    (omega arith, c.loop-j.invariant.1, c.loop-j.invariant.2, omega arith, c.loop-j.invariant.4 ∙ from_on (t p.i) c.loop-j.j s.size (omega arith) e)

pub pairs-preserved : goal.pairs-preserved
pairs-preserved c =
    let p = c.pairs in
    let s = c.args in
    let t : ℕ → ℕ → Bool = test s.order.now s.marks.now in
    let none : partner t s.size p.i ≡ 0 = c.loop-j.invariant.4 ∙ from_end (t p.i) c.loop-j.j s.size (omega arith) in
    (omega arith, c.loop-j.invariant.1, c.loop-j.invariant.2, p.invariant.3 ∙ from_on (alone t s.size) p.i s.size (omega arith) (alone_yes t s.size p.i none))

pub returns-after-pairs : goal.returns-after-pairs
unfolding first_pair_of second_place
returns-after-pairs c =
    let p = c.pairs in
    let s = c.args in
    let t : ℕ → ℕ → Bool = test s.order.now s.marks.now in
    let none : first_place t s.size ≡ 0 = p.invariant.3 ∙ from_end (alone t s.size) p.i s.size (omega arith) in
    rw (none, p.invariant.1, p.invariant.2)

pub returns-then-not-marked : goal.returns-then-not-marked
unfolding first_pair_of
returns-then-not-marked c =
    let p = c.pairs in
    let s = c.args in
    let t : ℕ → ℕ → Bool = test s.order.now s.marks.now in
    let e : t p.i c.loop-j.j ≡ false = sym c.marked.ensures ∙ c.if-not-marked.true in
    let second : partner t s.size p.i ≡ c.loop-j.j + 1 = c.loop-j.invariant.4 ∙ from_here (t p.i) c.loop-j.j s.size (omega arith) e in
    let first : first_place t s.size ≡ p.i + 1 =
    p.invariant.3 ∙ from_here (alone t s.size) p.i s.size (omega arith) (alone_no t s.size p.i c.loop-j.j second) in
    rw (first, second_of t s.size p.i, second)
