use mathlib.Core.Path.{◌≡◌, refl, sym, ap, ◌∙◌}
use mathlib.Core.Bool.{Bool, true, false}
use Prim.Native.Nat.{ℕ, ◌+◌}
use native.Mathlib.Omega.{arith}
use Rattle.std.proofs.Common.{rules}
use borrow.Author.Tests.{ne_eqb}
use Rattle.design.specs.Search.{cross_partner, cross_second, first_of}
use Rattle.design.specs.Sides.{test_of}
use Rattle.design.proofs.Search.{from_on, from_here, from_end, cross_alone, cross_alone_yes, cross_first_start, cross_partner_start, cross_second_of}
use Rattle.design.proofs.apart.first_crossed.Goals as goal
use Rattle.design.proofs.apart.first_crossed.Goals.{Start, Then-not-pair_orthogonal}

-- whether a plot member and a treatment member are orthogonal
abbrev test : Start → ℕ → ℕ → Bool
test c = test_of c.args.sides.now

abbrev plots : Start → ℕ
plots c = c.args.sides.now.plot.size

abbrev treatments : Start → ℕ
treatments c = c.args.sides.now.treatment.size

pub pairs-init : goal.pairs-init
pairs-init c = let s = (goal.at.pairs-init c).Start in (refl, cross_first_start (test s) (plots s) (treatments s))

pub loop-j-init : goal.loop-j-init
loop-j-init c = let s = (goal.at.loop-j-init c).Start in (c.pairs.invariant.0, cross_partner_start (test s) (treatments s) c.pairs.i)

pub pair_orthogonal-requires : goal.pair_orthogonal-requires
pair_orthogonal-requires c =
    let s = c.args.sides.now in
    (omega arith, omega arith, c.requires c.pairs.i c.loop-j.j (omega (arith, s.plot.ordered.few)) (omega (arith, s.treatment.ordered.few)))

pub loop-j-preserved : goal.loop-j-preserved
loop-j-preserved c =
    let s = (goal.at.loop-j-preserved c).Start in
    let i = c.pairs.i in
    let e : test s i c.loop-j.j ≡ true = sym c.pair_orthogonal.ensures ∙ c.if-not-pair_orthogonal.false in
    (c.loop-j.invariant.0, c.loop-j.invariant.1 ∙ from_on (test s i) c.loop-j.j (treatments s) (omega arith) e)

pub pairs-preserved : goal.pairs-preserved
pairs-preserved c =
    let s = (goal.at.pairs-preserved c).Start in
    let i = c.pairs.i in
    let none : cross_partner (test s) (treatments s) i ≡ 0 = c.loop-j.invariant.1 ∙ from_end (test s i) c.loop-j.j (treatments s) (omega arith) in
    (c.loop-j.invariant.0, c.pairs.invariant.1 ∙ from_on (cross_alone (test s) (treatments s)) i (plots s) (omega arith) (cross_alone_yes (test s) (treatments s) i none))

-- the second place of the pair that is found
second : (c : Then-not-pair_orthogonal) → let s = (goal.at.Then-not-pair_orthogonal c).Start in cross_partner (test s) (treatments s) c.pairs.i ≡ c.loop-j.j + 1
second c =
    let s = (goal.at.Then-not-pair_orthogonal c).Start in
    let i = c.pairs.i in
    let e : test s i c.loop-j.j ≡ false = sym c.pair_orthogonal.ensures ∙ c.if-not-pair_orthogonal.true in
    c.loop-j.invariant.1 ∙ from_here (test s i) c.loop-j.j (treatments s) (omega arith) e

pub returns-then-not-pair_orthogonal-clause-first : goal.returns-then-not-pair_orthogonal-clause-first
returns-then-not-pair_orthogonal-clause-first c =
    let s = (goal.at.returns-then-not-pair_orthogonal-clause-first c).Start in
    let i = c.pairs.i in
    let e = second (goal.at.returns-then-not-pair_orthogonal-clause-first c).Then-not-pair_orthogonal in
    let some : cross_alone (test s) (treatments s) i ≡ false = ne_eqb (cross_partner (test s) (treatments s) i) 0 (λ z. omega arith) in
    sym (c.pairs.invariant.1 ∙ from_here (cross_alone (test s) (treatments s)) i (plots s) (omega arith) some)

pub returns-then-not-pair_orthogonal-clause-second : goal.returns-then-not-pair_orthogonal-clause-second
returns-then-not-pair_orthogonal-clause-second c =
    let s = (goal.at.returns-then-not-pair_orthogonal-clause-second c).Start in
    sym (cross_second_of (test s) (treatments s) c.pairs.i ∙ second (goal.at.returns-then-not-pair_orthogonal-clause-second c).Then-not-pair_orthogonal)

pub returns-after-pairs-clause-first : goal.returns-after-pairs-clause-first
returns-after-pairs-clause-first c =
    let s = (goal.at.returns-after-pairs-clause-first c).Start in
    ap first_of c.pairs.invariant.0 ∙ sym (c.pairs.invariant.1 ∙ from_end (cross_alone (test s) (treatments s)) c.pairs.i (plots s) (omega arith))

pub returns-after-pairs-clause-second : goal.returns-after-pairs-clause-second
unfolding cross_second
returns-after-pairs-clause-second c = search rules
