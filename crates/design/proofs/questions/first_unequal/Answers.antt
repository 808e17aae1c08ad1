use Rattle.std.specs.Prelude.{Some}
use native.Mathlib.Numerals.{add-one}
use Rattle.design.specs.Search.{place_told}
use mathlib.Core.Path.{◌≡◌, sym, ap, ◌∙◌}
use mathlib.Core.Bool.{Bool, true, false}
use Prim.Native.Nat.{ℕ}
use native.Mathlib.Omega.{arith}
use Rattle.rules.specs.Factor.{uniform}
use Rattle.design.specs.State.{column_at}
use Rattle.design.proofs.Search.{from_on, from_here, from_end}
use Rattle.design.proofs.Asked.{unequal_start}
use Rattle.design.proofs.questions.first_unequal.Goals as goal

pub loop-i-init : goal.loop-i-init
loop-i-init c =
    let s = c.args in
    (omega arith, unequal_start s.n s.family.now s.size (omega arith))

pub member_uniform-requires : goal.member_uniform-requires
member_uniform-requires c =
    (c.requires.0, c.requires.1, c.requires.2.room, omega (arith, c.requires.2.few), c.requires.2.numbered c.loop-i.i (omega arith))

pub returns-then-not-member_uniform : goal.returns-then-not-member_uniform
returns-then-not-member_uniform c =
    let s = c.args in
    let t : ℕ → Bool = λ k. uniform s.n (column_at s.n s.family.now k) in
    let e : t c.loop-i.i ≡ false = sym c.member_uniform.ensures ∙ c.if-not-member_uniform.true in
    ap Some (add-one c.loop-i.i) ∙ sym (ap place_told (c.loop-i.invariant.1 ∙ from_here t c.loop-i.i s.size (omega arith) e ∙ add-one c.loop-i.i))

pub loop-i-preserved : goal.loop-i-preserved
loop-i-preserved c =
    let s = c.args in
    let t : ℕ → Bool = λ k. uniform s.n (column_at s.n s.family.now k) in
    let e : t c.loop-i.i ≡ true = sym c.member_uniform.ensures ∙ c.if-not-member_uniform.false in
    (omega arith, c.loop-i.invariant.1 ∙ from_on t c.loop-i.i s.size (omega arith) e)

pub returns : goal.returns
returns c =
    let s = c.args in
    let t : ℕ → Bool = λ k. uniform s.n (column_at s.n s.family.now k) in
    sym (ap place_told (c.loop-i.invariant.1 ∙ from_end t c.loop-i.i s.size (omega arith)))
