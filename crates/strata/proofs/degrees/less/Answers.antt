use mathlib.Core.Path.{◌≡◌, sym, ap, ◌∙◌}
use Prim.Native.Nat.{ℕ, ◌+◌, ◌≤◌}
use native.Mathlib.Omega.{arith}
use lib.IntN.{ℤ, pos, ◌-ℤ◌}
use lib.ListN.{get_or, length}
use mir.Syntax.{w64}
use mir.Val.{of_z, to_z}
use Rattle.rules.specs.Lists.{bit_at}
use Rattle.strata.specs.Sums.{sum_passing}
use Rattle.strata.proofs.Sums.{bits_start, bits_fit, bits_yes, bits_no, bits_end}
use Rattle.strata.proofs.degrees.less.Goals as goal
use Rattle.strata.proofs.degrees.less.Goals.{else-has, then-has}

pub loop-j-init : goal.loop-j-init
loop-j-init c =
    let d : ℕ → ℤ = λ k. get_or c.args.numbers.now k (pos 0) in
    bits_start c.args.start (bit_at c.args.word) d 0 (omega arith) c.requires.1 c.requires.2

pub overflow_sub-left : goal.overflow_sub-left
overflow_sub-left c =
    let d : ℕ → ℤ = λ k. get_or c.args.numbers.now k (pos 0) in
    let e = sym c.has.ensures ∙ c.if-has.true in
    rw c.loop-j.invariant (bits_fit c.args.start (bit_at c.args.word) d c.loop-j.j (omega arith) c.requires.1 c.requires.2 (omega arith) e)

pub loop-j-preserved : goal.loop-j-preserved
loop-j-preserved c =
    let d : ℕ → ℤ = λ k. get_or c.args.numbers.now k (pos 0) in
    let t = bit_at c.args.word in
    let found = c.has.ensures in
    let fewer : c.loop-j.j + 1 ≤ 32 = omega arith in
    elim c.if-has.branch [
      | then-has w ↦ w.left-is ∙ ap (λ (z : ℤ). to_z w64 (of_z w64 (z -ℤ to_z w64 (of_z w64 (d c.loop-j.j))))) c.loop-j.invariant
          ∙ bits_yes c.args.start t d c.loop-j.j (omega arith) c.requires.1 c.requires.2 fewer (sym found ∙ w.if-has.true)
      | else-has w ↦ w.left-is ∙ c.loop-j.invariant ∙ bits_no c.args.start t d c.loop-j.j (omega arith) c.requires.1 c.requires.2 (sym found ∙ w.if-has.false)
    ]

pub returns : goal.returns
returns c =
    let d : ℕ → ℤ = λ k. get_or c.args.numbers.now k (pos 0) in
    let t = bit_at c.args.word in
    let e : c.loop-j.j ≡ length c.args.numbers.now = omega arith in
    c.loop-j.invariant ∙ bits_end c.args.start t d c.loop-j.j (omega arith) c.requires.1 c.requires.2 ∙ ap (λ (m : ℕ). c.args.start -ℤ sum_passing t d m) e
