use mathlib.Core.Path.{◌≡◌, sym, ◌∙◌}
use mathlib.Core.Logic.{⊎_elim}
use mathlib.Core.Bool.{true}
use Prim.Native.Nat.{ℕ, ◌/◌, ◌%◌, ◌^◌}
use lib.Bits.{bit_and, and_mask}
use borrow.Author.Tests.{eq-eqb}
use Rattle.rules.specs.Lists.{bit_at}
use Rattle.design.proofs.following.coarsest.Goals as goal
use Rattle.design.proofs.following.coarsest.Goals.{Then-left-eq1, then-left-eq1, else-left-eq1}

-- the bit is there
bit : (word k : ℕ) → bit_and (word / 2 ^ k) 1 ≡ 1 → bit_at word k ≡ true
unfolding bit_at
bit word k e = eq-eqb (word / 2 ^ k % 2) 1 (sym (and_mask (word / 2 ^ k) 1) ∙ e)

pub get-requires : goal.get-requires
get-requires c = (c.requires.2 c.loop-k.k (bit c.args.word c.loop-k.k c.if-left-eq1.true)).0

pub fewer-best-requires-clause-first : goal.fewer-best-requires-clause-first
fewer-best-requires-clause-first c = λ k e. let w = c.loop-k.invariant k e in (c.requires.2 w.bit w.marked).1 k w.entry

pub fewer-best-requires-clause-second : goal.fewer-best-requires-clause-second
fewer-best-requires-clause-second c = λ q e. (c.requires.2 c.loop-k.k (bit c.args.word c.loop-k.k c.if-left-eq1.true)).1 q (sym c.get.ensures ∙ e)

pub loop-k-preserved : goal.loop-k-preserved
loop-k-preserved c = λ q e.
    elim c.if-left-eq1.branch [
      | then-left-eq1 w ↦ ⊎_elim
          (λ h. c.loop-k.invariant q (sym h ∙ sym w.best-is ∙ e))
          (λ h. record { bit = c.loop-k.k; marked = bit c.args.word c.loop-k.k w.if-left-eq1.true; entry = sym w.get.ensures ∙ sym h ∙ sym w.best-is ∙ e })
          w.fewer-best.ensures
      | else-left-eq1 w ↦ c.loop-k.invariant q (sym w.best-is ∙ e)
    ]
