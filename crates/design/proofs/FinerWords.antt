-- Laws of words that have a bit for each member finer than one.
-- Assumes nothing.
use mathlib.Core.Path.{◌≡◌, sym, ap, ap₂, ◌∙◌, subst}
use mathlib.Core.Logic.{⊎_elim}
use mathlib.Core.Bool.{true}
use mathlib.Core.List.{List}
use Prim.Native.Nat.{ℕ, ◌*◌, ◌%◌, ◌^◌, ◌<◌, ◌≤◌}
use native.Mathlib.Omega.{arith}
use lib.Bits.{bit_or}
use lib.Dec.{eqb}
use lib.ListN.{length, get_or, set, replicate}
use lib.Seq.{get_or-set_same, get_or-set_other}
use borrow.Author.Tests.{eqb-true, eqb-false}
use Rattle.rules.specs.Factor.{Column, Finer, classes, finer}
use Rattle.rules.proofs.Members.{clash}
use Rattle.rules.proofs.Numbering.{by_cases}
use Rattle.rules.proofs.Bits.{bit_none}
use Rattle.rules.proofs.Bounds.{finer_trans}
use Rattle.rules.proofs.Classes.{finer_test}
use Rattle.design.specs.State.{column_at}
use Rattle.design.specs.Crossing.{Counted, FinerBits}
use Rattle.design.specs.Treatments.{Numbered}
use Rattle.design.proofs.Choosing.{zero_at}
use Rattle.design.proofs.KnownOrder.{or_bit, shifted_bit}

module _ (n : ℕ) (family : List ℕ) where
  -- no member yet
  pub below_none : (i : ℕ) → FinerBits n family 0 i
  below_none i k e = clash e (bit_none k)

  -- a member that is finer, and all that are finer than it
  pub below_more : (i k word below : ℕ) → k < 32 → Finer n (column_at n family k) (column_at n family i) → FinerBits n family below k → FinerBits n family word i → FinerBits n family (bit_or word (bit_or below (1 * 2 ^ k % 2 ^ 32))) i
  below_more i k word below h f b w d e = ⊎_elim
      (λ q. w d q)
      (λ q. ⊎_elim (λ r. ((b d r).0, finer_trans n (column_at n family d) (column_at n family k) (column_at n family i) (b d r).1 f)) (λ r. here (shifted_bit k d h r)) (or_bit d below (1 * 2 ^ k % 2 ^ 32) q))
      (or_bit d word (bit_or below (1 * 2 ^ k % 2 ^ 32)) e)
    where
      here : d ≡ k → (d < 32) × Finer n (column_at n family d) (column_at n family i)
      here q = rw q (h, f)

  -- no word yet
  pub words_none : (k : ℕ) → FinerBits n family (get_or (replicate 32 0) k 0) k
  words_none k = subst (λ (x : ℕ). FinerBits n family x k) (sym (zero_at 32 k)) (below_none k)

  -- a word more
  pub words_more : (i word : ℕ) (words : List ℕ) → i < length words → FinerBits n family word i → ((k : ℕ) → FinerBits n family (get_or words k 0) k) → (k : ℕ) → FinerBits n family (get_or (set words i word) k 0) k
  words_more i word words h w b k = by_cases (eqb k i)
      (λ q. at (eqb-true k i q))
      (λ q. subst (λ (x : ℕ). FinerBits n family x k) (sym (get_or-set_other words i k word 0 (eqb-false k i q))) (b k))
    where
      at : k ≡ i → FinerBits n family (get_or (set words i word) k 0) k
      at q = rw q (subst (λ (x : ℕ). FinerBits n family x i) (sym (get_or-set_same words i word 0 h)) w)

-- columns that are found to be in order, as they are lent
pub finer_lent : (n : ℕ) (F G X Y : Column) → X ≡ F → Y ≡ G → length F ≡ n → finer (length X) X Y ≡ true → Finer n F G
finer_lent n F G X Y x y l e = (finer_test n F G).0 (sym (ap₂ (λ (A B : Column). finer (length A) A B) x y ∙ ap (λ (m : ℕ). finer m F G) l) ∙ e)

-- they may be looked at
pub order_asked : {n f g : ℕ} {F G X Y : Column} → X ≡ F → Y ≡ G → length F ≡ n → length G ≡ n → 1 ≤ n → n ≤ 240 → f ≡ classes F → g ≡ classes G → (1 ≤ length X) × (length X ≤ 240) × (length Y ≡ length X) × (f ≡ classes X) × (g ≡ classes Y)
order_asked x y l_f l_g some most f g = rw (x, y) (omega arith, omega arith, l_g ∙ sym l_f, f, g)

-- members that are counted
pub counted_members : (n : ℕ) (family counts : List ℕ) (size : ℕ) → Numbered n family size → ((i : ℕ) → i < size → get_or counts i 0 ≡ classes (column_at n family i)) → Counted n family counts size
counted_members n family counts size m c i h = record { room = m.room; place = omega (arith, m.few); numbered = m.numbered i h; count = c i h }
