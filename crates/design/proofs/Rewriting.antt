-- Laws of a family buffer that is written more than once: a family written where it stands, and one written over a smaller one.
-- Assumes nothing.
use mathlib.Core.Path.{◌≡◌, refl, sym, ap, ap₂, ◌∙◌}
use mathlib.Core.List.Memᴰ
use mathlib.Core.List.{List, [], ◌∷◌, ◌++◌, append_assoc}
use Prim.Native.Nat.{ℕ, zero, suc, ◌+◌, ◌*◌, ◌-◌, ◌≤◌}
use native.Mathlib.Nat.{zero-add, not-suc-le-zero, le_of_suc-le-suc}
use native.Mathlib.Omega.{arith}
use lib.ListN.{length, take, drop, length-append, length-drop, take-append-drop}
use lib.Seq.{take_at, drop_at, drop-drop, length-take-le}
use Rattle.rules.specs.Factor.{Column}
use Rattle.rules.specs.Family.{Family, ◌∈◌, columns_from, members_of, written}
use Rattle.rules.proofs.Buffer.{length_written}

module _ (n : ℕ) (small : n ≤ 240) where
  -- a part written where it stands
  same : (b : List ℕ) (k : ℕ) → k + n ≤ length b → take k b ++ take n (drop k b) ++ drop (k + length (take n (drop k b))) b ≡ b
  same b k h =
      let len : length (take n (drop k b)) ≡ n = length-take-le n (drop k b) (rw length-drop (omega arith)) in
      rw len
      (append_assoc (take k b) (take n (drop k b)) (drop (k + n) b)
      ∙ ap (λ (r : List ℕ). take k b ++ r) (ap (λ (r : List ℕ). take n (drop k b) ++ r) (sym (drop-drop n k b)) ∙ take-append-drop n (drop k b))
      ∙ take-append-drop k b)

  again : (b : List ℕ) (i m : ℕ) → 240 * (i + m) ≤ length b → written b i (columns_from n b i m) ≡ b
  unfolding written columns_from
  again b i zero h = refl
  again b i (suc m) h = ap (λ (c : List ℕ). written c (suc i) (columns_from n b (suc i) m)) (same b (240 * i) (omega arith)) ∙ again b (suc i) m (omega arith)

  -- the members of a buffer, written into it
  pub written_again : (b : List ℕ) (m : ℕ) → 240 * m ≤ length b → written b 0 (members_of n b m) ≡ b
  unfolding members_of
  written_again b m h = again b 0 m (omega arith)

  -- the bytes from a place on, once a family is written there
  unfoldable laid : List ℕ → Family → List ℕ
  laid rest [] = rest
  laid rest (F ∷ S) = F ++ (take (240 - n) (drop n rest) ++ laid (drop 240 rest) S)

  -- the bytes from the place after on
  past : (rest : List ℕ) → drop n rest ≡ take (240 - n) (drop n rest) ++ drop 240 rest
  past rest =
      let e : n + (240 - n) ≡ 240 = omega arith in
      sym (take-append-drop (240 - n) (drop n rest)) ∙ ap (λ (r : List ℕ). take (240 - n) (drop n rest) ++ r) (drop-drop (240 - n) n rest ∙ ap (λ (k : ℕ). drop k rest) e)

  -- a place is of 240 bytes
  length_laid : (F : Column) (rest : List ℕ) → length F ≡ n → 240 ≤ length rest → length (F ++ take (240 - n) (drop n rest)) ≡ 240
  length_laid F rest l h =
      let m : length (take (240 - n) (drop n rest)) ≡ 240 - n = length-take-le (240 - n) (drop n rest) (rw length-drop (omega arith)) in
      length-append F (take (240 - n) (drop n rest)) ∙ omega arith

  written_laid : (S : Family) (front rest : List ℕ) (i : ℕ) → length front ≡ 240 * i → ((F : Column) → F ∈ S → length F ≡ n) → 240 * length S ≤ length rest → written (front ++ rest) i S ≡ front ++ laid rest S
  unfolding written laid
  written_laid [] front rest i l on h = refl
  written_laid (F ∷ S) front rest i l on h =
      ap (λ (c : List ℕ). written c (suc i) S) step
      ∙ written_laid S (front ++ (F ++ mid)) (drop 240 rest) (suc i) longer (λ G m. on G (Memᴰ.tail m)) (rw length-drop (omega arith))
      ∙ append_assoc front (F ++ mid) (laid (drop 240 rest) S)
      ∙ ap (λ (r : List ℕ). front ++ r) (append_assoc F mid (laid (drop 240 rest) S))
    where
      mid : List ℕ
      mid = take (240 - n) (drop n rest)

      l_f : length F ≡ n
      l_f = on F (Memᴰ.head refl)

      longer : length (front ++ (F ++ mid)) ≡ 240 * suc i
      longer = length-append front (F ++ mid) ∙ omega (arith, length_laid F rest l_f (omega arith))

      behind : drop (240 * i + length F) (front ++ rest) ≡ mid ++ drop 240 rest
      behind =
          sym (drop-drop (length F) (240 * i) (front ++ rest))
          ∙ ap₂ (λ (k : ℕ) (r : List ℕ). drop k r) l_f (drop_at front rest (240 * i) l)
          ∙ past rest

      step : take (240 * i) (front ++ rest) ++ F ++ drop (240 * i + length F) (front ++ rest) ≡ (front ++ (F ++ mid)) ++ drop 240 rest
      step =
          ap₂ (λ (x y : List ℕ). x ++ F ++ y) (take_at front rest (240 * i) l) behind
          ∙ append_assoc front F (mid ++ drop 240 rest)
          ∙ ap (λ (r : List ℕ). front ++ r) (sym (append_assoc F mid (drop 240 rest)))
          ∙ sym (append_assoc front (F ++ mid) (drop 240 rest))

  laid_over : (S R : Family) (rest : List ℕ) → ((F : Column) → F ∈ S → length F ≡ n) → ((F : Column) → F ∈ R → length F ≡ n) → length S ≤ length R → 240 * length S ≤ length rest → laid (laid rest S) R ≡ laid rest R
  unfolding laid
  laid_over [] R rest on on' h k = refl
  laid_over (F ∷ S) [] rest on on' h k = absurd (not-suc-le-zero h)
  laid_over (F ∷ S) (G ∷ R) rest on on' h k =
      ap₂ (λ (x y : List ℕ). G ++ (x ++ laid y R)) middle behind
      ∙ ap (λ (r : List ℕ). G ++ (mid ++ r)) (laid_over S R (drop 240 rest) (λ H m. on H (Memᴰ.tail m)) (λ H m. on' H (Memᴰ.tail m)) (le_of_suc-le-suc h) (rw length-drop (omega arith)))
    where
      mid : List ℕ
      mid = take (240 - n) (drop n rest)

      tail : List ℕ
      tail = laid (drop 240 rest) S

      l_f : length F ≡ n
      l_f = on F (Memᴰ.head refl)

      middle : take (240 - n) (drop n (F ++ (mid ++ tail))) ≡ mid
      middle = ap (λ (r : List ℕ). take (240 - n) r) (drop_at F (mid ++ tail) n l_f) ∙ take_at mid tail (240 - n) (length-take-le (240 - n) (drop n rest) (rw length-drop (omega arith)))

      behind : drop 240 (F ++ (mid ++ tail)) ≡ tail
      behind = ap (λ (r : List ℕ). drop 240 r) (sym (append_assoc F mid tail)) ∙ drop_at (F ++ mid) tail 240 (length_laid F rest l_f (omega arith))

  -- a family written over one that has no more members
  pub written_over : (S R : Family) (b : List ℕ) → ((F : Column) → F ∈ S → length F ≡ n) → ((F : Column) → F ∈ R → length F ≡ n) → length S ≤ length R → 240 * length S ≤ length b → 240 * length R ≤ length b
      → written (written b 0 S) 0 R ≡ written b 0 R
  written_over S R b on on' h k k' =
      written_laid R [] (written b 0 S) 0 refl on' (rw (written_laid S [] b 0 refl on k) (rw length_over k'))
      ∙ ap (λ (x : List ℕ). laid x R) (written_laid S [] b 0 refl on k)
      ∙ laid_over S R b on on' h k
      ∙ sym (written_laid R [] b 0 refl on' k')
    where
      length_over : length (laid b S) ≡ length b
      length_over = ap length (sym (written_laid S [] b 0 refl on k)) ∙ length_written n small S b 0 on (omega (arith, zero-add (length S)))
