-- Laws of the digits at a place of a text, and of the counts that they write.
-- Assumes nothing.
use mathlib.Core.Path.{◌≡◌, refl, sym, ap, ◌∙◌}
use mathlib.Core.Bool.{Bool, true, false, not, ◌&&◌}
use mathlib.Core.List.{List, [], ◌∷◌, ◌++◌, append_assoc}
use Prim.Native.Nat.{ℕ, ◌+◌, ◌-◌, ◌*◌, ◌≤◌, ◌<◌}
use native.Mathlib.Numerals.{add-one, one-add}
use native.Mathlib.Omega.{arith}
use lib.Dec.{eqb, leb}
use lib.ListN.{length, get_or, take, drop, drop_of_length-le, set}
use lib.Seq.{drop-cons}
use borrow.Author.Tests.{eq-eqb, ne_eqb, eqb-true, eqb-false, le-leb, lt-leb, leb-true, leb-false}
use Rattle.std.specs.Bool.{then_some}
use Rattle.std.specs.Option.{unwrap_or}
use Rattle.std.proofs.Common.{Some, None}
use Rattle.std.proofs.lemmas.Grind.{common_steps}
use Rattle.std.proofs.lemmas.List.{take_more_set}
use Rattle.std.specs.List.{position, position_or_len, starts_with}
use Rattle.rules.specs.Limits.{least_count, most_count}
use Rattle.rules.specs.Sheet.{within, all, digit, decimal, decimal_from, no_leading_zero}
use Rattle.rules.specs.Formula.{equals, is_count, leading}
use Rattle.rules.proofs.Numbering.{by_cases}
use Rattle.rules.proofs.Sheet.{and_left, and_right, and_false, all_get_d, decimal_grows}
use Rattle.block_formula.specs.Text.{count_of, counts_in}

-- ---- a byte more

-- where the first byte that is no digit stands, the digits end
digits_before : (xs : List ℕ) → take (position_or_len (λ x. not (digit x)) xs) xs ≡ leading xs
unfolding leading
digits_before [] = refl
digits_before (x ∷ xs) =
    by_cases (digit x) (λ e. rw (e, leading) (more (position_or_len (λ y. not (digit y)) xs) (digits_before xs))) (λ e. rw (e, leading))
  where
    more : (n : ℕ) → take n xs ≡ leading xs → take (1 + n) (x ∷ xs) ≡ x ∷ leading xs
    more n e = rw one-add (ap (λ (r : List ℕ). x ∷ r) e)

pub digits_some : (xs : List ℕ) (p : ℕ) → position (λ x. not (digit x)) xs ≡ Some p → take p xs ≡ leading xs
digits_some xs p e = grind (arith, common_steps, digits_before xs)

pub digits_none : (xs : List ℕ) → position (λ x. not (digit x)) xs ≡ None → xs ≡ leading xs
digits_none xs e = grind (arith, common_steps, digits_before xs)

-- ---- digits as they stand in a text

pub leading_short : (xs : List ℕ) → length (leading xs) ≤ length xs
unfolding leading
leading_short [] = omega arith
leading_short (x ∷ xs) = by_cases (digit x) (λ e. rw (e, leading) (omega (arith, leading_short xs))) (λ e. rw (e, leading) (omega arith))

pub leading_digits : (xs : List ℕ) → all digit (leading xs) ≡ true
unfolding leading all
leading_digits [] = refl
leading_digits (x ∷ xs) = by_cases (digit x) (λ e. rw (e, leading) (rw e (leading_digits xs))) (λ e. rw (e, leading))

-- ---- counts

zero_leads : (ds : List ℕ) (b : Bool) → starts_with eqb ds (48 ∷ []) ≡ b → no_leading_zero ds ≡ not b
unfolding no_leading_zero
zero_leads [] b e = ap not e
zero_leads (x ∷ xs) b e = ap not (same ∙ e)
  where
    same : eqb x 48 ≡ starts_with eqb (x ∷ xs) (48 ∷ [])
    same = by_cases (eqb x 48) (λ h. rw (h, eq-eqb 48 x (sym (eqb-true x 48 h)))) (λ h. rw (h, ne_eqb 48 x (λ z. eqb-false x 48 h (sym z))))

module _ (ds : List ℕ) where
  pub digit_least : all digit ds ≡ true → (i : ℕ) → i < length ds → (48 ≤ get_or ds i 0) × (get_or ds i 0 ≤ 57)
  digit_least a i h =
      let d = all_get_d digit ds i 0 a h in
      (leb-true 48 (get_or ds i 0) (and_left (leb 48 (get_or ds i 0)) (leb (get_or ds i 0) 57) d), leb-true (get_or ds i 0) 57 (and_right (leb 48 (get_or ds i 0)) (leb (get_or ds i 0) 57) d))

  -- one digit more
  pub decimal_step : (v i : ℕ) → i < length ds → decimal_from v (drop i ds) ≡ decimal_from (10 * v + (get_or ds i 0 - 48)) (drop (i + 1) ds)
  unfolding decimal_from
  decimal_step v i h = rw (add-one, drop-cons ds i 0 h)

  pub decimal_end : (v i : ℕ) → length ds ≤ i → decimal_from v (drop i ds) ≡ v
  unfolding decimal_from
  decimal_end v i h = rw (drop_of_length-le ds h)

  -- a number with a leading zero is no count
  pub count_zero : starts_with eqb ds (48 ∷ []) ≡ true → count_of ds ≡ None
  unfolding count_of is_count
  count_zero e = rw (zero_leads ds true e, count_of)

  -- nor one out of range
  pub count_outside : within least_count most_count (decimal ds) ≡ false → count_of ds ≡ None
  unfolding count_of is_count
  count_outside e = rw (e, and_false (no_leading_zero ds && all digit ds), count_of)

  pub count_large : (v i : ℕ) → decimal_from v (drop i ds) ≡ decimal ds → most_count < v → count_of ds ≡ None
  count_large v i e h = count_outside (go (leb least_count (decimal ds)) (lt-leb (decimal ds) most_count (omega (arith, e, decimal_grows v (drop i ds)))))
    where
      go : (a : _) → leb (decimal ds) most_count ≡ false → a && leb (decimal ds) most_count ≡ false
      go true e = e
      go false e = refl

  pub count_small : decimal ds < least_count → count_of ds ≡ None
  count_small h = count_outside (rw (lt-leb least_count (decimal ds) h))

  -- all others are
  pub count_value : all digit ds ≡ true → starts_with eqb ds (48 ∷ []) ≡ false → least_count ≤ decimal ds → decimal ds ≤ most_count → count_of ds ≡ Some (decimal ds)
  unfolding count_of is_count
  count_value a z l m = rw (zero_leads ds false z, a, le-leb 2 (decimal ds) l, le-leb (decimal ds) 240 m, count_of)

  -- so the number is one if it is large enough
  pub count_then : all digit ds ≡ true → starts_with eqb ds (48 ∷ []) ≡ false → decimal ds ≤ most_count → then_some (leb least_count (decimal ds)) (decimal ds) ≡ count_of ds
  count_then a z m =
      by_cases (leb least_count (decimal ds))
      (λ e. rw e (sym (count_value a z (leb-true least_count (decimal ds) e) m)))
      (λ e. rw e (sym (count_small (leb-false least_count (decimal ds) e))))

-- a count is at most 240
pub count_most : (ds : List ℕ) → unwrap_or (count_of ds) 0 ≤ most_count
unfolding count_of is_count
count_most ds =
    by_cases (is_count ds)
    (λ e. rw (e, count_of) (leb-true (decimal ds) 240 (and_right (leb 2 (decimal ds)) (leb (decimal ds) 240) (and_right (no_leading_zero ds && all digit ds) (within least_count most_count (decimal ds)) e))))
    (λ e. rw (e, count_of) (omega arith))

-- whether digits write a count
pub some_count : (ds : List ℕ) (v : ℕ) → count_of ds ≡ Some v → is_count ds ≡ true
unfolding count_of
some_count ds v e = by_cases (is_count ds) (λ y. y) (λ y. absurd (apart (rw (y, count_of) at e)))
  where
    apart : None ≡ Some v → ⊥
    apart h = cc

pub no_count : (ds : List ℕ) → count_of ds ≡ None → is_count ds ≡ false
unfolding count_of
no_count ds e = by_cases (is_count ds) (λ y. absurd (apart (rw (y, count_of) at e))) (λ y. y)
  where
    apart : Some (decimal ds) ≡ None → ⊥
    apart h = cc

-- ---- counts one after the other

-- an `=` has a count after it, any other byte none
module _ (text : List ℕ) (i : ℕ) (h : i < length text) where
  pub counts_here : get_or text i 0 ≡ equals → counts_in (drop i text) ≡ unwrap_or (count_of (leading (drop (i + 1) text))) 0 ∷ counts_in (drop (i + 1) text)
  unfolding counts_in
  counts_here e = rw (drop-cons text i 0 h, eq-eqb (get_or text i 0) equals e, add-one, counts_in)

  pub counts_on : (get_or text i 0 ≡ equals → ⊥) → counts_in (drop i text) ≡ counts_in (drop (i + 1) text)
  unfolding counts_in
  counts_on e = rw (drop-cons text i 0 h, ne_eqb (get_or text i 0) equals e, add-one, counts_in)

  -- a turn of the loop that lists the counts
  pub counts_turn : (counts : List ℕ) (n v : ℕ) → get_or text i 0 ≡ equals → n < length counts → v ≡ unwrap_or (count_of (leading (drop (i + 1) text))) 0
      → take (n + 1) (set counts n v) ++ counts_in (drop (i + 1) text) ≡ take n counts ++ counts_in (drop i text)
  counts_turn counts n v e l is =
      rw (take_more_set counts n v l, append_assoc, is, counts_here e)

-- at the end no count is left
pub counts_all : (text : List ℕ) (i : ℕ) → length text ≤ i → counts_in (drop i text) ≡ []
unfolding counts_in
counts_all text i h = rw (drop_of_length-le text h)
