-- Laws of strata in code: the coarsest candidate is the stratum, and the residuals are those of the rules.
-- Assumes nothing.
use mathlib.Core.Path.{◌≡◌, refl, sym, ap, ap₂, ◌∙◌}
use mathlib.Core.Bool.{Bool, true, false, not, ◌&&◌, ◌||◌}
use mathlib.Core.List.{List, [], ◌∷◌, map}
use Prim.Native.Nat.{ℕ, zero, suc, ◌+◌, ◌≤◌, ◌<◌}
use native.Mathlib.Nat.{not-suc-le-zero, le_of_suc-le-suc, zero-add}
use native.Mathlib.Numerals.{add-one, one-add}
use native.Mathlib.Omega.{arith}
use lib.Dec.{eqb}
use lib.IntN.{ℤ, pos, ◌-ℤ◌}
use lib.ListN.{length, get_or, take}
use lib.Seq.{ext_get_or, get_or-take}
use mir.Syntax.{w64}
use mir.Val.{SFits}
use Rattle.rules.specs.Factor.{Column, every, finer}
use Rattle.rules.specs.Family.{Family, members_of}
use Rattle.rules.specs.Design.{first_failing}
use Rattle.rules.specs.Lists.{tabulate, for_places, word_of, bit_at}
use Rattle.rules.specs.Degrees.{degrees}
use Rattle.rules.specs.Strata.{all, is_stratum, stratum, sum_at, residuals_from, residuals}
use Rattle.rules.proofs.Numbering.{by_cases}
use Rattle.rules.proofs.Members.{clash}
use Rattle.rules.proofs.Tests.{every_at, every_all}
use Rattle.rules.proofs.Buffer.{length_members, member_is}
use Rattle.rules.proofs.Lists.{length_tabulate, get_d_tabulate}
use Rattle.rules.proofs.Places.{at_places_lem, tabulate_ext}
use Rattle.rules.proofs.Words.{word_ext, bit_word}
use Rattle.rules.proofs.Bits.{every_ext, every_suc}
use Rattle.rules.proofs.WellFormed.{Accepted}
use Rattle.rules.proofs.StrictOrder.{finer_places}
use Rattle.rules.proofs.DegreesLaws.{length_degrees}
use Rattle.rules.proofs.Totals.{length_residuals, residual_at_lem}
use Rattle.families.specs.Lent.{column_at}
use Rattle.strata.specs.Lent.{Formed}
use Rattle.strata.specs.Words.{candidate_word, below, coarsest, first_passing, numbered}
use Rattle.std.proofs.Common.{Option, Some, None}
use Rattle.std.specs.Option.{MatchOption}
use Rattle.std.specs.List.{list_all, enumerate_from}
use Rattle.strata.specs.Sums.{AllSmall, sum_passing, residual_at, residuals_of}
use Rattle.strata.proofs.Slices.{taken_length}
use Rattle.strata.proofs.Lent.{accepted_members, size_members, on_plots_lem}
use Rattle.strata.proofs.RelationWords.{words_of, bit_at_lem}
use Rattle.strata.proofs.Sums.{pass_ext, sum_at_is, left_fits}

-- ---- a loop that tests places

-- one place more passes
pub every_on : (p : ℕ → Bool) (t : ℕ) → every t p ≡ true → p t ≡ true → every (t + 1) p ≡ true
every_on p t e f = ap (λ (m : ℕ). every m p) (add-one t) ∙ every_suc t p ∙ rw (e, f)

-- one fails
pub every_fails : (p : ℕ → Bool) (n t : ℕ) → t < n → p t ≡ false → every n p ≡ false
every_fails p n t h e = by_cases (every n p) (λ b. clash (every_at n p b t h) e) (λ b. b)

-- ---- all members, place by place

module _ (p : Column → Bool) where
  all_yes : (F : Column) (S : Family) → p F ≡ true → all p (F ∷ S) ≡ all p S
  unfolding all
  all_yes F S e = rw (e, all)

  all_no : (F : Column) (S : Family) → p F ≡ false → all p (F ∷ S) ≡ false
  unfolding all
  all_no F S e = rw (e, all)

  all_at : (S : Family) → all p S ≡ true → (i : ℕ) → i < length S → p (get_or S i []) ≡ true
  all_at [] e i h = absurd (not-suc-le-zero h)
  all_at (F ∷ S) e zero h = by_cases (p F) (λ f. f) (λ f. clash e (all_no F S f))
  all_at (F ∷ S) e (suc i) h = by_cases (p F) (λ f. all_at S (sym (all_yes F S f) ∙ e) i (le_of_suc-le-suc h)) (λ f. clash e (all_no F S f))

  all_from : (S : Family) → ((i : ℕ) → i < length S → p (get_or S i []) ≡ true) → all p S ≡ true
  unfolding all
  all_from [] h = refl
  all_from (F ∷ S) h = all_yes F S (h 0 (omega arith)) ∙ all_from S (λ i l. h (suc i) (omega arith))

  pub all_every : (S : Family) → all p S ≡ every (length S) (λ i. p (get_or S i []))
  all_every S =
      by_cases (all p S)
      (λ e. e ∙ sym (every_all (length S) (λ i. p (get_or S i [])) (λ i l. all_at S e i l)))
      (λ e. by_cases (every (length S) (λ i. p (get_or S i [])))
      (λ f. clash (all_from S (λ i l. every_at (length S) (λ i. p (get_or S i [])) f i l)) e)
      (λ f. e ∙ sym f))

-- ---- the coarsest candidate

or_assoc : (a b c : Bool) → a || b || c ≡ a || (b || c)
or_assoc true b c = refl
or_assoc false b c = refl

module _ (n : ℕ) (P : Family) (is : Accepted P) (on : (i : ℕ) → i < length P → length (get_or P i []) ≡ n) (T : Column) where
  pub coarsest_is : (p : ℕ) → p < length P → coarsest (words_of n P) (length P) (word_of (λ p. finer n (get_or P p []) T) (length P)) p ≡ is_stratum n P T (get_or P p [])
  unfolding coarsest below is_stratum
  coarsest_is p h =
      ap₂ ◌&&◌ (bit_word (λ p. finer n (get_or P p []) T) (length P) p h)
      (every_ext (λ q. not (bit_at w q) || eqb q p || bit_at (get_or (words_of n P) q 0) p) (λ q. not (finer n (get_or P q []) T) || finer n (get_or P q []) (get_or P p [])) (length P)
      (λ q l. or_assoc (not (bit_at w q)) (eqb q p) (bit_at (get_or (words_of n P) q 0) p)
      ∙ ap₂ (λ (x y : Bool). not x || y) (bit_word (λ p. finer n (get_or P p []) T) (length P) q l)
      (ap (λ (x : Bool). eqb q p || x) (bit_at_lem n P is on q p l h) ∙ sym (finer_places n P is on q p l h)))
      ∙ sym (all_every (λ G. not (finer n G T) || finer n G (get_or P p [])) P))
    where
      w : ℕ
      w = word_of (λ p. finer n (get_or P p []) T) (length P)

-- all elements, by their places
-- the first apart
every_first : (n : ℕ) (p : ℕ → Bool) → p 0 && every n (λ k. p (suc k)) ≡ every (suc n) p
unfolding every
every_first zero p = by_cases (p 0) (λ e. rw (e, every)) (λ e. rw (e, every))
every_first (suc n) p =
    by_cases (p (suc n))
    (λ e. ap (λ (x : Bool). p 0 && x) (rw (e, every)) ∙ every_first n p ∙ sym (rw (e, every)))
    (λ e. ap (λ (x : Bool). p 0 && x) (rw (e, every)) ∙ none (p 0) ∙ sym (rw (e, every)))
  where
    none : (a : Bool) → a && false ≡ false
    none true = refl
    none false = refl

pub all_numbered : (f : ℕ × ℕ → Bool) (xs : List ℕ) (i : ℕ) → list_all f (enumerate_from i xs) ≡ every (length xs) (λ k. f (i + k, get_or xs k 0))
unfolding every
all_numbered f [] i = refl
all_numbered f (x ∷ xs) i =
    let z : i ≡ i + 0 = omega arith in
    ap₂ ◌&&◌ (ap (λ (k : ℕ). f (k, x)) z)
    (all_numbered f xs (i + 1)
    ∙ every_ext (λ k. f (i + 1 + k, get_or xs k 0)) (λ k. f (i + suc k, get_or xs k 0)) (length xs) (λ k l. let e : i + 1 + k ≡ i + suc k = omega arith in ap (λ (m : ℕ). f (m, get_or xs k 0)) e))
    ∙ every_first (length xs) (λ k. f (i + k, get_or (x ∷ xs) k 0))

-- words that agree
pub coarsest_ext : (vs ws : List ℕ) (size among : ℕ) → ((q : ℕ) → q < size → get_or vs q 0 ≡ get_or ws q 0) → (p : ℕ) → coarsest vs size among p ≡ coarsest ws size among p
unfolding coarsest
coarsest_ext vs ws size among h p =
    ap (λ (x : Bool). bit_at among p && x) (every_ext (λ q. below (get_or vs q 0) among p q) (λ q. below (get_or ws q 0) among p q) size (λ q l. ap (λ (v : ℕ). below v among p q) (h q l)))

-- ---- the first that passes

module _ (t : ℕ → Bool) (i k : ℕ) where
  passing_yes : t i ≡ true → first_passing t i (suc k) ≡ suc i
  unfolding first_passing
  passing_yes e = rw (e, first_passing)

  passing_no : t i ≡ false → first_passing t i (suc k) ≡ first_passing t (suc i) k
  unfolding first_passing
  passing_no e = rw (e, first_passing)

pub passing_ext : (s t : ℕ → Bool) (i k : ℕ) → ((j : ℕ) → j < k → s (i + j) ≡ t (i + j)) → first_passing s i k ≡ first_passing t i k
unfolding first_passing
passing_ext s t i zero h = refl
passing_ext s t i (suc k) h =
    let z : i + 0 ≡ i = omega arith in
    let e : s i ≡ t i = rw z at (h 0 (omega arith)) in
    by_cases (t i)
    (λ q. passing_yes s i k (e ∙ q) ∙ sym (passing_yes t i k q))
    (λ q. passing_no s i k (e ∙ q) ∙ passing_ext s t (suc i) k (λ j l. let m : i + suc j ≡ suc i + j = omega arith in rw m at (h (suc j) (omega arith))) ∙ sym (passing_no t i k q))

-- it is one of those tried
pub passing_le : (t : ℕ → Bool) (i k : ℕ) → first_passing t i k ≤ i + k
unfolding first_passing
passing_le t i zero = omega arith
passing_le t i (suc k) = by_cases (t i) (λ e. rw (passing_yes t i k e) (omega arith)) (λ e. rw (passing_no t i k e) (omega (arith, passing_le t (suc i) k)))

-- the first number that passes, found by its neighbours
first_here : (t : ℕ → Bool) (i k n : ℕ) → ((j : ℕ) → i ≤ j → j < i + k → t j ≡ false) → t (i + k) ≡ true → k < n → first_passing t i n ≡ suc (i + k)
first_here t i k zero h e l = absurd (not-suc-le-zero l)
first_here t i zero (suc n) h e l = let z : i + 0 ≡ i = omega arith in rw z (passing_yes t i n (rw z at e))
first_here t i (suc k) (suc n) h e l =
    let m : i + suc k ≡ suc i + k = omega arith in
    passing_no t i n (h i (omega arith) (omega arith)) ∙ rw m (first_here t (suc i) k n (λ j a b. h j (omega arith) (omega arith)) (rw m at e) (omega arith))

none_here : (t : ℕ → Bool) (i n : ℕ) → ((j : ℕ) → i ≤ j → j < i + n → t j ≡ false) → first_passing t i n ≡ 0
unfolding first_passing
none_here t i zero h = refl
none_here t i (suc n) h = passing_no t i n (h i (omega arith) (omega arith)) ∙ none_here t (suc i) n (λ j a b. h j (omega arith) (omega arith))

pub first_is : (t : ℕ → Bool) (n : ℕ) (r : Option ℕ)
    → MatchOption r ((k : ℕ) → 0 ≤ k → k < n → t k ≡ false) (λ i. (0 ≤ i) × (i < n) × (t i ≡ true) × ((k : ℕ) → 0 ≤ k → k < i → t k ≡ false)) → numbered r ≡ first_passing t 0 n
first_is t n None h = sym (none_here t 0 n (λ j a b. h j a (omega arith)))
first_is t n (Some i) h =
    let z : 0 + i ≡ i = zero-add i in
    sym (first_here t 0 i n (λ j a b. h.3 j a (omega arith)) (rw z h.2) h.1 ∙ ap suc z)

module _ (q : Column → Bool) where
  failing_yes : (i : ℕ) (F : Column) (S : Family) → q F ≡ true → first_failing (λ G. not (q G)) i (F ∷ S) ≡ i
  unfolding first_failing
  failing_yes i F S e = rw (ap not e, first_failing)

  failing_no : (i : ℕ) (F : Column) (S : Family) → q F ≡ false → first_failing (λ G. not (q G)) i (F ∷ S) ≡ first_failing (λ G. not (q G)) (suc i) S
  unfolding first_failing
  failing_no i F S e = rw (ap not e, first_failing)

  pub failing_passing : (t : ℕ → Bool) (S : Family) (i : ℕ) → ((k : ℕ) → k < length S → t (i + k) ≡ q (get_or S k [])) → first_failing (λ G. not (q G)) (suc i) S ≡ first_passing t i (length S)
  unfolding first_failing first_passing
  failing_passing t [] i h = refl
  failing_passing t (F ∷ S) i h =
      let z : i + 0 ≡ i = omega arith in
      let e : t i ≡ q F = rw z at (h 0 (omega arith)) in
      by_cases (q F)
      (λ b. failing_yes (suc i) F S b ∙ sym (passing_yes t i (length S) (e ∙ b)))
      (λ b. failing_no (suc i) F S b ∙ failing_passing t S (suc i) (λ k l. let m : i + suc k ≡ suc i + k = omega arith in rw m at (h (suc k) (omega arith))) ∙ sym (passing_no t i (length S) (e ∙ b)))

-- ---- the places

pub get_d_map : (f : Column → ℕ) (S : Family) (i : ℕ) → i < length S → get_or (map f S) i 0 ≡ f (get_or S i [])
get_d_map f [] i h = absurd (not-suc-le-zero h)
get_d_map f (F ∷ S) zero h = refl
get_d_map f (F ∷ S) (suc i) h = get_d_map f S i (le_of_suc-le-suc h)

pub length_map : (f : Column → ℕ) (S : Family) → length (map f S) ≡ length S
length_map f [] = refl
length_map f (F ∷ S) = ap suc (length_map f S)

module _ {n : ℕ} {b : List ℕ} {size : ℕ} (is : Formed n b size) (r : List ℕ) (tsize : ℕ) where
  -- the place found is that of the stratum
  pub place_is : (t : ℕ) → t < tsize
      → first_passing (coarsest (words_of n (members_of n b size)) size (candidate_word n b size r t)) 0 size ≡ get_or (map (stratum n (members_of n b size)) (members_of n r tsize)) t 0
  unfolding stratum candidate_word
  place_is t h =
      ap₂ (λ (w m : ℕ). first_passing (coarsest (words_of n P) m w) 0 m) words (sym (size_members is))
      ∙ sym (failing_passing (is_stratum n P T) (coarsest (words_of n P) (length P) (word_of (λ p. finer n (get_or P p []) T) (length P))) P 0
      (λ k l. ap (coarsest (words_of n P) (length P) (word_of (λ p. finer n (get_or P p []) T) (length P))) (zero-add k) ∙ coarsest_is n P (accepted_members is) (on_plots_lem is) T k l))
      ∙ sym (get_d_map (stratum n P) (members_of n r tsize) t (rw (length_members n is.few_plots r tsize) h) ∙ ap (stratum n P) (member_is n is.few_plots r tsize t h))
    where
      P : Family
      P = members_of n b size

      T : Column
      T = column_at n r t

      words : word_of (λ p. finer n (column_at n b p) T) size ≡ word_of (λ p. finer n (get_or P p []) T) (length P)
      words =
          word_ext (λ p. finer n (column_at n b p) T) (λ p. finer n (get_or P p []) T) size (λ p l. sym (ap (λ (F : Column). finer n F T) (member_is n is.few_plots b size p l)))
          ∙ ap (word_of (λ p. finer n (get_or P p []) T)) (sym (size_members is))

-- ---- residuals

module _ (n : ℕ) (P R : Family) (plots treatments : ℕ) (l_p : length P ≡ plots) (lR : length R ≡ treatments) (hP : plots ≤ 32) (hR : treatments ≤ 32) where
  pub residuals_are : tabulate (residual_at (for_places (pos 0) (degrees n P)) (for_places (pos 0) (degrees n R)) (for_places 0 (map (stratum n P) R)) treatments) plots ≡ residuals n P R
  unfolding residuals residual_at
  residuals_are =
      ext_get_or (pos 0) (tabulate f plots) (residuals_from 1 (degrees n P) (map (stratum n P) R) (degrees n R))
      (length_tabulate f plots ∙ sym (length_residuals 1 (degrees n P) (map (stratum n P) R) (degrees n R) ∙ length_degrees n P ∙ l_p))
      (λ p l. at p (rw (length_tabulate f plots) at l))
    where
      f : ℕ → ℤ
      f = residual_at (for_places (pos 0) (degrees n P)) (for_places (pos 0) (degrees n R)) (for_places 0 (map (stratum n P) R)) treatments

      at : (p : ℕ) → p < plots → get_or (tabulate f plots) p (pos 0) ≡ get_or (residuals_from 1 (degrees n P) (map (stratum n P) R) (degrees n R)) p (pos 0)
      at p l =
          get_d_tabulate f plots p (pos 0) l
          ∙ ap₂ ◌-ℤ◌ (at_places_lem (pos 0) (degrees n P) p (omega arith))
          (pass_ext (λ t. eqb (get_or (for_places 0 (map (stratum n P) R)) t 0) (suc p)) (λ t. eqb (get_or (map (stratum n P) R) t 0) (suc p))
          (λ t. get_or (for_places (pos 0) (degrees n R)) t (pos 0)) (λ t. get_or (degrees n R) t (pos 0)) treatments
          (λ t k. ap (λ (x : ℕ). eqb x (suc p)) (at_places_lem 0 (map (stratum n P) R) t (omega arith)))
          (λ t k. at_places_lem (pos 0) (degrees n R) t (omega arith))
          ∙ ap (sum_passing (λ t. eqb (get_or (map (stratum n P) R) t 0) (suc p)) (λ t. get_or (degrees n R) t (pos 0))) (sym (length_map (stratum n P) R ∙ lR))
          ∙ sym (sum_at_is (suc p) (map (stratum n P) R) (degrees n R) (length_map (stratum n P) R ∙ sym (length_degrees n R))))
          ∙ sym (residual_at_lem 1 (degrees n P) (map (stratum n P) R) (degrees n R) p (rw (length_degrees n P ∙ l_p) l) ∙ ap (λ (m : ℕ). get_or (degrees n P) p (pos 0) -ℤ sum_at m (map (stratum n P) R) (degrees n R)) (one-add p))

-- ---- one residual

module _ (own numbers : List ℤ) (places : List ℕ) (m p : ℕ) where
  -- by the word of the treatment members in the stratum
  pub residual_turn : get_or own p (pos 0) -ℤ sum_passing (bit_at (word_of (λ t. eqb (get_or places t 0) (p + 1)) m)) (λ t. get_or numbers t (pos 0)) m ≡ residual_at own numbers places m p
  unfolding residual_at
  residual_turn =
      ap (λ (z : ℤ). get_or own p (pos 0) -ℤ z)
      (pass_ext (bit_at (word_of (λ t. eqb (get_or places t 0) (p + 1)) m)) (λ t. eqb (get_or places t 0) (suc p)) (λ t. get_or numbers t (pos 0)) (λ t. get_or numbers t (pos 0)) m
      (λ t l. bit_word (λ t. eqb (get_or places t 0) (p + 1)) m t l ∙ ap (eqb (get_or places t 0)) (add-one p)) (λ t l. refl))

  pub residual_fits : m ≤ 32 → AllSmall own → AllSmall numbers → SFits w64 (residual_at own numbers places m p)
  unfolding residual_at
  residual_fits h ho hn = left_fits (get_or own p (pos 0)) (λ t. eqb (get_or places t 0) (suc p)) (λ t. get_or numbers t (pos 0)) m h (ho p) hn

-- the first numbers alone
module _ (own numbers : List ℤ) (places : List ℕ) (p m : ℕ) (hp : p ≤ length own) (hm : m ≤ length places) where
  pub residuals_taken : residuals_of (take p own) (take m numbers) (take m places) ≡ for_places (pos 0) (tabulate (residual_at own numbers places m) p)
  unfolding residual_at
  residuals_taken =
      ap₂ (λ (k l : ℕ). for_places (pos 0) (tabulate (residual_at (take p own) (take m numbers) (take m places) k) l)) (taken_length places m hm) (taken_length own p hp)
      ∙ ap (for_places (pos 0)) (tabulate_ext (residual_at (take p own) (take m numbers) (take m places) m) (residual_at own numbers places m) p
      (λ k l. ap₂ ◌-ℤ◌ (get_or-take p own k (pos 0) l)
      (pass_ext (λ t. eqb (get_or (take m places) t 0) (suc k)) (λ t. eqb (get_or places t 0) (suc k)) (λ t. get_or (take m numbers) t (pos 0)) (λ t. get_or numbers t (pos 0)) m
      (λ t h. ap (λ (x : ℕ). eqb x (suc k)) (get_or-take m places t 0 h)) (λ t h. get_or-take m numbers t (pos 0) h))))
