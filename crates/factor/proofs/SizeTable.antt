-- Laws of the table of class sizes.
-- Assumes nothing.
use mathlib.Core.Path.{◌≡◌, refl, sym, ap, ◌∙◌}
use mathlib.Core.Bool.{Bool, true, false, true≢false, not, ◌&&◌}
use mathlib.Core.List.{List}
use Prim.Native.Nat.{ℕ, zero, suc, ◌+◌, ◌≤◌, ◌<◌}
use native.Mathlib.Nat.{not-suc-le-zero}
use native.Mathlib.Numerals.{add-one}
use native.Mathlib.Omega.{arith}
use lib.Dec.{eqb}
use lib.ListN.{length, get_or, set, replicate}
use borrow.Author.Tests.{eqb-true, eqb-false, eq-eqb, ne_eqb}
use Rattle.rules.specs.Lists.{tabulate}
use Rattle.rules.specs.Factor.{Column, at, count, class_size, uniform}
use Rattle.rules.proofs.Lists.{length_tabulate, get_d_tabulate, set_tabulate}
use Rattle.rules.proofs.Numbering.{by_cases}
use Rattle.rules.proofs.Tests.{count_yes, count_no, uniform_test}
use Rattle.rules.proofs.Walks.{bool_false, count_le}
use Rattle.rules.proofs.Sums.{Some, nowhere, somewhere, some}
use Rattle.std.specs.List.{list_any}
use Rattle.std.proofs.lemmas.Bool.Decides.{nat_tests}
use Rattle.factor.proofs.Gathered.{passed_by, passed_by_none}
use Rattle.factor.specs.Sizes.{labelled, sizes}

-- ---- sizes

-- no label has more plots than there are
pub labelled_le : (n : ℕ) (F : Column) (x : ℕ) → labelled n F x ≤ n
unfolding labelled
labelled_le n F x = count_le n (λ v. eqb x (at F v))

-- no plot yet
pub sizes_start : (F : Column) → replicate 256 0 ≡ tabulate (labelled 0 F) 256
unfolding tabulate labelled count
sizes_start F = refl

-- one plot more
pub sizes_step : (F : Column) (u : ℕ) → at F u < 256 → set (tabulate (labelled u F) 256) (at F u) (labelled u F (at F u) + 1) ≡ tabulate (labelled (u + 1) F) 256
unfolding labelled
sizes_step F u h =
    set_tabulate 0 (labelled u F) (labelled (u + 1) F) 256 (at F u) _ h
    (rw (add-one u, add-one) (count_yes u _ (eq-eqb (at F u) (at F u) refl)))
    (λ k ne. rw (add-one u) (count_no u _ (ne_eqb k (at F u) ne)))

-- the size of a plot's class, read from the table
pub sizes_at : (F : Column) {t : List ℕ} → t ≡ sizes F → (u : ℕ) → at F u < 256 → get_or t (at F u) 0 ≡ class_size (length F) F u
unfolding sizes labelled class_size
sizes_at F e u h = ap (λ (l : List ℕ). get_or l (at F u) 0) e ∙ get_d_tabulate (labelled (length F) F) 256 (at F u) 0 h

-- ---- one size

-- a test that some plot passes has a count
pub count_some : (n : ℕ) (p : ℕ → Bool) (u : ℕ) → u < n → p u ≡ true → count n p ≡ 0 → ⊥
count_some zero p u h e z = not-suc-le-zero h
count_some (suc n) p u h e z =
    by_cases (p n)
    (λ q. let s = count_yes n p q in omega arith)
    (λ q. by_cases (eqb u n)
    (λ r. let w : true ≡ false = sym e ∙ ap p (eqb-true u n r) ∙ q in true≢false w)
    (λ r. let ne : u ≡ n → ⊥ = eqb-false u n r in count_some n p u (omega (arith, ne)) e (sym (count_no n p q) ∙ z)))

-- whether a label has plots, but not this many
abbrev pub other_size : ℕ → ℕ → Bool
other_size first size = not (eqb size 0) && not (eqb size first)

other_size_yes : (first size : ℕ) → other_size first size ≡ true → (size ≡ 0 → ⊥) × (size ≡ first → ⊥)
other_size_yes first size h = (λ e. grind (arith, nat_tests), λ e. grind (arith, nat_tests))

other_size_no : (first size : ℕ) → other_size first size ≡ false → (size ≡ 0 → ⊥) → size ≡ first
other_size_no first size h nz = grind (arith, nat_tests)

module _ (F : Column) {t : List ℕ} (e : t ≡ sizes F) (bytes : (u : ℕ) → at F u < 256) where
  room : length t ≡ 256
  unfolding sizes
  room = ap length e ∙ length_tabulate (labelled (length F) F) 256

  -- the label of a plot has a plot
  sizes_some : (u : ℕ) → u < length F → get_or t (at F u) 0 ≡ 0 → ⊥
  unfolding class_size
  sizes_some u h z = count_some (length F) _ u h (eq-eqb (at F u) (at F u) refl) (sym (sizes_at F e u (bytes u)) ∙ z)

  -- each label has no plot, or as many as that of the first plot
  pub one_size_yes : ((x : ℕ) → x < 256 → (get_or t x 0 ≡ 0 → ⊥) → get_or t x 0 ≡ get_or t (at F 0) 0) → uniform (length F) F ≡ true
  one_size_yes same = (uniform_test (length F) F).1 (λ u v hu hv. each u hu ∙ sym (each v hv))
    where
      each : (u : ℕ) → u < length F → class_size (length F) F u ≡ get_or t (at F 0) 0
      each u h = sym (sizes_at F e u (bytes u)) ∙ same (at F u) (bytes u) (sizes_some u h)

  -- one has another number of plots
  pub one_size_no : 0 < length F → (x : ℕ) → x < 256 → (get_or t x 0 ≡ 0 → ⊥) → (get_or t x 0 ≡ get_or t (at F 0) 0 → ⊥) → uniform (length F) F ≡ false
  unfolding sizes labelled
  one_size_no plot x h nz ne = go (some (length F) (λ v. eqb x (at F v)))
    where
      go : Some (length F) (λ v. eqb x (at F v)) → uniform (length F) F ≡ false
      go (nowhere z) = absurd (nz (ap (λ (l : List ℕ). get_or l x 0) e ∙ get_d_tabulate (labelled (length F) F) 256 x 0 h ∙ z))
      go (somewhere v hv q) =
          bool_false _ (λ yes. ne (ap (λ (y : ℕ). get_or t y 0) (eqb-true x (at F v) q)
          ∙ sizes_at F e v (bytes v) ∙ (uniform_test (length F) F).0 yes v 0 hv plot ∙ sym (sizes_at F e 0 (bytes 0))))

  -- what a walk over the table tells: all labels with a plot have as many as that of the first plot, or one has not
  pub one_size_told : (r : Bool) → 0 < length F → r ≡ list_any (other_size (get_or t (at F 0) 0)) t → not r ≡ uniform (length F) F
  one_size_told true plot r = let some = passed_by _ t 0 (sym r) in
      let other = other_size_yes _ _ some.2 in
      sym (one_size_no plot some.0 (omega (arith, room, some.1)) other.0 other.1)
  one_size_told false plot r = sym (one_size_yes (λ x h. other_size_no _ _ (passed_by_none _ t 0 (sym r) x (omega (arith, room)))))
