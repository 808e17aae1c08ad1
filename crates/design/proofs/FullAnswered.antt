-- Laws of the full design's answers: what each case of questions 11 to 14 says in numbers, and what is written.
-- Assumes nothing.
use Rattle.rules.specs.Factor.{Column, orthogonal, equality}
use Rattle.rules.specs.Family.{Family, ◌∈◌, written, members_of}
use Rattle.rules.specs.Closing.{Closing, too_many, family, final_treatment_family, first_treatment_family, treatment_generators, Chosen, none_of, skipping, taking, infimum_all, InFirstTreatmentFamily, of_universal, of_infimum, of_supremum}
use Rattle.rules.specs.Design.{Places, Answer, first_pair, first_cross, question11, question12, question13, question14, treatment_buffer}
use Rattle.rules.proofs.Families.{first_family_lists}
use Rattle.rules.proofs.Supremum.{length_supremum}
use Rattle.rules.proofs.Numbering.{length_infimum}
use Rattle.rules.proofs.Extremes.{length_universal}
use Rattle.rules.proofs.Buffer.{length_members, member_is, written_members, length_written}
use Rattle.rules.proofs.Closing.{pigeonhole, ascending_distinct}
use Rattle.rules.proofs.Made.{WellMade, first_made}
use Rattle.rules.proofs.Treatments.{final_contains, final_length}
use Rattle.design.proofs.Rewriting.{written_over}
use Rattle.std.specs.Prelude.{Option, None, Some, IfSome}
use Rattle.design.specs.declared.closed.ClosedFamily.{ClosedFamily}
use mathlib.Core.Logic.{◌⊎◌, inl, inr}
use Rattle.design.proofs.Search.{cross_found}
use Rattle.design.specs.Search.{cross_first, cross_second}
use Rattle.design.specs.Closings.{closed_in}
use Rattle.design.specs.Judging.{MarksTell, listed, Listing}
use Rattle.design.specs.Treatments.{orthogonal_at, Numbered}
use Rattle.design.proofs.Asked.{numbered_made}
use mathlib.Core.Path.{◌≡◌, refl, sym, ap, ◌∙◌, subst, ap₂}
use mathlib.Core.Bool.{Bool, true, false}
use mathlib.Core.List.Memᴰ
use mathlib.Core.List.{List, [], ◌∷◌}
use Prim.Native.Nat.{ℕ, zero, suc, ◌≤◌, ◌<◌}
use native.Mathlib.Omega.{arith}
use lib.ListN.{length}
use lib.Dec.{leb}
use native.Mathlib.Nat.{suc-ne-zero}
use borrow.Author.Tests.{le-leb, lt-leb, leb-true, leb-false}
use Rattle.design.specs.Answers.{FullNumbers, full_numbers_of, full_refusing}

-- refusals with the same numbers
pub full_refusing_is : (q : ℕ) {i j p t i' j' p' t' : ℕ} → i ≡ i' → j ≡ j' → p ≡ p' → t ≡ t' → full_refusing q i j p t ≡ full_refusing q i' j' p' t'
full_refusing_is q e f g h = λ x. full_refusing q (e x) (f x) (g x) (h x)

-- the numbers of an acceptance
abbrev pub full_accepting : ℕ → ℕ → FullNumbers
full_accepting p t = record { accepted = true; refusal = 0; first = 0; second = 0; plot = p; treatment = t }

pub full_accepting_is : {p t p' t' : ℕ} → p ≡ p' → t ≡ t' → full_accepting p t ≡ full_accepting p' t'
full_accepting_is e f = λ x. full_accepting (e x) (f x)

-- an answer in numbers, and the treatment family that it has written
pub record Told (a : Answer) (said : FullNumbers) (T : Family) : Type 0 where
  pub numbers : full_numbers_of a ≡ said
  pub written : a.treatment ≡ T

-- what a buffer holds once it is told
pub told_buffer : {a : Answer} {numbers : FullNumbers} {T : Family} (buffer : List ℕ) → Told a numbers T → treatment_buffer buffer a ≡ written buffer 0 T
told_buffer buffer t = ap (written buffer 0) t.written

module _ (P S : Family) where
  pub told_14_over : (R : Family) → 32 < length R → Told (question14 P S R) (full_refusing 14 0 0 (length P) (length S)) S
  unfolding question14 full_numbers_of
  told_14_over R h = rw (lt-leb (length R) 32 h, question14) (record { numbers = refl; written = refl })

  pub told_14_on : (R : Family) → length R ≤ 32 → Told (question14 P S R) (full_accepting (length P) (length R)) R
  unfolding question14 full_numbers_of
  told_14_on R h = rw (le-leb (length R) 32 h, question14) (record { numbers = refl; written = refl })

  pub told_13 : (p : Places) → (p.first ≡ 0 → ⊥) → Told (question13 P S p) (full_refusing 13 p.first p.second (length P) (length S)) S
  unfolding question13 full_numbers_of
  told_13 p h = go p.first refl
    where
      go : (i : ℕ) → p.first ≡ i → Told (question13 P S p) (full_refusing 13 p.first p.second (length P) (length S)) S
      go zero e = absurd (h e)
      go (suc i) e = record { numbers = rw (e, question13) (rw e); written = rw (e, question13) }

  pub passed_13 : (p : Places) → p.first ≡ 0 → question13 P S p ≡ question14 P S (final_treatment_family P S)
  unfolding question13
  passed_13 p e = rw (e, question13)

  pub told_12 : (n : ℕ) (p : Places) → (p.first ≡ 0 → ⊥) → Told (question12 n P S p) (full_refusing 12 p.first p.second (length P) (length S)) S
  unfolding question12 full_numbers_of
  told_12 n p h = go p.first refl
    where
      go : (i : ℕ) → p.first ≡ i → Told (question12 n P S p) (full_refusing 12 p.first p.second (length P) (length S)) S
      go zero e = absurd (h e)
      go (suc i) e = record { numbers = rw (e, question12) (rw e); written = rw (e, question12) }

  pub passed_12 : (n : ℕ) (p : Places) → p.first ≡ 0 → question12 n P S p ≡ question13 P S (first_cross (orthogonal n) 1 P S)
  unfolding question12
  passed_12 n p e = rw (e, question12)

module _ (n : ℕ) (P : Family) where
  pub told_11 : (x : Closing) → x ≡ too_many → Told (question11 n P x) (full_refusing 11 0 0 (length P) 0) []
  unfolding question11 full_numbers_of
  told_11 x e = rw e (record { numbers = refl; written = refl })

  pub passed_11 : (x : Closing) (S : Family) → x ≡ family S → question11 n P x ≡ question12 n P S (first_pair (orthogonal n) 1 S)
  unfolding question11
  passed_11 x S e = rw e

-- ---- the pairs found by place are those of the members

module _ (n : ℕ) (small : n ≤ 240) where
  pub cross_members : (a : List ℕ) (l : ℕ) (b : List ℕ) (m : ℕ)
      → (cross_first (orthogonal_at n a b) l m ≡ (first_cross (orthogonal n) 1 (members_of n a l) (members_of n b m)).first)
      × (cross_second (orthogonal_at n a b) m (cross_first (orthogonal_at n a b) l m) ≡ (first_cross (orthogonal n) 1 (members_of n a l) (members_of n b m)).second)
  cross_members a l b m =
      subst (λ (x : ℕ). Agree x m) len_a (subst (λ (y : ℕ). Agree (length (members_of n a l)) y) len_b
      (cross_found (orthogonal n) (members_of n b m) test (members_of n a l) (λ i j h k. let hi : i < l = rw len_a at h in let kj : j < m = rw len_b at k in
      sym (ap₂ (orthogonal n) (member_is n small a l i hi) (member_is n small b m j kj)))))
    where
      test : ℕ → ℕ → Bool
      test = orthogonal_at n a b

      len_a : length (members_of n a l) ≡ l
      len_a = length_members n small a l

      len_b : length (members_of n b m) ≡ m
      len_b = length_members n small b m

      Agree : ℕ → ℕ → Type 0
      Agree x y = (cross_first test x y ≡ (first_cross (orthogonal n) 1 (members_of n a l) (members_of n b m)).first) × (cross_second test y (cross_first test x y) ≡ (first_cross (orthogonal n) 1 (members_of n a l) (members_of n b m)).second)

-- ---- the treatment family that is left

-- the first one, or a final one that is not too large
pub treatments_either : (n : ℕ) (P S : Family) (p : Places) → ((question12 n P S p).treatment ≡ S) ⊎ (((question12 n P S p).treatment ≡ final_treatment_family P S) × (length (final_treatment_family P S) ≤ 32))
treatments_either n P S p = twelve p.first refl
  where
    R : Family
    R = final_treatment_family P S

    fourteen : (b : Bool) → leb (length R) 32 ≡ b → ((question14 P S R).treatment ≡ S) ⊎ (((question14 P S R).treatment ≡ R) × (length R ≤ 32))
    fourteen true e = inr ((told_14_on P S R (leb-true (length R) 32 e)).written, leb-true (length R) 32 e)
    fourteen false e = inl (told_14_over P S R (leb-false (length R) 32 e)).written

    thirteen : (c : Places) (i : ℕ) → c.first ≡ i → ((question13 P S c).treatment ≡ S) ⊎ (((question13 P S c).treatment ≡ R) × (length R ≤ 32))
    thirteen c zero e = subst (λ (a : Answer). (a.treatment ≡ S) ⊎ ((a.treatment ≡ R) × (length R ≤ 32))) (sym (passed_13 P S c e)) (fourteen (leb (length R) 32) refl)
    thirteen c (suc i) e = inl (told_13 P S c (λ z. suc-ne-zero i (sym e ∙ z))).written

    twelve : (i : ℕ) → p.first ≡ i → ((question12 n P S p).treatment ≡ S) ⊎ (((question12 n P S p).treatment ≡ R) × (length R ≤ 32))
    twelve zero e = subst (λ (a : Answer). (a.treatment ≡ S) ⊎ ((a.treatment ≡ R) × (length R ≤ 32))) (sym (passed_12 P S n p e)) (thirteen (first_cross (orthogonal n) 1 P S) (first_cross (orthogonal n) 1 P S).first refl)
    twelve (suc i) e = inl (told_12 P S n p (λ z. suc-ne-zero i (sym e ∙ z))).written

-- ---- the first treatment family as it is written

module _ (n k : ℕ) (Ts : List Column) (on : (T : Column) → T ∈ Ts → length T ≡ n) where
  chosen_in : {C Us : List Column} → Chosen C Us → (T : Column) → T ∈ C → T ∈ Us
  chosen_in none_of T m = m
  chosen_in (skipping c) T m = Memᴰ.tail (chosen_in c T m)
  chosen_in (taking {T = U} {C = C} {Ts = Us} c) T m = go (chosen_in c T) (Memᴰ.cases_cons m)
    where
      go : (T ∈ C → T ∈ Us) → (T ≡ U) ⊎ (T ∈ C) → T ∈ U ∷ Us
      go below (inl e) = Memᴰ.head e
      go below (inr k') = Memᴰ.tail (below k')

  infimum_length : (C : List Column) → ((T : Column) → T ∈ C → length T ≡ n) → length (infimum_all n C) ≡ n
  unfolding infimum_all
  infimum_length [] h = length_universal n
  infimum_length (T ∷ C) h =
      let e : length T ≡ n = h T (Memᴰ.head refl) in
      length_infimum T (infimum_all n C) (e ∙ sym (infimum_length C (λ U m. h U (Memᴰ.tail m)))) ∙ e

  -- its members are on the n plots
  pub first_length : (F : Column) → InFirstTreatmentFamily n k Ts F → length F ≡ n
  unfolding infimum_all
  first_length F of_universal = length_universal n
  first_length F (of_infimum {T} {C} c h) = infimum_length (T ∷ C) (λ U m. on U (chosen_in c U m))
  first_length F (of_supremum {F = G} {G = H} p q) = length_supremum G H (first_length G p ∙ sym (first_length H q)) ∙ first_length G p

  module _ (before after marks : List ℕ) (small : n ≤ 240) (room : 7680 ≤ length before) where
    module _ {r : ℕ} (S : Family) (is : first_treatment_family n k Ts ≡ family S) (q : r ≡ length S) (h : r ≤ 32) (s : after ≡ written before 0 S) where
      on_first : (F : Column) → F ∈ S → length F ≡ n
      on_first F m = first_length F ((first_family_lists n k Ts S is).only F m)

      same : members_of n after r ≡ S
      unfolding members_of
      same = ap₂ (λ (b : List ℕ) (m : ℕ). members_of n b m) s q ∙ written_members n small S before 0 on_first (omega (arith, room, h, q))

      room_after : 7680 ≤ length after
      room_after = rw s (rw (length_written n small S before 0 on_first (omega (arith, room, h, q))) room)

    -- memory holds it
    pub first_held : (x : Option ClosedFamily) → Listing n false (treatment_generators n k Ts) before after marks x → closed_in n after x ≡ first_treatment_family n k Ts
    unfolding first_treatment_family
    first_held None (t, s) = sym t
    first_held (Some c) (listed S is q h s t) = ap family (same S is q h s) ∙ sym is

    -- its members are numbered, and the marks tell which are orthogonal
    pub first_tells : (x : Option ClosedFamily) → Listing n false (treatment_generators n k Ts) before after marks x
        → IfSome x (λ c. Numbered n after c.size × MarksTell (orthogonal n) (members_of n after c.size) c.order marks c.size)
    unfolding first_treatment_family
    first_tells None l = tt
    first_tells (Some c) (listed S is q h s t) = (
      numbered_made n small after c.size (room_after S is q h s) h (subst (WellMade n) (sym (same S is q h s)) (first_made n k Ts on S is)),
      subst (λ (T : Family). MarksTell (orthogonal n) T c.order marks c.size) (sym (same S is q h s)) t,
    )

    -- what is written next covers it
    pub first_covered : (P : Family) → ((F : Column) → F ∈ P → length F ≡ n) → equality n ∈ P → (x : Option ClosedFamily) → Listing n false (treatment_generators n k Ts) before after marks x
        → treatment_buffer after (question11 n P (first_treatment_family n k Ts)) ≡ treatment_buffer before (question11 n P (first_treatment_family n k Ts))
    unfolding first_treatment_family
    first_covered P on_p e None (t, s) = ap (λ (b : List ℕ). treatment_buffer b (question11 n P (first_treatment_family n k Ts))) s
    first_covered P on_p e (Some c) (listed S is q h s t) =
        let p = passed_11 n P (first_treatment_family n k Ts) S is in
        ap (treatment_buffer after) p ∙ ap (λ (b : List ℕ). written b 0 T) s ∙ go (treatments_either n P S (first_pair (orthogonal n) 1 S)) ∙ ap (treatment_buffer before) (sym p)
      where
        T : Family
        T = (question12 n P S (first_pair (orthogonal n) 1 S)).treatment

        R : Family
        R = final_treatment_family P S

        on_s : (F : Column) → F ∈ S → length F ≡ n
        on_s = on_first S is q h s

        made : WellMade n S
        made = first_made n k Ts on S is

        go : (T ≡ S) ⊎ ((T ≡ R) × (length R ≤ 32)) → written (written before 0 S) 0 T ≡ written before 0 T
        go (inl f) = rw f (written_over n small S S before on_s on_s (omega arith) (omega (arith, room, h, q)) (omega (arith, room, h, q)))
        go (inr (f, few)) =
            let more : length S ≤ length R = pigeonhole S R (ascending_distinct made.ascending) (final_contains n P S on_p on_s e made.numbered) in
            rw f (written_over n small S R before on_s (final_length n P S on_p on_s) more (omega (arith, room, h, q)) (omega (arith, room, few)))
