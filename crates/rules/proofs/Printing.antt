-- Laws of an accepted design: its degrees of freedom, strata and residuals are answered, not refused, and are those of the families made.
-- Assumes nothing.
use mathlib.Core.Path.{◌≡◌, refl}
use mathlib.Core.Logic.{◌⊎◌, inl, inr}
use mathlib.Core.Bool.{Bool, true, not}
use mathlib.Core.List.Memᴰ
use mathlib.Core.List.{List, [], ◌∷◌, map}
use Prim.Native.Nat.{ℕ, zero, suc, ◌≤◌}
use native.Mathlib.Omega.{arith}
use lib.Dec.{eqb}
use lib.IntN.{pos}
use lib.ListN.{length}
use borrow.Author.Tests.{le-leb, eqb-false}
use Rattle.rules.specs.Factor.{Column}
use Rattle.rules.specs.Family.{Family, ◌∈◌, well_formed, members_of}
use Rattle.rules.specs.Design.{Answer, plot_buffer, treatment_buffer}
use Rattle.rules.specs.Lists.{for_places}
use Rattle.rules.specs.Degrees.{degrees, degrees_of_freedom}
use Rattle.rules.specs.Strata.{all, all_have_stratum, is_stratum, stratum, residuals, question15, question16, strata}
use Rattle.rules.proofs.Numbering.{by_cases}
use Rattle.rules.proofs.Members.{clash}
use Rattle.rules.proofs.Sheet.{not_yes}
use Rattle.rules.proofs.First.{failing_first}
use Rattle.rules.proofs.Taken.{family_test}
use Rattle.rules.proofs.Made.{Tells, plot_back, plot_buffer_length, treatment_back, treatment_buffer_length}

-- the degrees of freedom of a family in a buffer, which question 15 accepts
pub degrees_answered : (n : ℕ) → 1 ≤ n → n ≤ 240 → (b : List ℕ) → 7680 ≤ length b → (m : ℕ) (S : Family) → members_of n b m ≡ S → well_formed S ≡ true
    → degrees_of_freedom n b m ≡ record { refusal = 0; degrees = for_places (pos 0) (degrees n S) }
unfolding degrees_of_freedom
degrees_answered n h l b room m S is formed = rw ((family_test n b).1 ((h, l), room), degrees_of_freedom, is, formed) (rw is)

-- the strata of two families in buffers, which question 15 accepts, where every treatment member has one
pub strata_answered : (n : ℕ) → 1 ≤ n → n ≤ 240 → (b c : List ℕ) → 7680 ≤ length b → 7680 ≤ length c → (k m : ℕ) (P R : Family) → members_of n b k ≡ P → members_of n c m ≡ R
    → well_formed P ≡ true → well_formed R ≡ true → all_have_stratum n P R ≡ true
    → strata n b k c m ≡ record { refusal = 0; places = for_places 0 (map (stratum n P) R); residuals = for_places (pos 0) (residuals n P R) }
unfolding strata question15 question16
strata_answered n h l b c room more k m P R isP isR fP fR has =
    rw ((family_test n b).1 ((h, l), room), le-leb 7680 (length c) more, strata, isP, isR) (rw (fP, fR, question15) (rw (has, question16)))

all_passes : (p : Column → Bool) (S : Family) → all p S ≡ true → (F : Column) → F ∈ S → p F ≡ true
unfolding all
all_passes p [] e F m = absurd (Memᴰ.not-nil m)
all_passes p (G ∷ S) e F m =
    by_cases (p G) (λ g. go g (all_passes p S (rw (g, all) at e) F) (Memᴰ.cases_cons m)) (λ g. clash e (rw (g, all)))
  where
    go : p G ≡ true → (F ∈ S → p F ≡ true) → (F ≡ G) ⊎ (F ∈ S) → p F ≡ true
    go g below (inl q) = rw q g
    go g below (inr k) = below k

-- every member's stratum is a place, from 1 to the number of plot members
pub stratum_some : (n : ℕ) (P R : Family) → all_have_stratum n P R ≡ true → (T : Column) → T ∈ R → 1 ≤ stratum n P T
unfolding all_have_stratum
stratum_some n P R e T m = positive (stratum n P T) (eqb-false (stratum n P T) 0 (not_yes _ (all_passes (λ F. not (eqb (stratum n P F) 0)) R e T m)))
  where
    positive : (x : ℕ) → (x ≡ 0 → ⊥) → 1 ≤ x
    positive zero h = absurd (h refl)
    positive (suc x) h = omega arith

pub stratum_most : (n : ℕ) (P : Family) (T : Column) → 1 ≤ stratum n P T → stratum n P T ≤ length P
unfolding stratum
stratum_most n P T h = (failing_first (λ F. not (is_stratum n P T F)) P h).most

-- ---- an accepted design

module _ (n : ℕ) (some : 1 ≤ n) (few : n ≤ 240) (a : Answer) (t : Tells n a) (zero_is : a.refusal ≡ 0) (b c : List ℕ) (roomB : 7680 ≤ length b) (roomC : 7680 ≤ length c) where
  -- the degrees of freedom of the plot members
  pub plot_degrees : degrees_of_freedom n (plot_buffer b a) (length a.plot) ≡ record { refusal = 0; degrees = for_places (pos 0) (degrees n a.plot) }
  plot_degrees =
      degrees_answered n some few (plot_buffer b a) (rw (plot_buffer_length n few a t b roomB) roomB) (length a.plot) a.plot (plot_back n few a t b roomB) (t.plot_made (inl zero_is)).formed

  -- those of the treatment members
  pub treatment_degrees : degrees_of_freedom n (treatment_buffer c a) (length a.treatment) ≡ record { refusal = 0; degrees = for_places (pos 0) (degrees n a.treatment) }
  treatment_degrees =
      degrees_answered n some few (treatment_buffer c a) (rw (treatment_buffer_length n few a t c roomC) roomC) (length a.treatment) a.treatment (treatment_back n few a t c roomC)
      (t.treatment_made (inl zero_is)).formed

  -- the strata and residuals
  pub design_strata : strata n (plot_buffer b a) (length a.plot) (treatment_buffer c a) (length a.treatment)
      ≡ record { refusal = 0; places = for_places 0 (map (stratum n a.plot) a.treatment); residuals = for_places (pos 0) (residuals n a.plot a.treatment) }
  design_strata =
      strata_answered n some few (plot_buffer b a) (treatment_buffer c a) (rw (plot_buffer_length n few a t b roomB) roomB) (rw (treatment_buffer_length n few a t c roomC) roomC)
      (length a.plot) (length a.treatment) a.plot a.treatment (plot_back n few a t b roomB) (treatment_back n few a t c roomC) (t.plot_made (inl zero_is)).formed
      (t.treatment_made (inl zero_is)).formed (t.strata zero_is)
