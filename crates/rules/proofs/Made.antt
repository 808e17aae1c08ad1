-- What the answer of a full design tells of the families it wrote: they are well made, and the places of a refusal are places in them.
-- Assumes nothing.
use mathlib.Core.Path.{◌≡◌, sym, ap, ap₂, subst}
use mathlib.Core.Logic.{◌⊎◌, inl, inr}
use mathlib.Core.Bool.{true, false}
use mathlib.Core.List.{List}
use Prim.Native.Nat.{ℕ, ◌≤◌}
use native.Mathlib.Nat.{not-suc-le-zero}
use native.Mathlib.Omega.{arith}
use lib.Dec.{eqb}
use lib.ListN.{length, replicate, length-replicate}
use borrow.Author.Tests.{eqb-true, eqb-false}
use Rattle.rules.specs.Factor.{Column, equality}
use Rattle.rules.specs.Family.{Family, ◌∈◌, members_of}
use Rattle.rules.specs.Design.{Answer, Places, full_design, plot_buffer, treatment_buffer}
use Rattle.rules.specs.Strata.{all_have_stratum}
use Rattle.rules.specs.Table.{first_kind, second_kind, family_of}
use Rattle.rules.specs.Asking.{verdict_of}
use Rattle.rules.specs.Demand2.{WithPlaces, Carries}
use Rattle.rules.proofs.Numbering.{by_cases}
use Rattle.rules.proofs.Buffer.{written_members, length_written}
pub use Rattle.rules.proofs.WellMade.{well_formed_lem, WellMade, plot_made, chosen_on, chosen_numbered, first_made, final_made}
use Rattle.rules.proofs.Demand2.{full_families, full_demanded}

-- ---- what an answer tells

-- a place from 1 on in a family, which question 15 accepts
pub record Placed (n : ℕ) (S : Family) (i : ℕ) : Type 0 where
  pub made : WellMade n S
  pub most : i ≤ length S

-- an accepted design and a refusal by 9 to 14 have a plot family; an accepted one and a refusal by 12 to 14 a treatment family; a place that is not 0 is one in the family it is counted in
pub record Tells (n : ℕ) (a : Answer) : Type 0 where
  pub plot_made : (a.refusal ≡ 0) ⊎ (9 ≤ a.refusal) → WellMade n a.plot
  pub treatment_made : (a.refusal ≡ 0) ⊎ (12 ≤ a.refusal) → WellMade n a.treatment
  pub has_equality_holds : a.refusal ≡ 0 → equality n ∈ a.plot
  pub strata : a.refusal ≡ 0 → all_have_stratum n a.plot a.treatment ≡ true
  pub plot_few : length a.plot ≤ 32
  pub plot_on : (F : Column) → F ∈ a.plot → length F ≡ n
  pub treatment_few : length a.treatment ≤ 32
  pub treatment_on : (F : Column) → F ∈ a.treatment → length F ≡ n
  pub first_place_holds : 1 ≤ a.places.first → Placed n (family_of (first_kind a.refusal) a) a.places.first
  pub second_place_holds : 1 ≤ a.places.second → Placed n (family_of (second_kind a.refusal) a) a.places.second
  pub most : a.refusal ≤ 14

-- a question with places, or one without
with_places : (q : ℕ) → WithPlaces q ⊎ (WithPlaces q → ⊥)
with_places q =
    by_cases (eqb q 9) (λ e. inl (inl (eqb-true q 9 e))) (λ a.
    by_cases (eqb q 10) (λ e. inl (inr (inl (eqb-true q 10 e)))) (λ b.
    by_cases (eqb q 12) (λ e. inl (inr (inr (inl (eqb-true q 12 e))))) (λ c.
    by_cases (eqb q 13) (λ e. inl (inr (inr (inr (eqb-true q 13 e))))) (λ d. inr (other a b c d)))))
  where
    other : eqb q 9 ≡ false → eqb q 10 ≡ false → eqb q 12 ≡ false → eqb q 13 ≡ false → WithPlaces q → ⊥
    other a b c d (inl e) = eqb-false q 9 a e
    other a b c d (inr (inl e)) = eqb-false q 10 b e
    other a b c d (inr (inr (inl e))) = eqb-false q 12 c e
    other a b c d (inr (inr (inr e))) = eqb-false q 13 d e

nowhere : {A : Type 0} {x : ℕ} → x ≡ 0 → 1 ≤ x → A
nowhere e h = let z : 1 ≤ 0 = omega arith in absurd (not-suc-le-zero z)

-- the families written, and the places carried
module _ (n : ℕ) (a : Answer) (plot : (a.refusal ≡ 0) ⊎ (9 ≤ a.refusal) → WellMade n a.plot) (treatment : (a.refusal ≡ 0) ⊎ (12 ≤ a.refusal) → WellMade n a.treatment) (h : Carries n a.plot a.treatment (verdict_of a)) where
  abbrev Both : ℕ → Type 0
  Both q = (1 ≤ a.places.first → Placed n (family_of (first_kind q) a) a.places.first) × (1 ≤ a.places.second → Placed n (family_of (second_kind q) a) a.places.second)

  in_plots : 9 ≤ a.refusal → {i : ℕ} → i ≤ length a.plot → Placed n a.plot i
  in_plots l m = record { made = plot (inr l); most = m }

  in_first : 12 ≤ a.refusal → {i : ℕ} → i ≤ length a.treatment → Placed n a.treatment i
  in_first l m = record { made = treatment (inr l); most = m }

  pub carried_placed : Both a.refusal
  unfolding first_kind second_kind
  carried_placed = go (with_places a.refusal)
    where
      go : WithPlaces a.refusal ⊎ (WithPlaces a.refusal → ⊥) → Both a.refusal
      go (inl (inl e)) = let y = h.nine e in subst Both (sym e) (λ w. in_plots (omega arith) y.0.most, λ w. nowhere y.1 w)
      go (inl (inr (inl e))) = let y = h.ten e in subst Both (sym e) (λ w. in_plots (omega arith) (omega (arith, y.order, y.most)), λ w. in_plots (omega arith) y.most)
      go (inl (inr (inr (inl e)))) = let y = h.twelve e in subst Both (sym e) (λ w. in_first (omega arith) (omega (arith, y.order, y.most)), λ w. in_first (omega arith) y.most)
      go (inl (inr (inr (inr e)))) = let y = h.thirteen e in subst Both (sym e) (λ w. in_plots (omega arith) y.most_first, λ w. in_first (omega arith) y.most_second)
      go (inr f) = let y = h.others f in (λ w. nowhere (ap (λ (p : Places). p.first) y) w, λ w. nowhere (ap (λ (p : Places). p.second) y) w)

-- every full design
pub full_tells : (n c d k : ℕ) (levels : List ℕ) (p r : ℕ) → Tells n (full_design n c d k levels p r)
full_tells n c d k levels p r = subst (Tells n) (ap₂ (full_design n c d k levels) (length-replicate p 0) (length-replicate r 0)) (tells (replicate p 0) (replicate r 0))
  where
    tells : (plots treatments : List ℕ) → Tells n (full_design n c d k levels (length plots) (length treatments))
    tells plots treatments =
        let f = full_families n c d k levels plots treatments in
        let b = carried_placed n (full_design n c d k levels (length plots) (length treatments)) f.plot_made f.treatment_made (full_demanded n c d k levels plots treatments).carries in
        record {
          plot_made = f.plot_made;
          treatment_made = f.treatment_made;
          has_equality_holds = f.has_equality_holds;
          strata = f.strata;
          plot_few = f.plot_fits.few;
          plot_on = f.plot_fits.each;
          treatment_few = f.treatment_fits.few;
          treatment_on = f.treatment_fits.each;
          first_place_holds = b.0;
          second_place_holds = b.1;
          most = f.most;
        }

-- ---- the families read back

module _ (n : ℕ) (small : n ≤ 240) (a : Answer) (t : Tells n a) (b : List ℕ) (room : 7680 ≤ length b) where
  -- the plot family written is the plot family read
  pub plot_back : members_of n (plot_buffer b a) (length a.plot) ≡ a.plot
  unfolding members_of
  plot_back = written_members n small a.plot b 0 t.plot_on (omega (arith, t.plot_few))

  pub plot_buffer_length : length (plot_buffer b a) ≡ length b
  plot_buffer_length = length_written n small a.plot b 0 t.plot_on (omega (arith, t.plot_few))

  -- and so is the treatment family
  pub treatment_back : members_of n (treatment_buffer b a) (length a.treatment) ≡ a.treatment
  unfolding members_of
  treatment_back = written_members n small a.treatment b 0 t.treatment_on (omega (arith, t.treatment_few))

  pub treatment_buffer_length : length (treatment_buffer b a) ≡ length b
  treatment_buffer_length = length_written n small a.treatment b 0 t.treatment_on (omega (arith, t.treatment_few))
