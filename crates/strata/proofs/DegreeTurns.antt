-- Laws of degrees of freedom in code: each turn finds the next, and all are small.
-- Assumes nothing.
use mathlib.Core.Path.{◌≡◌, sym, ap, ap₂, subst, ◌∙◌}
use mathlib.Core.List.{List, []}
use Prim.Native.Nat.{ℕ, ◌^◌, ◌≤◌, ◌<◌}
use native.Mathlib.Nat.{pow-le-pow_right}
use native.Mathlib.Omega.{arith}
use lib.Dec.{ltb}
use lib.IntN.{ℤ, pos, ◌-ℤ◌}
use lib.ListN.{length, get_or, take, get_or-eq_default}
use lib.Seq.{get_or-take}
use borrow.Author.Tests.{ltb-true, ltb-false}
use Rattle.rules.specs.Factor.{Column, classes}
use Rattle.rules.specs.Family.{◌∈◌, members_of}
use Rattle.rules.specs.Lists.{for_places, bit_at}
use Rattle.rules.specs.Relation.{coarser_at}
use Rattle.rules.specs.Degrees.{coarser_sum, degrees}
use Rattle.rules.proofs.Numbering.{by_cases}
use Rattle.rules.proofs.Buffer.{member_is}
use Rattle.rules.proofs.ClassCount.{classes_most}
use Rattle.rules.proofs.Degrees.{degrees_equation}
use Rattle.rules.proofs.DegreesLaws.{length_degrees, degrees_bound}
use Rattle.rules.proofs.WorkList.{PlaceOf, place_of}
use Rattle.rules.proofs.Places.{at_places_lem, length_places}
use Rattle.rules.proofs.StrictOrder.{later_not_coarser}
use Rattle.families.specs.Lent.{column_at}
use Rattle.strata.specs.Lent.{Formed}
use Rattle.strata.specs.Sums.{sum_passing, Small, AllSmall}
use Rattle.families.proofs.Lent.{length_column}
use Rattle.strata.proofs.Lent.{accepted_members, size_members, on_plots_lem}
use Rattle.strata.proofs.RelationWords.{words_of, bit_at_lem}
use Rattle.strata.proofs.Sums.{pass_ext, pass_more, coarser_sum_is, sum_taken, small_take, small_places}
use Rattle.strata.proofs.Slices.{taken_length}
use Rattle.strata.specs.Family.{members, column}
use Rattle.strata.specs.Words.{WordsOf}
use Rattle.strata.specs.declared.family.Family.{Family}
use mir.Syntax.{w64}
use mir.Val.{SFits, to_z}
use mir.ValLaws.{to_z_pos}

module _ {n : ℕ} {b : List ℕ} {size : ℕ} (is : Formed n b size) where
  pub on_members : (F : Column) → F ∈ members_of n b size → length F ≡ n
  on_members F m = go (place_of (members_of n b size) F m)
    where
      go : PlaceOf (members_of n b size) F → length F ≡ n
      go p = sym (ap length p.is) ∙ on_plots_lem is p.place p.less

  -- all degrees of freedom are small
  pub small_degrees : AllSmall (degrees n (members_of n b size))
  small_degrees i =
      by_cases (ltb i (length (members_of n b size)))
      (λ e. let l : i < length (members_of n b size) = ltb-true i (length (members_of n b size)) e in
      let k : i ≤ 31 = omega (arith, size_members is, is.few) in
      let two : 0 < 2 = omega arith in
      let p : 2 ^ i ≤ 2 ^ 31 = pow-le-pow_right two k in
      omega (arith, degrees_bound n (members_of n b size) is.few_plots on_members i l))
      (λ e. let l : length (members_of n b size) ≤ i = ltb-false i (length (members_of n b size)) e in
      rw (get_or-eq_default (degrees n (members_of n b size)) (pos 0) {n = i} (rw (length_degrees n (members_of n b size)) l)) (omega arith))

  -- one member's own number less those at the places whose bits are set, by what is known so far
  pub degree_turn : (i : ℕ) → i < size
      → pos (classes (column_at n b i)) -ℤ sum_passing (bit_at (get_or (words_of n (members_of n b size)) i 0)) (λ k. get_or (for_places (pos 0) (take i (degrees n (members_of n b size)))) k (pos 0)) i
      ≡ get_or (degrees n (members_of n b size)) i (pos 0)
  unfolding coarser_at
  degree_turn i h =
      sym (degrees_equation n (members_of n b size) (accepted_members is).ascending on_members i hi
      ∙ ap₂ (λ (F : Column) (z : ℤ). pos (classes F) -ℤ z) (member_is n is.few_plots b size i h) sums)
    where
      hi : i < length (members_of n b size)
      hi = omega (arith, size_members is)

      number : (k : ℕ) → k < i → get_or (degrees n (members_of n b size)) k (pos 0) ≡ get_or (for_places (pos 0) (take i (degrees n (members_of n b size)))) k (pos 0)
      number k l =
          sym (at_places_lem (pos 0) (take i (degrees n (members_of n b size))) k (omega (arith, is.few)) ∙ get_or-take i (degrees n (members_of n b size)) k (pos 0) l)

      sums : coarser_sum n (get_or (members_of n b size) i []) (members_of n b size) (degrees n (members_of n b size))
          ≡ sum_passing (bit_at (get_or (words_of n (members_of n b size)) i 0)) (λ k. get_or (for_places (pos 0) (take i (degrees n (members_of n b size)))) k (pos 0)) i
      sums =
          coarser_sum_is n (get_or (members_of n b size) i []) (members_of n b size) (degrees n (members_of n b size)) (sym (length_degrees n (members_of n b size)))
          ∙ sym (pass_more (coarser_at n (members_of n b size) i) (λ k. get_or (degrees n (members_of n b size)) k (pos 0)) i (length (members_of n b size)) (omega (arith, size_members is))
          (λ j l k. later_not_coarser n (members_of n b size) (accepted_members is) (on_plots_lem is) i j l k))
          ∙ pass_ext (coarser_at n (members_of n b size) i) (bit_at (get_or (words_of n (members_of n b size)) i 0))
          (λ k. get_or (degrees n (members_of n b size)) k (pos 0)) (λ k. get_or (for_places (pos 0) (take i (degrees n (members_of n b size)))) k (pos 0)) i
          (λ j l. sym (bit_at_lem n (members_of n b size) (accepted_members is) (on_plots_lem is) i j hi (omega (arith, size_members is)))) number

-- no member has more classes than plots
pub few_classes : (n : ℕ) (b : List ℕ) (i : ℕ) → n ≤ 240 → i < 32 → 7680 ≤ length b → classes (column_at n b i) ≤ 240
few_classes n b i hn hi hb = omega (arith, classes_most (column_at n b i), length_column n i b hn hi hb)

-- ---- member i of a family, which has k classes

module _ (f : Family) (i : ℕ) (h : i < f.size) (k : ℕ) (own : k ≡ classes (column f i)) where
  few_counted : k ≤ 240
  few_counted = omega (arith, own, few_classes f.plots f.bytes.now i f.formed.few_plots (omega (arith, f.formed.few)) f.formed.long)

  pub counted_fits : SFits w64 (pos k)
  counted_fits = record { sfits = omega (arith, few_counted) }

  same_counted : to_z w64 k ≡ pos k
  same_counted = to_z_pos w64 k (omega (arith, few_counted))

  pub counted_small : Small (to_z w64 k)
  counted_small = rw same_counted (omega (arith, few_counted))

  module _ (words : List ℕ) (numbers : List ℤ) (w : WordsOf f words) (d : numbers ≡ for_places (pos 0) (take i (degrees f.plots (members f)))) where
    pub known_length : length (take i numbers) ≡ i
    known_length =
        taken_length numbers i (omega (arith, f.formed.few, ap length d ∙ length_places (pos 0) (take i (degrees f.plots (members f)))))

    pub known_small : AllSmall (take i numbers)
    known_small =
        small_take i numbers (subst AllSmall (sym d) (small_places (take i (degrees f.plots (members f))) (small_take i (degrees f.plots (members f)) (small_degrees f.formed))))

    -- its number, from those known
    pub number_turn : to_z w64 k -ℤ sum_passing (bit_at (get_or (take f.size words) i 0)) (λ j. get_or (take i numbers) j (pos 0)) (length (take i numbers)) ≡ get_or (degrees f.plots (members f)) i (pos 0)
    number_turn =
        ap₂ (λ (z : ℤ) (m : ℕ). z -ℤ sum_passing (bit_at (get_or (take f.size words) i 0)) (λ j. get_or (take i numbers) j (pos 0)) m) (same_counted ∙ ap pos own) known_length
        ∙ ap (λ (z : ℤ). pos (classes (column f i)) -ℤ z) (sum_taken (bit_at (get_or (take f.size words) i 0)) numbers i)
        ∙ ap (λ (v : ℕ). pos (classes (column f i)) -ℤ sum_passing (bit_at v) (λ j. get_or numbers j (pos 0)) i) (get_or-take f.size words i 0 h)
        ∙ ap₂ (λ (ws : List ℕ) (ns : List ℤ). pos (classes (column f i)) -ℤ sum_passing (bit_at (get_or ws i 0)) (λ j. get_or ns j (pos 0)) i) w d
        ∙ degree_turn f.formed i h
