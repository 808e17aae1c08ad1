-- Laws of a plot family and a treatment family on the same plots.
-- Assumes nothing.
use Rattle.std.proofs.Common.{◌≡◌, ℕ, ◌<◌, true, not, eqb, List, [], map, take, get_or, length, Option, Some, None, ap, ap₂, ◌+◌, ◌∙◌, arith}
use Rattle.std.specs.Option.{option_eq}
use borrow.Author.Tests.{eqb-true}
use Rattle.rules.specs.Factor.{Column, every, classes}
use Rattle.rules.specs.Relation.{coarser_words}
use Rattle.rules.specs.Strata.{stratum, all_have_stratum}
use Rattle.rules.proofs.Buffer.{length_members, member_is}
use Rattle.rules.proofs.Places.{length_places}
use Rattle.rules.proofs.Bits.{every_ext}
use Rattle.families.specs.Lent.{column_at}
use Rattle.strata.specs.declared.family.Pair.{Pair}
use Rattle.strata.specs.Family.{members, column}
use Rattle.strata.specs.Words.{WordsOf, coarsest, first_passing}
use Rattle.strata.specs.Pair.{IsFinest, treatment_at, treatments, stratum_of, candidates_of, all_placed}
use Rattle.strata.proofs.Slices.{taken_length}
use Rattle.strata.proofs.StratumLaws.{all_every, coarsest_ext, get_d_map, place_is, passing_ext}
use lib.Seq.{get_or-take}

pub same_column : (d : Pair) (t : ℕ) → column d.treatment t ≡ treatment_at d t
same_column d t = ap (λ (n : ℕ). column_at n d.treatment.bytes.now t) d.same_plots

-- plot member p has a class for each plot
pub finest_is : (d : Pair) (finest : Option ℕ) (p : ℕ) → IsFinest d finest → option_eq eqb finest (Some p) ≡ true → classes (column d.plot p) ≡ d.plot.plots
finest_is d None p is e = absurd cc
finest_is d (Some q) p is e = let r : q ≡ p = eqb-true q p e in rw r at is

module _ (d : Pair) where
  pub length_treatments : length (treatments d) ≡ d.treatment.size
  length_treatments = length_members d.plot.plots d.plot.formed.few_plots d.treatment.bytes.now d.treatment.size

  -- 16, member by member
  pub all_placed_is : all_placed d ≡ every d.treatment.size (λ t. not (eqb (stratum_of d t) 0))
  unfolding all_have_stratum
  all_placed_is =
      all_every (λ T. not (eqb (stratum d.plot.plots (members d.plot) T) 0)) (treatments d)
      ∙ ap (λ (m : ℕ). every m (λ t. not (eqb (stratum d.plot.plots (members d.plot) (get_or (treatments d) t [])) 0))) length_treatments
      ∙ every_ext (λ t. not (eqb (stratum d.plot.plots (members d.plot) (get_or (treatments d) t [])) 0)) (λ t. not (eqb (stratum_of d t) 0)) d.treatment.size
      (λ t h. ap (λ (T : Column). not (eqb (stratum d.plot.plots (members d.plot) T) 0)) (member_is d.plot.plots d.plot.formed.few_plots d.treatment.bytes.now d.treatment.size t h))

  -- the place of a stratum, by places
  pub stratum_is : (t : ℕ) → t < d.treatment.size → get_or (map (stratum d.plot.plots (members d.plot)) (treatments d)) t 0 ≡ stratum_of d t
  stratum_is t h =
      get_d_map (stratum d.plot.plots (members d.plot)) (treatments d) t (omega (arith, length_treatments))
      ∙ ap (stratum d.plot.plots (members d.plot)) (member_is d.plot.plots d.plot.formed.few_plots d.treatment.bytes.now d.treatment.size t h)

  module _ (words : List ℕ) (w : WordsOf d.plot words) where
    pub words_taken : length (take d.plot.size words) ≡ d.plot.size
    words_taken = taken_length words d.plot.size (omega (arith, d.plot.formed.few, ap length w ∙ length_places 0 (coarser_words d.plot.plots (members d.plot))))

    -- the place found among the words of the plot members is that of the stratum
    pub found_place : (t : ℕ) → t < d.treatment.size → (among : ℕ) → among ≡ candidates_of d t
        → first_passing (coarsest (take d.plot.size words) (length (take d.plot.size words)) among) 0 (length (take d.plot.size words)) ≡ stratum_of d t
    found_place t h among e =
        ap (λ (m : ℕ). first_passing (coarsest (take d.plot.size words) m among) 0 m) words_taken
        ∙ passing_ext (coarsest (take d.plot.size words) d.plot.size among) (coarsest words d.plot.size among) 0 d.plot.size (λ p l. coarsest_ext (take d.plot.size words) words d.plot.size among (λ q k. get_or-take d.plot.size words q 0 k) (0 + p))
        ∙ ap₂ (λ (ws : List ℕ) (v : ℕ). first_passing (coarsest ws d.plot.size v) 0 d.plot.size) w e
        ∙ place_is d.plot.formed d.treatment.bytes.now d.treatment.size t h
        ∙ stratum_is t h
