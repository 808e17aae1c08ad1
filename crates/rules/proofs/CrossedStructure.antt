-- On the plots of all combinations the factors 'agree in every name of a set', over all sets of names, are an orthogonal block structure.
-- Assumes nothing.
use mathlib.Core.Path.{◌≡◌, refl, sym, ap, ap₂, ◌∙◌, subst}
use mathlib.Core.Logic.{◌⊎◌, inl, inr}
use mathlib.Core.Bool.{Bool, true, false, ◌&&◌}
use mathlib.Core.List.Memᴰ
use mathlib.Core.List.{List, [], ◌∷◌, ◌++◌, map}
use Prim.Native.Nat.{ℕ, zero, suc, ◌+◌, ◌/◌, ◌%◌, ◌^◌, ◌≤◌}
use native.Mathlib.Nat.{le_trans, pow-suc, pow-le-pow_right}
use native.Mathlib.Omega.{arith}
use lib.Dec.{eqb}
use lib.ListN.{length, length-append, length-map}
use Rattle.rules.specs.Factor.{Column, Equivalent, number, infimum, supremum, universal, equality}
use Rattle.rules.specs.Family.{Family, ◌∈◌, insert_all, before, Ascending, empty, cons, AtMost}
use Rattle.rules.specs.Closing.{InPlotFamily, Closing, too_many, family, plot_family}
use Rattle.rules.specs.Design.{question8}
use Rattle.rules.specs.Structure.{Contains, Inequivalent, no_member, unlike, OrthogonalBlockStructure}
use Rattle.rules.specs.Formula.{plot_count, column_of}
use Rattle.rules.proofs.Numbering.{number_number, number_unique}
use Rattle.rules.proofs.Members.{clash, before_self, insert_all_has, insert_all_only, ascending_insert_all}
use Rattle.rules.proofs.Agreement.{later, union, meet, agree}
use Rattle.rules.proofs.Crossed.{Divides, column_divides, divides_number, divides_universal, divides_equality, divides_infimum, divides_supremum, divides_uniform, divides_orthogonal, Crossed, members_crossed, crossed_verdict}
use Rattle.rules.proofs.Supremum.{equivalent_sym}
use Rattle.rules.proofs.Closing.{pigeonhole, ascending_distinct}
use Rattle.rules.proofs.Families.{plot_too_many}
use Rattle.rules.proofs.Verdict.{verdict_number}
use Rattle.rules.proofs.Demand3.{member_numbered}

-- ---- all sets of names

-- a set of the later names, and whether the first is in it
unfoldable pub with_first : Bool → (ℕ → Bool) → ℕ → Bool
with_first b S zero = b
with_first b S (suc i) = S i

-- the sets of m names
unfoldable pub sets_of : ℕ → List (ℕ → Bool)
unfolding with_first
sets_of zero = (λ i. false) ∷ []
sets_of (suc m) = map (with_first true) (sets_of m) ++ map (with_first false) (sets_of m)

-- the factor of a set, numbered
unfoldable pub factor_of : List ℕ → (ℕ → Bool) → Column
unfolding number column_of
factor_of cs S = number (column_of cs S)

-- over all sets, each factor once
unfoldable pub all_sets : List ℕ → Family
unfolding sets_of insert_all factor_of
all_sets cs = insert_all (map (factor_of cs) (sets_of (length cs))) []

-- ---- every set is listed

-- a listed set in which plots agree as in S
record Listed (cs : List ℕ) (S : ℕ → Bool) : Type 0 where
  set : ℕ → Bool
  is_listed : set ∈ sets_of (length cs)
  alike : (u v : ℕ) → agree cs set u v ≡ agree cs S u v

listed_set : (cs : List ℕ) (S : ℕ → Bool) → Listed cs S
unfolding sets_of agree with_first
listed_set [] S = record { set = λ i. false; is_listed = Memᴰ.head refl; alike = λ u v. refl }
listed_set (c ∷ cs) S = go (S 0) refl (listed_set cs (later S))
  where
    go : (b : Bool) → S 0 ≡ b → Listed cs (later S) → Listed (c ∷ cs) S
    go true e l = record {
      set = with_first true l.set;
      is_listed = Memᴰ.append_left (map (with_first false) (sets_of (length cs))) (Memᴰ.map (with_first true) l.is_listed);
      alike = λ u v. rw e (ap (λ (x : Bool). eqb (u / plot_count cs) (v / plot_count cs) && x) (l.alike (u % plot_count cs) (v % plot_count cs)));
    }
    go false e l = record {
      set = with_first false l.set;
      is_listed = Memᴰ.append_right (map (with_first true) (sets_of (length cs))) (Memᴰ.map (with_first false) l.is_listed);
      alike = λ u v. rw e (l.alike (u % plot_count cs) (v % plot_count cs));
    }

module _ (cs : List ℕ) where
  abbrev n : ℕ
  n = plot_count cs

  factor_divides : (S : ℕ → Bool) → Divides cs S (factor_of cs S)
  unfolding factor_of
  factor_divides S = divides_number cs S (column_of cs S) (column_divides cs S)

  -- a member is the factor of a set
  record OfSet (F : Column) : Type 0 where
    set : ℕ → Bool
    is : factor_of cs set ≡ F

  of_set : (F : Column) → F ∈ all_sets cs → OfSet F
  unfolding all_sets
  of_set F m = go (insert_all_only (map (factor_of cs) (sets_of (length cs))) [] F m)
    where
      go : (F ∈ map (factor_of cs) (sets_of (length cs))) ⊎ (F ∈ []) → OfSet F
      go (inl k) = let i = Memᴰ.of_map (factor_of cs) (sets_of (length cs)) k in record { set = i.0; is = i.2 }
      go (inr k) = absurd (Memᴰ.not-nil k)

  -- a member divides the plots as agreement in a set does
  pub member_crossed : (F : Column) → F ∈ all_sets cs → Crossed cs F
  member_crossed F m = let i = of_set F m in record { set = i.set; divides = subst (Divides cs i.set) i.is (factor_divides i.set) }

  -- a factor that divides the plots as agreement in a set does is contained
  pub crossed_contained : (F : Column) → Crossed cs F → Contains n (all_sets cs) F
  unfolding all_sets
  crossed_contained F k =
      let l = listed_set cs k.set in
      let d = factor_divides l.set in
      record {
        member = factor_of cs l.set;
        is_member = insert_all_has (map (factor_of cs) (sets_of (length cs))) [] (factor_of cs l.set) (Memᴰ.map (factor_of cs) l.is_listed);
        equivalent = record {
          to = λ u v hu hv s. k.divides.from u v hu hv (sym (l.alike u v) ∙ d.to u v hu hv s);
          from = λ u v hu hv s. d.from u v hu hv (l.alike u v ∙ k.divides.to u v hu hv s);
        };
      }

  -- equivalent members are equal
  numbered : (F : Column) → F ∈ all_sets cs → number F ≡ F
  unfolding factor_of
  numbered F m = let i = of_set F m in subst (λ (K : Column). number K ≡ K) i.is (number_number (column_of cs i.set))

  equal : (F G : Column) → F ∈ all_sets cs → G ∈ all_sets cs → Equivalent n F G → F ≡ G
  equal F G m k e =
      let l_f = (member_crossed F m).divides.on in
      let l_g = (member_crossed G k).divides.on in
      sym (numbered F m) ∙ number_unique F G (l_f ∙ sym l_g) (rw l_f e) ∙ numbered G k

  inequivalent : (R : Family) → Ascending R → ((F : Column) → F ∈ R → F ∈ all_sets cs) → Inequivalent n R
  inequivalent R empty f = no_member
  inequivalent R (cons {F = F} {S = T} h a) f =
      unlike (λ G m e. clash (h G m) (subst (λ (K : Column). before F K ≡ false) (equal F G (f F (Memᴰ.head refl)) (f G (Memᴰ.tail m)) e) (before_self F)))
      (inequivalent T a (λ G m. f G (Memᴰ.tail m)))

  ascending : Ascending (all_sets cs)
  unfolding all_sets
  ascending = ascending_insert_all (map (factor_of cs) (sets_of (length cs))) [] empty

  -- the factors of all sets of names are an orthogonal block structure
  pub crossed_structure : OrthogonalBlockStructure n (all_sets cs)
  crossed_structure = record {
    on_plots = λ F m. (member_crossed F m).divides.on;
    inequivalent = inequivalent (all_sets cs) ascending (λ F m. m);
    has_universal = crossed_contained (universal n) (record { set = λ i. false; divides = divides_universal cs });
    has_equality = crossed_contained (equality n) (record { set = λ i. true; divides = divides_equality cs });
    has_infima = λ F G m k.
        let a = member_crossed F m in
        let b = member_crossed G k in
        crossed_contained (infimum F G) (record { set = union a.set b.set; divides = divides_infimum cs a.set b.set F G a.divides b.divides });
    has_suprema = λ F G m k.
        let a = member_crossed F m in
        let b = member_crossed G k in
        crossed_contained (supremum F G) (record { set = meet a.set b.set; divides = divides_supremum cs a.set b.set F G a.divides b.divides });
    uniform = λ F m. divides_uniform cs (member_crossed F m).set F (member_crossed F m).divides;
    orthogonal = λ F G m k. divides_orthogonal cs (member_crossed F m).set (member_crossed G k).set F G (member_crossed F m).divides (member_crossed G k).divides;
  }

-- ---- with at most 5 names the plot family has at most 32 members

sets_length : (m : ℕ) → length (sets_of m) ≡ 2 ^ m
unfolding sets_of
sets_length zero = refl
sets_length (suc m) =
    length-append (map (with_first true) (sets_of m)) (map (with_first false) (sets_of m))
    ∙ ap₂ ◌+◌ (length-map (sets_of m) (with_first true) ∙ sets_length m) (length-map (sets_of m) (with_first false) ∙ sets_length m)
    ∙ sym (rw pow-suc (omega arith))

module _ (cs : List ℕ) (Fs : List Column) (given : (F : Column) → F ∈ Fs → Crossed cs F) where
  -- a member of the plot family is a member of the structure
  pub member_listed : (H : Column) → InPlotFamily (plot_count cs) Fs H → H ∈ all_sets cs
  member_listed H p =
      let k = crossed_contained cs H (members_crossed cs Fs given H p) in
      let lM = (member_crossed cs k.member k.is_member).divides.on in
      let lH = (members_crossed cs Fs given H p).divides.on in
      Memᴰ.cast
      (sym (member_numbered (plot_count cs) Fs (λ F m. (given F m).divides.on) H p) ∙ number_unique H k.member (lH ∙ sym lM) (rw lH (equivalent_sym k.equivalent)) ∙ numbered cs k.member k.is_member)
      k.is_member

  structure_size : length (all_sets cs) ≤ 2 ^ length cs
  unfolding all_sets
  structure_size =
      rw (← (length-map (sets_of (length cs)) (factor_of cs) ∙ sets_length (length cs)))
      (pigeonhole (all_sets cs) (map (factor_of cs) (sets_of (length cs))) (ascending_distinct (ascending cs)) (λ F m. go F (insert_all_only (map (factor_of cs) (sets_of (length cs))) [] F m)))
    where
      go : (F : Column) → (F ∈ map (factor_of cs) (sets_of (length cs))) ⊎ (F ∈ []) → F ∈ map (factor_of cs) (sets_of (length cs))
      go F (inl k) = k
      go F (inr k) = absurd (Memᴰ.not-nil k)

  -- m names: at most 2 ^ m members
  pub crossed_few : AtMost (2 ^ length cs) (InPlotFamily (plot_count cs) Fs)
  crossed_few S d f = le_trans (pigeonhole S (all_sets cs) d (λ H m. member_listed H (f H m))) structure_size

  -- with at most 5 names the plot family is accepted
  pub crossed_accepted : length cs ≤ 5 → (question8 (plot_count cs) (plot_family (plot_count cs) Fs)).refusal ≡ 0
  crossed_accepted h = go (plot_family (plot_count cs) Fs) refl (crossed_verdict cs Fs given)
    where
      few : 2 ^ length cs ≤ 32
      few = pow-le-pow_right {n = 2} (omega arith) {i = length cs} {j = 5} h

      go : (x : Closing) → plot_family (plot_count cs) Fs ≡ x → ((question8 (plot_count cs) (plot_family (plot_count cs) Fs)).refusal ≡ 0) ⊎ ((question8 (plot_count cs) (plot_family (plot_count cs) Fs)).refusal ≡ 8)
          → (question8 (plot_count cs) (plot_family (plot_count cs) Fs)).refusal ≡ 0
      go x e (inl z) = z
      go too_many e (inr z) = absurd ((plot_too_many (plot_count cs) Fs).0 e (λ S d f. le_trans (crossed_few S d f) few))
      go (family R) e (inr z) = absurd (not_8 (verdict_number (plot_count cs) R) (rw e at z))
        where
          not_8 : {q : ℕ} → (q ≡ 0) ⊎ ((q ≡ 9) ⊎ (q ≡ 10)) → q ≡ 8 → ⊥
          not_8 (inl a) b = omega arith
          not_8 (inr (inl a)) b = omega arith
          not_8 (inr (inr a)) b = omega arith
