-- Laws of columns that divide the plots of all combinations as agreement in a set of names does: their plot family is refused by 8 or not at all.
-- Assumes nothing.
use mathlib.Core.Path.{◌≡◌, refl, sym, ap, ap₂, ◌∙◌}
use mathlib.Core.Logic.{◌⊎◌, inl, inr}
use mathlib.Core.Bool.{Bool, true, false, ◌&&◌, ◌||◌}
use mathlib.Core.List.{List, [], ◌∷◌}
use Prim.Native.Nat.{ℕ, ◌+◌, ◌*◌, ◌/◌, ◌%◌, ◌<◌}
use native.Mathlib.Omega.{arith}
use lib.Dec.{eqb}
use lib.ListN.{length, get_or, get_or-replicate}
use borrow.Author.Tests.{eqb-true, eq-eqb}
use Rattle.rules.specs.Lists.{tabulate}
use Rattle.rules.specs.Factor.{Column, at, Same, same, number, infimum, supremum, Chain, start, along_f, along_g, universal, up_from, equality, class_size, overlap, Uniform, uniform, Orthogonal, orthogonal}
use Rattle.rules.specs.Family.{Family, ◌∈◌}
use Rattle.rules.specs.Closing.{InPlotFamily, by_column, by_universal, by_equality, by_infimum, by_supremum, both, plot_generators, Closing, family, plot_family}
use Rattle.rules.specs.Design.{question8}
use Rattle.rules.specs.Sheet.{same_bytes}
use Rattle.rules.specs.Formula.{plot_count, combination, kept, column_of}
use Rattle.rules.proofs.Lists.{length_tabulate, get_d_tabulate}
use Rattle.rules.proofs.Numbering.{by_cases, length_numbering, numbering_same, length_number, number_same, length_infimum, infimum_same}
use Rattle.rules.proofs.ClassCount.{at_up}
use Rattle.rules.proofs.Supremum.{length_supremum}
use Rattle.rules.proofs.Extremes.{length_universal, length_equality}
use Rattle.rules.proofs.Sheet.{same_equal, same_self}
use Rattle.rules.proofs.Tests.{count_same, uniform_test, orthogonal_test, supremum_chain'}
use Rattle.rules.proofs.Orthogonality.{same_test}
use Rattle.rules.proofs.Closing.{Closed, listed, too_many_holds, close_right}
use Rattle.rules.proofs.Families.{made_in_family}
use Rattle.rules.proofs.Verdict.{failing_pass, pairs_pass, verdict_passes}
use Rattle.rules.proofs.Agreement.{later, union, meet, agree, agree_none, agree_self, agree_all, agree_part, agree_union, mixed, mixed_between, size_of, size_uniform, size_orthogonal}

-- F divides the plots as agreement in S does
pub record Divides (cs : List ℕ) (S : ℕ → Bool) (F : Column) : Type 0 where
  pub on : length F ≡ plot_count cs
  pub to : (u v : ℕ) → u < plot_count cs → v < plot_count cs → Same F u v → agree cs S u v ≡ true
  pub from : (u v : ℕ) → u < plot_count cs → v < plot_count cs → agree cs S u v ≡ true → Same F u v

-- ---- the column of a set

-- two plots keep the same exactly when they agree
label_agree : (cs : List ℕ) (S : ℕ → Bool) (u v : ℕ) → same_bytes (kept S (combination cs u)) (kept S (combination cs v)) ≡ agree cs S u v
unfolding same_bytes kept combination agree
label_agree [] S u v = refl
label_agree (c ∷ cs) S u v =
    by_cases (S 0)
    (λ e. rw (e, kept) (ap (λ (b : Bool). eqb (u / plot_count cs) (v / plot_count cs) && b) (label_agree cs (later S) (u % plot_count cs) (v % plot_count cs))))
    (λ e. rw (e, kept) (label_agree cs (later S) (u % plot_count cs) (v % plot_count cs)))

module _ (cs : List ℕ) (S : ℕ → Bool) where
  abbrev label : ℕ → List ℕ
  label u = kept S (combination cs u)

  pub length_column : length (column_of cs S) ≡ plot_count cs
  unfolding column_of
  length_column = length_numbering same_bytes same_equal same_self (tabulate label (plot_count cs)) [] ∙ length_tabulate label (plot_count cs)

  pub column_divides : Divides cs S (column_of cs S)
  unfolding column_of
  column_divides = record {
    on = length_column;
    to = λ u v hu hv e.
        sym (label_agree cs S u v)
        ∙ ap (λ (x : List ℕ). same_bytes (label u) x) (sym (sym (at_plot u hu) ∙ (numbering_same same_bytes same_equal same_self (tabulate label (plot_count cs)) [] u v (fits u hu) (fits v hv)).0 e ∙ at_plot v hv))
        ∙ same_self (label u);
    from = λ u v hu hv e.
        (numbering_same same_bytes same_equal same_self (tabulate label (plot_count cs)) [] u v (fits u hu) (fits v hv)).1
        (at_plot u hu ∙ same_equal (label u) (label v) (label_agree cs S u v ∙ e) ∙ sym (at_plot v hv));
  }
    where
      at_plot : (u : ℕ) → u < plot_count cs → get_or (tabulate label (plot_count cs)) u [] ≡ label u
      at_plot u h = get_d_tabulate label (plot_count cs) u [] h

      fits : (u : ℕ) → u < plot_count cs → u < length (tabulate label (plot_count cs))
      fits u h = rw (length_tabulate label (plot_count cs)) h

-- ---- the operations

module _ (cs : List ℕ) where
  abbrev n : ℕ
  n = plot_count cs

  -- numbering a column leaves its division as it is
  pub divides_number : (S : ℕ → Bool) (F : Column) → Divides cs S F → Divides cs S (number F)
  divides_number S F d = record {
    on = length_number F ∙ d.on;
    to = λ u v hu hv e. d.to u v hu hv ((number_same F u v (rw d.on hu) (rw d.on hv)).0 e);
    from = λ u v hu hv e. (number_same F u v (rw d.on hu) (rw d.on hv)).1 (d.from u v hu hv e);
  }

  -- U is agreement in no name
  pub divides_universal : Divides cs (λ i. false) (universal n)
  unfolding universal
  divides_universal = record {
    on = length_universal n;
    to = λ u v hu hv e. agree_none cs u v;
    from = λ u v hu hv e. get_or-replicate n u 1 0 hu ∙ sym (get_or-replicate n v 1 0 hv);
  }

  -- E is agreement in all names
  pub divides_equality : Divides cs (λ i. true) (equality n)
  unfolding equality up_from
  divides_equality = record {
    on = length_equality n;
    to = λ u v hu hv e. let q : u ≡ v = suc_same u v (sym (at_up n 1 u hu) ∙ e ∙ at_up n 1 v hv) in rw q (agree_self cs (λ i. true) v);
    from = λ u v hu hv e. ap (at (up_from 1 n)) (agree_all cs u v hu hv e);
  }
    where
      suc_same : (u v : ℕ) → 1 + u ≡ 1 + v → u ≡ v
      suc_same u v e = omega arith

  module _ (S T : ℕ → Bool) (F G : Column) (d : Divides cs S F) (e : Divides cs T G) where
    -- the infimum is agreement in the union
    pub divides_infimum : Divides cs (union S T) (infimum F G)
    divides_infimum = record {
      on = length_infimum F G (d.on ∙ sym e.on) ∙ d.on;
      to = λ u v hu hv s.
          let k = (infimum_same F G (d.on ∙ sym e.on) u v (rw d.on hu) (rw d.on hv)).0 s in
          agree_union cs S T u v (d.to u v hu hv k.0) (e.to u v hu hv k.1);
      from = λ u v hu hv s.
          (infimum_same F G (d.on ∙ sym e.on) u v (rw d.on hu) (rw d.on hv)).1
          (d.from u v hu hv (agree_part cs (union S T) S u v (λ i. left (S i) (T i)) s), e.from u v hu hv (agree_part cs (union S T) T u v (λ i. right (S i) (T i)) s));
    }
      where
        left : (a b : Bool) → a ≡ true → a || b ≡ true
        left true b h = refl
        left false true h = refl
        left false false h = h

        right : (a b : Bool) → b ≡ true → a || b ≡ true
        right true b h = refl
        right false b h = h

    meet_left : (u v : ℕ) → agree cs S u v ≡ true → agree cs (meet S T) u v ≡ true
    meet_left u v = agree_part cs S (meet S T) u v (λ i. left (S i) (T i))
      where
        left : (a b : Bool) → a && b ≡ true → a ≡ true
        left true b h = refl
        left false b h = h

    meet_right : (u v : ℕ) → agree cs T u v ≡ true → agree cs (meet S T) u v ≡ true
    meet_right u v = agree_part cs T (meet S T) u v (λ i. right (S i) (T i))
      where
        right : (a b : Bool) → a && b ≡ true → b ≡ true
        right true b h = h
        right false true h = refl
        right false false h = h

    -- a chain keeps what is common to both sets
    chain_agrees : {u v : ℕ} → u < n → Chain n F G u v → (v < n) × Same (column_of cs (meet S T)) u v
    chain_agrees h start = (h, refl)
    chain_agrees h (along_f {w} {v} c k s) =
        let b = chain_agrees h c in (k, b.1 ∙ (column_divides cs (meet S T)).from w v b.0 k (meet_left w v (d.to w v b.0 k s)))
    chain_agrees h (along_g {w} {v} c k s) =
        let b = chain_agrees h c in (k, b.1 ∙ (column_divides cs (meet S T)).from w v b.0 k (meet_right w v (e.to w v b.0 k s)))

    -- the supremum is agreement in what is common to both: two steps are enough, as the plots are all combinations
    pub divides_supremum : Divides cs (meet S T) (supremum F G)
    divides_supremum = record {
      on = length_supremum F G (d.on ∙ sym e.on) ∙ d.on;
      to = λ u v hu hv s. (column_divides cs (meet S T)).to u v hu hv (chain_agrees hu ((supremum_chain' n F G d.on e.on u v hu hv).0 s)).1;
      from = λ u v hu hv s.
          let b = mixed_between cs S T u v hu hv s in
          let w : ℕ = mixed cs S u v in
          (supremum_chain' n F G d.on e.on u v hu hv).1 (along_g (along_f start b.less (d.from u w hu b.less b.near)) hv (e.from w v b.less hv b.far));
    }

  -- ---- class sizes

  module _ (S : ℕ → Bool) (F : Column) (d : Divides cs S F) where
    -- the test of a column is the test of agreement
    pub same_agree : (u v : ℕ) → u < n → v < n → same F u v ≡ agree cs S u v
    same_agree u v hu hv = same_test (same F u v) (agree cs S u v) (λ e. d.to u v hu hv (eqb-true _ _ e)) (λ e. eq-eqb _ _ (d.from u v hu hv e))

    size_agree : (u : ℕ) → u < n → class_size n F u ≡ size_of cs S u
    unfolding class_size
    size_agree u hu = count_same n (λ v. same F u v) (λ v. agree cs S u v) (λ v hv. same_agree u v hu hv)

    -- classes of one size
    pub divides_uniform : Uniform n F
    divides_uniform u v hu hv = size_agree u hu ∙ size_uniform cs S u v hu hv ∙ sym (size_agree v hv)

  -- every two are orthogonal
  pub divides_orthogonal : (S T : ℕ → Bool) (F G : Column) → Divides cs S F → Divides cs T G → Orthogonal n F G
  unfolding overlap
  divides_orthogonal S T F G d e u v hu hv s =
      let k = divides_supremum S T F G d e in
      ap₂ ◌*◌ (count_same n (λ w. same F u w && same G v w) (λ w. agree cs S u w && agree cs T v w) (λ w hw. ap₂ ◌&&◌ (same_agree S F d u w hu hw) (same_agree T G e v w hv hw)))
      (size_agree (meet S T) (supremum F G) k u hu)
      ∙ size_orthogonal cs S T u v hu hv (k.to u v hu hv s)
      ∙ sym (ap₂ ◌*◌ (size_agree S F d u hu) (size_agree T G e v hv))

-- ---- the plot family

-- F divides the plots as agreement in some set does
pub record Crossed (cs : List ℕ) (F : Column) : Type 0 where
  pub set : ℕ → Bool
  pub divides : Divides cs set F

module _ (cs : List ℕ) (Fs : List Column) (given : (F : Column) → F ∈ Fs → Crossed cs F) where
  -- so does every member of the plot family
  pub members_crossed : (H : Column) → InPlotFamily (plot_count cs) Fs H → Crossed cs H
  members_crossed H (by_column {F} m) = record { set = (given F m).set; divides = divides_number cs (given F m).set F (given F m).divides }
  members_crossed H by_universal = record { set = λ i. false; divides = divides_universal cs }
  members_crossed H by_equality = record { set = λ i. true; divides = divides_equality cs }
  members_crossed H (by_infimum {F} {G} p q) = go (members_crossed F p) (members_crossed G q)
    where
      go : Crossed cs F → Crossed cs G → Crossed cs (infimum F G)
      go a b = record { set = union a.set b.set; divides = divides_infimum cs a.set b.set F G a.divides b.divides }
  members_crossed H (by_supremum {F} {G} p q) = go (members_crossed F p) (members_crossed G q)
    where
      go : Crossed cs F → Crossed cs G → Crossed cs (supremum F G)
      go a b = record { set = meet a.set b.set; divides = divides_supremum cs a.set b.set F G a.divides b.divides }

  -- questions 9 and 10 pass a family of such members
  pub crossed_passes : (R : Family) → ((F : Column) → F ∈ R → Crossed cs F) → (question8 (plot_count cs) (family R)).refusal ≡ 0
  crossed_passes R has =
      verdict_passes (plot_count cs) R
      (failing_pass (uniform (plot_count cs)) 1 R (λ F m. (uniform_test (plot_count cs) F).1 (divides_uniform cs (has F m).set F (has F m).divides)))
      (pairs_pass (orthogonal (plot_count cs)) 1 R (λ F G m k. (orthogonal_test (plot_count cs) F G).1 (divides_orthogonal cs (has F m).set (has G k).set F G (has F m).divides (has G k).divides)))

  verdict_crossed : (x : Closing) → Closed both (plot_generators (plot_count cs) Fs) x → ((question8 (plot_count cs) x).refusal ≡ 0) ⊎ ((question8 (plot_count cs) x).refusal ≡ 8)
  unfolding question8
  verdict_crossed x (too_many_holds m) = inr refl
  verdict_crossed x (listed {R} s) = inl (crossed_passes R (λ F m. members_crossed F (made_in_family (plot_count cs) Fs F (s.only F m))))

  -- the plot family is refused by 8 or not at all
  pub crossed_verdict : ((question8 (plot_count cs) (plot_family (plot_count cs) Fs)).refusal ≡ 0) ⊎ ((question8 (plot_count cs) (plot_family (plot_count cs) Fs)).refusal ≡ 8)
  unfolding plot_family
  crossed_verdict = verdict_crossed (plot_family (plot_count cs) Fs) (close_right both (plot_generators (plot_count cs) Fs))
