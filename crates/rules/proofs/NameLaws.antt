-- Two different members of a family never have the same name.
-- Assumes nothing.
use mathlib.Core.Path.{◌≡◌, refl, sym, ap, ◌∙◌, subst}
use mathlib.Core.Logic.{◌⊎◌, inl, inr}
use mathlib.Core.Bool.{true}
use mathlib.Core.List.{List, [], ◌∷◌, ◌++◌}
use Prim.Native.Nat.{ℕ, zero, suc, ◌-◌, ◌≤◌, ◌<◌}
use native.Mathlib.Omega.{arith}
use lib.Dec.{eqb, ltb}
use lib.ListN.{length, get_or}
use borrow.Author.Tests.{eqb-true, ltb-true, ltb-false}
use Rattle.rules.specs.Factor.{Column, number, classes, universal, equality}
use Rattle.rules.specs.Family.{Family, ◌∈◌, alike, before, well_formed}
use Rattle.rules.specs.Relation.{member_at}
use Rattle.rules.specs.Sheet.{header, question3}
use Rattle.rules.specs.Names.{Side, coarser_side, finer_side, equivalent_column, join_of, shown, name_by_supremum, name_by_infimum, name_by_column, name_of, with_commas, bytes_of}
use Rattle.rules.specs.Naming.{name_on, Kind, kind_names, kind_columns, looked_at, looked_names, name_at}
use Rattle.rules.proofs.Numbering.{by_cases}
use Rattle.rules.proofs.Members.{clash, alike_sound, before_self}
use Rattle.rules.proofs.Bounds.{numbered_equal}
use Rattle.rules.proofs.ClassCount.{one_class_is, each_class_is}
use Rattle.rules.proofs.WellFormed.{Accepted, accepted, member_at_lem, numbered_at, ascending_at}
use Rattle.rules.proofs.Sheet.{header_form}
use Rattle.rules.proofs.NameBytes.{GoodNames, kind_good, looked_good, Sort, sort_U, sort_E, sort_column, sort_infimum, sort_supremum, sort_place, sort_of, sort_of_U, sort_of_E, sort_of_column, sort_of_infimum, sort_of_supremum, sort_of_place, commas_injective}
use Rattle.rules.proofs.NamesMeant.{lowest_is}
use Rattle.rules.proofs.NamesLooked.{kind_count, kind_on, looked_count, looked_on}
use Rattle.rules.proofs.NameSides.{On, SideLaws, coarser_laws, finer_laws, listed_there, listed_best}

-- ---- what a name tells of its member

record ByColumn (names : List (List ℕ)) (Cs : List Column) (w : List ℕ) (F : Column) : Type 0 where
  place : ℕ
  less : place < length Cs
  named : get_or names place [] ≡ w
  is : number (get_or Cs place []) ≡ F

-- F is the infimum of the columns named, or their supremum
record ByColumns (s : Side) (names : List (List ℕ)) (Cs : List Column) (w : List ℕ) (F : Column) : Type 0 where
  columns : List ℕ
  known : (c : ℕ) → c ∈ columns → c < length Cs
  bytes : with_commas names columns ++ 41 ∷ [] ≡ w
  there : (c : ℕ) → c ∈ columns → s.towards F (get_or Cs c []) ≡ true
  best : (H : Column) → ((c : ℕ) → c ∈ columns → s.towards H (get_or Cs c []) ≡ true) → s.towards H F ≡ true

module _ (n : ℕ) (names : List (List ℕ)) (Cs : List Column) (looked : List (List ℕ)) (Ls : List Column) where
  -- the member F at place i has a name of this sort
  unfoldable Means : Sort → ℕ → Column → Type 0
  Means sort_U i F = F ≡ universal n
  Means sort_E i F = F ≡ equality n
  Means (sort_column w) i F = ByColumn names Cs w F
  Means (sort_infimum w) i F = ByColumns (coarser_side n) names Cs w F
  Means (sort_supremum w) i F = ByColumns (finer_side n) looked Ls w F
  Means (sort_place p) i F = p ≡ i

module _ (n : ℕ) (s : Side) (laws : SideLaws n s) (names : List (List ℕ)) (Cs : List Column) (count : length names ≡ length Cs) (good : GoodNames names) where
  -- the same columns named have one infimum, or one supremum
  same_columns : (w : List ℕ) (F G : Column) → length F ≡ n → length G ≡ n → number F ≡ F → number G ≡ G → ByColumns s names Cs w F → ByColumns s names Cs w G → F ≡ G
  same_columns w F G l_f l_g nF nG p q =
      sym nF ∙ numbered_equal n F G l_f l_g (laws.same F G (q.best F (λ c m. p.there c (subst (λ (l : List ℕ). c ∈ l) (sym e) m))) (p.best G (λ c m. q.there c (subst (λ (l : List ℕ). c ∈ l) e m)))) ∙ nG
    where
      e : p.columns ≡ q.columns
      e = commas_injective names good.good good.differ p.columns q.columns (λ c m. rw count (p.known c m)) (λ c m. rw count (q.known c m)) (p.bytes ∙ sym q.bytes)

  -- a member that is what the columns on one side of it make is told by those listed
  by_columns : On n Cs → (F : Column) → join_of s F Cs ≡ F → ByColumns s names Cs (with_commas names (shown s F Cs) ++ 41 ∷ []) F
  by_columns on F is = record {
    columns = shown s F Cs;
    known = λ c m. (listed_there n s laws F Cs c m).0;
    bytes = refl;
    there = λ c m. (listed_there n s laws F Cs c m).1;
    best = λ H agree. listed_best n s laws F Cs on is H agree;
  }

module _ (n : ℕ) (some : 0 < n) (names : List (List ℕ)) (Cs : List Column) (looked : List (List ℕ)) (Ls : List Column)
    (count : length names ≡ length Cs) (on : On n Cs) (good : GoodNames names)
    (count' : length looked ≡ length Ls) (on' : On n Ls) (good' : GoodNames looked) where
  known : (c : ℕ) → c < length Cs → c < length names
  known c h = rw count h

  -- two members with names of one sort are one member, or stand at one place
  one : (s : Sort) (i j : ℕ) (F G : Column) → length F ≡ n → length G ≡ n → number F ≡ F → number G ≡ G → Means n names Cs looked Ls s i F → Means n names Cs looked Ls s j G → (F ≡ G) ⊎ (i ≡ j)
  unfolding Means
  one sort_U i j F G l_f l_g nF nG p q = inl (p ∙ sym q)
  one sort_E i j F G l_f l_g nF nG p q = inl (p ∙ sym q)
  one (sort_column w) i j F G l_f l_g nF nG p q =
      inl (sym p.is ∙ ap (λ (k : ℕ). number (get_or Cs k [])) (good.differ p.place q.place (known p.place p.less) (known q.place q.less) (p.named ∙ sym q.named)) ∙ q.is)
  one (sort_infimum w) i j F G l_f l_g nF nG p q = inl (same_columns n (coarser_side n) (coarser_laws n) names Cs count good w F G l_f l_g nF nG p q)
  one (sort_supremum w) i j F G l_f l_g nF nG p q = inl (same_columns n (finer_side n) (finer_laws n) looked Ls count' good' w F G l_f l_g nF nG p q)
  one (sort_place x) i j F G l_f l_g nF nG p q = inr (sym p ∙ q)

  module _ (place : ℕ) (F : Column) (l_f : length F ≡ n) (nF : number F ≡ F) where
    by_column : (x : ℕ) → equivalent_column F 0 Cs ≡ x → Means n names Cs looked Ls (sort_of (bytes_of names looked (name_by_column n Cs Ls place F x))) place F
    unfolding name_by_column name_by_infimum name_by_supremum bytes_of Means
    by_column zero e =
        by_cases (alike (join_of (coarser_side n) F Cs) F)
        (λ a. rw (a, name_by_infimum, sort_of_infimum (with_commas names (shown (coarser_side n) F Cs) ++ 41 ∷ []))
        (by_columns n (coarser_side n) (coarser_laws n) names Cs count good on F (alike_sound (join_of (coarser_side n) F Cs) F a)))
        (λ a. by_cases (alike (join_of (finer_side n) F Ls) F)
        (λ b. rw (a, b, name_by_infimum, name_by_supremum, sort_of_supremum (with_commas looked (shown (finer_side n) F Ls) ++ 41 ∷ []))
        (by_columns n (finer_side n) (finer_laws n) looked Ls count' good' on' F (alike_sound (join_of (finer_side n) F Ls) F b)))
        (λ b. rw (a, b, name_by_infimum, name_by_supremum, sort_of_place place) refl))
    by_column (suc c) e =
        let w = lowest_is F Cs c e in
        rw (sort_of_column (get_or names c []) (good.good c (known c w.0))) record { place = c; less = w.0; named = refl; is = w.1 }

    -- the bytes of a name tell its member, or its place
    means : Means n names Cs looked Ls (sort_of (bytes_of names looked (name_of n Cs Ls place F))) place F
    unfolding name_of bytes_of Means
    means =
        by_cases (eqb (classes F) 1)
        (λ e. rw (e, name_of, sort_of_U) ((one_class_is n F l_f nF some).0 (eqb-true (classes F) 1 e)))
        (λ e. by_cases (eqb (classes F) n)
        (λ f. rw (e, f, name_of, sort_of_E) ((each_class_is n F l_f nF).0 (eqb-true (classes F) n f)))
        (λ f. rw (e, f, name_of) (by_column (equivalent_column F 0 Cs) refl)))

-- ---- the law

-- two different members of a family never have the same name: the family is one that question 15 accepts, of either kind, closed or not
pub names_differ_lem : (kind : Kind) (text : List ℕ) (n : ℕ) (levels : List ℕ) (S : Family) → question3 text ≡ true → 1 ≤ n → n ≤ 240 → 2880 ≤ length levels → well_formed S ≡ true
    → ((F : Column) → F ∈ S → length F ≡ n) → (i j : ℕ) → 1 ≤ i → 1 ≤ j → i ≤ length S → j ≤ length S → name_at kind text n levels S i ≡ name_at kind text n levels S j → i ≡ j
unfolding name_at name_on
names_differ_lem kind text n levels S q some few table formed on i j li lj mi mj e = go (one n some names Cs looked Ls count on_c good count' on_l good' (sort_of wi) i j (member_at S (i - 1)) (member_at S (j - 1)) (length_at i li mi) (length_at j lj mj) (number_at i li mi) (number_at j lj mj) means_i means_j)
  where
    names : List (List ℕ)
    names = kind_names kind (header text)

    Cs : List Column
    Cs = kind_columns kind text n levels

    looked : List (List ℕ)
    looked = looked_names kind (header text)

    Ls : List Column
    Ls = looked_at kind text n levels

    count : length names ≡ length Cs
    count = kind_count kind text n levels

    on_c : On n Cs
    on_c = kind_on kind text n levels q few table

    good : GoodNames names
    good = kind_good kind (header text) (header_form text q).columns (header_form text q).names

    count' : length looked ≡ length Ls
    count' = looked_count text n levels kind

    on_l : On n Ls
    on_l = looked_on text n levels kind q few table

    good' : GoodNames looked
    good' = looked_good kind (header text) (header_form text q).columns (header_form text q).names

    acc : Accepted S
    acc = accepted S formed

    length_at : (k : ℕ) → 1 ≤ k → k ≤ length S → length (member_at S (k - 1)) ≡ n
    length_at k l m = on (member_at S (k - 1)) (member_at_lem S (k - 1) (omega arith))

    number_at : (k : ℕ) → 1 ≤ k → k ≤ length S → number (member_at S (k - 1)) ≡ member_at S (k - 1)
    number_at k l m = numbered_at S acc.numbered (k - 1) (omega arith)

    wi : List ℕ
    wi = name_at kind text n levels S i

    means_i : Means n names Cs looked Ls (sort_of wi) i (member_at S (i - 1))
    means_i = means n some names Cs looked Ls count on_c good count' on_l good' i (member_at S (i - 1)) (length_at i li mi) (number_at i li mi)

    means_j : Means n names Cs looked Ls (sort_of wi) j (member_at S (j - 1))
    means_j = subst (λ (w : List ℕ). Means n names Cs looked Ls (sort_of w) j (member_at S (j - 1))) (sym e) (means n some names Cs looked Ls count on_c good count' on_l good' j (member_at S (j - 1)) (length_at j lj mj) (number_at j lj mj))

    apart : (a b : ℕ) → a < b → b < length S → member_at S a ≡ member_at S b → ⊥
    apart a b l m r = clash {P = ⊥} (ascending_at S acc.ascending a b l m) (ap (λ (G : Column). before G (member_at S b)) r ∙ before_self (member_at S b))

    go : (member_at S (i - 1) ≡ member_at S (j - 1)) ⊎ (i ≡ j) → i ≡ j
    go (inr r) = r
    go (inl r) =
        by_cases (ltb i j)
        (λ f. let l = ltb-true i j f in absurd (apart (i - 1) (j - 1) (omega arith) (omega arith) r))
        (λ f. by_cases (ltb j i)
        (λ g. let l = ltb-true j i g in absurd (apart (j - 1) (i - 1) (omega arith) (omega arith) (sym r)))
        (λ g. omega (arith, ltb-false i j f, ltb-false j i g)))
