-- Laws of the rules of naming: the name given to a member is that of the first rule that fits, said of factors, and of no other.
-- Assumes nothing.
use mathlib.Core.Path.{◌≡◌, refl, sym, ap, ◌∙◌, subst}
use mathlib.Core.Logic.{◌↔◌}
use mathlib.Core.Bool.{Bool, true, false, ◌&&◌}
use mathlib.Core.List.Memᴰ
use mathlib.Core.List.{List, [], ◌∷◌}
use Prim.Native.Nat.{ℕ, zero, suc, ◌+◌, ◌-◌, ◌≤◌, ◌<◌}
use native.Mathlib.Nat.{not-suc-le-zero, suc_inj, suc-ne-zero}
use native.Mathlib.Omega.{arith}
use lib.Dec.{eqb, ltb, leb}
use lib.ListN.{length, get_or}
use borrow.Author.Tests.{eqb-true, eqb-false, eq-eqb, ne_eqb, ltb-true, ltb-false, leb-true}
use Rattle.rules.specs.Factor.{Column, Same, Finer, Equivalent, finer, number, classes, equality, Chain, start as begin, along_f, along_g}
use Rattle.rules.specs.Family.{Family, ◌∈◌, alike, members_of, well_formed}
use Rattle.rules.specs.Design.{plots_within, all_nonzero}
use Rattle.rules.specs.Relation.{member_at}
use Rattle.rules.specs.Names.{Name, name_infimum, name_supremum, coarser_side, finer_side, equivalent_column, join_of, shown, name_by_supremum, name_by_infimum, name_by_column, name_of}
use Rattle.rules.specs.Sheet.{question2, question3}
use Rattle.rules.specs.Naming.{Kind, kind_columns, looked_at, name_on, name_at, NameAnswer, naming_within, naming_from7, naming}
use Rattle.rules.specs.Listing.{Enumerates}
use Rattle.rules.specs.NamesMeant.{IsInfimum, ChainBelow, start, along, IsSupremum, NoneIs, ListedAbove, ListedBelow, Rule, rule_U, rule_E, rule_column, rule_infimum, rule_supremum, rule_place, NamedByRule}
use Rattle.rules.proofs.Numbering.{by_cases}
use Rattle.rules.proofs.Members.{clash, alike_sound, alike_self}
use Rattle.rules.proofs.Walks.{bool_false}
use Rattle.rules.proofs.Supremum.{number_equivalent, chain_end}
use Rattle.rules.proofs.Tests.{supremum_chain'}
use Rattle.rules.proofs.Bounds.{numbered_equal, infimum_same'}
use Rattle.rules.proofs.Classes.{finer_test}
use Rattle.rules.proofs.ClassCount.{at_up, finer_universal, one_class, each_class}
use Rattle.rules.proofs.Sheet.{and_left, and_right}
use Rattle.rules.proofs.WellFormed.{Accepted, accepted, member_at_lem, numbered_at}
use Rattle.rules.proofs.Taken.{members_on}
use Rattle.rules.proofs.Buffer.{length_columns}
use Rattle.rules.proofs.Listing.{enumerates_as, enumerates_unique}
use Rattle.rules.proofs.NameSides.{On, on_tail, coarser_laws, finer_laws, length_join, join_towards, join_fits, shown_lists, listed_there, none_listed, one_listed}
use Rattle.rules.proofs.NamesLooked.{kind_on, looked_on}

-- ---- the lowest equivalent column

-- column c, from 0, is the lowest one whose numbering is F
abbrev pub Lowest : Column → List Column → ℕ → Type 0
Lowest F Cs c = (c < length Cs) × (number (get_or Cs c []) ≡ F) × ((j : ℕ) → j < c → number (get_or Cs j []) ≡ F → ⊥)

equivalent_none : (F : Column) (i : ℕ) (Cs : List Column) → equivalent_column F i Cs ≡ 0 → (j : ℕ) → j < length Cs → number (get_or Cs j []) ≡ F → ⊥
unfolding equivalent_column
equivalent_none F i [] e j h q = not-suc-le-zero h
equivalent_none F i (C ∷ Cs) e j h q =
    by_cases (alike (number C) F)
    (λ a. suc-ne-zero i (sym (rw (a, equivalent_column)) ∙ e))
    (λ a. go j h q a (equivalent_none F (suc i) Cs (sym (rw (a, equivalent_column)) ∙ e)))
  where
    go : (j : ℕ) → j < suc (length Cs) → number (get_or (C ∷ Cs) j []) ≡ F → alike (number C) F ≡ false → ((j : ℕ) → j < length Cs → number (get_or Cs j []) ≡ F → ⊥) → ⊥
    go zero h q a rest = clash (subst (λ (G : Column). alike (number C) G ≡ true) q (alike_self (number C))) a
    go (suc j) h q a rest = rest j (omega arith) q

equivalent_lowest : (F : Column) (i : ℕ) (Cs : List Column) (x : ℕ) → equivalent_column F i Cs ≡ suc x → (c : ℕ) × (x ≡ i + c) × Lowest F Cs c
unfolding equivalent_column
equivalent_lowest F i [] x e = absurd (suc-ne-zero x (sym e))
equivalent_lowest F i (C ∷ Cs) x e =
    by_cases (alike (number C) F)
    (λ a. let q : i ≡ x = suc_inj (sym (rw (a, equivalent_column)) ∙ e) in
    (0, omega arith, (omega arith, alike_sound (number C) F a, λ j h. absurd (not-suc-le-zero h))))
    (λ a. later a (equivalent_lowest F (suc i) Cs x (sym (rw (a, equivalent_column)) ∙ e)))
  where
    later : alike (number C) F ≡ false → (c : ℕ) × (x ≡ suc i + c) × Lowest F Cs c → (c : ℕ) × (x ≡ i + c) × Lowest F (C ∷ Cs) c
    later a (c, q, (l, is, lower)) = (suc c, omega arith, (omega arith, is, below))
      where
        below : (j : ℕ) → j < suc c → number (get_or (C ∷ Cs) j []) ≡ F → ⊥
        below zero h r = clash (subst (λ (G : Column). alike (number C) G ≡ true) r (alike_self (number C))) a
        below (suc j) h r = lower j (omega arith) r

-- the number found is that of the lowest
pub lowest_is : (F : Column) (Cs : List Column) (c : ℕ) → equivalent_column F 0 Cs ≡ suc c → Lowest F Cs c
lowest_is F Cs c e = let w = equivalent_lowest F 0 Cs c e in let q : w.0 ≡ c = omega (arith, w.1) in subst (Lowest F Cs) q w.2

-- ---- the infimum of the columns above a member, the supremum of those below it

module _ (n : ℕ) (F : Column) where
  abbrev above : List Column → Column
  above Cs = join_of (coarser_side n) F Cs

  abbrev below : List Column → Column
  below Ls = join_of (finer_side n) F Ls

  -- two plots share a class of the infimum exactly when they share one in each column above
  abbrev Agree : List Column → ℕ → ℕ → Type 0
  Agree Cs u v = (C : Column) → C ∈ Cs → Finer n F C → Same C u v

  agreeing : (Cs : List Column) → On n Cs → (u v : ℕ) → u < n → v < n → Agree Cs u v → Same (above Cs) u v
  unfolding join_of
  agreeing [] on u v hu hv h = finer_universal n [] u v hu hv refl
  agreeing (C ∷ Cs) on u v hu hv h =
      let rest = agreeing Cs (on_tail on) u v hu hv (λ D m. h D (Memᴰ.tail m)) in
      by_cases (finer n F C)
      (λ e. rw (e, join_of) ((infimum_same' n C (above Cs) (on C (Memᴰ.head refl)) (length_join n (coarser_side n) (coarser_laws n) F Cs (on_tail on)) u v hu hv).1 (h C (Memᴰ.head refl) ((finer_test n F C).0 e), rest)))
      (λ e. rw (e, join_of) rest)

  infimum_agrees : (Cs : List Column) → On n Cs → (u v : ℕ) → u < n → v < n → Same (above Cs) u v ↔ Agree Cs u v
  infimum_agrees Cs on u v hu hv = (
    λ s C m f. (finer_test n (above Cs) C).0 (join_towards n (coarser_side n) (coarser_laws n) F Cs on C m ((finer_test n F C).1 f)) u v hu hv s,
    agreeing Cs on u v hu hv,
  )

  -- and one of the supremum exactly when a chain joins them
  chain_within : {Ls : List Column} {u v : ℕ} → u < n → ChainBelow n Ls F u v → v < n
  chain_within h start = h
  chain_within h (along c k C m f s) = k

  chain_on : {Ls : List Column} {u w v : ℕ} → ChainBelow n Ls F u w → ChainBelow n Ls F w v → ChainBelow n Ls F u v
  chain_on c start = c
  chain_on c (along d k C m f s) = along (chain_on c d) k C m f s

  chain_more : {C : Column} {Ls : List Column} {u v : ℕ} → ChainBelow n Ls F u v → ChainBelow n (C ∷ Ls) F u v
  chain_more start = start
  chain_more (along c k D m f s) = along (chain_more c) k D (Memᴰ.tail m) f s

  chaining : (Ls : List Column) → On n Ls → (u v : ℕ) → u < n → v < n → Same (below Ls) u v → ChainBelow n Ls F u v
  unfolding join_of equality
  chaining [] on u v hu hv s = let q : u ≡ v = omega (arith, s, at_up n 1 u hu, at_up n 1 v hv) in subst (ChainBelow n [] F u) q start
  chaining (C ∷ Ls) on u v hu hv s =
      by_cases (finer n C F)
      (λ e. links ((finer_test n C F).0 e) (chaining Ls (on_tail on)) ((supremum_chain' n C (below Ls) (on C (Memᴰ.head refl)) (length_join n (finer_side n) (finer_laws n) F Ls (on_tail on)) u v hu hv).0 (rw (e, join_of) at s)))
      (λ e. chain_more (chaining Ls (on_tail on) u v hu hv (rw (e, join_of) at s)))
    where
      links : Finer n C F → ((x y : ℕ) → x < n → y < n → Same (below Ls) x y → ChainBelow n Ls F x y) → {w : ℕ} → Chain n C (below Ls) u w → ChainBelow n (C ∷ Ls) F u w
      links f rest begin = start
      links f rest (along_f c k t) = along (links f rest c) k C (Memᴰ.head refl) f t
      links f rest (along_g {w = x} {v = y} c k t) = chain_on (links f rest c) (chain_more (rest x y (chain_end hu c) k t))

  chained : (Ls : List Column) → On n Ls → {u v : ℕ} → u < n → ChainBelow n Ls F u v → Same (below Ls) u v
  chained Ls on h start = refl
  chained Ls on h (along {w} {v} c k C m f s) =
      chained Ls on h c ∙ (finer_test n C (below Ls)).0 (join_towards n (finer_side n) (finer_laws n) F Ls on C m ((finer_test n C F).1 f)) w v (chain_within h c) k s

-- ---- the columns listed

module _ (n : ℕ) (F : Column) where
  -- "only those with no strictly finer one among them (of equivalents the lowest)", in column order, none twice
  pub infimum_lists : (Cs : List Column) → Enumerates (ListedAbove n Cs F) (shown (coarser_side n) F Cs)
  infimum_lists Cs =
      enumerates_as _ (λ c. (λ w. record { less = w.0; above = w.1; none_finer = w.2; lowest = w.3 }, λ w. (w.less, w.above, w.none_finer, w.lowest)))
      (shown_lists n (coarser_side n) (coarser_laws n) F Cs (Finer n) (finer_test n))

  -- "only those with no strictly coarser one among them, of equivalents the first", in the columns' order, none twice
  pub supremum_lists : (Ls : List Column) → Enumerates (ListedBelow n Ls F) (shown (finer_side n) F Ls)
  supremum_lists Ls =
      enumerates_as _ (λ c. (λ w. record { less = w.0; below = w.1; none_coarser = w.2; first = w.3 }, λ w. (w.less, w.below, w.none_coarser, w.first)))
      (shown_lists n (finer_side n) (finer_laws n) F Ls (λ G H. Finer n H G) (λ G H. finer_test n H G))

-- ---- the rules

module _ (n : ℕ) (Cs Ls : List Column) (on : On n Cs) (on' : On n Ls) (place : ℕ) (F : Column) (l_f : length F ≡ n) (nF : number F ≡ F) where
  -- the fourth rule fits exactly that infimum
  pub infimum_fits : (alike (join_of (coarser_side n) F Cs) F ≡ true) ↔ IsInfimum n Cs F
  infimum_fits = join_fits n (coarser_side n) (coarser_laws n) F Cs on l_f nF (Agree n F Cs) (infimum_agrees n F Cs on)

  -- and the fifth exactly that supremum
  pub supremum_fits : (alike (join_of (finer_side n) F Ls) F ≡ true) ↔ IsSupremum n Ls F
  supremum_fits = join_fits n (finer_side n) (finer_laws n) F Ls on' l_f nF (ChainBelow n Ls F) (λ u v hu hv. (chaining n F Ls on' u v hu hv, chained n F Ls on' hu))

  -- equivalent columns are those whose numbering it is
  is_equivalent_lem : (i : ℕ) → i < length Cs → (number (get_or Cs i []) ≡ F) ↔ Equivalent n F (get_or Cs i [])
  is_equivalent_lem i h = (
    λ e. subst (λ (G : Column). Equivalent n G (get_or Cs i [])) e (number_equivalent (get_or Cs i []) (column_on i h)),
    λ e. sym (numbered_equal n F (get_or Cs i []) l_f (column_on i h) e) ∙ nF,
  )
    where
      column_on : (i : ℕ) → i < length Cs → length (get_or Cs i []) ≡ n
      column_on i h = on (get_or Cs i []) (member_at_lem Cs i h)

  -- the name given is one that fits
  pub name_rule : Rule n Cs Ls place F (name_of n Cs Ls place F)
  unfolding name_of name_by_column name_by_infimum name_by_supremum
  name_rule =
      by_cases (eqb (classes F) 1)
      (λ e. rw (e, name_of) (rule_U (eqb-true (classes F) 1 e)))
      (λ e. by_cases (eqb (classes F) n)
      (λ f. rw (e, f, name_of) (rule_E (eqb-false (classes F) 1 e) (eqb-true (classes F) n f)))
      (λ f. rw (e, f, name_of) (by_column (eqb-false (classes F) 1 e) (eqb-false (classes F) n f) (equivalent_column F 0 Cs) refl)))
    where
      by_column : (classes F ≡ 1 → ⊥) → (classes F ≡ n → ⊥) → (x : ℕ) → equivalent_column F 0 Cs ≡ x → Rule n Cs Ls place F (name_by_column n Cs Ls place F x)
      by_column a b (suc c) e = let w = lowest_is F Cs c e in rule_column a b c w.0 ((is_equivalent_lem c w.0).0 w.1) (λ j h q. w.2 j h ((is_equivalent_lem j (omega (arith, w.0))).1 q))
      by_column a b zero e =
          let none : NoneIs n Cs F = λ j h w. equivalent_none F 0 Cs e j h ((is_equivalent_lem j h).1 w) in
          by_cases (alike (join_of (coarser_side n) F Cs) F)
          (λ i. rw (i, name_by_infimum) (rule_infimum a b none (infimum_fits.0 i) (shown (coarser_side n) F Cs) (infimum_lists n F Cs)))
          (λ i. let unfit : IsInfimum n Cs F → ⊥ = λ w. clash (infimum_fits.1 w) i in
          by_cases (alike (join_of (finer_side n) F Ls) F)
          (λ j. rw (i, j, name_by_infimum, name_by_supremum) (rule_supremum a b none unfit (supremum_fits.0 j) (shown (finer_side n) F Ls) (supremum_lists n F Ls)))
          (λ j. rw (i, j, name_by_infimum, name_by_supremum) (rule_place a b none unfit (λ w. clash (supremum_fits.1 w) j))))

  -- no column is equivalent: the third rule does not fit
  past_columns : NoneIs n Cs F → equivalent_column F 0 Cs ≡ 0
  past_columns none = go (equivalent_column F 0 Cs) refl
    where
      go : (x : ℕ) → equivalent_column F 0 Cs ≡ x → equivalent_column F 0 Cs ≡ 0
      go zero e = e
      go (suc c) e = let w = lowest_is F Cs c e in absurd (none c w.0 ((is_equivalent_lem c w.0).0 w.1))

  -- nor does the fourth
  past_infimum : (IsInfimum n Cs F → ⊥) → alike (join_of (coarser_side n) F Cs) F ≡ false
  past_infimum i = bool_false (alike (join_of (coarser_side n) F Cs) F) (λ e. i (infimum_fits.0 e))

  -- a name that fits is the one given
  pub rule_name : (x : Name) → Rule n Cs Ls place F x → name_of n Cs Ls place F ≡ x
  unfolding name_of name_by_column name_by_infimum name_by_supremum
  rule_name x (rule_U e) = rw (eq-eqb (classes F) 1 e, name_of)
  rule_name x (rule_E a e) = rw (ne_eqb (classes F) 1 a, eq-eqb (classes F) n e, name_of)
  rule_name x (rule_column a b c l e lowest) = rw (ne_eqb (classes F) 1 a, ne_eqb (classes F) n b, name_of) (ap (name_by_column n Cs Ls place F) (go (equivalent_column F 0 Cs) refl))
    where
      go : (x : ℕ) → equivalent_column F 0 Cs ≡ x → equivalent_column F 0 Cs ≡ suc c
      go zero q = absurd (equivalent_none F 0 Cs q c l ((is_equivalent_lem c l).1 e))
      go (suc d) q =
          let w = lowest_is F Cs d q in
          by_cases (ltb c d)
          (λ f. absurd (w.2 c (ltb-true c d f) ((is_equivalent_lem c l).1 e)))
          (λ f. by_cases (ltb d c)
          (λ g. absurd (lowest d (ltb-true d c g) ((is_equivalent_lem d w.0).0 w.1)))
          (λ g. let k : suc d ≡ suc c = omega (arith, ltb-false c d f, ltb-false d c g) in q ∙ k))
  rule_name x (rule_infimum a b none i cs lists) =
      rw (ne_eqb (classes F) 1 a, ne_eqb (classes F) n b, past_columns none, name_of) (rw (infimum_fits.1 i, name_by_infimum) (ap name_infimum (enumerates_unique _ _ cs (infimum_lists n F Cs) lists)))
  rule_name x (rule_supremum a b none i s cs lists) =
      rw (ne_eqb (classes F) 1 a, ne_eqb (classes F) n b, past_columns none, name_of)
      (rw (past_infimum i, supremum_fits.1 s, name_by_infimum, name_by_supremum) (ap name_supremum (enumerates_unique _ _ cs (supremum_lists n F Ls) lists)))
  rule_name x (rule_place a b none i s) =
      rw (ne_eqb (classes F) 1 a, ne_eqb (classes F) n b, past_columns none, name_of)
      (rw (past_infimum i, bool_false (alike (join_of (finer_side n) F Ls) F) (λ e. s (supremum_fits.0 e)), name_by_infimum, name_by_supremum))

  -- each name is given exactly where its rule is the first that fits
  pub named_where : (x : Name) → (name_of n Cs Ls place F ≡ x) ↔ Rule n Cs Ls place F x
  named_where x = (λ e. subst (Rule n Cs Ls place F) e name_rule, rule_name x)

  -- ---- how many names

  infimum_is : IsInfimum n Cs F → join_of (coarser_side n) F Cs ≡ F
  infimum_is i = alike_sound (join_of (coarser_side n) F Cs) F (infimum_fits.1 i)

  supremum_is : IsSupremum n Ls F → join_of (finer_side n) F Ls ≡ F
  supremum_is i = alike_sound (join_of (finer_side n) F Ls) F (supremum_fits.1 i)

  -- `I(` has two or more: of none it would be U, and one would be equivalent
  pub infimum_names : 0 < n → (classes F ≡ 1 → ⊥) → NoneIs n Cs F → IsInfimum n Cs F → 2 ≤ length (shown (coarser_side n) F Cs)
  infimum_names some many none i = go (shown (coarser_side n) F Cs) refl
    where
      go : (cs : List ℕ) → shown (coarser_side n) F Cs ≡ cs → 2 ≤ length cs
      go [] e = absurd (many ((one_class n F l_f some).1 (none_listed n (coarser_side n) (coarser_laws n) F Cs on (infimum_is i) e)))
      go (c ∷ []) e = absurd (none c (listed_there n (coarser_side n) (coarser_laws n) F Cs c (rw e (Memᴰ.head refl))).0 (one_listed n (coarser_side n) (coarser_laws n) F Cs on (infimum_is i) c e))
      go (c ∷ d ∷ cs) e = omega arith

  -- `S(` has "at least one": of none it would be E
  pub supremum_names : (classes F ≡ n → ⊥) → IsSupremum n Ls F → 1 ≤ length (shown (finer_side n) F Ls)
  supremum_names fewer i = go (shown (finer_side n) F Ls) refl
    where
      go : (cs : List ℕ) → shown (finer_side n) F Ls ≡ cs → 1 ≤ length cs
      go [] e = absurd (fewer ((each_class n F l_f).1 (none_listed n (finer_side n) (finer_laws n) F Ls on' (supremum_is i) e)))
      go (c ∷ cs) e = omega arith

  -- where it has one only, the member is equivalent to that column: so this is a treatment member, and a plot column
  pub supremum_one : IsSupremum n Ls F → (c : ℕ) → shown (finer_side n) F Ls ≡ c ∷ [] → Equivalent n F (get_or Ls c [])
  supremum_one i c e = one_listed n (finer_side n) (finer_laws n) F Ls on' (supremum_is i) c e

-- ---- the name answered

module _ (kind : Kind) (text levels buffer : List ℕ) (n size place nameLength : ℕ) where
  abbrev Cs : List Column
  Cs = kind_columns kind text n levels

  abbrev Ls : List Column
  Ls = looked_at kind text n levels

  abbrev S : Family
  S = members_of n buffer size

  abbrev answered : NameAnswer
  answered = naming kind text levels buffer n size place nameLength

  abbrev within : Bool
  within = naming_within n size place (length levels) (length buffer) nameLength

  -- what question 6 tells
  record Limits : Type 0 where
    few : n ≤ 240
    some : 1 ≤ place
    most : place ≤ size
    table : 2880 ≤ length levels
    family : 7680 ≤ length buffer
    room : 160 ≤ nameLength

  limits : within ≡ true → Limits
  unfolding naming_within plots_within
  limits e =
      let w1 : Bool = ltb 0 n && leb n 240 in
      let w2 : Bool = w1 && ltb 0 place in
      let w3 : Bool = w2 && leb place size in
      let w4 : Bool = w3 && leb 2880 (length levels) in
      let w5 : Bool = w4 && leb 7680 (length buffer) in
      let e5 = and_left w5 (leb 160 nameLength) e in
      let e4 = and_left w4 (leb 7680 (length buffer)) e5 in
      let e3 = and_left w3 (leb 2880 (length levels)) e4 in
      let e2 = and_left w2 (leb place size) e3 in
      record {
        few = leb-true n 240 (and_right (ltb 0 n) (leb n 240) (and_left w1 (ltb 0 place) e2));
        some = ltb-true 0 place (and_right w1 (ltb 0 place) e2);
        most = leb-true place size (and_right w2 (leb place size) e3);
        table = leb-true 2880 (length levels) (and_right w3 (leb 2880 (length levels)) e4);
        family = leb-true 7680 (length buffer) (and_right w4 (leb 7680 (length buffer)) e5);
        room = leb-true 160 nameLength (and_right w5 (leb 160 nameLength) e);
      }

  -- the questions that an accepted call passed: "7 covers every column looked at"
  pub record Passed : Type 0 where
    pub by_2 : question2 text ≡ true
    pub by_3 : question3 text ≡ true
    pub by_6 : within ≡ true
    pub by_7 : all_nonzero Ls ≡ true
    pub by_15 : well_formed S ≡ true
    pub is : answered ≡ record { refusal = 0; name = name_at kind text n levels S place }

  pub passed : answered.refusal ≡ 0 → Passed
  unfolding naming naming_from7
  passed e =
      by_cases (question2 text)
      (λ a. by_cases (question3 text)
      (λ b. by_cases within
      (λ c. by_cases (all_nonzero Ls)
      (λ d. by_cases (well_formed S)
      (λ f. record { by_2 = a; by_3 = b; by_6 = c; by_7 = d; by_15 = f; is = rw (a, naming, b, c, d, f, naming_from7) })
      (λ f. absurd (suc-ne-zero 14 (sym (rw (a, naming, b, c, d, f, naming_from7)) ∙ e))))
      (λ d. absurd (suc-ne-zero 6 (sym (rw (a, naming, b, c, d, naming_from7)) ∙ e))))
      (λ c. absurd (suc-ne-zero 5 (sym (rw (a, naming, b, c)) ∙ e))))
      (λ b. absurd (suc-ne-zero 2 (sym (rw (a, naming, b)) ∙ e))))
      (λ a. absurd (suc-ne-zero 1 (sym (rw (a, naming)) ∙ e)))

  -- a name that is answered is that of the first rule that fits
  pub naming_rule : answered.refusal ≡ 0 → NamedByRule kind text levels buffer n size place nameLength
  unfolding name_at name_on members_of
  naming_rule e = record {
    fitting = name_of n Cs Ls place F;
    rule = name_rule n Cs Ls (kind_on kind text n levels p.by_3 l.few l.table) (looked_on text n levels kind p.by_3 l.few l.table) place F
        (members_on n buffer size 0 l.few (omega (arith, l.family, a.few, length_columns n buffer 0 size)) F there) (numbered_at S a.numbered (place - 1) less);
    bytes = ap (λ (x : NameAnswer). x.name) p.is;
  }
    where
      p : Passed
      p = passed e

      l : Limits
      l = limits p.by_6

      a : Accepted S
      a = accepted S p.by_15

      F : Column
      F = member_at S (place - 1)

      less : place - 1 < length S
      less = omega (arith, l.some, l.most, length_columns n buffer 0 size)

      there : F ∈ S
      there = member_at_lem S (place - 1) less
