-- Laws of the bytes of names: what kind of name they are and what they name can be read off them.
-- Assumes nothing.
use mathlib.Core.Path.{◌≡◌, refl, sym, ap, ap₂, ◌∙◌, subst}
use mathlib.Core.Logic.{inl, inr, ⊎_elim}
use mathlib.Core.Bool.{Bool, true, false, not, ◌&&◌, ◌||◌}
use mathlib.Core.List.Memᴰ
use mathlib.Core.List.{List, [], ◌∷◌, ◌++◌, append_assoc}
use Prim.Native.Nat.{ℕ, zero, suc, ◌+◌, ◌≤◌, ◌<◌}
use native.Mathlib.Nat.{not-suc-le-zero, le_of_suc-le-suc}
use native.Mathlib.Omega.{arith}
use lib.Dec.{eqb, leb}
use lib.ListN.{length, get_or, drop, length-append}
use borrow.Author.Tests.{eqb-true, eqb-false, ne_eqb, leb-true, le-leb}
use Rattle.rules.specs.Family.{◌∈◌}
use Rattle.rules.specs.Lists.{decimal_of}
use Rattle.rules.specs.Sheet.{column_names, Field, all, within, letter, digit, letter_or_digit, is_name, is_column, is_kind, count_kind, same_bytes, new_name, names_differ, plot_mark, treatment_mark, decimal}
use Rattle.rules.specs.Names.{with_commas}
use Rattle.rules.specs.Naming.{Kind, plot, treatment, mark_of, kind_names, looked_names}
use Rattle.rules.proofs.Lists.{AppendAt, append_at}
use Rattle.rules.proofs.Numbering.{by_cases}
use Rattle.rules.proofs.Members.{clash}
use Rattle.rules.proofs.Sheet.{and_left, and_right, not_yes, same_self, decimal_back, column_plot, column_treatment}

-- ---- the form of a name

or_left : (a b : Bool) → a ≡ true → a || b ≡ true
or_left true b e = refl
or_left false b e = clash e refl

-- all its bytes are letters and digits
name_letters : (w : List ℕ) → is_name w ≡ true → all letter_or_digit w ≡ true
unfolding is_name all
name_letters [] e = refl
name_letters (x ∷ xs) e =
    let two = and_left (letter x && within 1 11 (length xs)) (all letter_or_digit xs) e in
    let first : letter_or_digit x ≡ true = or_left (letter x) (digit x) (and_left (letter x) (within 1 11 (length xs)) two) in
    rw first (and_right (letter x && within 1 11 (length xs)) (all letter_or_digit xs) e)

-- it has two bytes or more
name_long : (w : List ℕ) → is_name w ≡ true → 2 ≤ length w
unfolding is_name
name_long [] e = clash e refl
name_long (x ∷ xs) e =
    let two = and_left (letter x && within 1 11 (length xs)) (all letter_or_digit xs) e in
    let three = and_right (letter x) (within 1 11 (length xs)) two in
    omega (arith, leb-true 1 (length xs) (and_left (leb 1 (length xs)) (leb (length xs) 11) three))

column_name : (f : Field) → is_column f ≡ true → is_name (drop 2 f) ≡ true
unfolding is_column
column_name [] e = clash e refl
column_name (x ∷ []) e = clash e refl
column_name (x ∷ y ∷ name) e = and_right ((eqb x plot_mark || eqb x treatment_mark) && eqb y 58) (is_name name) e

-- ---- the names of a header's columns

module _ (kind : Kind) where
  -- as many as columns of the kind
  pub length_kind_names : (fs : List Field) → length (kind_names kind fs) ≡ count_kind (mark_of kind) fs
  unfolding column_names count_kind
  length_kind_names [] = refl
  length_kind_names (f ∷ fs) =
      by_cases (is_kind (mark_of kind) f) (λ e. rw (e, column_names, count_kind) (ap suc (length_kind_names fs))) (λ e. rw (e, column_names, count_kind) (length_kind_names fs))

  -- each has the form of a name
  pub kind_names_good : (fs : List Field) → all is_column fs ≡ true → (k : ℕ) → k < length (kind_names kind fs) → is_name (get_or (kind_names kind fs) k []) ≡ true
  unfolding all column_names
  kind_names_good [] a k h = absurd (not-suc-le-zero h)
  kind_names_good (f ∷ fs) a k h =
      by_cases (is_kind (mark_of kind) f)
      (λ e. rw (e, column_names) (here (λ j. kind_names_good fs (and_right (is_column f) (all is_column fs) a) j) k (rw (e, column_names) at h)))
      (λ e. rw (e, column_names) (kind_names_good fs (and_right (is_column f) (all is_column fs) a) k (rw (e, column_names) at h)))
    where
      here : ((j : ℕ) → j < length (kind_names kind fs) → is_name (get_or (kind_names kind fs) j []) ≡ true) → (j : ℕ) → j < suc (length (kind_names kind fs)) → is_name (get_or (drop 2 f ∷ kind_names kind fs) j []) ≡ true
      here rest zero l = column_name f (and_left (is_column f) (all is_column fs) a)
      here rest (suc j) l = rest j (le_of_suc-le-suc l)

  new_differs : (f : Field) (fs : List Field) → new_name f fs ≡ true → (k : ℕ) → k < length (kind_names kind fs) → drop 2 f ≡ get_or (kind_names kind fs) k [] → ⊥
  unfolding new_name column_names
  new_differs f [] e k h q = not-suc-le-zero h
  new_differs f (g ∷ fs) e k h q =
      by_cases (is_kind (mark_of kind) g)
      (λ c. here (λ j. new_differs f fs (and_right (not (same_bytes (drop 2 f) (drop 2 g))) (new_name f fs) e) j) k (rw (c, column_names) at h) (rw (c, column_names) at q))
      (λ c. new_differs f fs (and_right (not (same_bytes (drop 2 f) (drop 2 g))) (new_name f fs) e) k (rw (c, column_names) at h) (rw (c, column_names) at q))
    where
      here : ((j : ℕ) → j < length (kind_names kind fs) → drop 2 f ≡ get_or (kind_names kind fs) j [] → ⊥) → (j : ℕ) → j < suc (length (kind_names kind fs)) → drop 2 f ≡ get_or (drop 2 g ∷ kind_names kind fs) j [] → ⊥
      here rest zero l r = clash (subst (λ (w : List ℕ). same_bytes (drop 2 f) w ≡ true) r (same_self (drop 2 f))) (not_yes _ (and_left (not (same_bytes (drop 2 f) (drop 2 g))) (new_name f fs) e))
      here rest (suc j) l r = rest j (le_of_suc-le-suc l) r

  -- no two are equal
  pub kind_names_differ : (fs : List Field) → names_differ fs ≡ true → (j k : ℕ) → j < length (kind_names kind fs) → k < length (kind_names kind fs)
      → get_or (kind_names kind fs) j [] ≡ get_or (kind_names kind fs) k [] → j ≡ k
  unfolding names_differ column_names
  kind_names_differ [] e j k hj hk q = absurd (not-suc-le-zero hj)
  kind_names_differ (f ∷ fs) e j k hj hk q =
      by_cases (is_kind (mark_of kind) f)
      (λ c. here (λ a b. kind_names_differ fs (and_right (new_name f fs) (names_differ fs) e) a b) j k (rw (c, column_names) at hj) (rw (c, column_names) at hk) (rw (c, column_names) at q))
      (λ c. kind_names_differ fs (and_right (new_name f fs) (names_differ fs) e) j k (rw (c, column_names) at hj) (rw (c, column_names) at hk) (rw (c, column_names) at q))
    where
      new : new_name f fs ≡ true
      new = and_left (new_name f fs) (names_differ fs) e

      here : ((a b : ℕ) → a < length (kind_names kind fs) → b < length (kind_names kind fs) → get_or (kind_names kind fs) a [] ≡ get_or (kind_names kind fs) b [] → a ≡ b)
          → (a b : ℕ) → a < suc (length (kind_names kind fs)) → b < suc (length (kind_names kind fs)) → get_or (drop 2 f ∷ kind_names kind fs) a [] ≡ get_or (drop 2 f ∷ kind_names kind fs) b [] → a ≡ b
      here rest zero zero la lb r = refl
      here rest zero (suc b) la lb r = absurd (new_differs f fs new b (le_of_suc-le-suc lb) r)
      here rest (suc a) zero la lb r = absurd (new_differs f fs new a (le_of_suc-le-suc la) (sym r))
      here rest (suc a) (suc b) la lb r = ap suc (rest a b (le_of_suc-le-suc la) (le_of_suc-le-suc lb) r)

-- the name of a plot column is none of a treatment column
kinds_differ : (fs : List Field) → all is_column fs ≡ true → names_differ fs ≡ true → (j k : ℕ) → j < length (kind_names plot fs) → k < length (kind_names treatment fs)
    → get_or (kind_names plot fs) j [] ≡ get_or (kind_names treatment fs) k [] → ⊥
unfolding names_differ column_names all
kinds_differ [] a e j k hj hk q = not-suc-le-zero hj
kinds_differ (f ∷ fs) a e j k hj hk q =
    let g = and_left (is_column f) (all is_column fs) a in
    let rest = kinds_differ fs (and_right (is_column f) (all is_column fs) a) (and_right (new_name f fs) (names_differ fs) e) in
    by_cases (eqb (get_or f 0 0) 112)
    (λ b. let c = column_plot f g (eqb-true _ _ b) in
    of_plot rest j k (rw (c.0, column_names) at hj) (rw (c.1, column_names) at hk) (rw (c.0, c.1, column_names) at q))
    (λ b. let c = column_treatment f g (eqb-false _ _ b) in
    of_treatment rest j k (rw (c.0, column_names) at hj) (rw (c.1, column_names) at hk) (rw (c.0, c.1, column_names) at q))
  where
    new : new_name f fs ≡ true
    new = and_left (new_name f fs) (names_differ fs) e

    of_plot : ((j k : ℕ) → j < length (kind_names plot fs) → k < length (kind_names treatment fs) → get_or (kind_names plot fs) j [] ≡ get_or (kind_names treatment fs) k [] → ⊥)
        → (j k : ℕ) → j < suc (length (kind_names plot fs)) → k < length (kind_names treatment fs) → get_or (drop 2 f ∷ kind_names plot fs) j [] ≡ get_or (kind_names treatment fs) k [] → ⊥
    of_plot rest zero k hj hk q = new_differs treatment f fs new k hk q
    of_plot rest (suc j) k hj hk q = rest j k (le_of_suc-le-suc hj) hk q

    of_treatment : ((j k : ℕ) → j < length (kind_names plot fs) → k < length (kind_names treatment fs) → get_or (kind_names plot fs) j [] ≡ get_or (kind_names treatment fs) k [] → ⊥)
        → (j k : ℕ) → j < length (kind_names plot fs) → k < suc (length (kind_names treatment fs)) → get_or (kind_names plot fs) j [] ≡ get_or (drop 2 f ∷ kind_names treatment fs) k [] → ⊥
    of_treatment rest j zero hj hk q = new_differs plot f fs new j hj (sym q)
    of_treatment rest j (suc k) hj hk q = rest j k hj (le_of_suc-le-suc hk) q

-- ---- the names of the columns that a member looks at

-- what holds of the names of a list of columns
pub record GoodNames (names : List (List ℕ)) : Type 0 where
  pub good : (k : ℕ) → k < length names → is_name (get_or names k []) ≡ true
  pub differ : (j k : ℕ) → j < length names → k < length names → get_or names j [] ≡ get_or names k [] → j ≡ k

-- two such lists without a name in common
both_good : (xs ys : List (List ℕ)) → GoodNames xs → GoodNames ys → ((j k : ℕ) → j < length xs → k < length ys → get_or xs j [] ≡ get_or ys k [] → ⊥) → GoodNames (xs ++ ys)
both_good xs ys gx gy apart = record {
  good = λ k h. ⊎_elim (λ w. rw w.1 (gx.good k w.0)) (λ w. rw w.2 (gy.good w.0 (less k w.0 w.1 h))) (append_at [] xs ys k);
  differ = λ j k hj hk q. one j k hj hk q (append_at [] xs ys j) (append_at [] xs ys k);
}
  where
    less : (k i : ℕ) → k ≡ length xs + i → k < length (xs ++ ys) → i < length ys
    less k i e h = omega (arith, length-append xs ys)

    one : (j k : ℕ) → j < length (xs ++ ys) → k < length (xs ++ ys) → get_or (xs ++ ys) j [] ≡ get_or (xs ++ ys) k [] → AppendAt [] xs ys j → AppendAt [] xs ys k → j ≡ k
    one j k hj hk q (inl a) (inl b) = gx.differ j k a.0 b.0 (sym a.1 ∙ q ∙ b.1)
    one j k hj hk q (inl a) (inr b) = absurd (apart j b.0 a.0 (less k b.0 b.1 hk) (sym a.1 ∙ q ∙ b.2))
    one j k hj hk q (inr a) (inl b) = absurd (apart k a.0 b.0 (less j a.0 a.1 hj) (sym b.1 ∙ sym q ∙ a.2))
    one j k hj hk q (inr a) (inr b) = a.1 ∙ ap (λ (i : ℕ). length xs + i) (gy.differ a.0 b.0 (less j a.0 a.1 hj) (less k b.0 b.1 hk) (sym a.2 ∙ q ∙ b.2)) ∙ sym b.1

pub kind_good : (kind : Kind) (fs : List Field) → all is_column fs ≡ true → names_differ fs ≡ true → GoodNames (kind_names kind fs)
kind_good kind fs a e = record { good = kind_names_good kind fs a; differ = kind_names_differ kind fs e }

pub looked_good : (kind : Kind) (fs : List Field) → all is_column fs ≡ true → names_differ fs ≡ true → GoodNames (looked_names kind fs)
unfolding looked_names
looked_good plot fs a e = kind_good plot fs a e
looked_good treatment fs a e = both_good (kind_names plot fs) (kind_names treatment fs) (kind_good plot fs a e) (kind_good treatment fs a e) (kinds_differ fs a e)

-- ---- what kind of name it is

pub data Sort : Type 0 where
  sort_U : Sort
  sort_E : Sort
  sort_column : List ℕ → Sort
  sort_infimum : List ℕ → Sort
  sort_supremum : List ℕ → Sort
  sort_place : ℕ → Sort

-- `#` begins a place, `(` is the second byte of an infimum, which `I` begins, or of a supremum, and a column's name has two bytes or more
unfoldable pub sort_of : List ℕ → Sort
sort_of w = elim (eqb (get_or w 0 0) 35) [
  | true ↦ sort_place (decimal (drop 1 w))
  | false ↦ elim (eqb (get_or w 1 0) 40) [
    | true ↦ elim (eqb (get_or w 0 0) 73) [ true ↦ sort_infimum (drop 2 w) | false ↦ sort_supremum (drop 2 w) ]
    | false ↦ elim (leb 2 (length w)) [ true ↦ sort_column w | false ↦ elim (eqb (get_or w 0 0) 85) [ true ↦ sort_U | false ↦ sort_E ] ]
  ]
]

pub sort_of_U : sort_of (85 ∷ []) ≡ sort_U
unfolding sort_of
sort_of_U = refl

pub sort_of_E : sort_of (69 ∷ []) ≡ sort_E
unfolding sort_of
sort_of_E = refl

pub sort_of_infimum : (w : List ℕ) → sort_of (73 ∷ 40 ∷ w) ≡ sort_infimum w
unfolding sort_of
sort_of_infimum w = refl

pub sort_of_supremum : (w : List ℕ) → sort_of (83 ∷ 40 ∷ w) ≡ sort_supremum w
unfolding sort_of
sort_of_supremum w = refl

pub sort_of_place : (i : ℕ) → sort_of (35 ∷ decimal_of i) ≡ sort_place i
unfolding sort_of
sort_of_place i = ap sort_place (decimal_back i)

pub sort_of_column : (w : List ℕ) → is_name w ≡ true → sort_of w ≡ sort_column w
unfolding sort_of all
sort_of_column [] e = absurd (not-suc-le-zero (name_long [] e))
sort_of_column (x ∷ []) e = absurd (not-suc-le-zero (le_of_suc-le-suc (name_long (x ∷ []) e)))
sort_of_column (x ∷ y ∷ ys) e =
    let letters = name_letters (x ∷ y ∷ ys) e in
    rw (
      ne_eqb x 35 (λ z. clash (rw z at (and_left (letter_or_digit x) (all letter_or_digit (y ∷ ys)) letters)) refl),
      ne_eqb y 40 (λ z. clash (rw z at (and_left (letter_or_digit y) (all letter_or_digit ys) (and_right (letter_or_digit x) (all letter_or_digit (y ∷ ys)) letters))) refl),
      le-leb 2 (suc (suc (length ys))) (omega arith),
      sort_of,
    )

-- ---- names with commas

head_of : {x y : ℕ} {r s : List ℕ} → x ∷ r ≡ y ∷ s → x ≡ y
head_of e = cc

tail_of : {x y : ℕ} {r s : List ℕ} → x ∷ r ≡ y ∷ s → r ≡ s
tail_of e = cc

-- letters and digits, then a byte that is neither: the same bytes are parted at the same place
cut : (a b : List ℕ) (x y : ℕ) (r s : List ℕ) → all letter_or_digit a ≡ true → all letter_or_digit b ≡ true → letter_or_digit x ≡ false → letter_or_digit y ≡ false → a ++ x ∷ r ≡ b ++ y ∷ s
    → (a ≡ b) × (x ≡ y) × (r ≡ s)
unfolding all
cut [] [] x y r s ha hb hx hy e = (refl, head_of e, tail_of e)
cut [] (d ∷ b) x y r s ha hb hx hy e = clash (and_left (letter_or_digit d) (all letter_or_digit b) hb) (sym (ap (λ (z : ℕ). letter_or_digit z) (head_of e)) ∙ hx)
cut (c ∷ a) [] x y r s ha hb hx hy e = clash (and_left (letter_or_digit c) (all letter_or_digit a) ha) (ap (λ (z : ℕ). letter_or_digit z) (head_of e) ∙ hy)
cut (c ∷ a) (d ∷ b) x y r s ha hb hx hy e =
    let k = cut a b x y r s (and_right (letter_or_digit c) (all letter_or_digit a) ha) (and_right (letter_or_digit d) (all letter_or_digit b) hb) hx hy (tail_of e) in
    (ap₂ (λ (z : ℕ) (l : List ℕ). z ∷ l) (head_of e) k.0, k.1, k.2)

module _ (names : List (List ℕ)) (good : (k : ℕ) → k < length names → is_name (get_or names k []) ≡ true)
    (differ : (j k : ℕ) → j < length names → k < length names → get_or names j [] ≡ get_or names k [] → j ≡ k) where
  -- the bytes up to the closing `)`
  abbrev pub closed : List ℕ → List ℕ
  closed cs = with_commas names cs ++ 41 ∷ []

  abbrev Known : List ℕ → Type 0
  Known cs = (c : ℕ) → c ∈ cs → c < length names

  one_closed : (c : ℕ) → closed (c ∷ []) ≡ get_or names c [] ++ 41 ∷ []
  unfolding with_commas
  one_closed c = refl

  more_closed : (c d : ℕ) (cs : List ℕ) → closed (c ∷ d ∷ cs) ≡ get_or names c [] ++ 44 ∷ closed (d ∷ cs)
  unfolding with_commas
  more_closed c d cs = append_assoc (get_or names c []) (44 ∷ with_commas names (d ∷ cs)) (41 ∷ [])

  none_closed : closed [] ≡ 41 ∷ []
  unfolding with_commas
  none_closed = refl

  letters : (c : ℕ) → c < length names → all letter_or_digit (get_or names c []) ≡ true
  letters c h = name_letters (get_or names c []) (good c h)

  not_none : {A : Type 0} (c : ℕ) → c < length names → [] ≡ get_or names c [] → A
  not_none c h e = let l : 2 ≤ length (get_or names c []) = name_long (get_or names c []) (good c h) in
      absurd (not-suc-le-zero (subst (λ (w : List ℕ). 2 ≤ length w) (sym e) l))

  not_comma : {A : Type 0} → ◌≡◌ {A = ℕ} 41 44 → A
  not_comma e = let z : 1 ≤ 0 = omega arith in absurd (not-suc-le-zero z)

  -- equal bytes list equal columns
  pub commas_injective : (cs ds : List ℕ) → Known cs → Known ds → closed cs ≡ closed ds → cs ≡ ds
  unfolding all
  commas_injective [] [] hc hd e = refl
  commas_injective [] (d ∷ []) hc hd e =
      not_none d (hd d (Memᴰ.head refl)) (cut [] (get_or names d []) 41 41 [] [] refl (letters d (hd d (Memᴰ.head refl))) refl refl (sym none_closed ∙ e ∙ one_closed d)).0
  commas_injective [] (d ∷ b ∷ ds) hc hd e =
      not_none d (hd d (Memᴰ.head refl)) (cut [] (get_or names d []) 41 44 [] (closed (b ∷ ds)) refl (letters d (hd d (Memᴰ.head refl))) refl refl (sym none_closed ∙ e ∙ more_closed d b ds)).0
  commas_injective (c ∷ []) [] hc hd e =
      not_none c (hc c (Memᴰ.head refl)) (cut [] (get_or names c []) 41 41 [] [] refl (letters c (hc c (Memᴰ.head refl))) refl refl (sym none_closed ∙ sym e ∙ one_closed c)).0
  commas_injective (c ∷ a ∷ cs) [] hc hd e =
      not_none c (hc c (Memᴰ.head refl)) (cut [] (get_or names c []) 41 44 [] (closed (a ∷ cs)) refl (letters c (hc c (Memᴰ.head refl))) refl refl (sym none_closed ∙ sym e ∙ more_closed c a cs)).0
  commas_injective (c ∷ []) (d ∷ []) hc hd e =
      let lc = hc c (Memᴰ.head refl) in
      let ld = hd d (Memᴰ.head refl) in
      let k = cut (get_or names c []) (get_or names d []) 41 41 [] [] (letters c lc) (letters d ld) refl refl (sym (one_closed c) ∙ e ∙ one_closed d) in
      ap (λ (z : ℕ). z ∷ []) (differ c d lc ld k.0)
  commas_injective (c ∷ []) (d ∷ b ∷ ds) hc hd e =
      not_comma (cut (get_or names c []) (get_or names d []) 41 44 [] (closed (b ∷ ds)) (letters c (hc c (Memᴰ.head refl))) (letters d (hd d (Memᴰ.head refl))) refl refl (sym (one_closed c) ∙ e ∙ more_closed d b ds)).1
  commas_injective (c ∷ a ∷ cs) (d ∷ []) hc hd e =
      not_comma (cut (get_or names d []) (get_or names c []) 41 44 [] (closed (a ∷ cs)) (letters d (hd d (Memᴰ.head refl))) (letters c (hc c (Memᴰ.head refl))) refl refl (sym (one_closed d) ∙ sym e ∙ more_closed c a cs)).1
  commas_injective (c ∷ a ∷ cs) (d ∷ b ∷ ds) hc hd e =
      let lc = hc c (Memᴰ.head refl) in
      let ld = hd d (Memᴰ.head refl) in
      let k = cut (get_or names c []) (get_or names d []) 44 44 (closed (a ∷ cs)) (closed (b ∷ ds)) (letters c lc) (letters d ld) refl refl (sym (more_closed c a cs) ∙ e ∙ more_closed d b ds) in
      ap₂ (λ (z : ℕ) (l : List ℕ). z ∷ l) (differ c d lc ld k.0) (commas_injective (a ∷ cs) (b ∷ ds) (λ x m. hc x (Memᴰ.tail m)) (λ x m. hd x (Memᴰ.tail m)) k.2)
