-- Laws of a list of names, written name by name.
-- Assumes nothing.
use mathlib.Core.Path.{◌≡◌, refl, sym, ap, ap₂, ◌∙◌}
use mathlib.Core.Bool.{Bool, true, false}
use mathlib.Core.List.{List, [], ◌∷◌, ◌++◌, append-nil}
use Prim.Native.Nat.{ℕ, suc, ◌+◌, ◌-◌, ◌≤◌, ◌<◌}
use native.Mathlib.Nat.{sub-zero}
use native.Mathlib.Omega.{arith}
use lib.ListN.{length, get_or, take, drop, get_or-append}
use lib.Seq.{get_or-append-add, slice, take-add, drop_at, length-take-le}
use Rattle.rules.specs.Lists.{tabulate, passing_from}
use Rattle.rules.proofs.Lists.{length_tabulate, get_d_tabulate}
use Rattle.rules.specs.Names.{with_commas}
use Rattle.decimal.specs.Writing.{written, place_after}
use Rattle.decimal.proofs.Writing.{written_nil, place_nil, written_append}
use Rattle.naming.specs.declared.columns.Look.{Look}
use Rattle.naming.specs.Columns.{own_names, plot_name, look_names}
use Rattle.naming.specs.Listing.{separated, after_commas, listing}

-- ---- the numbers that pass, from i on

module _ (t : ℕ → Bool) (i count : ℕ) where
  pub passing_yes : i < count → t i ≡ true → passing_from t i (count - i) ≡ i ∷ passing_from t (i + 1) (count - (i + 1))
  unfolding passing_from
  passing_yes h e =
      let s : count - i ≡ suc (count - (i + 1)) = omega arith in
      let n : suc i ≡ i + 1 = omega arith in
      rw (s, passing_from, e, n)

  pub passing_no : i < count → t i ≡ false → passing_from t i (count - i) ≡ passing_from t (i + 1) (count - (i + 1))
  unfolding passing_from
  passing_no h e =
      let s : count - i ≡ suc (count - (i + 1)) = omega arith in
      let n : suc i ≡ i + 1 = omega arith in
      rw (s, passing_from, e, n)

  pub passing_end : count ≤ i → passing_from t i (count - i) ≡ []
  unfolding passing_from
  passing_end h =
      let s : count - i ≡ 0 = omega arith in
      rw s

-- ---- commas

pub commas_first : (names : List (List ℕ)) (c : ℕ) (cs : List ℕ) → with_commas names (c ∷ cs) ≡ get_or names c [] ++ after_commas names cs
unfolding with_commas after_commas
commas_first names c [] = sym (append-nil (get_or names c []))
commas_first names c (d ∷ cs) = ap (λ (l : List ℕ). get_or names c [] ++ 44 ∷ l) (commas_first names d cs)

pub listing_next : (first : Bool) (names : List (List ℕ)) (c : ℕ) (cs : List ℕ) → listing first names (c ∷ cs) ≡ separated first (get_or names c []) ++ listing false names cs
unfolding after_commas
listing_next true names c cs = commas_first names c cs
listing_next false names c cs = refl

pub listing_none : (first : Bool) (names : List (List ℕ)) → listing first names [] ≡ []
unfolding with_commas after_commas
listing_none true names = refl
listing_none false names = refl

-- ---- the names of the columns looked at

module _ (look : Look) (text : List ℕ) (c : ℕ) where
  -- a plot column before those of the kind
  pub name_before : c < look.before → plot_name text c ≡ get_or (look_names look text) c []
  unfolding look_names
  name_before h =
      sym (get_or-append (tabulate (plot_name text) look.before) (own_names look text) [] c (rw length_tabulate h)
      ∙ get_d_tabulate (plot_name text) look.before c [] h)

  -- one of the kind
  pub name_after : look.before ≤ c → get_or (own_names look text) (c - look.before) [] ≡ get_or (look_names look text) c []
  unfolding look_names
  name_after h =
      let l : length (tabulate (plot_name text) look.before) ≡ look.before = length_tabulate (plot_name text) look.before in
      let e : c ≡ length (tabulate (plot_name text) look.before) + (c - look.before) = omega arith in
      sym (ap (λ (k : ℕ). get_or (tabulate (plot_name text) look.before ++ own_names look text) k []) e ∙ get_or-append-add (tabulate (plot_name text) look.before) (own_names look text) (c - look.before) [])

-- ---- one text after another

module _ (out : List ℕ) (at : ℕ) (s t : List ℕ) (after : List ℕ) (place : ℕ) (e : after ≡ written out at s) (f : place ≡ place_after out at s) where
  pub then_place : place_after after place t ≡ place_after out at (s ++ t)
  then_place = ap₂ (λ (o : List ℕ) (p : ℕ). place_after o p t) e f ∙ (written_append out at s t).1

  pub then_bytes : written after place t ≡ written out at (s ++ t)
  then_bytes = ap₂ (λ (o : List ℕ) (p : ℕ). written o p t) e f ∙ (written_append out at s t).0

-- a part of a text, by its places
pub slice_part : (s e : ℕ) (l : List ℕ) → s ≤ e → e ≤ length l → take (e - s) (drop s l) ≡ slice s e l
slice_part s e l h k =
    let q : s + (e - s) ≡ e = omega arith in
    sym (
    ap (λ (i : ℕ). drop s (take i l)) (sym q)
    ∙ ap (λ (x : List ℕ). drop s x) (take-add s (e - s) l)
    ∙ drop_at (take s l) (take (e - s) (drop s l)) s (length-take-le s l (omega arith)))

-- ---- a turn of the list

-- what is still to be written gives all, W, from the start
pub record Lists (names : List (List ℕ)) (t : ℕ → Bool) (count : ℕ) (out₀ : List ℕ) (at : ℕ) (out : List ℕ) (end : ℕ) (first : Bool) (i : ℕ) : Type 0 where
  pub bytes : written out end (listing first names (passing_from t i (count - i))) ≡ written out₀ at (with_commas names (passing_from t 0 count))
  pub place : place_after out end (listing first names (passing_from t i (count - i))) ≡ place_after out₀ at (with_commas names (passing_from t 0 count))

module _ (names : List (List ℕ)) (t : ℕ → Bool) (count : ℕ) (out₀ : List ℕ) (at : ℕ) where
  pub lists_start : Lists names t count out₀ at out₀ at true 0
  lists_start = record {
    bytes = ap (λ (k : ℕ). written out₀ at (with_commas names (passing_from t 0 k))) (sub-zero count);
    place = ap (λ (k : ℕ). place_after out₀ at (with_commas names (passing_from t 0 k))) (sub-zero count);
  }

  module _ (out : List ℕ) (end : ℕ) (first : Bool) (i : ℕ) (is : Lists names t count out₀ at out end first i) where
    pub lists_past : i < count → t i ≡ false → Lists names t count out₀ at out end first (i + 1)
    lists_past h e = record {
      bytes = ap (λ (cs : List ℕ). written out end (listing first names cs)) (sym (passing_no t i count h e)) ∙ is.bytes;
      place = ap (λ (cs : List ℕ). place_after out end (listing first names cs)) (sym (passing_no t i count h e)) ∙ is.place;
    }

    pub lists_next : i < count → t i ≡ true
        → Lists names t count out₀ at (written out end (separated first (get_or names i []))) (place_after out end (separated first (get_or names i []))) false (i + 1)
    lists_next h e = record {
      bytes = (written_append out end name rest).0 ∙ ap (written out end) more ∙ is.bytes;
      place = (written_append out end name rest).1 ∙ ap (place_after out end) more ∙ is.place;
    }
      where
        name : List ℕ
        name = separated first (get_or names i [])

        rest : List ℕ
        rest = listing false names (passing_from t (i + 1) (count - (i + 1)))

        more : separated first (get_or names i []) ++ listing false names (passing_from t (i + 1) (count - (i + 1))) ≡ listing first names (passing_from t i (count - i))
        more = sym (ap (listing first names) (passing_yes t i count h e) ∙ listing_next first names i (passing_from t (i + 1) (count - (i + 1))))

    pub lists_end : count ≤ i → (out ≡ written out₀ at (with_commas names (passing_from t 0 count))) × (end ≡ place_after out₀ at (with_commas names (passing_from t 0 count)))
    lists_end h = (
      sym (ap (written out end) none ∙ written_nil out end) ∙ is.bytes,
      sym (ap (place_after out end) none ∙ place_nil out end) ∙ is.place,
    )
      where
        none : listing first names (passing_from t i (count - i)) ≡ []
        none = ap (listing first names) (passing_end t i count h) ∙ listing_none first names
