-- Laws of the parts of a formula: what follows each of them.
-- Assumes nothing.
use mathlib.Core.Path.{◌≡◌, refl, sym, ap, ◌∙◌}
use mathlib.Core.Bool.{Bool, true, false, ◌&&◌, ◌||◌}
use mathlib.Core.List.{List, [], ◌∷◌}
use Prim.Native.Nat.{ℕ, suc, ◌+◌, ◌≤◌, ◌<◌}
use native.Mathlib.Numerals.{add-one}
use native.Mathlib.Omega.{arith}
use lib.Dec.{eqb}
use lib.ListN.{length, take, drop}
use borrow.Author.Tests.{eq-eqb, ne_eqb, eqb-true, eqb-false}
use Rattle.std.proofs.Common.{Some, None}
use Rattle.std.specs.List.{position, position_or_len}
use Rattle.std.specs.Option.{MatchOption}
use Rattle.std.proofs.lemmas.Grind.{common_steps}
use Rattle.rules.specs.Limits.{most_formula}
use Rattle.rules.specs.Sheet.{within, up_to, past, has, is_name}
use Rattle.rules.specs.Formula.{Operator, Formula, open_bracket, close_bracket, equals, operators, operator_of, is_count, Parsed, nothing, parsed, leading, named, closed, item_by, joined_to, more_by, formula_at}
use Rattle.rules.proofs.Numbering.{by_cases}
use Rattle.rules.proofs.Sheet.{and_false}
use Rattle.sheet.proofs.Stops.{past_drop}
use Rattle.sheet.proofs.FirstByte.{up_to_take, has_yes, has_no}
use Rattle.block_formula.specs.Text.{rest_of, allowed, to_end, readable}

-- ---- a name, `=` and a count

before_equals : (xs : List ℕ) → position_or_len (λ x. eqb x equals) xs ≡ length (up_to equals xs)
unfolding up_to
before_equals [] = refl
before_equals (x ∷ xs) = by_cases (eqb x equals) (λ e. rw (e, up_to)) (λ e. rw (e, up_to) (omega (arith, before_equals xs)))

module _ (text : List ℕ) where
  pub named_none : position (λ x. eqb x equals) text ≡ None → rest_of (named text) ≡ None
  unfolding named
  named_none e =
      let l : length text ≤ length (up_to equals text) = grind (arith, common_steps, before_equals text) in
      rw (has_no equals text l, named)

  module _ (p : ℕ) (e : position (λ x. eqb x equals) text ≡ Some p) where
    place_is : p ≡ length (up_to equals text)
    place_is = grind (arith, common_steps, before_equals text)

    pub place_inside : p < length text
    place_inside = grind (arith, common_steps)

    name_part : take p text ≡ up_to equals text
    name_part = ap (λ (m : ℕ). take m text) place_is ∙ up_to_take equals text

    pub after_place : drop (p + 1) text ≡ past equals text
    after_place = ap (λ (m : ℕ). drop m text) (ap (λ (m : ℕ). m + 1) place_is ∙ add-one (length (up_to equals text))) ∙ sym (past_drop equals text)

    pub named_unnamed : is_name (take p text) ≡ false → rest_of (named text) ≡ None
    unfolding named
    named_unnamed n = rw (sym (ap is_name name_part) ∙ n, and_false (has equals text), named)

    pub named_uncounted : is_count (leading (drop (p + 1) text)) ≡ false → rest_of (named text) ≡ None
    unfolding named
    named_uncounted z = rw (sym (ap (λ (r : List ℕ). is_count (leading r)) after_place) ∙ z, and_false (has equals text && is_name (up_to equals text)), named)

    pub named_ends : is_name (take p text) ≡ true → is_count (leading (drop (p + 1) text)) ≡ true
        → rest_of (named text) ≡ Some (drop (length (leading (drop (p + 1) text))) (drop (p + 1) text))
    unfolding named
    named_ends n c =
        rw (has_yes equals text (omega (arith, place_is, place_inside)), sym (ap is_name name_part) ∙ n, sym (ap (λ (r : List ℕ). is_count (leading r)) after_place) ∙ c, named)
        (ap (λ (r : List ℕ). Some (drop (length (leading r)) r)) (sym after_place))

-- ---- a formula in brackets

pub item_none : (formula : List ℕ → Parsed) (text : List ℕ) → length text ≡ 0 → rest_of (item_by formula text) ≡ None
unfolding item_by
item_none formula [] e = refl
item_none formula (x ∷ xs) e = absurd (omega arith)

module _ (formula : List ℕ → Parsed) (text : List ℕ) (x : ℕ) (xs : List ℕ) (parts : text ≡ x ∷ xs) where
  pub item_named : (x ≡ open_bracket → ⊥) → rest_of (item_by formula text) ≡ rest_of (named text)
  unfolding item_by
  item_named n = rw parts (rw (ne_eqb x open_bracket n, item_by))

  pub item_open : x ≡ open_bracket → rest_of (item_by formula text) ≡ rest_of (closed (formula xs))
  unfolding item_by
  item_open e = rw parts (rw (eq-eqb x open_bracket e, item_by))

pub closed_none : (q : Parsed) → rest_of q ≡ None → rest_of (closed q) ≡ None
unfolding closed
closed_none nothing e = refl
closed_none (parsed f rest) e = cc

pub closed_end : (q : Parsed) (rest : List ℕ) → rest_of q ≡ Some rest → length rest ≡ 0 → rest_of (closed q) ≡ None
unfolding closed
closed_end nothing rest e z = refl
closed_end (parsed f []) rest e z = refl
closed_end (parsed f (y ∷ ys)) [] e z = cc
closed_end (parsed f (y ∷ ys)) (x ∷ xs) e z = absurd (omega arith)

module _ (q : Parsed) (x : ℕ) (rest xs : List ℕ) (e : rest_of q ≡ Some rest) (parts : rest ≡ x ∷ xs) where
  closed_at : rest_of (closed q) ≡ elim (eqb x close_bracket) [ true ↦ Some xs | false ↦ None ]
  unfolding closed
  closed_at = go q (e ∙ ap Some parts)
    where
      go : (q : Parsed) → rest_of q ≡ Some (x ∷ xs) → rest_of (closed q) ≡ elim (eqb x close_bracket) [ true ↦ Some xs | false ↦ None ]
      go nothing e = cc
      go (parsed f []) e = cc
      go (parsed f (y ∷ ys)) e =
          let a : y ≡ x = cc in
          let b : ys ≡ xs = cc in
          rw (a, b) (by_cases (eqb x close_bracket) (λ c. rw (c, closed)) (λ c. rw (c, closed)))

  pub closed_yes : eqb x close_bracket ≡ true → rest_of (closed q) ≡ Some xs
  closed_yes y = closed_at ∙ rw y

  pub closed_other : eqb x close_bracket ≡ false → rest_of (closed q) ≡ None
  closed_other n = closed_at ∙ rw n

-- ---- items one after the other

eqb_sym : (x y : ℕ) → eqb x y ≡ eqb y x
eqb_sym x y = by_cases (eqb x y) (λ e. e ∙ sym (eq-eqb y x (sym (eqb-true x y e)))) (λ e. e ∙ sym (ne_eqb y x (λ z. eqb-false x y e (sym z))))

-- the operators that may follow
pub any_follows : (x : ℕ) → has x (allowed None) ≡ eqb x 47 || eqb x 42
unfolding has
any_follows x =
    by_cases (eqb 47 x)
    (λ e. rw (e, has, sym (eqb_sym 47 x) ∙ e))
    (λ e. rw (e, has, sym (eqb_sym 47 x) ∙ e) (by_cases (eqb 42 x) (λ f. rw (f, has, sym (eqb_sym 42 x) ∙ f)) (λ f. rw (f, has, sym (eqb_sym 42 x) ∙ f))))

pub one_follows : (x only : ℕ) → has x (allowed (Some only)) ≡ eqb x only
unfolding has
one_follows x only = by_cases (eqb only x) (λ e. rw (e, has, sym (eqb_sym only x) ∙ e)) (λ e. rw (e, has, sym (eqb_sym only x) ∙ e))

-- no formula is read in no step
pub no_steps : (os text : List ℕ) → rest_of (formula_at 0 os text) ≡ None
unfolding formula_at
no_steps os text = refl

module _ (text : List ℕ) (k : ℕ) (os : List ℕ) where
  abbrev first : Parsed
  first = item_by (formula_at k operators) text

  abbrev more : Parsed → Parsed
  more q = more_by (λ x xs. formula_at k (x ∷ []) xs) os q

  -- no item
  pub more_none : rest_of first ≡ None → rest_of (formula_at (suc k) os text) ≡ None
  unfolding formula_at more_by
  more_none e = go first e
    where
      go : (q : Parsed) → rest_of q ≡ None → rest_of (more q) ≡ None
      go nothing e = refl
      go (parsed f rest) e = cc

  -- an item at the text's end
  pub more_end : (rest : List ℕ) → rest_of first ≡ Some rest → length rest ≡ 0 → rest_of (formula_at (suc k) os text) ≡ Some rest
  unfolding formula_at more_by
  more_end rest e z = go first rest e z
    where
      go : (q : Parsed) (rest : List ℕ) → rest_of q ≡ Some rest → length rest ≡ 0 → rest_of (more q) ≡ Some rest
      go nothing rest e z = cc
      go (parsed f []) rest e z = e
      go (parsed f (y ∷ ys)) [] e z = cc
      go (parsed f (y ∷ ys)) (x ∷ xs) e z = absurd (omega arith)

  module _ (x : ℕ) (xs : List ℕ) (e : rest_of first ≡ Some (x ∷ xs)) where
    -- an item that no operator follows
    pub more_stop : has x os ≡ false → rest_of (formula_at (suc k) os text) ≡ Some (x ∷ xs)
    unfolding formula_at more_by
    more_stop n = go first e
      where
        go : (q : Parsed) → rest_of q ≡ Some (x ∷ xs) → rest_of (more q) ≡ Some (x ∷ xs)
        go nothing e = cc
        go (parsed f []) e = cc
        go (parsed f (y ∷ ys)) e =
            let a : y ≡ x = cc in
            let b : ys ≡ xs = cc in
            let m : has y os ≡ false = ap (λ (z : ℕ). has z os) a ∙ n in
            rw (m, more_by) (rw (a, b))

    -- an item that one follows
    pub more_on : has x os ≡ true → rest_of (formula_at (suc k) os text) ≡ rest_of (formula_at k (x ∷ []) xs)
    unfolding formula_at more_by joined_to
    more_on n = go first e
      where
        same : (o : Operator) (f : Formula) (q : Parsed) → rest_of (joined_to o f q) ≡ rest_of q
        same o f nothing = refl
        same o f (parsed g rest) = refl

        go : (q : Parsed) → rest_of q ≡ Some (x ∷ xs) → rest_of (more q) ≡ rest_of (formula_at k (x ∷ []) xs)
        go nothing e = cc
        go (parsed f []) e = cc
        go (parsed f (y ∷ ys)) e =
            let a : y ≡ x = cc in
            let b : ys ≡ xs = cc in
            let m : has y os ≡ true = ap (λ (z : ℕ). has z os) a ∙ n in
            rw (m, more_by) (rw (a, b) (same (operator_of x) f (formula_at k (x ∷ []) xs)))

-- ---- the whole text

-- a formula that ends with the text, one that does not, and none
module _ (text : List ℕ) where
  pub readable_long : within 1 most_formula (length text) ≡ false → readable text ≡ false
  unfolding readable
  readable_long e = rw e

  module _ (e : within 1 most_formula (length text) ≡ true) where
    readable_is : readable text ≡ to_end (formula_at (length text + 1) operators text)
    unfolding readable
    readable_is = rw (e, add-one)

    -- whether nothing follows the formula, if there is one
    pub readable_rest : (b : Bool) → MatchOption (rest_of (formula_at (length text + 1) operators text)) (b ≡ false) (λ rest. b ≡ eqb (length rest) 0) → readable text ≡ b
    readable_rest b h = readable_is ∙ go (formula_at (length text + 1) operators text) h
      where
        go : (q : Parsed) → MatchOption (rest_of q) (b ≡ false) (λ rest. b ≡ eqb (length rest) 0) → to_end q ≡ b
        go nothing h = sym h
        go (parsed f []) h = sym h
        go (parsed f (x ∷ xs)) h = sym (h ∙ ne_eqb (length (x ∷ xs)) 0 (λ z. omega arith))
