-- Laws of the grammar of formulas: a text is read as a formula exactly when it is written so, and as one only.
-- Assumes nothing.
use mathlib.Core.Path.{◌≡◌, refl, sym, ap, ◌∙◌, subst}
use mathlib.Core.Bool.{true, false, ◌&&◌}
use mathlib.Core.List.{List, [], ◌∷◌, ◌++◌, append_assoc, append-nil}
use Prim.Native.Nat.{ℕ, zero, suc, ◌≤◌}
use native.Mathlib.Nat.{not-suc-le-zero, le_refl}
use native.Mathlib.Omega.{arith}
use lib.Dec.{eqb, leb}
use lib.ListN.{length, drop, length-append}
use lib.Seq.{drop-append_seam}
use borrow.Author.Tests.{eqb-true, le-leb, leb-true}
use Rattle.rules.specs.Limits.{least_count, most_count}
use Rattle.rules.specs.Sheet.{within, all, has, up_to, past, letter, digit, letter_or_digit, is_name, names_differ, decimal, no_leading_zero}
use Rattle.rules.specs.Formula.{Formula, item, join, header_of, open_bracket, close_bracket, operators, equals, operator_of, is_count, Part, an_item, items, Written, by_name, by_brackets, by_item, by_operator, IsFormula, Parsed, nothing, parsed, leading, named, closed, item_by, joined_to, more_by, formula_at, whole, formula_of}
use Rattle.rules.proofs.Numbering.{by_cases}
use Rattle.rules.proofs.Members.{clash}
use Rattle.rules.proofs.Sheet.{and_left, and_right}
use Rattle.rules.proofs.SheetText.{has_part, up_to_part, past_part, name_free}
use Rattle.rules.proofs.SheetBack.{part_back}

-- ---- what is read is written

-- a text begins with a part, if it is read as one
pub data Begins (p : Part) (text : List ℕ) : Parsed → Type 0 where
  none : Begins p text nothing
  some : {f : Formula} {rest : List ℕ} (s : List ℕ) → text ≡ s ++ rest → Written p s f → Begins p text (parsed f rest)

-- the digits at the start, and the rest
split_leading : (xs : List ℕ) → xs ≡ leading xs ++ drop (length (leading xs)) xs
unfolding leading
split_leading [] = refl
split_leading (x ∷ xs) = by_cases (digit x) (λ e. rw (e, leading) (ap (λ (r : List ℕ). x ∷ r) (split_leading xs))) (λ e. rw (e, leading))

named_begins : (text : List ℕ) → Begins an_item text (named text)
unfolding named
named_begins text =
    by_cases (has equals text && is_name name && is_count ds)
    (λ e. rw (e, named) (some (name ++ equals ∷ ds) (parts e) (by_name name ds (and_right (has equals text) (is_name name) (and_left (has equals text && is_name name) (is_count ds) e)) (and_right (has equals text && is_name name) (is_count ds) e))))
    (λ e. rw (e, named) none)
  where
    name : List ℕ
    name = up_to equals text

    ds : List ℕ
    ds = leading (past equals text)

    parts : has equals text && is_name name && is_count ds ≡ true → text ≡ (name ++ equals ∷ ds) ++ drop (length ds) (past equals text)
    parts e =
        sym (part_back equals text (and_left (has equals text) (is_name name) (and_left (has equals text && is_name name) (is_count ds) e)))
        ∙ ap (λ (r : List ℕ). name ++ equals ∷ r) (split_leading (past equals text))
        ∙ sym (append_assoc name (equals ∷ ds) (drop (length ds) (past equals text)))

closed_begins : (xs : List ℕ) (p : Parsed) → Begins (items operators) xs p → Begins an_item (open_bracket ∷ xs) (closed p)
unfolding closed
closed_begins xs nothing b = none
closed_begins xs (parsed f []) b = none
closed_begins xs (parsed f (x ∷ rest)) (some s e w) =
    by_cases (eqb x close_bracket)
    (λ q. rw (q, closed) (some (open_bracket ∷ s ++ close_bracket ∷ []) (ap (λ (r : List ℕ). open_bracket ∷ r) (e ∙ ap (λ (y : ℕ). s ++ y ∷ rest) (eqb-true x close_bracket q) ∙ sym (append_assoc s (close_bracket ∷ []) rest))) (by_brackets w)))
    (λ q. rw (q, closed) none)

pub item_begins : (formula : List ℕ → Parsed) → ((xs : List ℕ) → Begins (items operators) xs (formula xs)) → (text : List ℕ) → Begins an_item text (item_by formula text)
unfolding item_by
item_begins formula h [] = none
item_begins formula h (x ∷ xs) =
    by_cases (eqb x open_bracket)
    (λ e. rw (e, item_by) (subst (λ (y : ℕ). Begins an_item (y ∷ xs) (closed (formula xs))) (sym (eqb-true x open_bracket e)) (closed_begins xs (formula xs) (h xs))))
    (λ e. rw (e, item_by) (named_begins (x ∷ xs)))

joined_begins : (os text : List ℕ) (x : ℕ) → has x os ≡ true → (s xs : List ℕ) (f : Formula) → text ≡ s ++ x ∷ xs → Written an_item s f → (p : Parsed) → Begins (items (x ∷ [])) xs p
    → Begins (items os) text (joined_to (operator_of x) f p)
unfolding joined_to
joined_begins os text x h s xs f e w nothing b = none
joined_begins os text x h s xs f e w (parsed g rest) (some t q v) =
    some (s ++ x ∷ t) (e ∙ ap (λ (r : List ℕ). s ++ x ∷ r) q ∙ sym (append_assoc s (x ∷ t) rest)) (by_operator h w v)

more_begins : (later : ℕ → List ℕ → Parsed) → ((x : ℕ) (xs : List ℕ) → Begins (items (x ∷ [])) xs (later x xs)) → (os text : List ℕ) (p : Parsed) → Begins an_item text p
    → Begins (items os) text (more_by later os p)
unfolding more_by
more_begins later h os text nothing b = none
more_begins later h os text (parsed f []) (some s e w) = some s e (by_item w)
more_begins later h os text (parsed f (x ∷ xs)) (some s e w) =
    by_cases (has x os)
    (λ q. rw (q, more_by) (joined_begins os text x q s xs f e w (later x xs) (h x xs)))
    (λ q. rw (q, more_by) (some s e (by_item w)))

pub formula_begins : (k : ℕ) (os text : List ℕ) → Begins (items os) text (formula_at k os text)
unfolding formula_at
formula_begins zero os text = none
formula_begins (suc k) os text =
    more_begins (λ x xs. formula_at k (x ∷ []) xs) (λ x xs. formula_begins k (x ∷ []) xs) os text (item_by (formula_at k operators) text)
    (item_begins (formula_at k operators) (formula_begins k operators) text)

-- ---- what is written is read

-- no digit comes next
pub data NoDigit : List ℕ → Type 0 where
  ends : NoDigit []
  before : {x : ℕ} {xs : List ℕ} → digit x ≡ false → NoDigit (x ∷ xs)

-- none of the operators os, and no digit
data Stops (os : List ℕ) : List ℕ → Type 0 where
  at_end : Stops os []
  at_byte : {x : ℕ} {xs : List ℕ} → has x os ≡ false → digit x ≡ false → Stops os (x ∷ xs)

stops_digit : {os rest : List ℕ} → Stops os rest → NoDigit rest
stops_digit at_end = ends
stops_digit (at_byte h d) = before d

-- the operators are no digits
abbrev NoDigits : List ℕ → Type 0
NoDigits os = (x : ℕ) → has x os ≡ true → digit x ≡ false

pub leading_all : (ds rest : List ℕ) → all digit ds ≡ true → NoDigit rest → leading (ds ++ rest) ≡ ds
unfolding leading all
leading_all [] rest a ends = refl
leading_all [] rest a (before d) = rw (d, leading)
leading_all (x ∷ ds) rest a n = rw (and_left (digit x) (all digit ds) a, leading) (ap (λ (r : List ℕ). x ∷ r) (leading_all ds rest (and_right (digit x) (all digit ds) a) n))

-- a name, `=` and a count
named_reads : (name ds rest : List ℕ) → is_name name ≡ true → is_count ds ≡ true → NoDigit rest → named (name ++ equals ∷ (ds ++ rest)) ≡ parsed (item name (decimal ds)) rest
unfolding named is_count
named_reads name ds rest n c d =
    rw (test, named) (rw (up_to_part equals name (ds ++ rest) free, past_part equals name (ds ++ rest) free, leading_all ds rest (digits c) d) (ap (parsed (item name (decimal ds))) (drop-append_seam ds rest)))
  where
    free : has equals name ≡ false
    free = name_free equals refl refl refl name n

    digits : is_count ds ≡ true → all digit ds ≡ true
    digits e = and_right (no_leading_zero ds) (all digit ds) (and_left (no_leading_zero ds && all digit ds) (within least_count most_count (decimal ds)) e)

    test : has equals (name ++ equals ∷ (ds ++ rest)) && is_name (up_to equals (name ++ equals ∷ (ds ++ rest))) && is_count (leading (past equals (name ++ equals ∷ (ds ++ rest)))) ≡ true
    test = rw (has_part equals name (ds ++ rest), up_to_part equals name (ds ++ rest) free, past_part equals name (ds ++ rest) free, leading_all ds rest (digits c) d, n, c)

-- a name begins with no bracket
item_name : (formula : List ℕ → Parsed) (name xs : List ℕ) → is_name name ≡ true → item_by formula (name ++ xs) ≡ named (name ++ xs)
unfolding item_by is_name
item_name formula [] xs n = clash n refl
item_name formula (x ∷ name) xs n =
    by_cases (eqb x open_bracket)
    (λ e. clash (and_left (letter x) (within 1 11 (length name)) (and_left (letter x && within 1 11 (length name)) (all letter_or_digit name) n)) (ap letter (eqb-true x open_bracket e)))
    (λ e. rw (e, item_by))

-- nothing follows the formula
more_stops : (later : ℕ → List ℕ → Parsed) (os : List ℕ) (f : Formula) (rest : List ℕ) → Stops os rest → more_by later os (parsed f rest) ≡ parsed f rest
unfolding more_by
more_stops later os f rest at_end = refl
more_stops later os f rest (at_byte h d) = rw (h, more_by)

-- an operator does
more_goes : (later : ℕ → List ℕ → Parsed) (os : List ℕ) (f : Formula) (x : ℕ) (xs : List ℕ) → has x os ≡ true → more_by later os (parsed f (x ∷ xs)) ≡ joined_to (operator_of x) f (later x xs)
unfolding more_by
more_goes later os f x xs h = rw (h, more_by)

-- of the operator x alone the same holds
one_digit : (os : List ℕ) (x : ℕ) → has x os ≡ true → NoDigits os → NoDigits (x ∷ [])
unfolding has
one_digit os x h n y e = by_cases (eqb x y) (λ q. rw (← eqb-true x y q) (n x h)) (λ q. clash e (rw (q, has)))

one_stops : (os : List ℕ) (x : ℕ) → has x os ≡ true → (rest : List ℕ) → Stops os rest → Stops (x ∷ []) rest
unfolding has
one_stops os x h rest at_end = at_end
one_stops os x h rest (at_byte {x = y} n d) = at_byte (by_cases {P = has y (x ∷ []) ≡ false} (eqb x y) (λ q. clash h (rw (eqb-true x y q) n)) (λ q. rw (q, has))) d

-- what is claimed of a part of k bytes at most, before a text that does not continue it
abbrev Claim : Part → List ℕ → Formula → Type 0
Claim an_item s f = (k : ℕ) (rest : List ℕ) → length s ≤ k → NoDigit rest → item_by (formula_at k operators) (s ++ rest) ≡ parsed f rest
Claim (items os) s f = (k : ℕ) (rest : List ℕ) → length s ≤ k → NoDigits os → Stops os rest → formula_at (suc k) os (s ++ rest) ≡ parsed f rest

claim_name : (name ds : List ℕ) → is_name name ≡ true → is_count ds ≡ true → Claim an_item (name ++ equals ∷ ds) (item name (decimal ds))
claim_name name ds n c k rest h d =
    ap (item_by (formula_at k operators)) (append_assoc name (equals ∷ ds) rest) ∙ item_name (formula_at k operators) name (equals ∷ (ds ++ rest)) n ∙ named_reads name ds rest n c d

operators_digits : NoDigits operators
unfolding has
operators_digits x h = by_cases (eqb 47 x) (λ e. rw (← eqb-true 47 x e)) (λ e. by_cases (eqb 42 x) (λ q. rw (← eqb-true 42 x q)) (λ q. clash h (rw (e, q, has))))

claim_brackets : (text : List ℕ) (f : Formula) → Claim (items operators) text f → Claim an_item (open_bracket ∷ text ++ close_bracket ∷ []) f
unfolding item_by closed has
claim_brackets text f c zero rest h d = absurd (not-suc-le-zero h)
claim_brackets text f c (suc k) rest h d =
    ap (λ (r : List ℕ). closed (formula_at (suc k) operators r)) (append_assoc text (close_bracket ∷ []) rest)
    ∙ ap closed (c k (close_bracket ∷ rest) (omega (arith, length-append text (close_bracket ∷ []))) operators_digits (at_byte refl refl))

claim_item : (os text : List ℕ) (f : Formula) → Claim an_item text f → Claim (items os) text f
unfolding formula_at
claim_item os text f c k rest h n s =
    ap (more_by (λ x xs. formula_at k (x ∷ []) xs) os) (c k rest h (stops_digit s)) ∙ more_stops (λ x xs. formula_at k (x ∷ []) xs) os f rest s

claim_operator : (os : List ℕ) (x : ℕ) (text later : List ℕ) (f g : Formula) → has x os ≡ true → Claim an_item text f → Claim (items (x ∷ [])) later g → Claim (items os) (text ++ x ∷ later) (join (operator_of x) f g)
unfolding formula_at joined_to
claim_operator os x text later f g q c e zero rest h n s = absurd (no (omega (arith, length-append text (x ∷ later))))
  where
    no : 1 ≤ 0 → ⊥
    no z = omega arith
claim_operator os x text later f g q c e (suc k) rest h n s =
    let l = length-append text (x ∷ later) in
    ap (λ (r : List ℕ). more_by (λ x xs. formula_at (suc k) (x ∷ []) xs) os (item_by (formula_at (suc k) operators) r)) (append_assoc text (x ∷ later) rest)
    ∙ ap (more_by (λ x xs. formula_at (suc k) (x ∷ []) xs) os) (c (suc k) (x ∷ later ++ rest) (omega arith) (before (n x q)))
    ∙ more_goes (λ x xs. formula_at (suc k) (x ∷ []) xs) os f x (later ++ rest) q
    ∙ ap (joined_to (operator_of x) f) (e k rest (omega arith) (one_digit os x q n) (one_stops os x q rest s))

written_reads : {p : Part} {s : List ℕ} {f : Formula} → Written p s f → Claim p s f
written_reads (by_name name ds n c) = claim_name name ds n c
written_reads (by_brackets {text} {f} w) = claim_brackets text f (written_reads w)
written_reads (by_item {os} {text} {f} w) = claim_item os text f (written_reads w)
written_reads (by_operator {os} {x} {text} {later} {f} {g} q w v) = claim_operator os x text later f g q (written_reads w) (written_reads v)

-- ---- the grammar and the reading

-- a text that is a formula is read as it
pub formula_reads : (text : List ℕ) (f : Formula) → IsFormula text f → formula_of text ≡ parsed f []
unfolding formula_of whole
formula_reads text f i =
    rw (le-leb 1 (length text) i.least, le-leb (length text) 256 i.most, formula_of)
    (ap (λ (r : List ℕ). whole (formula_at (suc (length text)) operators r)) (sym (append-nil text))
    ∙ ap whole (written_reads i.written (length text) [] (le_refl _) operators_digits at_end) ∙ rw (i.differ, whole))

-- and only such a text
pub formula_written : (text : List ℕ) (f : Formula) (rest : List ℕ) → formula_of text ≡ parsed f rest → (rest ≡ []) × IsFormula text f
unfolding formula_of whole
formula_written text f rest e =
    by_cases (within 1 256 (length text))
    (λ w. go w (formula_at (suc (length text)) operators text) (formula_begins (suc (length text)) operators text) (rw (w, formula_of) at e))
    (λ w. never (rw (w, formula_of) at e))
  where
    never : {P : Type 0} → nothing ≡ parsed f rest → P
    never z = let y : ◌≡◌ {A = ℕ} 0 1 = cc in absurd (no y)
      where
        no : ◌≡◌ {A = ℕ} 0 1 → ⊥
        no y = omega arith

    go : within 1 256 (length text) ≡ true → (p : Parsed) → Begins (items operators) text p → whole p ≡ parsed f rest → (rest ≡ []) × IsFormula text f
    go w nothing b z = never z
    go w (parsed g (x ∷ xs)) b z = never z
    go w (parsed g []) (some s q v) z =
        by_cases (names_differ (header_of g))
        (λ d. let y : parsed g [] ≡ parsed f rest = rw (d, whole) at z in
        let same : g ≡ f = cc in
        let done : rest ≡ [] = cc in (
          done,
          subst (IsFormula text) same (record {
            least = leb-true 1 (length text) (and_left (leb 1 (length text)) (leb (length text) 256) w);
            most = leb-true (length text) 256 (and_right (leb 1 (length text)) (leb (length text) 256) w);
            written = subst (λ (r : List ℕ). Written (items operators) r g) (sym (q ∙ append-nil s)) v;
            differ = d;
          }),
        ))
        (λ d. never (rw (d, whole) at z))

-- a text is one formula at most
pub formula_one : (text : List ℕ) (f g : Formula) → IsFormula text f → IsFormula text g → f ≡ g
formula_one text f g a b = let p = formula_reads text f a in let q = formula_reads text g b in cc
