-- Laws of nesting: the walks over a formula's bytes, byte by byte, and that they tell of the names what the formula tells.
-- Assumes nothing.
use mathlib.Core.Path.{◌≡◌, refl, sym, ap, ap₂, ◌∙◌}
use mathlib.Core.Bool.{Bool, true, false, ◌&&◌, ◌||◌}
use mathlib.Core.List.{List, [], ◌∷◌, ◌++◌, append_assoc, append-nil}
use Prim.Native.Nat.{ℕ, zero, suc, ◌+◌, ◌-◌, ◌≤◌, ◌<◌}
use native.Mathlib.Nat.{not-suc-le-zero, le_of_suc-le-suc}
use native.Mathlib.Numerals.{add-one, one-add}
use native.Mathlib.Omega.{arith}
use lib.Dec.{eqb, ltb}
use lib.ListN.{length, get_or, drop, replicate, length-append, length-replicate, get_or-replicate, replicate-append-replicate, drop_of_length-le, get_or-append}
use lib.Seq.{drop-cons, get_or-append-add}
use borrow.Author.Tests.{eq-eqb, ne_eqb, lt-ltb, ltb-true, ltb-false}
use Rattle.rules.specs.Limits.{most_columns}
use Rattle.rules.specs.Lists.{tabulate}
use Rattle.rules.specs.Sheet.{all, past, letter_or_digit}
use Rattle.rules.specs.Parents.{slash}
use Rattle.rules.specs.Formula.{Operator, Formula, item, join, names_of, nests, nested_in, seen, equals, open_bracket, close_bracket, star, operators, operator_of, Part, items, Written, by_name, by_brackets, by_item, by_operator}
use Rattle.rules.proofs.Lists.{get_d_tabulate, tabulate_get_d}
use Rattle.rules.proofs.Places.{tabulate_ext}
use Rattle.rules.proofs.Numbering.{by_cases}
use Rattle.rules.proofs.Members.{clash}
use Rattle.rules.proofs.Sheet.{and_left, and_right}
use Rattle.rules.proofs.SheetText.{name_free, past_part}
use Rattle.rules.proofs.Formula.{nested_before}
use Rattle.block_formula.proofs.PartLaws.{Each, of_none, of_one, of_both, Joins, operator_equals, apart, name_plain, count_plain}
use Rattle.block_formula.specs.Text.{after_name, depth_after, nests_after, later_nested, nested_text, sees, seen_text}

-- ---- the state after a byte

module _ (h x : ℕ) where
  pub depth_opens : eqb x open_bracket ≡ true → depth_after h x ≡ suc h
  depth_opens e = rw (e, depth_after)

  pub depth_closes : eqb x open_bracket ≡ false → eqb x close_bracket ≡ true → depth_after h x ≡ h - 1
  depth_closes e g = rw (e, g, depth_after)

  pub depth_stays : eqb x open_bracket ≡ false → eqb x close_bracket ≡ false → depth_after h x ≡ h
  depth_stays e g = rw (e, g, depth_after)

  -- at most one bracket more
  pub depth_grows : depth_after h x ≤ suc h
  depth_grows =
      by_cases (eqb x open_bracket)
      (λ e. omega (arith, depth_opens e))
      (λ e. by_cases (eqb x close_bracket) (λ g. omega (arith, depth_closes e g)) (λ g. omega (arith, depth_stays e g)))

  module _ (b : Bool) where
    pub nests_inside : eqb h 0 ≡ false → nests_after h b x ≡ b
    nests_inside e = rw (e, nests_after)

    pub nests_stays : eqb h 0 ≡ true → eqb x slash ≡ false → eqb x star ≡ false → nests_after h b x ≡ b
    nests_stays e g k = rw (e, g, k, nests_after)

    -- only an operator changes it
    nests_other : eqb x slash ≡ false → eqb x star ≡ false → nests_after h b x ≡ b
    nests_other g k = by_cases (eqb h 0) (λ e. nests_stays e g k) nests_inside

-- in brackets nothing does
nests_deeper : (h x : ℕ) (b : Bool) → nests_after (suc h) b x ≡ b
nests_deeper h x b = nests_inside (suc h) x b (ne_eqb (suc h) 0 (λ z. omega arith))

-- ---- a byte more

-- in nothing there is no name
after_none : (j : ℕ) → after_name j [] ≡ []
unfolding after_name past
after_none zero = refl
after_none (suc j) = after_none j

-- a byte that is no `=` is passed over on the way to a name
after_skip : (j x : ℕ) (xs : List ℕ) → eqb x equals ≡ false → after_name j (x ∷ xs) ≡ after_name j xs
unfolding after_name past
after_skip zero x xs e = rw (e, past)
after_skip (suc j) x xs e = rw (e, past)

-- and changes the state on the way from one
later_skip : (h : ℕ) (b : Bool) (x : ℕ) (xs : List ℕ) → eqb x equals ≡ false → later_nested h b (x ∷ xs) ≡ later_nested (depth_after h x) (nests_after h b x) xs
unfolding later_nested
later_skip h b x xs e = rw (e, later_nested)

module _ (xs : List ℕ) (i : ℕ) where
  -- the `=` looked for
  pub name_here : i < length xs → get_or xs i 0 ≡ equals → after_name 0 (drop i xs) ≡ drop (i + 1) xs
  unfolding after_name past
  name_here h e = rw (add-one, drop-cons xs i 0 h, eq-eqb (get_or xs i 0) equals e, past)

  -- the `=` of an earlier name
  pub name_next : (j : ℕ) → i < length xs → get_or xs i 0 ≡ equals → after_name (suc j) (drop i xs) ≡ after_name j (drop (i + 1) xs)
  unfolding after_name past
  name_next j h e = rw (add-one, drop-cons xs i 0 h, eq-eqb (get_or xs i 0) equals e, past)

  -- another byte
  pub name_on_lem : (j : ℕ) → i < length xs → (get_or xs i 0 ≡ equals → ⊥) → after_name j (drop i xs) ≡ after_name j (drop (i + 1) xs)
  name_on_lem j h e = rw (add-one, drop-cons xs i 0 h) (after_skip j (get_or xs i 0) (drop (suc i) xs) (ne_eqb (get_or xs i 0) equals e))

  -- the end
  pub name_end : (j : ℕ) → length xs ≤ i → after_name j (drop i xs) ≡ []
  name_end j h = rw (drop_of_length-le xs h) (after_none j)

  -- the same of the walk on from a name
  module _ (h : ℕ) (b : Bool) where
    pub later_name : i < length xs → get_or xs i 0 ≡ equals → later_nested h b (drop i xs) ≡ b ∷ later_nested h b (drop (i + 1) xs)
    unfolding later_nested
    later_name l e = rw (add-one, drop-cons xs i 0 l, eq-eqb (get_or xs i 0) equals e, later_nested)

    pub later_on : i < length xs → (get_or xs i 0 ≡ equals → ⊥) → later_nested h b (drop i xs) ≡ later_nested (depth_after h (get_or xs i 0)) (nests_after h b (get_or xs i 0)) (drop (i + 1) xs)
    later_on l e = rw (add-one, drop-cons xs i 0 l) (later_skip h b (get_or xs i 0) (drop (suc i) xs) (ne_eqb (get_or xs i 0) equals e))

    pub later_end : length xs ≤ i → later_nested h b (drop i xs) ≡ []
    unfolding later_nested
    later_end l = rw (drop_of_length-le xs l)

-- ---- an array of marks

module _ (text : List ℕ) (i : ℕ) where
  -- one that stands before it
  pub sees_nested : (j : ℕ) → (i ≡ j → ⊥) → j < i → sees text i j ≡ get_or (later_nested 0 false (after_name j text)) (i - j - 1) false
  unfolding nested_text
  sees_nested j n l =
      let k : i - j - 1 ≡ i - suc j = omega arith in
      rw (ne_eqb i j n, lt-ltb j i l, k)

  -- an array of the marks of all names is what name i sees
  pub seen_all : (marks : List Bool) → length marks ≡ most_columns → ((k : ℕ) → k < most_columns → get_or marks k false ≡ sees text i k) → marks ≡ seen_text text i
  unfolding seen_text
  seen_all marks long same =
      sym (tabulate_get_d false marks) ∙ ap (tabulate (λ k. get_or marks k false)) long
      ∙ tabulate_ext (λ k. get_or marks k false) (λ k. sees text i k) most_columns same

-- ---- operators

-- the byte leaves the state as it is
abbrev Keeps : ℕ → Bool → ℕ → Type 0
Keeps h b x = (xs : List ℕ) → later_nested h b (x ∷ xs) ≡ later_nested h b xs

-- an operator in brackets is passed over
inside_keeps : (h : ℕ) (b : Bool) → Each (Keeps (suc h) b) (items operators)
unfolding later_nested
inside_keeps h b =
    of_both (Keeps (suc h) b)
    (λ xs. ap (λ (d : Bool). later_nested (suc h) d xs) (nests_deeper h slash b))
    (λ xs. ap (λ (d : Bool). later_nested (suc h) d xs) (nests_deeper h star b))

-- one outside of brackets decides
operator_turns : (x : ℕ) → Joins x → (b : Bool) (xs : List ℕ) → later_nested 0 b (x ∷ xs) ≡ later_nested 0 (nests (operator_of x)) xs
unfolding later_nested
operator_turns = of_both (λ x. (b : Bool) (xs : List ℕ) → later_nested 0 b (x ∷ xs) ≡ later_nested 0 (nests (operator_of x)) xs) (λ b xs. refl) (λ b xs. refl)

-- ---- letters and digits

-- letters and digits are passed over on the way from a name
later_plain : (h : ℕ) (b : Bool) (ys rest : List ℕ) → all letter_or_digit ys ≡ true → later_nested h b (ys ++ rest) ≡ later_nested h b rest
unfolding all
later_plain h b [] rest a = refl
later_plain h b (y ∷ ys) rest a =
    let e = and_left (letter_or_digit y) (all letter_or_digit ys) a in
    later_skip h b y (ys ++ rest) (apart y equals e refl)
    ∙ ap₂ (λ (k : ℕ) (d : Bool). later_nested k d (ys ++ rest)) (depth_stays h y (apart y open_bracket e refl) (apart y close_bracket e refl))
    (nests_other h y b (apart y slash e refl) (apart y star e refl))
    ∙ later_plain h b ys rest (and_right (letter_or_digit y) (all letter_or_digit ys) a)

-- and on the way to one
after_plain : (j : ℕ) (ys rest : List ℕ) → all letter_or_digit ys ≡ true → after_name j (ys ++ rest) ≡ after_name j rest
unfolding all
after_plain j [] rest a = refl
after_plain j (y ∷ ys) rest a =
    after_skip j y (ys ++ rest) (apart y equals (and_left (letter_or_digit y) (all letter_or_digit ys) a) refl)
    ∙ after_plain j ys rest (and_right (letter_or_digit y) (all letter_or_digit ys) a)

-- ---- passing over a part

-- a bracket is one more
bracket_opens : (h : ℕ) (b : Bool) (xs : List ℕ) → later_nested h b (open_bracket ∷ xs) ≡ later_nested (suc h) b xs
unfolding later_nested
bracket_opens h b xs = ap (λ (d : Bool). later_nested (suc h) d xs) (nests_other h open_bracket b refl refl)

-- until it closes
bracket_closes : (h : ℕ) (b : Bool) (xs : List ℕ) → later_nested (suc h) b (close_bracket ∷ xs) ≡ later_nested h b xs
unfolding later_nested
bracket_closes h b xs = let e : suc h - 1 ≡ h = omega arith in ap₂ (λ (k : ℕ) (d : Bool). later_nested k d xs) e (nests_deeper h close_bracket b)

-- where no operator of a part changes the state, its names are nested all alike
passed_over : {p : Part} {s : List ℕ} {f : Formula} → Written p s f → (h : ℕ) (b : Bool) → Each (Keeps h b) p → (rest : List ℕ)
    → later_nested h b (s ++ rest) ≡ replicate (length (names_of f)) b ++ later_nested h b rest
unfolding names_of later_nested
passed_over (by_name name ds n c) h b k rest =
    ap (later_nested h b) (append_assoc name (equals ∷ ds) rest)
    ∙ later_plain h b name (equals ∷ ds ++ rest) (name_plain name n)
    ∙ ap (λ (r : List Bool). b ∷ r) (later_plain h b ds rest (count_plain ds c))
passed_over (by_brackets {text} {f} w) h b k rest =
    ap (λ (r : List ℕ). later_nested h b (open_bracket ∷ r)) (append_assoc text (close_bracket ∷ []) rest)
    ∙ bracket_opens h b (text ++ close_bracket ∷ rest)
    ∙ passed_over w (suc h) b (inside_keeps h b) (close_bracket ∷ rest)
    ∙ ap (λ (r : List Bool). replicate (length (names_of f)) b ++ r) (bracket_closes h b rest)
passed_over (by_item w) h b k rest = passed_over w h b (of_none (Keeps h b)) rest
passed_over (by_operator {x = x} {text = text} {later = later} {f = f} {g = g} q w v) h b k rest =
    let m = length (names_of f) in
    let n = length (names_of g) in
    ap (later_nested h b) (append_assoc text (x ∷ later) rest)
    ∙ passed_over w h b (of_none (Keeps h b)) (x ∷ later ++ rest)
    ∙ ap (λ (r : List Bool). replicate m b ++ r) (k x q (later ++ rest) ∙ passed_over v h b (of_one (Keeps h b) x (k x q)) rest)
    ∙ sym (append_assoc (replicate m b) (replicate n b) (later_nested h b rest))
    ∙ ap (λ (r : List Bool). r ++ later_nested h b rest) (replicate-append-replicate m n b ∙ ap (λ (l : ℕ). replicate l b) (sym (length-append (names_of f) (names_of g))))

-- the way to a later name leads past all names of a part
names_passed : {p : Part} {s : List ℕ} {f : Formula} → Written p s f → Each Joins p → (j : ℕ) (rest : List ℕ)
    → after_name (length (names_of f) + j) (s ++ rest) ≡ after_name j rest
unfolding names_of after_name
names_passed (by_name name ds n c) k j rest =
    rw one-add
    (ap (after_name (suc j)) (append_assoc name (equals ∷ ds) rest)
    ∙ ap (after_name j) (past_part equals name (ds ++ rest) (name_free equals refl refl refl name n))
    ∙ after_plain j ds rest (count_plain ds c))
names_passed (by_brackets {text} {f} w) k j rest =
    let i = length (names_of f) + j in
    ap (λ (r : List ℕ). after_name i (open_bracket ∷ r)) (append_assoc text (close_bracket ∷ []) rest)
    ∙ after_skip i open_bracket (text ++ close_bracket ∷ rest) refl
    ∙ names_passed w (λ x q. q) j (close_bracket ∷ rest)
    ∙ after_skip j close_bracket rest refl
names_passed (by_item w) k j rest = names_passed w (of_none Joins) j rest
names_passed (by_operator {x = x} {text = text} {later = later} {f = f} {g = g} q w v) k j rest =
    let e : length (names_of f ++ names_of g) + j ≡ length (names_of f) + (length (names_of g) + j) = omega (arith, length-append (names_of f) (names_of g)) in
    let i = length (names_of g) + j in
    ap₂ after_name e (append_assoc text (x ∷ later) rest)
    ∙ names_passed w (of_none Joins) i (x ∷ later ++ rest)
    ∙ after_skip i x (later ++ rest) (operator_equals x (k x q))
    ∙ names_passed v (of_one Joins x (k x q)) j rest

-- ---- the walk from a name on

-- of each name after name j whether it is nested in it
unfoldable later_in : Formula → ℕ → List Bool
unfolding names_of
later_in (item name c) j = []
later_in (join o a b) j = elim (ltb j (length (names_of a))) [
  | true ↦ later_in a j ++ replicate (length (names_of b)) (nests o)
  | false ↦ later_in b (j - length (names_of a))
]

-- name j stands in the left formula, or in the right one
module _ (o : Operator) (a b : Formula) (j : ℕ) where
  later_left : ltb j (length (names_of a)) ≡ true → later_in (join o a b) j ≡ later_in a j ++ replicate (length (names_of b)) (nests o)
  unfolding later_in
  later_left e = rw (e, later_in)

  later_right : ltb j (length (names_of a)) ≡ false → later_in (join o a b) j ≡ later_in b (j - length (names_of a))
  unfolding later_in
  later_right e = rw (e, later_in)

-- these are all names after name j
length_later : (f : Formula) (j : ℕ) → j < length (names_of f) → length (later_in f j) ≡ length (names_of f) - suc j
unfolding names_of later_in
length_later (item name c) j h = omega arith
length_later (join o a b) j h =
    let m = length (names_of a) in
    let n = length (names_of b) in
    let s = length-append (names_of a) (names_of b) in
    by_cases (ltb j m)
    (λ e. let l = ltb-true j m e in
    rw (later_left o a b j e) (omega (arith, length-append (later_in a j) (replicate n (nests o)), length-replicate n (nests o), length_later a j l)))
    (λ e. let l = ltb-false j m e in
    rw (later_right o a b j e) (omega (arith, length_later b (j - m) (omega arith))))

-- in their order
get_d_later : (f : Formula) (i j : ℕ) → j < i → i < length (names_of f) → get_or (later_in f j) (i - suc j) false ≡ nested_in f i j
unfolding names_of later_in nested_in
get_d_later (item name c) i j h k = refl
get_d_later (join o a b) i j h k =
    let m = length (names_of a) in
    let n = length (names_of b) in
    let s = length-append (names_of a) (names_of b) in
    by_cases (ltb i m)
    (λ e. let l = ltb-true i m e in
    let g : j < m = omega arith in
    let w : i - suc j < length (later_in a j) = omega (arith, length_later a j g) in
    rw (e, lt-ltb j m g, later_in, nested_in) (get_or-append (later_in a j) (replicate n (nests o)) false (i - suc j) w ∙ get_d_later a i j h l))
    (λ e. let l = ltb-false i m e in
    by_cases (ltb j m)
    (λ g. let d = ltb-true j m g in
    let w : i - suc j ≡ length (later_in a j) + (i - m) = omega (arith, length_later a j d) in
    let r : i - m < n = omega arith in
    rw (e, g, later_in, nested_in, w) (get_or-append-add (later_in a j) (replicate n (nests o)) (i - m) false ∙ get_or-replicate n (i - m) (nests o) false r))
    (λ g. let d = ltb-false j m g in
    let w : i - suc j ≡ i - m - suc (j - m) = omega arith in
    rw (e, g, later_in, nested_in, w) (get_d_later b (i - m) (j - m) (omega arith) (omega arith))))

-- from a name of a part on: the later names of the part, and what follows it in some state
walked : {p : Part} {s : List ℕ} {f : Formula} → Written p s f → Each Joins p → (j : ℕ) → j < length (names_of f) → (b : Bool) (rest : List ℕ)
    → (d : Bool) × (later_nested 0 b (after_name j (s ++ rest)) ≡ later_in f j ++ later_nested 0 d rest)
unfolding names_of later_in after_name later_nested
walked (by_name name ds n c) k zero h b rest = (
  b,
  ap (λ (r : List ℕ). later_nested 0 b (past equals r)) (append_assoc name (equals ∷ ds) rest)
      ∙ ap (later_nested 0 b) (past_part equals name (ds ++ rest) (name_free equals refl refl refl name n))
      ∙ later_plain 0 b ds rest (count_plain ds c),
)
walked (by_name name ds n c) k (suc j) h b rest = absurd (not-suc-le-zero (le_of_suc-le-suc h))
walked (by_brackets {text} w) k j h b rest =
    let t = walked w (λ x q. q) j h b (close_bracket ∷ rest) in (
      t.0,
      ap (λ (r : List ℕ). later_nested 0 b (after_name j (open_bracket ∷ r))) (append_assoc text (close_bracket ∷ []) rest)
          ∙ ap (later_nested 0 b) (after_skip j open_bracket (text ++ close_bracket ∷ rest) refl) ∙ t.1,
    )
walked (by_item w) k j h b rest = walked w (of_none Joins) j h b rest
walked (by_operator {x = x} {text = text} {later = later} {f = f} {g = g} q w v) k j h b rest =
    by_cases (ltb j m)
    (λ e. let l = ltb-true j m e in
    let t = walked w (of_none Joins) j l b (x ∷ later ++ rest) in (
      d,
      ap (λ (r : List ℕ). later_nested 0 b (after_name j r)) (append_assoc text (x ∷ later) rest)
          ∙ t.1
          ∙ ap (λ (r : List Bool). later_in f j ++ r) (operator_turns x (k x q) t.0 (later ++ rest) ∙ passed_over v 0 d (of_one (Keeps 0 d) x (operator_turns x (k x q) d)) rest)
          ∙ sym (append_assoc (later_in f j) (replicate n d) (later_nested 0 d rest))
          ∙ ap (λ (r : List Bool). r ++ later_nested 0 d rest) (sym (later_left (operator_of x) f g j e)),
    ))
    (λ e. let l = ltb-false j m e in
    let z : m + (j - m) ≡ j = omega arith in
    let t = walked v (of_one Joins x (k x q)) (j - m) (omega (arith, length-append (names_of f) (names_of g))) b rest in (
      t.0,
      ap (λ (i : ℕ). later_nested 0 b (after_name i ((text ++ x ∷ later) ++ rest))) (sym z)
          ∙ ap (λ (r : List ℕ). later_nested 0 b (after_name (m + (j - m)) r)) (append_assoc text (x ∷ later) rest)
          ∙ ap (later_nested 0 b) (names_passed w (of_none Joins) (j - m) (x ∷ later ++ rest) ∙ after_skip (j - m) x (later ++ rest) (operator_equals x (k x q)))
          ∙ t.1
          ∙ ap (λ (r : List Bool). r ++ later_nested 0 t.0 rest) (sym (later_right (operator_of x) f g j e)),
    ))
  where
    m : ℕ
    m = length (names_of f)

    n : ℕ
    n = length (names_of g)

    d : Bool
    d = nests (operator_of x)

-- ---- the bytes tell what the formula tells

-- which earlier names a name is nested in
pub nested_text_lem : {text : List ℕ} {f : Formula} → Written (items operators) text f → (i j : ℕ) → j < i → i < length (names_of f) → nested_text text i j ≡ nested_in f i j
unfolding nested_text later_nested
nested_text_lem {text} {f} w i j h k =
    let t = walked w (λ x q. q) j (omega arith) false [] in
    let e : later_nested 0 false (after_name j text) ≡ later_in f j = ap (λ (r : List ℕ). later_nested 0 false (after_name j r)) (sym (append-nil text)) ∙ t.1 ∙ append-nil (later_in f j) in
    ap (λ (r : List Bool). get_or r (i - suc j) false) e ∙ get_d_later f i j h k

-- in which names plots must agree to share a level
pub seen_text_lem : {text : List ℕ} {f : Formula} → Written (items operators) text f → (i : ℕ) → i < length (names_of f) → (j : ℕ) → j < most_columns → get_or (seen_text text i) j false ≡ seen f i j
unfolding seen_text seen
seen_text_lem {text} {f} w i h j l =
    get_d_tabulate (λ j. eqb i j || ltb j i && nested_text text i j) most_columns j false l
    ∙ ap (λ (b : Bool). eqb i j || b) (by_cases (ltb j i) (λ e. rw e (nested_text_lem w i j (ltb-true j i e) h)) (λ e. rw e (later e (nested_in f i j) refl)))
  where
    later : ltb j i ≡ false → (b : Bool) → nested_in f i j ≡ b → false ≡ b
    later e true g = clash (lt-ltb j i (nested_before f i j g)) e
    later e false g = refl
