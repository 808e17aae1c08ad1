-- Laws of a level, digit by digit, and of a level at hand in a text.
-- Assumes nothing.
use mathlib.Core.Path.{◌≡◌, refl, sym, ap, ◌∙◌}
use mathlib.Core.Bool.{true, false, ◌||◌}
use mathlib.Core.List.{List, [], ◌∷◌}
use Prim.Native.Nat.{ℕ, zero, suc, ◌+◌, ◌-◌, ◌*◌, ◌≤◌, ◌<◌}
use native.Mathlib.Omega.{arith}
use native.Mathlib.Nat.{not-suc-le-zero}
use native.Mathlib.Numerals.{add-one}
use lib.Dec.{eqb, leb}
use lib.ListN.{length, get_or, take, drop, length-drop, drop_of_length-le}
use lib.Seq.{drop-cons, get_or-drop}
use borrow.Author.Tests.{ne_eqb, eq-eqb, eqb-true, eqb-false, leb-true, leb-false, le-leb}
use Rattle.std.specs.Prelude.{Some, None}
use Rattle.rules.specs.Sheet.{all, digit, within, decimal, decimal_from, no_leading_zero, is_level}
use Rattle.rules.specs.Limits.{most_level}
use Rattle.rules.proofs.Numbering.{by_cases}
use Rattle.rules.proofs.Members.{clash}
use Rattle.rules.proofs.Sheet.{and_left, and_right, decimal_grows, level_leading, level_digit, level_large, level_none, level_is}
use Rattle.sheet.specs.Walk.{field_of, level_of, level_there, level_then}
use Rattle.sheet.specs.declared.field.FieldLevel.{FieldLevel}
use Rattle.sheet.proofs.FirstByte.{rest_taken}
use Rattle.sheet.proofs.Stops.{Stop, at_tab, at_newline, at_end, stop, field_get}
use Rattle.sheet.proofs.RowLaws.{not_there, level_bad, level_far, level_other, level_good}
use Rattle.sheet.proofs.Walk.{field_none, field_stop, field_goes}

-- ---- what is answered

pub level_of_no : (f : List ℕ) → is_level most_level f ≡ false → level_of f ≡ None
unfolding level_of
level_of_no f e = rw (e, level_of)

pub level_of_yes : (f : List ℕ) → is_level most_level f ≡ true → level_of f ≡ Some (decimal f)
unfolding level_of
level_of_yes f e = rw (e, level_of)

pub level_of_none : (f : List ℕ) → None ≡ level_of f → is_level most_level f ≡ false
level_of_none f n = by_cases (is_level most_level f) (λ c. let y = level_of_yes f c in cc) (λ c. c)

pub level_of_some : (f : List ℕ) (v : ℕ) → Some v ≡ level_of f → (is_level most_level f ≡ true) × (v ≡ decimal f)
level_of_some f v e = by_cases (is_level most_level f) (λ c. (c, (let y = level_of_yes f c in cc))) (λ c. let n = level_of_no f c in cc)

module _ (s at : ℕ) (xs : List ℕ) where
  pub then_off : level_there s xs ≡ false → level_then s at xs ≡ None
  unfolding level_then
  then_off e = rw (e, level_then)

  pub then_on : level_there s xs ≡ true → level_then s at xs ≡ Some (record { end = at + suc (length (field_of xs)); level = decimal (field_of xs) })
  unfolding level_then
  then_on e = rw (e, level_then)

  pub then_none : None ≡ level_then s at xs → level_there s xs ≡ false
  then_none n = by_cases (level_there s xs) (λ c. let y = then_on c in cc) (λ c. c)

  -- what a level at hand tells
  pub record There (r : FieldLevel) : Type 0 where
    pub is : level_there s xs ≡ true
    pub next : r.end ≡ at + suc (length (field_of xs))
    pub number : r.level ≡ decimal (field_of xs)

  pub then_some : (r : FieldLevel) → Some r ≡ level_then s at xs → There r
  then_some r e = by_cases (level_there s xs) (λ c. let y = then_on c in record { is = c; next = cc; number = cc }) (λ c. let n = then_off c in cc)

-- ---- the first byte

never : (k : ℕ) → suc k ≡ 0 → ⊥
never k e = omega arith

first_zero : (f : List ℕ) (i : ℕ) → i ≡ 0 → i < length f → get_or f i 0 ≡ 48 → no_leading_zero f ≡ false
unfolding no_leading_zero
first_zero [] i z h e = absurd (not-suc-le-zero h)
first_zero (x ∷ xs) zero z h e = rw (eq-eqb x 48 e)
first_zero (x ∷ xs) (suc i) z h e = absurd (never i z)

first_other : (f : List ℕ) (i : ℕ) → i ≡ 0 → i < length f → (get_or f i 0 ≡ 48 → ⊥) → no_leading_zero f ≡ true
unfolding no_leading_zero
first_other [] i z h n = absurd (not-suc-le-zero h)
first_other (x ∷ xs) zero z h n = rw (ne_eqb x 48 n)
first_other (x ∷ xs) (suc i) z h n = absurd (never i z)

-- ---- a walk over a field: v is read before place i

pub record Digits (f : List ℕ) (i v : ℕ) : Type 0 where
  pub few : v ≤ most_level
  pub none : i ≡ 0 → v ≡ 0
  pub some : v ≡ 0 → i ≡ 0
  pub leading : (i ≡ 0 → ⊥) → no_leading_zero f ≡ true
  pub digits : all digit (drop i f) ≡ all digit f
  pub number : decimal_from v (drop i f) ≡ decimal f

pub digits_start : (f : List ℕ) → Digits f 0 0
digits_start f = record { few = omega arith; none = λ e. refl; some = λ e. refl; leading = λ n. absurd (n refl); digits = refl; number = refl }

module _ (f : List ℕ) (i v : ℕ) (d : Digits f i v) where
  -- the field ends
  module _ (h : length f ≤ i) where
    read : v ≡ decimal f
    unfolding decimal_from
    read = rw (drop_of_length-le f h) at d.number

    pub digits_none : v < 1 → level_of f ≡ None
    digits_none l = level_of_no f (level_none most_level f (let e = read in omega arith))

    pub digits_end : 1 ≤ v → level_of f ≡ Some v
    unfolding all
    digits_end l =
        let a : all digit f ≡ true = sym d.digits ∙ rw (drop_of_length-le f h) in
        let e = read in
        let n : i ≡ 0 → ⊥ = λ z. (let k = d.none z in omega arith) in
        level_of_yes f (level_is most_level f (d.leading n) a (omega arith) (omega (arith, d.few))) ∙ ap (λ (k : ℕ). Some k) (sym e)

  -- another byte
  module _ (h : i < length f) where
    on : drop i f ≡ get_or f i 0 ∷ drop (i + 1) f
    on = rw (add-one, drop-cons f i 0 h)

    pub digits_stray : digit (get_or f i 0) ≡ false → level_of f ≡ None
    unfolding all
    digits_stray e = level_of_no f (level_digit most_level f (sym d.digits ∙ rw (on, e)))

    more : decimal_from (10 * v + (get_or f i 0 - 48)) (drop (i + 1) f) ≡ decimal f
    unfolding decimal_from
    more = rw on at d.number

    pub digits_large : most_level < 10 * v + (get_or f i 0 - 48) → level_of f ≡ None
    digits_large l = level_of_no f (level_large most_level f (omega (arith, more, decimal_grows (10 * v + (get_or f i 0 - 48)) (drop (i + 1) f))))

    pub digits_zero : 48 ≤ get_or f i 0 → 10 * v + (get_or f i 0 - 48) < 1 → level_of f ≡ None
    digits_zero low l =
        let z : v ≡ 0 = omega arith in
        level_of_no f (level_leading most_level f (first_zero f i (d.some z) h (omega arith)))

    pub digits_on : digit (get_or f i 0) ≡ true → 1 ≤ 10 * v + (get_or f i 0 - 48) → 10 * v + (get_or f i 0 - 48) ≤ most_level → Digits f (i + 1) (10 * v + (get_or f i 0 - 48))
    unfolding all
    digits_on e l k = record {
      few = k;
      none = λ z. omega arith;
      some = λ z. omega arith;
      leading = λ n. by_cases (eqb i 0) (λ z. let k = d.none (eqb-true i 0 z) in first_other f i (eqb-true i 0 z) h (λ w. absurd (no k w))) (λ z. d.leading (eqb-false i 0 z));
      digits = sym (rw (on, e)) ∙ d.digits;
      number = more;
    }
      where
        no : v ≡ 0 → get_or f i 0 ≡ 48 → ⊥
        no k w = omega arith

-- ---- the same walk over a text that may go on: i bytes of the field that xs starts with are passed

-- a digit ends no field
digit_goes : (x : ℕ) → digit x ≡ true → (eqb x 9 || eqb x 10) ≡ false
digit_goes x e =
    let l = leb-true 48 x (and_left (leb 48 x) (leb x 57) e) in
    rw (ne_eqb x 9 (λ z. omega arith), ne_eqb x 10 (λ z. omega arith))

pub record Passed (xs : List ℕ) (i v : ℕ) : Type 0 where
  pub size : i + length (field_of (drop i xs)) ≡ length (field_of xs)
  pub so_far : Digits (field_of xs) i v

pub passed_none : (xs : List ℕ) → Passed xs 0 0
passed_none xs = record { size = omega arith; so_far = digits_start (field_of xs) }

module _ (s at : ℕ) (xs : List ℕ) where
  not_written : level_of (field_of xs) ≡ None → level_then s at xs ≡ None
  not_written e = then_off s at xs (level_bad s at xs (level_of_none (field_of xs) (sym e)))

  -- it starts past the text's end
  pub passed_past : xs ≡ [] → level_then s at xs ≡ None
  unfolding field_of
  passed_past e = rw e (then_off s at [] (level_far [] 0 0 s refl (omega arith)))

  module _ (i v : ℕ) (p : Passed xs i v) where
    -- the text ends
    pub passed_out : length xs ≤ i → level_then s at xs ≡ None
    passed_out h =
        let n = ap length (field_none xs i h) in
        then_off s at xs (level_far xs 0 i s (omega (arith, p.size)) h)

    -- another byte
    module _ (h : i < length xs) where
      ends : (eqb (get_or xs i 0) 9 || eqb (get_or xs i 0) 10) ≡ true → i ≡ length (field_of xs)
      ends e = let n = ap length (field_stop xs i h e) in omega (arith, p.size)

      goes : (eqb (get_or xs i 0) 9 || eqb (get_or xs i 0) 10) ≡ false → (i < length (field_of xs)) × (i + 1 + length (field_of (drop (i + 1) xs)) ≡ length (field_of xs))
      goes e = let n = ap length (field_goes xs i h e) in (omega (arith, p.size), omega (arith, p.size))

      byte : i < length (field_of xs) → get_or (field_of xs) i 0 ≡ get_or xs i 0
      byte l = let z : 0 + i ≡ i = omega arith in field_get xs 0 i l ∙ ap (λ (k : ℕ). get_or xs k 0) z

      -- no digit, and no end of a level
      pub passed_stray : digit (get_or xs i 0) ≡ false → (get_or xs i 0 ≡ s → (eqb s 9 || eqb s 10) ≡ true → 1 ≤ v → ⊥) → level_then s at xs ≡ None
      passed_stray e n = by_cases (eqb (get_or xs i 0) 9 || eqb (get_or xs i 0) 10) stops on
        where
          on : (eqb (get_or xs i 0) 9 || eqb (get_or xs i 0) 10) ≡ false → level_then s at xs ≡ None
          on g = let l = (goes g).0 in not_written (digits_stray (field_of xs) i v p.so_far l (rw (byte l) e))

          empty : (1 ≤ v → ⊥) → i ≡ length (field_of xs) → level_then s at xs ≡ None
          empty k z = not_written (digits_none (field_of xs) i v p.so_far (omega arith) (omega arith))

          stops : (eqb (get_or xs i 0) 9 || eqb (get_or xs i 0) 10) ≡ true → level_then s at xs ≡ None
          stops g =
              by_cases (eqb (get_or xs i 0) s)
              (λ b. let q = eqb-true (get_or xs i 0) s b in empty (n q (rw q at g)) (ends g))
              (λ b. then_off s at xs (level_other xs 0 i s (let z = ends g in omega arith) (eqb-false (get_or xs i 0) s b)))

      -- the end of a level
      pub passed_end : get_or xs i 0 ≡ s → (eqb s 9 || eqb s 10) ≡ true → 1 ≤ v → level_then s at xs ≡ Some (record { end = at + i + 1; level = v })
      passed_end e b k =
          let z = ends (rw e b) in
          let r = level_of_some (field_of xs) v (sym (digits_end (field_of xs) i v p.so_far (omega arith) k)) in
          let n : at + suc (length (field_of xs)) ≡ at + i + 1 = omega arith in
          then_on s at xs (level_good xs 0 i s (omega arith) h e r.0) ∙ rw (n, r.1)

      -- a digit
      module _ (e : digit (get_or xs i 0) ≡ true) where
        inside : i < length (field_of xs)
        inside = (goes (digit_goes (get_or xs i 0) e)).0

        passed_zero : 10 * v + (get_or xs i 0 - 48) < 1 → level_then s at xs ≡ None
        passed_zero l =
            let low = leb-true 48 (get_or xs i 0) (and_left (leb 48 (get_or xs i 0)) (leb (get_or xs i 0) 57) e) in
            let b = byte inside in
            not_written (digits_zero (field_of xs) i v p.so_far inside (omega arith) (omega arith))

        pub passed_large : most_level < 10 * v + (get_or xs i 0 - 48) → level_then s at xs ≡ None
        passed_large l = let b = byte inside in not_written (digits_large (field_of xs) i v p.so_far inside (omega arith))

        pub passed_on : 1 ≤ 10 * v + (get_or xs i 0 - 48) → 10 * v + (get_or xs i 0 - 48) ≤ most_level → Passed xs (i + 1) (10 * v + (get_or xs i 0 - 48))
        passed_on l k =
            let b = byte inside in
            record {
              size = (goes (digit_goes (get_or xs i 0) e)).1;
              so_far = rw b at (digits_on (field_of xs) i v p.so_far inside (rw b e) (rw b l) (rw b k));
            }

  -- no byte that ends a field
  pub no_stop : (eqb s 9 || eqb s 10) ≡ false → level_then s at xs ≡ None
  no_stop e = then_off s at xs (go (stop xs))
    where
      no : (b : ℕ) → (eqb b 9 || eqb b 10) ≡ true → b ≡ s → ⊥
      no b t z = clash (rw z at t) e

      go : Stop xs → level_there s xs ≡ false
      go (at_tab r) = not_there s at xs (λ l b. no (get_or xs (length (field_of xs)) 0) (rw r.byte) b)
      go (at_newline r) = not_there s at xs (λ l b. no (get_or xs (length (field_of xs)) 0) (rw r.byte) b)
      go (at_end r) = not_there s at xs (λ l b. omega (arith, r.all_of_it))

  -- the first byte
  module _ (h : 0 < length xs) where
    pub first_bad : within 49 57 (get_or xs 0 0) ≡ false → level_then s at xs ≡ None
    first_bad n =
        by_cases (digit (get_or xs 0 0))
        (λ e. by_cases (leb 49 (get_or xs 0 0))
        (λ l. clash (and_right (leb 48 (get_or xs 0 0)) (leb (get_or xs 0 0) 57) e) (rw l at n))
        (λ l. let k = leb-false 49 (get_or xs 0 0) l in passed_zero 0 0 (passed_none xs) h e (omega arith)))
        (λ e. passed_stray 0 0 (passed_none xs) h e (λ z b k. omega arith))

    pub first_good : within 49 57 (get_or xs 0 0) ≡ true → Passed xs 1 (get_or xs 0 0 - 48)
    first_good n =
        let low = leb-true 49 (get_or xs 0 0) (and_left (leb 49 (get_or xs 0 0)) (leb (get_or xs 0 0) 57) n) in
        let high = leb-true (get_or xs 0 0) 57 (and_right (leb 49 (get_or xs 0 0)) (leb (get_or xs 0 0) 57) n) in
        let e : digit (get_or xs 0 0) ≡ true = rw (le-leb 48 (get_or xs 0 0) (omega arith), le-leb (get_or xs 0 0) 57 high) in
        let z : 10 * 0 + (get_or xs 0 0 - 48) ≡ get_or xs 0 0 - 48 = omega arith in
        rw z at (passed_on 0 0 (passed_none xs) h e (omega arith) (omega arith))

-- past the first byte the number is 1 or more
pub passed_some : (xs : List ℕ) (i v : ℕ) → Passed xs (i + 1) v → 1 ≤ v
passed_some xs i v p = by_cases (eqb v 0) (λ e. let z = p.so_far.some (eqb-true v 0 e) in omega arith) (λ e. let z = eqb-false v 0 e in omega arith)

-- the bytes past the first, as a slice pattern binds them
module _ (xs ys : List ℕ) (e : xs ≡ ys) where
  past_first : take (length xs - 1) (drop 1 xs) ≡ drop 1 ys
  past_first = rest_taken 1 xs ∙ ap (drop 1) e

  pub past_size : length (take (length xs - 1) (drop 1 xs)) ≡ length ys - 1
  past_size = ap length past_first ∙ length-drop 1 ys

  pub past_byte : (i : ℕ) → get_or (take (length xs - 1) (drop 1 xs)) i 0 ≡ get_or ys (i + 1) 0
  past_byte i =
      let z : 1 + i ≡ i + 1 = omega arith in
      ap (λ (r : List ℕ). get_or r i 0) past_first ∙ get_or-drop 1 ys i 0 ∙ ap (λ (k : ℕ). get_or ys k 0) z
