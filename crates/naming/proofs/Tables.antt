-- Laws of a table of numbered columns: how it is filled, and what the walks over it find.
-- Assumes nothing.
use mathlib.Core.Path.{◌≡◌, refl, sym, ap, ap₂, ◌∙◌, subst}
use mathlib.Core.Bool.{Bool, true, false}
use mathlib.Core.Logic.{⊎_elim}
use mathlib.Core.List.Memᴰ
use mathlib.Core.List.{List, [], ◌∷◌, ◌++◌, map, map-append, append-nil}
use Prim.Native.Nat.{ℕ, zero, suc, ◌+◌, ◌-◌, ◌*◌, ◌≤◌, ◌<◌, min}
use native.Mathlib.Nat.{add-zero, zero-add, not-suc-le-zero, le_of_suc-le-suc, le_of_eq}
use native.Mathlib.Numerals.{add-one}
use native.Mathlib.Omega.{arith}
use lib.ListN.{length, get_or, take, drop, replicate, length-append, length-drop, drop_of_length-le}
use lib.Seq.{drop-cons, drop-drop, take_all, take_at, take-length, length-take-le}
use borrow.Rule.Slice.PartMut.{put_mid, Post-is}
use Rattle.rules.specs.Factor.{Column, number, universal}
use Rattle.rules.specs.Family.{◌∈◌, alike, columns_from, members_of, all_numbered}
use Rattle.rules.specs.Names.{equivalent_column, name_of, bytes_of}
use Rattle.rules.proofs.Buffer.{put, members_add, columns_snoc, columns_agree}
use Rattle.rules.proofs.Demand3.{column_length}
use Rattle.rules.proofs.Members.{alike_self, clash}
use Rattle.rules.proofs.NameSame.{same_name, numbered_factors}
use Rattle.rules.proofs.Numbering.{by_cases, length_number, number_number}
use Rattle.factor.specs.Lent.{column_at, common, on_common, overlay}
use Rattle.factor.proofs.Lent.{length_part, take_overlay}
use Rattle.decimal.proofs.Writing.{written_all}
use Rattle.decimal.specs.Writing.{fits, written}
use Rattle.naming.specs.declared.columns.Look.{Look}
use Rattle.naming.specs.Answers.{name_by}
use Rattle.std.specs.Prelude.{Option, None, Some}
use Rattle.std.specs.List.{find, range_with_len}
use Rattle.std.specs.Option.{option_map}
use Rattle.naming.specs.Columns.{counted_from_one, NumberedIn, InTable, own_of, looked_of, own_in, looked_in, own_names, look_names, alone, numbered_from}
use Rattle.naming.specs.Members.{name_text}

-- ---- lent parts and output arrays

-- what a column on n plots and the first n numbers of an array make
pub join_part : (op : Column → Column → Column) (n : ℕ) (out : List ℕ) (F M : Column) → n ≤ 240 → length F ≡ n → length M ≡ 240 → length (op F (take n M)) ≡ n
    → take n (overlay out (on_common op F M)) ≡ op F (take n M)
join_part op n out F M s l_f lM l =
    let e : common F M ≡ n = rw (l_f, lM) (omega arith) in
    ap (λ (k : ℕ). take n (overlay out (op (take k F) (take k M)))) e
    ∙ ap (λ (X : Column). take n (overlay out (op X (take n M)))) (take_all n F (le_of_eq l_f))
    ∙ take_overlay out (op F (take n M)) n l

-- the column itself, written into an array
pub column_part : (n : ℕ) (out C : List ℕ) → n ≤ 240 → length out ≡ 240 → length C ≡ n → take n (written out 0 C) ≡ C
column_part n out C small z l = ap (take n) (written_all out C (omega arith)) ∙ take_overlay out C n l

pub ones : (n m : ℕ) → n ≤ m → take n (replicate m 1) ≡ universal n
unfolding universal
ones zero m h = refl
ones (suc n) zero h = absurd (not-suc-le-zero h)
ones (suc n) (suc m) h = ap (λ (l : List ℕ). 1 ∷ l) (ones n m (le_of_suc-le-suc h))

-- ---- filling the table

written_put : (n : ℕ) (small : n ≤ 240) (b : List ℕ) (i : ℕ) (F : Column) → length F ≡ n → 240 * i + 240 ≤ length b → written b (240 * i) F ≡ put n small b i F
unfolding written fits
written_put n small b i F l h =
    let f : min (length F) (length b - 240 * i) ≡ length F = omega arith in
    rw f (ap (λ (x : List ℕ). take (240 * i) b ++ x ++ drop (240 * i + length F) b) (take-length F))

pub none_yet : (n : ℕ) (b levels : List ℕ) (first : ℕ) → members_of n b 0 ≡ numbered_from n levels first 0
unfolding members_of columns_from numbered_from
none_yet n b levels first = refl

-- a turn: the next column is put after those that are there
pub table_turn : (n : ℕ) → n ≤ 240 → (b levels : List ℕ) (first c : ℕ) → 240 * c + 240 ≤ length b → 240 * (first + c) + n ≤ length levels → members_of n b c ≡ numbered_from n levels first c
    → members_of n (written b (240 * c) (number (column_at n levels (first + c)))) (c + 1) ≡ numbered_from n levels first (c + 1)
unfolding numbered_from
table_turn n small b levels first c h k e =
    let C = column_at n levels (first + c) in
    let l : length (number C) ≡ n = length_number C ∙ length_part n (first + c) levels k in
    rw add-one
    (ap (λ (x : List ℕ). members_of n x (suc c)) (written_put n small b c (number C) l h)
    ∙ members_add n small b c (number C) l h
    ∙ ap (λ (S : List Column). S ++ number C ∷ []) e
    ∙ sym (ap (map number) (columns_snoc n levels first c) ∙ map-append number (columns_from n levels first c) (C ∷ [])))

module _ (n : ℕ) (t : List ℕ) where
  columns_append : (c b m : ℕ) → columns_from n t c (b + m) ≡ columns_from n t c b ++ columns_from n t (c + b) m
  unfolding columns_from
  columns_append c zero m = rw (zero-add, add-zero)
  columns_append c (suc b) m =
      let e : suc b + m ≡ suc (b + m) = omega arith in
      let f : suc c + b ≡ c + suc b = omega arith in
      rw e (ap (λ (l : List Column). take n (drop (240 * c) t) ∷ l) (columns_append (suc c) b m ∙ ap (λ (k : ℕ). columns_from n t (suc c) b ++ columns_from n t k m) f))

  columns_drop : (b c m : ℕ) → columns_from n (drop (240 * b) t) c m ≡ columns_from n t (b + c) m
  unfolding columns_from
  columns_drop b c zero = refl
  columns_drop b c (suc m) =
      let e : 240 * b + 240 * c ≡ 240 * (b + c) = omega arith in
      let f : b + suc c ≡ suc (b + c) = omega arith in
      ap₂ (λ (C : Column) (l : List Column). C ∷ l) (ap (take n) (drop-drop (240 * c) (240 * b) t ∙ ap (λ (k : ℕ). drop k t) e)) (columns_drop b (suc c) m ∙ ap (λ (k : ℕ). columns_from n t k m) f)

  -- the first columns, and those after them
  pub members_split : (b m : ℕ) → members_of n t (b + m) ≡ members_of n t b ++ members_of n (drop (240 * b) t) m
  unfolding members_of
  members_split b m =
      columns_append 0 b m
      ∙ ap (λ (l : List Column). columns_from n t 0 b ++ l) (ap (λ (k : ℕ). columns_from n t k m) (zero-add b ∙ sym (add-zero b)) ∙ sym (columns_drop b 0 m))

-- the last part of a list that is lent, and put back
pub rest_part : (a : ℕ) (xs : List ℕ) → take (length xs - a) (drop a xs) ≡ drop a xs
rest_part a xs = take_all (length xs - a) (drop a xs) (le_of_eq (length-drop a xs))

pub rest_put : (a : ℕ) (xs ys : List ℕ) → a ≤ length xs → put_mid a (length xs - a) xs ys ≡ take a xs ++ ys
rest_put a xs ys h = ap (λ (l : List ℕ). take a xs ++ (ys ++ l)) (Post-is a (length xs) xs h ∙ drop_of_length-le xs (le_of_eq refl)) ∙ ap (λ (l : List ℕ). take a xs ++ l) (append-nil ys)

-- bytes past the first columns do not matter to them
pub members_front : (n : ℕ) → n ≤ 240 → (b : ℕ) (x y : List ℕ) → 240 * b ≤ length x → members_of n (take (240 * b) x ++ y) b ≡ members_of n x b
unfolding members_of
members_front n small b x y h =
    let l : length (take (240 * b) x) ≡ 240 * b = length-take-le (240 * b) x h in
    columns_agree n small (take (240 * b) x ++ y) x 0 b (rw (length-append, l) (omega arith)) (omega arith)
    (subst (λ (k : ℕ). take (240 * k) (take (240 * b) x ++ y) ≡ take (240 * k) x) (sym (zero-add b)) (take_at (take (240 * b) x) y (240 * b) l))

pub all_numbered_lem : (Cs : List Column) → all_numbered (map number Cs) ≡ true
unfolding all_numbered
all_numbered_lem [] = refl
all_numbered_lem (C ∷ Cs) =
    let e : alike (number (number C)) (number C) ≡ true = ap (λ (X : Column). alike X (number C)) (number_number C) ∙ alike_self (number C) in
    rw (e, all_numbered) (all_numbered_lem Cs)

-- the last columns of numbered ones
numbered_last : (Cs Ds : List Column) → all_numbered (Cs ++ Ds) ≡ true → all_numbered Ds ≡ true
unfolding all_numbered
numbered_last [] Ds e = e
numbered_last (C ∷ Cs) Ds e =
    by_cases (alike (number C) C)
    (λ a. numbered_last Cs Ds (sym (rw (a, all_numbered)) ∙ e))
    (λ a. clash e (rw (a, all_numbered)))

-- the columns of the kind by themselves
pub alone_numbered : (look : Look) (table : List ℕ) → NumberedIn look table → NumberedIn (alone look) (drop (240 * look.before) table)
alone_numbered look table w = record {
  columns = record { few_plots = w.columns.few_plots; few = omega (arith, w.columns.few); long = rw length-drop (omega (arith, w.columns.long)) };
  numbered = ap (λ (k : ℕ). all_numbered (members_of look.plots (drop (240 * look.before) table) k)) (zero-add look.count)
      ∙ numbered_last (members_of look.plots table look.before) (own_in look table) (sym (ap all_numbered (members_split look.plots table look.before look.count)) ∙ w.numbered);
}

-- the table has the columns of a level table, numbered
module _ (look : Look) (levels table : List ℕ) (t : InTable look levels) (own : own_in look table ≡ numbered_from look.plots levels look.first look.count)
    (all : looked_in look table ≡ numbered_from look.plots levels 0 look.before ++ own_in look table) where
  looked_is : looked_in look table ≡ map number (looked_of look levels)
  unfolding numbered_from
  looked_is =
      all ∙ ap (λ (l : List Column). map number (columns_from look.plots levels 0 look.before) ++ l) own
      ∙ sym (map-append number (columns_from look.plots levels 0 look.before) (own_of look levels))

  pub filled_numbered : 2880 ≤ length table → NumberedIn look table
  filled_numbered long = record {
    columns = record { few_plots = t.few_plots; few = omega (arith, t.few_before, t.few); long = omega (arith, t.few_before, t.few) };
    numbered = ap all_numbered looked_is ∙ all_numbered_lem (looked_of look levels);
  }

  -- numbering the columns changes no name
  pub filled_name : (text : List ℕ) (place : ℕ) (F : Column) → name_text look text table place F ≡ name_by look text levels place F
  unfolding name_by numbered_from
  filled_name text place F =
      ap (bytes_of (own_names look text) (look_names look text))
      (ap₂ (λ (Cs Ls : List Column). name_of look.plots Cs Ls place F) own looked_is
      ∙ same_name look.plots (map number (own_of look levels)) (own_of look levels) (map number (looked_of look levels)) (looked_of look levels) place F
      (numbered_factors look.plots (own_of look levels) own_on) (numbered_factors look.plots (looked_of look levels) looked_on))
    where
      own_on : (C : Column) → C ∈ own_of look levels → length C ≡ look.plots
      own_on = column_length look.plots levels look.count look.first t.few_plots t.long t.inside

      looked_on : (C : Column) → C ∈ looked_of look levels → length C ≡ look.plots
      looked_on C m =
          ⊎_elim (column_length look.plots levels look.before 0 t.few_plots t.long (omega (arith, t.few_before)) C) (own_on C)
          (Memᴰ.append_cases (columns_from look.plots levels 0 look.before) m)

-- ---- the lowest equivalent column, from c on

module _ (F : Column) (Cs : List Column) (c : ℕ) where
  pub equivalent_here : c < length Cs → alike (number (get_or Cs c [])) F ≡ true → equivalent_column F c (drop c Cs) ≡ c + 1
  unfolding equivalent_column
  equivalent_here h e = ap (equivalent_column F c) (drop-cons Cs c [] h) ∙ rw (e, equivalent_column, add-one)

  pub equivalent_on : c < length Cs → alike (number (get_or Cs c [])) F ≡ false → equivalent_column F c (drop c Cs) ≡ equivalent_column F (c + 1) (drop (c + 1) Cs)
  unfolding equivalent_column
  equivalent_on h e = ap (equivalent_column F c) (drop-cons Cs c [] h) ∙ rw (e, equivalent_column, add-one)

  pub equivalent_end : length Cs ≤ c → equivalent_column F c (drop c Cs) ≡ 0
  unfolding equivalent_column
  equivalent_end h = ap (equivalent_column F c) (drop_of_length-le Cs h)

-- the first of the columns from c on that a test passes is the lowest equivalent one, where the test tells the equivalent ones
pub found_first : (F : Column) (Cs : List Column) (test : ℕ → Bool) → ((j : ℕ) → j < length Cs → test j ≡ alike (number (get_or Cs j [])) F)
    → (c m : ℕ) → c + m ≡ length Cs → counted_from_one (find test (range_with_len c m)) ≡ equivalent_column F c (drop c Cs)
found_first F Cs test h c zero e = sym (equivalent_end F Cs c (omega arith))
found_first F Cs test h c (suc m) e =
    by_cases (test c)
    (λ p. rw p (sym (equivalent_here F Cs c (omega arith) (sym (h c (omega arith)) ∙ p) ∙ add-one c)))
    (λ p. rw p (found_first F Cs test h (c + 1) m (omega arith) ∙ sym (equivalent_on F Cs c (omega arith) (sym (h c (omega arith)) ∙ p))))

-- the same of what a search answers
pub found_in : (F : Column) (Cs : List Column) (test : ℕ → Bool) → ((j : ℕ) → j < length Cs → test j ≡ alike (number (get_or Cs j [])) F)
    → (r : Option ℕ) (m : ℕ) → option_map (λ (x : ℕ). x) r ≡ find test (range_with_len 0 m) → m ≡ length Cs → counted_from_one r ≡ equivalent_column F 0 Cs
found_in F Cs test h None m e l = ap counted_from_one e ∙ found_first F Cs test h 0 m (zero-add m ∙ l)
found_in F Cs test h (Some c) m e l = ap counted_from_one e ∙ found_first F Cs test h 0 m (zero-add m ∙ l)
