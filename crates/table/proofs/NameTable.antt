-- Laws of the names of a family's members: 160 bytes a member, and the length of each name.
-- Assumes nothing.
use mathlib.Core.Path.{◌≡◌, refl, sym, ap, ap₂, ◌∙◌}
use mathlib.Core.Bool.{true, false}
use mathlib.Core.List.{List, ◌∷◌, ◌++◌}
use Prim.Native.Nat.{ℕ, zero, suc, ◌+◌, ◌-◌, ◌*◌, ◌<◌, ◌≤◌}
use native.Mathlib.Nat.{not-suc-le-zero}
use native.Mathlib.Omega.{arith}
use lib.Dec.{eqb}
use lib.ListN.{length, get_or, take, drop, set, length-append, length-take, length-drop, length-set}
use lib.Seq.{take_all, take_at, take-append-le, take-length, drop_at, take-take, take-add, length-take-le, get_or-set_same, get_or-set_other}
use borrow.Author.Tests.{lt-ltb, le-leb, eq-eqb, eqb-true, eqb-false}
use Rattle.rules.specs.Family.{Family, members_of}
use Rattle.rules.specs.Design.{plots_within}
use Rattle.rules.specs.Relation.{member_at}
use Rattle.rules.specs.Lists.{tabulate}
use Rattle.rules.specs.Naming.{Kind, name_on, name_at}
use Rattle.rules.specs.Table.{names_from}
use Rattle.rules.proofs.Buffer.{member_is}
use Rattle.rules.proofs.Numbering.{by_cases}
use Rattle.families.specs.Lent.{column_at}
use Rattle.families.proofs.Lent.{length_column}
use Rattle.sheet.specs.declared.Counts.{Counts}
use Rattle.naming.specs.declared.Kind.{Kind as Stated}
use Rattle.std.specs.Prelude.{Result, Ok, Err}
use Rattle.refusal.specs.declared.Refusal.{Refusal}
use Rattle.refusal.proofs.Numbers.{numbered}
use Rattle.naming.specs.Answers.{kind_of, look_of, look_fits, member_fits, name_by, naming_by, starting_with, NameNumbers, name_numbers}
use Rattle.naming.specs.Members.{names_written, lengths_written, members_fit, member_by, family_held}
use Rattle.naming.proofs.Entry.{plots_are, few_looked, counted_on, counted_short, named_for}
use Rattle.table.specs.Names.{NameableBy, name_in, names_in, placed_name}

-- ---- one name

-- the columns looked at can be named by, and a member of the buffer has a name
look_fits_lem : (kind : Stated) (counts : Counts) (text levels buffer : List ℕ) → NameableBy text levels counts buffer → look_fits (look_of kind counts) (length levels) ≡ true
unfolding look_fits plots_within
look_fits_lem kind counts text levels buffer w =
    let look = look_of kind counts in
    let n = plots_are kind counts in
    let few = few_looked text counts w.1 w.0.form kind in
    rw (lt-ltb 0 look.plots (omega (arith, w.0.some)), le-leb look.plots 240 (omega (arith, w.0.few)), le-leb look.before 6 few.0, le-leb look.count 6 few.1, le-leb 2880 (length levels) w.0.table)

fits_place : (kind : Stated) (counts : Counts) (text levels buffer : List ℕ) (i room : ℕ) → NameableBy text levels counts buffer → i < 32 → 160 ≤ room → member_fits (look_of kind counts) (length levels) room (length (column_at counts.plots buffer i)) ≡ true
unfolding member_fits
fits_place kind counts text levels buffer i room w h r =
    let on : length (column_at counts.plots buffer i) ≡ counts.plots = length_column counts.plots i buffer w.0.few h w.0.long in
    rw (look_fits_lem kind counts text levels buffer w, le-leb 160 room r, eq-eqb (length (column_at counts.plots buffer i)) (look_of kind counts).plots (on ∙ sym (plots_are kind counts)))

-- what naming the part answers is the name at the place
pub name_placed : (kind : Stated) (counts : Counts) (text levels buffer : List ℕ) (place room : ℕ) → NameableBy text levels counts buffer → 1 ≤ place → place ≤ 32 → 160 ≤ room
    → naming_by (look_of kind counts) text levels (column_at counts.plots buffer (place - 1)) place room ≡ record { refusal = 0; name = placed_name (kind_of kind) text counts.plots levels buffer place }
unfolding placed_name
name_placed kind counts text levels buffer zero room w l h r = absurd (not-suc-le-zero l)
name_placed kind counts text levels buffer (suc i) room w l h r =
    let e : suc i - 1 ≡ i = omega arith in
    ap (λ (k : ℕ). naming_by (look_of kind counts) text levels (column_at counts.plots buffer k) (suc i) room) e
    ∙ named_for kind counts text levels (column_at counts.plots buffer i) (suc i) room w.0.form w.1 h (fits_place kind counts text levels buffer i room w (omega arith) r)

-- a name that is answered has so many bytes
pub is_named : (r : Result ℕ Refusal) (m : ℕ) → name_numbers r ≡ record { accepted = true; refusal = 0; size = m } → r ≡ Ok m
unfolding name_numbers
is_named (Ok k) m e = ap Ok (ap (λ (x : NameNumbers). x.size) e)
is_named (Err q) m e = absurd (omega (arith, numbered q, ap (λ (x : NameNumbers). x.refusal) e))

-- what a writer that answers a text's length left: there is room for as much, and it starts with the text
module _ (r : ℕ) (name before after : List ℕ) (e : r ≡ length name) (f : after ≡ starting_with name before) where
  pub starting_room : r ≤ length after
  starting_room = let l : length after ≡ length name + length (drop (length name) before) = ap length f ∙ length-append name (drop (length name) before) in omega arith

  pub starting_take : take r after ≡ name
  starting_take = rw (e, f) (take-append-le (length name) name (drop (length name) before) (omega arith) ∙ take-length name)

-- the name at a place is that of the family's member there
pub placed_member : (kind : Kind) (text levels buffer : List ℕ) (n size i : ℕ) → n ≤ 240 → i < size → placed_name kind text n levels buffer (suc i) ≡ name_at kind text n levels (members_of n buffer size) (suc i)
unfolding placed_name name_at
placed_member kind text levels buffer n size i h l =
    let e : i ≡ suc i - 1 = omega arith in
    ap (name_on kind text n levels (suc i)) (sym (member_is n h buffer size i l) ∙ ap (member_at (members_of n buffer size)) e)

-- ---- all names

-- the first i members have these names
abbrev pub Filled : (ℕ → List ℕ) → List ℕ → List ℕ → ℕ → Type 0
Filled name names lengths i = (j : ℕ) → j < i → (get_or lengths j 0 ≤ 160) × (name_in names lengths j ≡ name j)

pub filled_none : (name : ℕ → List ℕ) (names lengths : List ℕ) → Filled name names lengths 0
filled_none name names lengths j h = absurd (not-suc-le-zero h)

part_of_take : (k n : ℕ) (l : List ℕ) → k ≤ length l → take n (drop k l) ≡ drop k (take (k + n) l)
part_of_take k n l h = sym (ap (λ (x : List ℕ). drop k x) (take-add k n l) ∙ drop_at (take k l) (take n (drop k l)) k (length-take-le k l h))

-- bytes before a place that agree have the same parts
part_agrees : (k n m : ℕ) (v w : List ℕ) → k + n ≤ m → k ≤ length v → k ≤ length w → take m v ≡ take m w → take n (drop k v) ≡ take n (drop k w)
part_agrees k n m v w h hv hw e =
    part_of_take k n v hv
    ∙ ap (λ (x : List ℕ). drop k x) (sym (take-take (k + n) m v h) ∙ ap (λ (x : List ℕ). take (k + n) x) e ∙ take-take (k + n) m w h)
    ∙ sym (part_of_take k n w hw)

-- a name written after the first i
module _ (names lengths W : List ℕ) (i : ℕ) (room : 160 * i + 160 ≤ length names) (count : i < length lengths) (short : length W ≤ 160) where
  abbrev more : List ℕ
  more = take (160 * i) names ++ starting_with W (drop (160 * i) names)

  length_more : length more ≡ length names
  length_more = simp (length-append, length-drop, length-take-le (160 * i) names (omega arith)) (omega arith)

  before : take (160 * i) more ≡ take (160 * i) names
  before = take_at (take (160 * i) names) _ (160 * i) (length-take-le (160 * i) names (omega arith))

  here : take (length W) (drop (160 * i) more) ≡ W
  here =
      ap (λ (x : List ℕ). take (length W) x) (drop_at (take (160 * i) names) _ (160 * i) (length-take-le (160 * i) names (omega arith)))
      ∙ take_at W _ (length W) refl

  filled_more : (name : ℕ → List ℕ) → W ≡ name i → Filled name names lengths i → Filled name more (set lengths i (length W)) (suc i)
  unfolding name_in
  filled_more name e f j h = by_cases (eqb j i) same other
    where
      Goal : Type 0
      Goal = (get_or (set lengths i (length W)) j 0 ≤ 160) × (take (get_or (set lengths i (length W)) j 0) (drop (160 * j) more) ≡ name j)

      same : eqb j i ≡ true → Goal
      same q =
          let p : j ≡ i = eqb-true j i q in
          let g : get_or (set lengths i (length W)) i 0 ≡ length W = get_or-set_same lengths i (length W) 0 count in
          rw (p, g) (short, here ∙ e)

      other : eqb j i ≡ false → Goal
      other q =
          let d = eqb-false j i q in
          let g : get_or (set lengths i (length W)) j 0 ≡ get_or lengths j 0 = get_or-set_other lengths i j (length W) 0 d in
          let l : j < i = omega arith in
          let was = f j l in
          rw g
          (was.0, part_agrees (160 * j) (get_or lengths j 0) (160 * i) more names (omega (arith, was.0)) (omega (arith, length_more)) (omega arith) before ∙ was.1)

-- what naming the members writes: their names
pub filled_written : (name : ℕ → List ℕ) (names lengths : List ℕ) (m : ℕ) → ((j : ℕ) → j < m → length (name j) ≤ 160) → 160 * m ≤ length names → m ≤ length lengths
    → (length (names_written name names m) ≡ length names) × (length (lengths_written name lengths m) ≡ length lengths) × Filled name (names_written name names m) (lengths_written name lengths m) m
unfolding names_written lengths_written
filled_written name names lengths zero short h l = (refl, refl, filled_none name names lengths)
filled_written name names lengths (suc m) short h l =
    let w = filled_written name names lengths m (λ j k. short j (omega arith)) (omega arith) (omega arith) in
    let N = names_written name names m in
    let L = lengths_written name lengths m in
    let room : 160 * m + 160 ≤ length N = omega (arith, w.0) in
    let count : m < length L = omega (arith, w.1) in
    let s = short m (omega arith) in
    (length_more N L (name m) m room count s ∙ w.0, length-set L m (length (name m)) ∙ w.1, filled_more N L (name m) m room count s name refl w.2)

-- all members are named
names_from_lem : (kind : Kind) (text : List ℕ) (n : ℕ) (levels : List ℕ) (S : Family) (f : ℕ → List ℕ) (i m : ℕ) → ((j : ℕ) → j < m → f j ≡ name_at kind text n levels S (i + j)) → tabulate f m ≡ names_from kind text n levels S i m
unfolding tabulate names_from
names_from_lem kind text n levels S f i zero h = refl
names_from_lem kind text n levels S f i (suc m) h =
    let first : i + 0 ≡ i = omega arith in
    ap₂ (λ (x : List ℕ) (xs : List (List ℕ)). x ∷ xs) (h 0 (omega arith) ∙ ap (name_at kind text n levels S) first)
    (names_from_lem kind text n levels S (λ k. f (suc k)) (suc i) m (λ j l. h (suc j) (omega arith) ∙ ap (name_at kind text n levels S) (across i j)))
  where
    across : (i j : ℕ) → i + suc j ≡ suc i + j
    across i j = omega arith

-- a family that fits is named
pub members_fit_lem : (kind : Stated) (counts : Counts) (text levels buffer : List ℕ) (size room counted : ℕ) → NameableBy text levels counts buffer → size ≤ 32 → 160 * size ≤ room → size ≤ counted
    → members_fit (look_of kind counts) size (length levels) (length buffer) room counted ≡ true
unfolding members_fit
members_fit_lem kind counts text levels buffer size room counted w h r c =
    rw (look_fits_lem kind counts text levels buffer w, le-leb size 32 h, le-leb 7680 (length buffer) w.0.long, le-leb (160 * size) room r, le-leb size counted c)

-- member i's name is the name at place i + 1, and its bytes hold it
pub member_placed : (kind : Stated) (counts : Counts) (text levels buffer : List ℕ) (i : ℕ) → NameableBy text levels counts buffer → i < 32 → family_held kind counts text levels buffer i ≡ placed_name (kind_of kind) text counts.plots levels buffer (suc i)
unfolding member_by placed_name
member_placed kind counts text levels buffer i w h =
    let F = column_at (look_of kind counts).plots buffer i in
    let short = counted_short kind counts text levels (suc i) F w.0.form w.1 h in
    take_all 160 (name_by (look_of kind counts) text levels (suc i) F) (omega (arith, short))
    ∙ counted_on text counts w.1 kind levels (suc i) F ∙ ap (λ (n : ℕ). name_on (kind_of kind) text counts.plots levels (suc i) (column_at n buffer i)) (plots_are kind counts)

pub held_short : (kind : Stated) (counts : Counts) (text levels buffer : List ℕ) (i : ℕ) → length (family_held kind counts text levels buffer i) ≤ 160
held_short kind counts text levels buffer i = simp length-take (omega arith)

pub filled_names : (kind : Kind) (text : List ℕ) (n : ℕ) (levels buffer : List ℕ) (size : ℕ) (names lengths : List ℕ) → n ≤ 240
    → Filled (λ j. placed_name kind text n levels buffer (suc j)) names lengths size → names_in names lengths size ≡ names_from kind text n levels (members_of n buffer size) 1 size
unfolding names_in
filled_names kind text n levels buffer size names lengths h f =
    names_from_lem kind text n levels (members_of n buffer size) (name_in names lengths) 1 size
    (λ j l. (f j l).1 ∙ placed_member kind text levels buffer n size j h l ∙ ap (name_at kind text n levels (members_of n buffer size)) (one_more j))
  where
    one_more : (j : ℕ) → suc j ≡ 1 + j
    one_more j = omega arith
