-- Laws of the plots of a formula: how many there are, their codes, and the columns in the level table.
-- Assumes nothing.
use mathlib.Core.Path.{◌≡◌, refl, sym, ap, ap₂, ◌∙◌}
use mathlib.Core.Bool.{Bool, true, false}
use mathlib.Core.List.{List, [], ◌∷◌, ◌++◌}
use Prim.Native.Nat.{ℕ, zero, suc, ◌+◌, ◌*◌, ◌/◌, ◌%◌, ◌≤◌, ◌<◌, min}
use native.Mathlib.Nat.{not-suc-le-zero, add-zero, zero-mul, mul-zero, suc-mul, mul_assoc, add-mul, min-eq_right, mul-div_cancel_left, mul-le-mul_left, le-mul_of_pos_right}
use native.Mathlib.Numerals.{add-one}
use native.Mathlib.Omega.{arith}
use lib.Dec.{leb}
use lib.ListN.{length, get_or, take, drop}
use lib.Seq.{get_or-drop, drop-cons, drop-length, take-suc, take_all, paste}
use borrow.Author.Tests.{leb-true, leb-false}
use Rattle.rules.specs.Limits.{most_plots, most_columns}
use Rattle.rules.specs.Lists.{tabulate}
use Rattle.rules.specs.Factor.{Column}
use Rattle.rules.specs.Family.{members_of}
use Rattle.rules.specs.Formula.{Formula, names_of, counts_of, plot_count, column_of, seen, columns_of}
use Rattle.rules.proofs.Numbering.{by_cases}
use Rattle.rules.proofs.Lists.{length_tabulate, get_d_tabulate, tabulate_get_d}
use Rattle.rules.proofs.Places.{tabulate_ext}
use Rattle.rules.proofs.Buffer.{put, members_add}
use Rattle.rules.proofs.Agreement.{later, Split, split}
use Rattle.rules.proofs.Formula.{counts_names}
use Rattle.block_formula.specs.Text.{seen_text}
use Rattle.block_formula.specs.Plots.{code_of, radix, in_set, columns_in, levels_by}
use Rattle.block_formula.proofs.CodeLaws.{code_less, column_codes}

-- ---- the number of plots

-- a product cut at 241 is the same where its first factor is cut before
cut_product : (p m : ℕ) → min 241 (min 241 p * m) ≡ min 241 (p * m)
cut_product p zero = rw (mul-zero p, mul-zero (min 241 p))
cut_product p (suc m) =
    by_cases (leb p 241)
    (λ e. let h : p ≤ 241 = leb-true p 241 e in
    let q : min 241 p ≡ p = min-eq_right h in
    rw q)
    (λ e. let h : 241 < p = leb-false p 241 e in
    let q : min 241 p ≡ 241 = omega arith in
    rw q (omega (arith, le-mul_of_pos_right {m = suc m} p (omega arith))))

-- the counts from place i on: the first of them, and the others
plots_from : (cs : List ℕ) (i : ℕ) → i < length cs → plot_count (drop i cs) ≡ get_or cs i 0 * plot_count (drop (i + 1) cs)
unfolding plot_count
plots_from cs i h = rw (add-one, drop-cons cs i 0)

-- a turn of the loop that counts plots
pub count_turn : (cs : List ℕ) (p i : ℕ) → i < length cs → min 241 (min 241 (p * get_or cs i 0) * plot_count (drop (i + 1) cs)) ≡ min 241 (p * plot_count (drop i cs))
count_turn cs p i h = cut_product (p * get_or cs i 0) (plot_count (drop (i + 1) cs)) ∙ ap (min 241) (mul_assoc p (get_or cs i 0) (plot_count (drop (i + 1) cs)) ∙ ap (λ (x : ℕ). p * x) (sym (plots_from cs i h)))

-- ---- codes

-- there are no more combinations of some names than of all
radix_most : (cs : List ℕ) (S : ℕ → Bool) → 0 < plot_count cs → radix cs S ≤ plot_count cs
unfolding radix plot_count
radix_most [] S h = omega arith
radix_most (zero ∷ cs) S h = absurd (not-suc-le-zero (rw zero-mul at h))
radix_most (suc c ∷ cs) S h =
    let below = radix_most cs (later S) (split (suc c) (plot_count cs) 0 h).some in
    by_cases (S 0)
    (λ e. rw (e, radix) (mul-le-mul_left (suc c) below))
    (λ e. rw (e, radix) (omega (arith, suc-mul c (plot_count cs))))

-- a code is below the number of plots
pub code_few : (cs : List ℕ) (S : ℕ → Bool) (u : ℕ) → u < plot_count cs → code_of cs S u < plot_count cs
code_few cs S u h = omega (arith, code_less cs S u h, radix_most cs S (omega arith))

-- the number of combinations depends only on which of the names are in the set
radix_same : (cs : List ℕ) (S T : ℕ → Bool) → ((j : ℕ) → j < length cs → S j ≡ T j) → radix cs S ≡ radix cs T
unfolding radix
radix_same [] S T h = refl
radix_same (c ∷ cs) S T h =
    ap₂ (λ (b : Bool) (r : ℕ). elim b [ true ↦ c * r | false ↦ r ]) (h 0 (omega arith)) (radix_same cs (later S) (later T) (λ j l. h (suc j) (omega arith)))

-- and so does a code
code_same : (cs : List ℕ) (S T : ℕ → Bool) (u : ℕ) → ((j : ℕ) → j < length cs → S j ≡ T j) → code_of cs S u ≡ code_of cs T u
unfolding code_of
code_same [] S T u h = refl
code_same (c ∷ cs) S T u h =
    let below = code_same cs (later S) (later T) (u % plot_count cs) (λ j l. h (suc j) (omega arith)) in
    let r = radix_same cs (later S) (later T) (λ j l. h (suc j) (omega arith)) in
    ap₂ (λ (b : Bool) (x : ℕ). elim b [ true ↦ u / plot_count cs * x + code_of cs (later S) (u % plot_count cs) | false ↦ code_of cs (later S) (u % plot_count cs) ]) (h 0 (omega arith)) r
    ∙ ap (λ (k : ℕ). elim (T 0) [ true ↦ u / plot_count cs * radix cs (later T) + k | false ↦ k ]) below

-- the code so far, with the next name where it is in the set
abbrev coded : Bool → ℕ → ℕ → ℕ → ℕ
coded b code c q = elim b [ true ↦ code * c + q | false ↦ code ]

-- the code so far and the code of what is left, before a name and after it
code_step : (b : Bool) (bs : List Bool) (c : ℕ) (cs : List ℕ) (code rest : ℕ)
    → coded b code c (rest / plot_count cs) * radix cs (in_set bs) + code_of cs (in_set bs) (rest % plot_count cs) ≡ code * radix (c ∷ cs) (in_set (b ∷ bs)) + code_of (c ∷ cs) (in_set (b ∷ bs)) rest
unfolding radix code_of
code_step true bs c cs code rest =
    let r : ℕ = radix cs (in_set bs) in
    let q : ℕ = rest / plot_count cs in
    omega (arith, add-mul (code * c) q r, mul_assoc code c r)
code_step false bs c cs code rest = refl

-- the set of names from place j on is that of the name at j and those after it
marks_from : (marks : List Bool) (j k : ℕ) → in_set (get_or marks j false ∷ drop (suc j) marks) k ≡ in_set (drop j marks) k
marks_from marks j zero = sym (get_or-drop j marks 0 false ∙ ap (in_set marks) (add-zero j))
marks_from marks j (suc k) =
    let e : suc j + k ≡ j + suc k = omega arith in
    get_or-drop (suc j) marks k false ∙ ap (in_set marks) e ∙ sym (get_or-drop j marks (suc k) false)

-- where the loop that makes plot u's code stands before name j: the code of the names before it, what is left of u, and how many plots are left
pub record Coding (cs : List ℕ) (marks : List Bool) (u code rest size j : ℕ) : Type 0 where
  pub inside : j ≤ length cs
  pub size_is : size ≡ plot_count (drop j cs)
  pub low : rest < size
  pub code_is : code * radix (drop j cs) (in_set (drop j marks)) + code_of (drop j cs) (in_set (drop j marks)) rest ≡ code_of cs (in_set marks) u

-- it stands so at the start
pub coding_starts : (cs : List ℕ) (marks : List Bool) (plots u : ℕ) → plots ≡ plot_count cs → u < plots → Coding cs marks u 0 u plots 0
coding_starts cs marks plots u e h = record { inside = omega arith; size_is = e; low = h; code_is = omega (arith, zero-mul (radix cs (in_set marks))) }

-- at the end the code is the plot's
pub coding_ends : (cs : List ℕ) (marks : List Bool) (u code rest size : ℕ) → Coding cs marks u code rest size (length cs) → code ≡ code_of cs (in_set marks) u
unfolding radix code_of
coding_ends cs marks u code rest size w =
    let e : code * 1 + 0 ≡ code_of cs (in_set marks) u = rw drop-length at w.code_is in
    omega arith

module _ (cs : List ℕ) (marks : List Bool) (u code rest size j : ℕ) (w : Coding cs marks u code rest size j) (h : j < length cs) where
  -- the count of name j
  abbrev count : ℕ
  count = get_or cs j 0

  -- how many plots the names after it have
  abbrev after : ℕ
  after = plot_count (drop (j + 1) cs)

  -- the plots left are the count times these
  size_parts : size ≡ count * after
  size_parts = w.size_is ∙ plots_from cs j h

  -- so what is left of u has two parts
  parts : Split count after rest
  parts = split count after rest (omega (arith, w.low, size_parts))

  -- the count is not 0
  pub count_some : 0 < get_or cs j 0
  count_some = omega (arith, parts.high)

  -- dividing by the count gives the plots that the names after it have
  size_next : size / count ≡ after
  size_next = ap (λ (x : ℕ). x / count) size_parts ∙ mul-div_cancel_left after count_some

  -- which are some
  pub size_some : 0 < size / get_or cs j 0
  size_some = rw size_next parts.some

  -- the code after the name
  next_is : coded (get_or marks j false) code count (rest / after) * radix (drop (j + 1) cs) (in_set (drop (j + 1) marks)) + code_of (drop (j + 1) cs) (in_set (drop (j + 1) marks)) (rest % after)
      ≡ code_of cs (in_set marks) u
  next_is =
      rw add-one (code_step (get_or marks j false) (drop (suc j) marks) count (drop (suc j) cs) code rest)
      ∙ ap (λ (xs : List ℕ). code * radix xs from + code_of xs from rest) (sym (drop-cons cs j 0 h))
      ∙ ap₂ (λ (x y : ℕ). code * x + y) (radix_same (drop j cs) from (in_set (drop j marks)) (λ k l. marks_from marks j k)) (code_same (drop j cs) from (in_set (drop j marks)) rest (λ k l. marks_from marks j k))
      ∙ w.code_is
    where
      from : ℕ → Bool
      from = in_set (get_or marks j false ∷ drop (suc j) marks)

  -- a turn of the loop: it stands so before the next name
  pub coding_turn : (next : ℕ) → next ≡ coded (get_or marks j false) code (get_or cs j 0) (rest / (size / get_or cs j 0)) → Coding cs marks u next (rest % (size / get_or cs j 0)) (size / get_or cs j 0) (j + 1)
  coding_turn next e = record {
    inside = omega arith;
    size_is = size_next;
    low = rw size_next parts.low;
    code_is = rw (e, size_next) next_is;
  }

  -- the code with the name, where it is in the set, is below the number of plots
  pub coded_few : u < plot_count cs → get_or marks j false ≡ true → code * get_or cs j 0 + rest / (size / get_or cs j 0) < plot_count cs
  coded_few l e =
      let n : ℕ = code * count + rest / after in
      let r : ℕ = radix (drop (j + 1) cs) (in_set (drop (j + 1) marks)) in
      let k : ℕ = code_of (drop (j + 1) cs) (in_set (drop (j + 1) marks)) (rest % after) in
      let is : n * r + k ≡ code_of cs (in_set marks) u = rw e at next_is in
      let some : 0 < r = omega (arith, code_less (drop (j + 1) cs) (in_set (drop (j + 1) marks)) (rest % after) parts.low) in
      rw size_next (omega (arith, code_few cs (in_set marks) u l, le-mul_of_pos_right n some))

-- ---- the columns

module _ (cs : List ℕ) (marks : List Bool) (plots : ℕ) where
  -- one for each plot
  pub length_levels : length (levels_by cs marks plots) ≡ plots
  length_levels = length_tabulate (λ u. suc (code_of cs (in_set marks) u)) plots

  -- a list of the levels of all plots is the column
  pub levels_all : (column : List ℕ) → length column ≡ plots → ((u : ℕ) → u < plots → get_or column u 0 ≡ suc (code_of cs (in_set marks) u)) → column ≡ levels_by cs marks plots
  levels_all column long same =
      sym (tabulate_get_d 0 column) ∙ ap (tabulate (λ u. get_or column u 0)) long
      ∙ tabulate_ext (λ u. get_or column u 0) (λ u. suc (code_of cs (in_set marks) u)) plots same

module _ (text cs : List ℕ) (plots : ℕ) where
  -- the column of name i
  abbrev column_in : ℕ → Column
  column_in i = levels_by cs (seen_text text i) plots

  -- one for each name
  length_columns : length (columns_in text cs plots) ≡ length cs
  unfolding columns_in
  length_columns = length_tabulate column_in (length cs)

  -- so these are all
  pub columns_all : take (length cs) (columns_in text cs plots) ≡ columns_in text cs plots
  columns_all = take_all (length cs) (columns_in text cs plots) (omega (arith, length_columns))

  -- a turn of the loop that writes the columns: the table's first columns are those of one name more
  pub columns_turn : (levels : List ℕ) (i : ℕ) → plots ≤ most_plots → most_plots * i + most_plots ≤ length levels → i < length cs → members_of plots levels i ≡ take i (columns_in text cs plots)
      → members_of plots (paste levels (most_plots * i) (levels_by cs (seen_text text i) plots) plots) (i + 1) ≡ take (i + 1) (columns_in text cs plots)
  unfolding columns_in
  columns_turn levels i few room h e =
      rw add-one
      (ap (λ (l : List ℕ). members_of plots l (suc i)) pasted
      ∙ members_add plots few levels i (column_in i) long room
      ∙ ap₂ (λ (S : List Column) (F : Column). S ++ F ∷ []) e (sym is_column_lem)
      ∙ sym (take-suc (columns_in text cs plots) i [] (rw length_columns h)))
    where
      long : length (column_in i) ≡ plots
      long = length_levels cs (seen_text text i) plots

      pasted : paste levels (most_plots * i) (column_in i) plots ≡ put plots few levels i (column_in i)
      pasted = ap₂ (λ (F : Column) (n : ℕ). take (most_plots * i) levels ++ F ++ drop (most_plots * i + n) levels) (take_all plots (column_in i) (omega (arith, long))) (sym long)

      is_column_lem : get_or (columns_in text cs plots) i [] ≡ column_in i
      is_column_lem = get_d_tabulate column_in (length cs) i [] h

-- where the text tells what each name sees, the columns are the formula's own
pub columns_are : (text : List ℕ) (f : Formula) → ((i j : ℕ) → i < length (names_of f) → j < most_columns → get_or (seen_text text i) j false ≡ seen f i j)
    → length (counts_of f) ≤ most_columns → 0 < plot_count (counts_of f) → columns_in text (counts_of f) (plot_count (counts_of f)) ≡ columns_of f
unfolding columns_in columns_of
columns_are text f same few some =
    let cs : List ℕ = counts_of f in
    tabulate_ext (column_in text cs (plot_count cs)) (λ i. column_of cs (seen f i)) (length cs)
    (λ i l. tabulate_ext (λ u. suc (code_of cs (in_set (seen_text text i)) u)) (λ u. suc (code_of cs (seen f i) u)) (plot_count cs)
    (λ u k. ap suc (code_same cs (in_set (seen_text text i)) (seen f i) u (λ j n. same i j (omega (arith, counts_names f)) (omega arith))))
    ∙ sym (column_codes cs (seen f i) some))
