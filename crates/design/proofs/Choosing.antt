-- Laws of the choices of treatment columns, of their infima in a buffer, and of the infima placed in turn.
-- Assumes nothing.
use Rattle.std.specs.Prelude.{Option, None, Some}
use mathlib.Core.Path.{◌≡◌, refl, sym, ap, ap₂, ◌∙◌, subst}
use mathlib.Core.Logic.{◌⊎◌, inl, inr}
use mathlib.Core.Bool.{Bool, true, false}
use mathlib.Core.List.Memᴰ
use mathlib.Core.List.{List, [], ◌∷◌, ◌++◌, map, map-append, append-nil, append_assoc}
use Prim.Native.Nat.{ℕ, zero, suc, ◌+◌, ◌*◌, ◌-◌, ◌≤◌, ◌<◌, ◌/◌}
use native.Mathlib.Nat.{le_of_eq, not-suc-le-zero, le_of_suc-le-suc, lt_irrefl, zero-add, add-zero}
use native.Mathlib.Numerals.{add-one}
use native.Mathlib.Omega.{arith}
use lib.Dec.{ltb, eqb, leb-suc-suc, leb-suc-zero}
use lib.ListN.{length, get_or, take, drop, set, length-set, length-append, replicate, get_or-append}
use lib.Seq.{paste, take-suc, take_all, take-length, get_or-set_same, get_or-set_other, get_or_at}
use borrow.Author.Tests.{lt-ltb, le-ltb, ltb-true, ltb-false, eqb-true, eqb-false}
use Rattle.rules.specs.Factor.{Column, number, infimum, universal}
use Rattle.rules.specs.Family.{Family, ◌∈◌, columns_from, members_of}
use Rattle.rules.specs.Closing.{choices, infimum_all, treatment_generators, only_supremum, too_many, close, given, Chosen, none_of, skipping, taking}
use Rattle.rules.proofs.Numbering.{by_cases, length_number, number_number, length_infimum, number_infimum}
use Rattle.rules.proofs.Bounds.{infimum_number}
use Rattle.rules.proofs.ClassCount.{infimum_universal}
use Rattle.rules.proofs.Extremes.{length_universal, number_universal}
use Rattle.rules.proofs.Buffer.{put, length_put, length_members, member_is, members_add}
use Rattle.rules.proofs.WorkList.{member_in, found_over}
use Rattle.rules.proofs.Families.{choices_chosen}
use Rattle.factor.specs.Lent.{on_common, overlay}
use Rattle.factor.proofs.Lent.{common_all, take_overlay}
use Rattle.design.specs.State.{column_at, PlacedMember, old, new, NoRoom, grown_to, Begun}
use Rattle.design.specs.Treatments.{with_choice, shorter, extended, Room, Infima, AllPlaced}
use Rattle.design.proofs.Placing.{grown_old}
use Rattle.factor.proofs.Lent.{part_of, length_part}
use Rattle.design.proofs.Start.{begun_more}

-- ---- choices

-- the choice is short enough
shorter_yes : (k : ℕ) (C : List Column) (Cs : List (List Column)) → ltb (length C) k ≡ true → shorter k (C ∷ Cs) ≡ C ∷ shorter k Cs
unfolding shorter
shorter_yes k C Cs e = rw (e, shorter)

-- the choice is too long
shorter_no : (k : ℕ) (C : List Column) (Cs : List (List Column)) → ltb (length C) k ≡ false → shorter k (C ∷ Cs) ≡ shorter k Cs
unfolding shorter
shorter_no k C Cs e = rw (e, shorter)

-- the short choices of two lists
shorter_append : (k : ℕ) (Cs Ds : List (List Column)) → shorter k (Cs ++ Ds) ≡ shorter k Cs ++ shorter k Ds
unfolding shorter
shorter_append k [] Ds = refl
shorter_append k (C ∷ Cs) Ds =
    by_cases (ltb (length C) k)
    (λ e. shorter_yes k C (Cs ++ Ds) e ∙ ap (λ (l : List (List Column)). C ∷ l) (shorter_append k Cs Ds) ∙ ap (λ (l : List (List Column)). l ++ shorter k Ds) (sym (shorter_yes k C Cs e)))
    (λ e. shorter_no k C (Cs ++ Ds) e ∙ shorter_append k Cs Ds ∙ ap (λ (l : List (List Column)). l ++ shorter k Ds) (sym (shorter_no k C Cs e)))

-- no choice is of fewer than 0 columns
shorter_zero : (Cs : List (List Column)) → shorter 0 Cs ≡ []
unfolding shorter
shorter_zero [] = refl
shorter_zero (C ∷ Cs) = shorter_no 0 C Cs (leb-suc-zero (length C)) ∙ shorter_zero Cs

module _ (T : Column) where
  -- the choice with T in front
  abbrev pub with_t : List Column → List Column
  with_t C = T ∷ C

  -- the short ones of the choices with T in front
  shorter_with : (k : ℕ) (Cs : List (List Column)) → shorter (suc k) (map with_t Cs) ≡ map with_t (shorter k Cs)
  unfolding shorter
  shorter_with k [] = refl
  shorter_with k (C ∷ Cs) =
      by_cases (ltb (length C) k)
      (λ e. shorter_yes (suc k) (with_t C) (map with_t Cs) (leb-suc-suc (suc (length C)) k ∙ e) ∙ ap (λ (l : List (List Column)). with_t C ∷ l) (shorter_with k Cs) ∙ ap (map with_t) (sym (shorter_yes k C Cs e)))
      (λ e. shorter_no (suc k) (with_t C) (map with_t Cs) (leb-suc-suc (suc (length C)) k ∙ e) ∙ shorter_with k Cs ∙ ap (map with_t) (sym (shorter_no k C Cs e)))

-- of the choices of at most k + 1 columns, the short ones are the choices of at most k
shorter_choices : (k : ℕ) (Ts : List Column) → shorter (suc k) (choices (suc k) Ts) ≡ choices k Ts
unfolding choices shorter
shorter_choices zero [] = refl
shorter_choices (suc k) [] = shorter_yes (suc (suc k)) [] [] (lt-ltb 0 (suc (suc k)) (omega arith))
shorter_choices zero (T ∷ Ts) =
    shorter_append 1 (choices 1 Ts) (map (with_t T) ([] ∷ [])) ∙ ap₂ (λ (a b : List (List Column)). a ++ b) (shorter_choices zero Ts) (shorter_with T 0 ([] ∷ []) ∙ ap (map (with_t T)) (shorter_zero ([] ∷ [])))
shorter_choices (suc k) (T ∷ Ts) =
    shorter_append (suc (suc k)) (choices (suc (suc k)) Ts) (map (with_t T) (choices (suc k) Ts))
    ∙ ap₂ (λ (a b : List (List Column)). a ++ b) (shorter_choices (suc k) Ts) (shorter_with T (suc k) (choices (suc k) Ts) ∙ ap (map (with_t T)) (shorter_choices k Ts))

-- a treatment column more
pub choices_more : (k : ℕ) → 1 ≤ k → (T : Column) (Ts : List Column) → extended k T (choices k Ts) ≡ choices k (T ∷ Ts)
unfolding extended choices
choices_more zero h T Ts = absurd (not-suc-le-zero h)
choices_more (suc k) h T Ts = ap (λ (l : List (List Column)). choices (suc k) Ts ++ map (with_t T) l) (shorter_choices k Ts)

-- no treatment column
pub choices_none : (k : ℕ) → choices k [] ≡ [] ∷ []
unfolding choices
choices_none zero = refl
choices_none (suc k) = refl

-- ---- choices extended in turn

module _ (k : ℕ) (T : Column) (Cs : List (List Column)) where
  -- the choices once the first e of them are looked at
  abbrev pub reached : ℕ → List (List Column)
  reached e = Cs ++ map (with_t T) (shorter k (take e Cs))

  -- none is looked at
  pub reached_none : reached 0 ≡ Cs
  unfolding shorter
  reached_none = append-nil Cs

  -- all are looked at
  pub reached_all : (e : ℕ) → length Cs ≤ e → reached e ≡ extended k T Cs
  unfolding extended
  reached_all e h = rw (take_all e Cs h)

  next : (e : ℕ) → e < length Cs → shorter k (take (e + 1) Cs) ≡ shorter k (take e Cs) ++ shorter k (get_or Cs e [] ∷ [])
  next e h = ap (shorter k) (ap (λ (i : ℕ). take i Cs) (add-one e) ∙ take-suc Cs e [] h) ∙ shorter_append k (take e Cs) (get_or Cs e [] ∷ [])

  -- the choice at e is extended
  pub reached_more : (e : ℕ) → e < length Cs → length (get_or Cs e []) < k → reached (e + 1) ≡ reached e ++ (T ∷ get_or Cs e []) ∷ []
  unfolding shorter
  reached_more e h l =
      ap (λ (l : List (List Column)). Cs ++ map (with_t T) l) (next e h ∙ ap (λ (l : List (List Column)). shorter k (take e Cs) ++ l) (shorter_yes k (get_or Cs e []) [] (lt-ltb _ _ l)))
      ∙ ap (λ (l : List (List Column)). Cs ++ l) (map-append (with_t T) (shorter k (take e Cs)) (get_or Cs e [] ∷ []))
      ∙ sym (append_assoc Cs (map (with_t T) (shorter k (take e Cs))) ((T ∷ get_or Cs e []) ∷ []))

  -- the choice at e is too long
  pub reached_same : (e : ℕ) → e < length Cs → k ≤ length (get_or Cs e []) → reached (e + 1) ≡ reached e
  unfolding shorter
  reached_same e h l =
      ap (λ (l : List (List Column)). Cs ++ map (with_t T) l)
      (next e h ∙ ap (λ (l : List (List Column)). shorter k (take e Cs) ++ l) (shorter_no k (get_or Cs e []) [] (le-ltb _ _ l)) ∙ append-nil (shorter k (take e Cs)))

  -- the choice at e is as it was
  pub reached_at : (e i : ℕ) → i < length Cs → get_or (reached e) i [] ≡ get_or Cs i []
  reached_at e i h = get_or-append Cs (map (with_t T) (shorter k (take e Cs))) [] i h

-- ---- how many choices there are

-- t doubled c times
unfoldable pub doubled : ℕ → ℕ → ℕ
doubled zero t = t
doubled (suc c) t = doubled c (2 * t)

pub doubled_least : (c t : ℕ) → t ≤ doubled c t
unfolding doubled
doubled_least zero t = omega arith
doubled_least (suc c) t = let h = doubled_least c (2 * t) in omega arith

doubled_mono : (c s t : ℕ) → s ≤ t → doubled c s ≤ doubled c t
unfolding doubled
doubled_mono zero s t h = h
doubled_mono (suc c) s t h = doubled_mono c (2 * s) (2 * t) (omega arith)

doubled_longer : (c d t : ℕ) → c ≤ d → doubled c t ≤ doubled d t
unfolding doubled
doubled_longer zero d t h = doubled_least d t
doubled_longer (suc c) zero t h = absurd (not-suc-le-zero h)
doubled_longer (suc c) (suc d) t h = doubled_longer c d (2 * t) (le_of_suc-le-suc h)

-- 1 doubled at most 6 times
pub doubled_first : (c : ℕ) → c ≤ 6 → doubled c 1 ≤ 64
unfolding doubled
doubled_first c h = subst (λ (m : ℕ). doubled c 1 ≤ m) six (doubled_longer c 6 1 h)
  where
    six : doubled 6 1 ≡ 64
    six = refl

-- 1 doubled at most 3 times
doubled_few : (c : ℕ) → c ≤ 3 → doubled c 1 ≤ 8
unfolding doubled
doubled_few c h = subst (λ (m : ℕ). doubled c 1 ≤ m) three (doubled_longer c 3 1 h)
  where
    three : doubled 3 1 ≡ 8
    three = refl

-- there are bytes for as many infima
pub doubled_bytes : (c bytes : ℕ) → c ≤ 6 → ((c ≤ 3) × (1920 ≤ bytes)) ⊎ (15360 ≤ bytes) → doubled c 1 ≤ bytes / 240
doubled_bytes c bytes h (inl w) = omega (arith, doubled_few c w.0, w.1)
doubled_bytes c bytes h (inr w) = omega (arith, doubled_first c h)

-- there is room to double once more
pub doubled_room : (m c t : ℕ) → 0 < c → doubled c t ≤ m → 2 * t ≤ m
unfolding doubled
doubled_room m zero t z h = absurd (not-suc-le-zero z)
doubled_room m (suc c) t z h = let q = doubled_least c (2 * t) in omega arith

-- and after it
pub doubled_next : (m c t s : ℕ) → 0 < c → doubled c t ≤ m → s ≤ 2 * t → doubled (c - 1) s ≤ m
unfolding doubled
doubled_next m zero t s z h l = absurd (not-suc-le-zero z)
doubled_next m (suc c) t s z h l =
    let e : suc c - 1 ≡ c = omega arith in
    let q = doubled_mono c s (2 * t) l in
    subst (λ (x : ℕ). doubled x s ≤ m) (sym e) (omega arith)

-- ---- infima

-- the elements of a list of values
get_d_map : {A : Type 0} {B : Type 0} (f : A → B) (l : List A) (i : ℕ) (d : A) (e : B) → i < length l → get_or (map f l) i e ≡ f (get_or l i d)
get_d_map f [] i d e h = absurd (not-suc-le-zero h)
get_d_map f (x ∷ l) zero d e h = refl
get_d_map f (x ∷ l) (suc i) d e h = get_d_map f l i d e (le_of_suc-le-suc h)

-- pasting a whole column is putting it
paste_whole : (n : ℕ) (small : n ≤ 240) (b : List ℕ) (m : ℕ) (F : Column) → length F ≡ n → paste b (240 * m) F n ≡ put n small b m F
paste_whole n small b m F l = subst (λ (i : ℕ). paste b (240 * m) F i ≡ put n small b m F) l (rw (take-length F))

-- a column is pasted after the last member
pub members_paste : (n : ℕ) → n ≤ 240 → (b : List ℕ) (m : ℕ) (F : Column) → length F ≡ n → 240 * m + 240 ≤ length b → members_of n (paste b (240 * m) F n) (suc m) ≡ members_of n b m ++ F ∷ []
members_paste n small b m F l h = ap (λ (x : List ℕ). members_of n x (suc m)) (paste_whole n small b m F l) ∙ members_add n small b m F l h

-- and the buffer is as long as it was
pub length_pasted : (n : ℕ) → n ≤ 240 → (b : List ℕ) (m : ℕ) (F : Column) → length F ≡ n → 240 * m + 240 ≤ length b → length (paste b (240 * m) F n) ≡ length b
length_pasted n small b m F l h = ap length (paste_whole n small b m F l) ∙ length_put n small b m F l h

-- ---- the infimum of a column with a part of a buffer, in an array

module _ (T : Column) (b : List ℕ) (e : ℕ) (small : length T ≤ 240) (fits : 240 * e + 240 ≤ length b) where
  abbrev pub lent_part : Column
  lent_part = take (240 * e + length T - 240 * e) (drop (240 * e) b)

  abbrev G : Column
  G = column_at (length T) b e

  on_plots_lem : length G ≡ length T
  on_plots_lem = length_part (length T) e b (omega (arith, small, fits))

  -- it is on as many plots
  pub length_met : length (infimum T G) ≡ length T
  length_met = length_infimum T G (sym on_plots_lem)

  module _ (out after : List ℕ) (q : after ≡ overlay out (on_common infimum T lent_part)) where
    array_is : after ≡ overlay out (infimum T G)
    array_is = q ∙ ap (λ (X : Column). overlay out (on_common infimum T X)) (part_of (length T) e b) ∙ ap (overlay out) (common_all infimum T G (sym on_plots_lem) small)

    -- the array starts with it
    pub take_met : take (length T) after ≡ infimum T G
    take_met = ap (λ (l : List ℕ). take (length T) l) array_is ∙ take_overlay out (infimum T G) (length T) length_met

    -- the array is long enough
    pub long_met : length T ≤ length after
    long_met = rw (array_is, length-append) (omega (arith, length_met))

-- room stays
pub room_more : (n : ℕ) (lengths : List ℕ) (m v : ℕ) → Room n lengths → m < 64 → v ≤ 6 → Room n (set lengths m v)
room_more n lengths m v r h f = record {
  some = r.some;
  most = r.most;
  cells = length-set lengths m v ∙ r.cells;
  small = λ j. below j (eqb j m) refl;
}
  where
    below : (j : ℕ) (b : Bool) → eqb j m ≡ b → get_or (set lengths m v) j 0 ≤ 6
    below j true q = let same : j ≡ m = eqb-true j m q in rw (same, get_or-set_same lengths m v 0 (rw r.cells h)) f
    below j false q = rw (get_or-set_other lengths m j v 0 (eqb-false j m q)) (r.small j)

module _ (n : ℕ) (infima lengths : List ℕ) (m : ℕ) (Cs : List (List Column)) (i : Infima n infima lengths m Cs) where
  -- the infimum at e
  pub infimum_at : (e : ℕ) → e < m → column_at n infima e ≡ infimum_all n (get_or Cs e [])
  infimum_at e h =
      sym (member_is n i.room.most infima m e h) ∙ ap (λ (S : Family). get_or S e []) i.columns
      ∙ get_d_map (infimum_all n) Cs e [] [] (rw i.count h)

  module _ (T : Column) (l : length T ≡ n) (e : ℕ) (h : e < m) (less : m < 64) (short : get_or lengths e 0 + 1 ≤ 6) (wide : 240 * m + 240 ≤ length infima) where
    abbrev C : List Column
    C = get_or Cs e []

    abbrev F : Column
    F = infimum (number T) (column_at n infima e)

    on_n : length (column_at n infima e) ≡ n
    on_n = length_part n e infima (omega (arith, i.fits, i.room.most))

    length_F : length F ≡ n
    length_F = length_infimum (number T) (column_at n infima e) (length_number T ∙ l ∙ sym on_n) ∙ length_number T ∙ l

    is : F ≡ infimum_all n (T ∷ C)
    unfolding infimum_all
    is = infimum_number n T (column_at n infima e) l on_n ∙ ap (infimum T) (infimum_at e h)

    -- one infimum more
    pub infima_more : Infima n (paste infima (240 * m) F n) (set lengths m (get_or lengths e 0 + 1)) (m + 1) (Cs ++ (T ∷ C) ∷ [])
    infima_more = record {
      room = room_more n lengths m (get_or lengths e 0 + 1) i.room less short;
      count = length-append Cs ((T ∷ C) ∷ []) ∙ omega (arith, i.count);
      few = omega arith;
      fits = rw (length_pasted n i.room.most infima m F length_F wide) (omega arith);
      columns = ap (members_of n (paste infima (240 * m) F n)) (add-one m)
          ∙ members_paste n i.room.most infima m F length_F wide
          ∙ ap₂ (λ (S : Family) (G : Column). S ++ G ∷ []) i.columns is
          ∙ sym (map-append (infimum_all n) Cs ((T ∷ C) ∷ []));
      sizes = λ j k. size j k (ltb j m) refl;
    }
      where
        size : (j : ℕ) → j < m + 1 → (b : Bool) → ltb j m ≡ b → get_or (set lengths m (get_or lengths e 0 + 1)) j 0 ≡ length (get_or (Cs ++ (T ∷ C) ∷ []) j [])
        size j k true q =
            let less-j : j < m = ltb-true j m q in
            get_or-set_other lengths m j (get_or lengths e 0 + 1) 0 (λ p. lt_irrefl m (rw p at less-j))
            ∙ i.sizes j less-j
            ∙ ap length (sym (get_or-append Cs ((T ∷ C) ∷ []) [] j (rw i.count less-j)))
        size j k false q =
            let same : j ≡ m = omega (arith, ltb-false j m q) in
            rw same
            (get_or-set_same lengths m (get_or lengths e 0 + 1) 0 (rw i.room.cells less)
            ∙ ap (λ (x : ℕ). x + 1) (i.sizes e h) ∙ add-one (length C)
            ∙ ap length (sym (get_or_at Cs (T ∷ C) [] [] m i.count)))

-- ---- the infima extended by a column

-- with the infimum of no column it is the column, and otherwise the infimum of the two
pub choice_none : (l : ℕ) (T X : Column) → l ≡ 0 → with_choice l T X ≡ T
choice_none zero T X e = refl
choice_none (suc l) T X e = absurd (omega arith)

pub choice_some : (l : ℕ) (T X : Column) → (l ≡ 0 → ⊥) → with_choice l T X ≡ infimum T X
choice_some zero T X d = absurd (d refl)
choice_some (suc l) T X d = refl

module _ (column : Column) (k : ℕ) (infima₀ lengths₀ : List ℕ) (total : ℕ) where
  -- the first e infima are looked at
  pub record Extending (infima lengths : List ℕ) (size e : ℕ) : Type 0 where
    pub room : Room (length column) lengths
    pub bytes : length infima ≡ length infima₀
    pub low : total ≤ size
    pub high : size ≤ total + e
    pub chosen : (T : Column) (Cs : List (List Column)) → number T ≡ column → Infima (length column) infima₀ lengths₀ total Cs → Infima (length column) infima lengths size (reached k T Cs e)

  -- none is looked at
  pub extending_none : Room (length column) lengths₀ → Extending infima₀ lengths₀ total 0
  extending_none r = record {
    room = r;
    bytes = refl;
    low = omega arith;
    high = omega arith;
    chosen = λ T Cs q i. subst (λ (Ds : List (List Column)). Infima (length column) infima₀ lengths₀ total Ds) (sym (reached_none k T Cs)) i;
  }

  module _ (infima lengths : List ℕ) (size e : ℕ) (x : Extending infima lengths size e) (less : e < total) (few : 2 * total ≤ 64) (narrow : k ≤ 6) (wide : 480 * total ≤ length infima₀) where
    -- the infimum at e lies in the buffer, and so does the next
    fits_here : 240 * e + 240 ≤ length infima
    fits_here = omega (arith, x.bytes)

    fits_next : 240 * size + 240 ≤ length infima
    fits_next = omega (arith, x.bytes, x.high)

    -- the number of columns at e
    columns_at_lem : (T : Column) (Cs : List (List Column)) → number T ≡ column → Infima (length column) infima₀ lengths₀ total Cs → get_or lengths e 0 ≡ length (get_or Cs e [])
    columns_at_lem T Cs q i = (x.chosen T Cs q i).sizes e (omega (arith, x.low)) ∙ ap length (reached_at k T Cs e e (rw i.count less))

    -- what a column and a choice make is the infimum of the two, or the column where the choice is empty
    choice_is : (T : Column) (Cs : List (List Column)) → number T ≡ column → Infima (length column) infima₀ lengths₀ total Cs
        → (l : ℕ) → l ≡ get_or lengths e 0 → with_choice l column (column_at (length column) infima e) ≡ infimum column (column_at (length column) infima e)
    unfolding infimum_all
    choice_is T Cs w i zero q =
        let h : e < size = omega (arith, x.low) in
        let alone : get_or (reached k T Cs e) e [] ≡ [] = no_column (get_or (reached k T Cs e) e []) (sym ((x.chosen T Cs w i).sizes e h) ∙ sym q) in
        let u : column_at (length column) infima e ≡ universal (length column) = infimum_at (length column) infima lengths size (reached k T Cs e) (x.chosen T Cs w i) e h ∙ ap (infimum_all (length column)) alone in
        sym (ap (infimum column) u ∙ infimum_universal (length column) column refl (ap number (sym w) ∙ number_number T ∙ w))
      where
        no_column : (C : List Column) → length C ≡ 0 → C ≡ []
        no_column [] e = refl
        no_column (F ∷ C) e = absurd (omega arith)
    choice_is T Cs w i (suc l) q = refl

    -- it is on as many plots
    length_choice : (l : ℕ) → length (with_choice l column (column_at (length column) infima e)) ≡ length column
    length_choice zero = refl
    length_choice (suc l) = length_met column infima e x.room.most fits_here

    -- what the column makes with the choice at e is added
    pub extending_more : get_or lengths e 0 < k → (after lengths' : List ℕ) (size' : ℕ) → after ≡ paste infima (240 * size) (with_choice (get_or lengths e 0) column (column_at (length column) infima e)) (length column)
        → lengths' ≡ set lengths size (get_or lengths e 0 + 1) → size' ≡ size + 1 → Extending after lengths' size' (e + 1)
    extending_more short after lengths' size' p q z = rw (p, q, z) record {
      room = room_more (length column) lengths size (get_or lengths e 0 + 1) x.room (omega (arith, x.high)) (omega arith);
      bytes = length_pasted (length column) x.room.most infima size made (length_choice (get_or lengths e 0)) fits_next ∙ x.bytes;
      low = omega (arith, x.low);
      high = omega (arith, x.high);
      chosen = next_chosen;
    }
      where
        made : Column
        made = with_choice (get_or lengths e 0) column (column_at (length column) infima e)

        Next : Column → (T : Column) → List (List Column) → Type 0
        Next F T Ds = Infima (length column) (paste infima (240 * size) F (length column)) (set lengths size (get_or lengths e 0 + 1)) (size + 1) Ds

        next_chosen : (T : Column) (Cs : List (List Column)) → number T ≡ column → Infima (length column) infima₀ lengths₀ total Cs → Next made T (reached k T Cs (e + 1))
        next_chosen T Cs w i =
            let l : length T ≡ length column = sym (length_number T) ∙ ap length w in
            let h : e < length Cs = rw i.count less in
            let s : length (get_or Cs e []) < k = subst (λ (m : ℕ). m < k) (columns_at_lem T Cs w i) short in
            let j = infima_more (length column) infima lengths size (reached k T Cs e) (x.chosen T Cs w i) T l e (omega (arith, x.low)) (omega (arith, x.high)) (omega arith) fits_next in
            subst (λ (F : Column). Next F T (reached k T Cs (e + 1))) (sym (choice_is T Cs w i (get_or lengths e 0) refl))
            (subst (λ (Ds : List (List Column)). Next (infimum column (column_at (length column) infima e)) T Ds)
            (ap (λ (D : List Column). reached k T Cs e ++ (T ∷ D) ∷ []) (reached_at k T Cs e e h) ∙ sym (reached_more k T Cs e h s))
            (subst (λ (N : Column). Next (infimum N (column_at (length column) infima e)) T (reached k T Cs e ++ (T ∷ get_or (reached k T Cs e) e []) ∷ [])) w j))

    -- the one at e is of too many columns
    pub extending_same : k ≤ get_or lengths e 0 → (after lengths' : List ℕ) (size' : ℕ) → after ≡ infima → lengths' ≡ lengths → size' ≡ size → Extending after lengths' size' (e + 1)
    extending_same long after lengths' size' p q z = rw (p, q, z) record {
      room = x.room;
      bytes = x.bytes;
      low = x.low;
      high = omega (arith, x.high);
      chosen = λ T Cs w i.
          subst (λ (Ds : List (List Column)). Infima (length column) infima lengths size Ds)
          (sym (reached_same k T Cs e (rw i.count less) (subst (λ (m : ℕ). k ≤ m) (columns_at_lem T Cs w i) long)))
          (x.chosen T Cs w i);
    }

  -- all are looked at
  pub extending_all : (infima lengths : List ℕ) (size : ℕ) → Extending infima lengths size total → (T : Column) (Cs : List (List Column)) → number T ≡ column → Infima (length column) infima₀ lengths₀ total Cs
      → Infima (length column) infima lengths size (extended k T Cs)
  extending_all infima lengths size x T Cs w i =
      subst (λ (Ds : List (List Column)). Infima (length column) infima lengths size Ds) (reached_all k T Cs total (omega (arith, i.count))) (x.chosen T Cs w i)

-- ---- what is written at first

-- an array of zeros holds 0 everywhere
pub zero_at : (m j : ℕ) → get_or {A = ℕ} (replicate m 0) j 0 ≡ 0
zero_at zero j = refl
zero_at (suc m) zero = refl
zero_at (suc m) (suc j) = zero_at m j

-- U alone
pub infima_none : (n k : ℕ) (infima lengths : List ℕ) → Room n lengths → 240 ≤ length infima → get_or lengths 0 0 ≡ 0 → Infima n (paste infima 0 (universal n) n) lengths 1 (choices k [])
unfolding members_of columns_from infimum_all
infima_none n k infima lengths r wide z = subst (λ (Cs : List (List Column)). Infima n (paste infima 0 (universal n) n) lengths 1 Cs) (sym (choices_none k)) record {
  room = r;
  count = refl;
  few = omega arith;
  fits = rw (length_pasted n r.most infima 0 (universal n) (length_universal n) (omega arith)) (omega arith);
  columns = members_paste n r.most infima 0 (universal n) (length_universal n) (omega arith);
  sizes = λ e h. let q : e ≡ 0 = omega arith in rw q z;
}

-- the treatment columns from the last to the one at c
module _ (n k first d : ℕ) (levels : List ℕ) where
  abbrev pub last_of : ℕ → List (List Column)
  last_of c = choices k (columns_from n levels (first + c) (d - c))

  -- no column
  pub last_none : (c : ℕ) → c ≡ d → last_of c ≡ choices k []
  unfolding columns_from
  last_none c e =
      let z : d - c ≡ 0 = omega arith in
      rw z

  -- a column more
  pub last_more : 1 ≤ k → (c : ℕ) → 0 < c → c ≤ d → extended k (column_at n levels (first + (c - 1))) (last_of c) ≡ last_of (c - 1)
  unfolding columns_from
  last_more some c h l =
      let z : d - (c - 1) ≡ suc (d - c) = omega arith in
      let s : first + c ≡ suc (first + (c - 1)) = omega arith in
      rw (z, s) (choices_more k some (column_at n levels (first + (c - 1))) (columns_from n levels (suc (first + (c - 1))) (d - c)))

  -- all columns
  pub last_all : (c : ℕ) → c ≡ 0 → map (infimum_all n) (last_of c) ≡ treatment_generators n k (columns_from n levels first d)
  unfolding treatment_generators
  last_all c e =
      let z : d - c ≡ d = omega arith in
      let s : first + c ≡ first = omega arith in
      rw (z, s)

-- ---- infima placed in turn

-- the columns from a later place on are among those from an earlier one on
columns_late : (n : ℕ) (b : List ℕ) (d c k : ℕ) (F : Column) → F ∈ columns_from n b (d + c) k → F ∈ columns_from n b c (d + k)
unfolding columns_from
columns_late n b zero c k F m = subst (λ (x : ℕ). F ∈ columns_from n b c x) (sym (zero-add k)) (subst (λ (x : ℕ). F ∈ columns_from n b x k) (zero-add c) m)
columns_late n b (suc d) c k F m =
    let p : suc d + c ≡ d + suc c = omega arith in
    let q : suc (d + k) ≡ suc d + k = omega arith in
    subst (λ (x : ℕ). F ∈ columns_from n b c x) q (Memᴰ.tail (columns_late n b d (suc c) k F (subst (λ (x : ℕ). F ∈ columns_from n b x k) p m)))

-- those from place e on are members
pub members_late : (n : ℕ) (b : List ℕ) (e m : ℕ) → e ≤ m → (F : Column) → F ∈ columns_from n b e (m - e) → F ∈ members_of n b m
unfolding members_of
members_late n b e m h F i =
    let q : e + (m - e) ≡ m = omega arith in
    subst (λ (k : ℕ). F ∈ columns_from n b 0 k) q (columns_late n b e 0 (m - e) F (subst (λ (k : ℕ). F ∈ columns_from n b k (m - e)) (sym (add-zero e)) i))

-- columns of a larger list, with others behind both
pub beside : {As Bs : List Column} → ((F : Column) → F ∈ As → F ∈ Bs) → (S : List Column) (F : Column) → F ∈ As ++ S → F ∈ Bs ++ S
beside {As} {Bs} sub S F m = go (Memᴰ.append_cases As m)
  where
    go : (F ∈ As) ⊎ (F ∈ S) → F ∈ Bs ++ S
    go (inl k) = Memᴰ.append_left S (sub F k)
    go (inr k) = Memᴰ.append_right Bs k

-- from one place earlier on there is a column more
pub members_before : (n : ℕ) (b : List ℕ) (e m : ℕ) → 0 < e → e ≤ m → columns_from n b (e - 1) (m - (e - 1)) ≡ column_at n b (e - 1) ∷ columns_from n b e (m - e)
unfolding columns_from
members_before n b e m some h =
    let p : m - (e - 1) ≡ suc (m - e) = omega arith in
    let q : suc (e - 1) ≡ e = omega arith in
    ap (columns_from n b (e - 1)) p ∙ ap (λ (x : ℕ). column_at n b (e - 1) ∷ columns_from n b x (m - e)) q

-- each column of a buffer is a member
pub column_member : (n : ℕ) → n ≤ 240 → (b : List ℕ) (e m : ℕ) → e < m → column_at n b e ∈ members_of n b m
column_member n small b e m h = Memᴰ.cast (sym (member_is n small b m e h)) (member_in (members_of n b m) e (rw (length_members n small b m) h))

module _ (n : ℕ) (As : List Column) (store counts : List ℕ) (size : ℕ) (b : Begun n As store counts size) (F : Column)
    (r : ℕ) (after counts' : List ℕ) (p : PlacedMember n (members_of n store size) F r after counts') where
  abbrev S : Family
  S = members_of n store size

  ends : length S ≡ size
  ends = length_members n b.held.most store size

  -- one column more, where it has found a place
  pub begun_next : number F ≡ F → Begun n (As ++ F ∷ []) after counts' (grown_to size r)
  begun_next numbered = by_cases (ltb size 32) (λ e. begun_more n As store counts size b (ltb-true size 32 e) F numbered r after counts' p) (λ e. go (ltb-false size 32 e) p)
    where
      go : 32 ≤ size → PlacedMember n S F r after counts' → Begun n (As ++ F ∷ []) after counts' (grown_to size r)
      go h (new e l m k q) = absurd (let w : 32 ≤ r = omega (arith, ends) in omega arith)
      go h (old l m k e) =
          let g : grown_to size r ≡ length S = grown_old size r (λ q. omega (arith, ends)) ∙ sym ends in
          let s : members_of n after (grown_to size r) ≡ S = ap (members_of n after) g ∙ e in
          record {
            held = rw g k;
            most = rw (length-append As (F ∷ [])) (omega (arith, ends, b.most));
            distinct = rw s b.distinct;
            numbered = λ G i. b.numbered G (rw s at i);
            only = λ G i. Memᴰ.append_left _ (b.only G (rw s at i));
            given = λ G i. rw s (is_placed G (Memᴰ.append_cases As i));
          }
        where
          is_placed : (G : Column) → (G ∈ As) ⊎ (G ∈ F ∷ []) → G ∈ S
          is_placed G (inl i) = b.given G i
          is_placed G (inr i) = Memᴰ.cast (Memᴰ.eq_of_singleton i ∙ sym m) (member_in S r l)

  -- the same with it in front
  pub begun_before : number F ≡ F → Begun n (F ∷ As) after counts' (grown_to size r)
  begun_before numbered = let q = begun_next numbered in record {
    held = q.held;
    most = omega (arith, q.most, length-append As (F ∷ []));
    distinct = q.distinct;
    numbered = q.numbered;
    only = λ G m. front G (Memᴰ.append_cases As (q.only G m));
    given = λ G m. q.given G (back G (Memᴰ.cases_cons m));
  }
    where
      front : (G : Column) → (G ∈ As) ⊎ (G ∈ F ∷ []) → G ∈ F ∷ As
      front G (inl m) = Memᴰ.tail m
      front G (inr m) = Memᴰ.head (Memᴰ.eq_of_singleton m)

      back : (G : Column) → (G ≡ F) ⊎ (G ∈ As) → G ∈ As ++ F ∷ []
      back G (inl e) = Memᴰ.append_right As (Memᴰ.head e)
      back G (inr m) = Memᴰ.append_left _ m

-- it has found none: more than 32 columns differ
pub begun_over : (n : ℕ) (As : List Column) (store counts : List ℕ) (size : ℕ) → Begun n As store counts size → (F : Column) {after counts' : List ℕ} → NoRoom n (members_of n store size) F after counts'
    → (Gs : List Column) → ((G : Column) → G ∈ As → G ∈ Gs) → F ∈ Gs → close only_supremum Gs ≡ too_many
begun_over n As store counts size b F room Gs sub i =
    found_over only_supremum Gs (members_of n store size) record { distinct = b.distinct; only = λ G j. given (sub G (b.only G j)) } F (given i) room.fresh (omega (arith, room.full))

-- all columns have found places
pub all_on : {n : ℕ} {Gs : List Column} {store counts : List ℕ} {r : Option ℕ} {size : ℕ} → r ≡ Some size → AllPlaced n Gs store counts r → Begun n Gs store counts size
all_on e a = rw e at a

-- one has found none
pub all_over : (n : ℕ) (Gs : List Column) (store counts : List ℕ) {r : Option ℕ} → r ≡ None → AllPlaced n Gs store counts r → close only_supremum Gs ≡ too_many
all_over n Gs store counts e a = rw e at a

-- the members are made of themselves
pub begun_own : {n : ℕ} {As : List Column} {store counts : List ℕ} {size : ℕ} → Begun n As store counts size → Begun n (members_of n store size) store counts size
begun_own {n} {As} {store} {counts} {size} b = record {
  held = b.held;
  most = le_of_eq (sym (length_members n b.held.most store size));
  distinct = b.distinct;
  numbered = b.numbered;
  only = λ F m. m;
  given = λ F m. m;
}

-- ---- the infima are numbered

-- the columns of a table are on n plots
columns_plots : (n : ℕ) → n ≤ 240 → (b : List ℕ) (i m : ℕ) → 240 * (i + m) ≤ length b → (F : Column) → F ∈ columns_from n b i m → length F ≡ n
unfolding columns_from
columns_plots n small b i zero h F j = absurd (Memᴰ.not-nil j)
columns_plots n small b i (suc m) h F j = go (columns_plots n small b (suc i) m (omega arith) F) (Memᴰ.cases_cons j)
  where
    go : (F ∈ columns_from n b (suc i) m → length F ≡ n) → (F ≡ column_at n b i) ⊎ (F ∈ columns_from n b (suc i) m) → length F ≡ n
    go f (inl e) = ap length e ∙ length_part n i b (omega arith)
    go f (inr k) = f k

-- the same of the members of a buffer
pub members_plots : (n : ℕ) (b : List ℕ) (m : ℕ) → n ≤ 240 → 240 * m ≤ length b → (F : Column) → F ∈ members_of n b m → length F ≡ n
unfolding members_of
members_plots n b m small h = columns_plots n small b 0 m (omega arith)

-- the infimum of a choice is on n plots, and numbered
chosen_infimum : (n : ℕ) {C Ts : List Column} → Chosen C Ts → ((T : Column) → T ∈ Ts → length T ≡ n) → (length (infimum_all n C) ≡ n) × (number (infimum_all n C) ≡ infimum_all n C)
unfolding infimum_all
chosen_infimum n none_of f = (length_universal n, number_universal n)
chosen_infimum n (skipping c) f = chosen_infimum n c (λ T m. f T (Memᴰ.tail m))
chosen_infimum n (taking {T} {C} {Ts} c) f =
    let l : length T ≡ n = f T (Memᴰ.head refl) in
    let e : length T ≡ length (infimum_all n C) = l ∙ sym (chosen_infimum n c (λ T m. f T (Memᴰ.tail m))).0 in
    (length_infimum T (infimum_all n C) e ∙ l, number_infimum T (infimum_all n C) e)

-- the infima of the choices of columns of a table are numbered
pub generators_numbered : (n k : ℕ) → n ≤ 240 → (b : List ℕ) (i m : ℕ) → 240 * (i + m) ≤ length b → (F : Column) → F ∈ treatment_generators n k (columns_from n b i m) → number F ≡ F
unfolding treatment_generators
generators_numbered n k small b i m h F j = go (Memᴰ.of_map (infimum_all n) (choices k (columns_from n b i m)) j)
  where
    go : (C : List Column) × (C ∈ choices k (columns_from n b i m)) × (infimum_all n C ≡ F) → number F ≡ F
    go (C, c, e) = rw (sym e) (chosen_infimum n (choices_chosen k (columns_from n b i m) C c).0 (columns_plots n small b i m h)).1
