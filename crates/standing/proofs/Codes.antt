-- One number for two labels, the second below w. It tells the labels, so the column of these numbers has the classes of the infimum.
-- Assumes nothing.
use mathlib.Core.Path.{◌≡◌, refl, sym, ap, ap₂, ◌∙◌}
use mathlib.Core.List.{map}
use Prim.Native.Nat.{ℕ, ◌+◌, ◌*◌, ◌≤◌, ◌<◌}
use native.Mathlib.Omega.{arith}
use lib.ListN.{length, get_or, take, length-map, get_or-map}
use lib.Seq.{ext_get_or, get_or-take, length-take-le}
use Rattle.rules.specs.Factor.{Column, at, Equivalent, Pair, pairs, number, classes, infimum}
use Rattle.rules.proofs.Numbering.{length_pairs, pairs_at, length_infimum, infimum_same, number_infimum, number_unique}
use Rattle.rules.proofs.Columns.{Tells, number_positive, classes_equivalent, stopped}
use Rattle.standing.specs.Cells.{Plot}
use Rattle.standing.proofs.CellTable.{cell_unique}

abbrev code : ℕ → Pair → ℕ
code w p = w * p.0 + p.1

-- the numbers of the plots of two columns
unfoldable pub codes_of : ℕ → Column → Column → Column
unfolding pairs
codes_of w F G = map (code w) (pairs F G)

module _ (w : ℕ) (F G : Column) (l : length F ≡ length G) where
  pub length_codes : length (codes_of w F G) ≡ length F
  unfolding codes_of
  length_codes = length-map (pairs F G) (code w) ∙ length_pairs F G l

  pub codes_at : (u : ℕ) → u < length F → at (codes_of w F G) u ≡ w * at F u + at G u
  unfolding codes_of
  codes_at u h =
      let z : 0 ≡ w * 0 + 0 = omega arith in
      ap (λ (d : ℕ). get_or (map (code w) (pairs F G)) u d) z ∙ get_or-map (code w) (pairs F G) u (0, 0) ∙ ap (code w) (pairs_at F G l u h)

  -- an array that begins with them
  pub take_codes : (codes : Column) → length F ≤ length codes → ((u : ℕ) → u < length F → at codes u ≡ w * at F u + at G u) → take (length F) codes ≡ codes_of w F G
  take_codes codes h e =
      let long : length (take (length F) codes) ≡ length F = length-take-le (length F) codes h in
      ext_get_or 0 (take (length F) codes) (codes_of w F G) (long ∙ sym length_codes) (λ u k. let hu : u < length F = rw long at k in get_or-take (length F) codes u 0 hu ∙ e u hu ∙ sym (codes_at u hu))

  module _ (bytes : (u : ℕ) → u < length F → at G u < w) where
    codes_equivalent : Equivalent (length (codes_of w F G)) (codes_of w F G) (infimum F G)
    codes_equivalent = record {
      to = λ u v hu hv e. let ku : u < length F = rw length_codes at hu in
          let kv : v < length F = rw length_codes at hv in
          let s : w * at F u + at G u ≡ w * at F v + at G v = sym (codes_at u ku) ∙ e ∙ codes_at v kv in
          (infimum_same F G l u v ku kv).1 (cell_unique w (at F u) (at G u) (at F v) (at G v) (bytes u ku) (bytes v kv) s);
      from = λ u v hu hv e. let ku : u < length F = rw length_codes at hu in
          let kv : v < length F = rw length_codes at hv in
          let s = (infimum_same F G l u v ku kv).0 e in
          codes_at u ku ∙ ap₂ (λ (a b : ℕ). w * a + b) s.0 s.1 ∙ sym (codes_at v kv);
    }

    pub number_codes : number (codes_of w F G) ≡ infimum F G
    number_codes = number_unique (codes_of w F G) (infimum F G) (length_codes ∙ sym (length_infimum F G l)) codes_equivalent ∙ number_infimum F G l

    pub classes_codes : classes (codes_of w F G) ≡ classes (infimum F G)
    classes_codes = classes_equivalent (length (codes_of w F G)) (codes_of w F G) (infimum F G) refl (length_infimum F G l ∙ sym length_codes) codes_equivalent

    -- the same for the first v plots
    pub classes_first : (v : ℕ) → classes (take v (codes_of w F G)) ≡ classes (take v (infimum F G))
    classes_first v = (stopped v (codes_of w F G)).1 ∙ ap (λ (c : Column). classes (take v c)) number_codes

    -- a table that tells the numbers of the plots before plot u tells whether one of them is in its cell
    module _ (u : ℕ) (h : u < length F) (look : ℕ → ℕ) (tells : Tells (codes_of w F G) u look) where
      pub code_new : look (w * at F u + at G u) ≡ 0 → Plot u F G (at F u) (at G u) → ⊥
      code_new z p =
          let k : p.plot < length F = omega (arith, p.less) in
          let e : at (number (codes_of w F G)) p.plot ≡ 0 = sym (tells.known p.plot p.less) ∙ ap look (codes_at p.plot k ∙ ap₂ (λ (x y : ℕ). w * x + y) p.first p.second) ∙ z in
          omega (arith, e, number_positive (codes_of w F G) p.plot (rw length_codes k))

      pub code_old : (look (w * at F u + at G u) ≡ 0 → ⊥) → Plot u F G (at F u) (at G u)
      code_old ne =
          let e = tells.only (w * at F u + at G u) (omega (arith, ne)) in
          let k : e.plot < length F = omega (arith, e.less) in
          let s = cell_unique w (at F e.plot) (at G e.plot) (at F u) (at G u) (bytes e.plot k) (bytes u h) (sym (codes_at e.plot k) ∙ e.label) in
          record { plot = e.plot; less = e.less; first = s.0; second = s.1 }
