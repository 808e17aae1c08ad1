-- Laws of a table of numbers by first appearance.
-- Assumes nothing.
use mathlib.Core.Path.{◌≡◌, sym, ap, ◌∙◌}
use mathlib.Core.List.{List}
use Prim.Native.Nat.{ℕ, ◌+◌, ◌<◌}
use lib.ListN.{length, set, replicate}
use lib.Seq.{get_or-set_same, get_or-set_other}
use Rattle.rules.specs.Factor.{Column, at, number}
use Rattle.rules.proofs.Columns.{Tells as Rule, tells_none}
use Rattle.factor.proofs.Table.{get_d_zeros, stepped_old, stepped_new, classes_none}
use Rattle.standing.specs.Numbers.{Tells, Numbered}

-- what a table tells is what the rules' look-up tells
module _ (F : Column) (u : ℕ) (look : ℕ → ℕ) where
  pub tells_rule : Tells F u look → Rule F u look
  tells_rule t = record { known = t.known; only = λ y h. let e = t.only y h in record { plot = e.plot; less = e.less; label = e.label } }

  pub rule_tells : Rule F u look → Tells F u look
  rule_tells t = record { known = t.known; only = λ y h. let e = t.only y h in record { plot = e.plot; less = e.less; label = e.label } }

-- a table of no numbers
pub numbered_none : (n : ℕ) (F : Column) → Numbered F 0 (replicate n 0) 0
numbered_none n F = record {
  tells = rule_tells F 0 (at (replicate n 0)) (tells_none F (at (replicate n 0)) (get_d_zeros n));
  total = classes_none;
}

module _ (F : Column) (u : ℕ) (h : u < length F) (key : ℕ) (here : at F u ≡ key) (numbers : List ℕ) (count : ℕ) (numbered : Numbered F u numbers count) where
  abbrev told : Rule F u (at numbers)
  told = tells_rule F u (at numbers) numbered.tells

  -- the key was met
  pub numbered_known : (at numbers key ≡ 0 → ⊥) → (at numbers key ≡ at (number F) u) × Numbered F (u + 1) numbers count
  numbered_known ne =
      let s = stepped_old F u h (at numbers) told count numbered.total (λ z. ne (ap (at numbers) (sym here) ∙ z)) in
      (ap (at numbers) (sym here) ∙ s.here, record { tells = rule_tells F (u + 1) (at numbers) s.tells; total = s.count })

  -- it is new
  pub numbered_new : at numbers key ≡ 0 → key < length numbers → (count + 1 ≡ at (number F) u) × Numbered F (u + 1) (set numbers key (count + 1)) (count + 1)
  numbered_new zero inside =
      let table : List ℕ = set numbers key (count + 1) in
      let mine : at table (at F u) ≡ count + 1 = ap (at table) here ∙ get_or-set_same numbers key (count + 1) 0 inside in
      let other : (y : ℕ) → (y ≡ at F u → ⊥) → at table y ≡ at numbers y = λ y ne. get_or-set_other numbers key y (count + 1) 0 (λ q. ne (q ∙ sym here)) in
      let s = stepped_new F u h (at numbers) told count numbered.total (ap (at numbers) here ∙ zero) (at table) mine other in
      (sym mine ∙ s.here, record { tells = rule_tells F (u + 1) (at table) s.tells; total = s.count })
