-- Laws of the walk that tells whether one factor is finer than another.
-- Assumes nothing.
use mathlib.Core.Path.{◌≡◌, refl, sym, ap, ◌∙◌}
use mathlib.Core.Bool.{true, false}
use mathlib.Core.List.{List}
use Prim.Native.Nat.{ℕ, zero, suc, ◌+◌, ◌<◌}
use native.Mathlib.Omega.{arith}
use borrow.Author.Count.{below_none, below_more}
use lib.Dec.{eqb}
use lib.ListN.{length, get_or, set, replicate}
use lib.Seq.{get_or-set_same, get_or-set_other}
use borrow.Author.Tests.{eqb-true, eqb-false}
use Rattle.rules.specs.Factor.{Column, at, finer}
use Rattle.rules.proofs.Numbering.{by_cases}
use Rattle.rules.proofs.Columns.{Earlier}
use Rattle.rules.proofs.Classes.{finer_test}
use Rattle.rules.proofs.Walks.{bool_false}
use Rattle.std.specs.Prelude.{Option, Some, None}

-- the table has the G-label of each F-class with a plot before plot u, and none for the other labels
pub record Agrees (F G : Column) (u : ℕ) (t : List (Option ℕ)) : Type 0 where
  known : (p : ℕ) → p < u → get_or t (at F p) None ≡ Some (at G p)
  only : (x y : ℕ) → get_or t x None ≡ Some y → Earlier F u x

-- a table of none
get_or_none : (n i : ℕ) → get_or {A = Option ℕ} (replicate n None) i None ≡ None
get_or_none zero i = refl
get_or_none (suc n) zero = refl
get_or_none (suc n) (suc i) = get_or_none n i

pub agrees_none : (F G : Column) → Agrees F G 0 (replicate 256 None)
agrees_none F G = record {
  known = below_none _;
  only = λ x y h. let z = get_or_none 256 x in cc;
}

later : {F : Column} {u x : ℕ} → Earlier F u x → Earlier F (u + 1) x
later e = record { plot = e.plot; less = omega (arith, e.less); label = e.label }

module _ (F G : Column) (u : ℕ) (t : List (Option ℕ)) (a : Agrees F G u t) where
  -- no plot of its F-class was before plot u
  pub agrees_new : at F u < length t → get_or t (at F u) None ≡ None → Agrees F G (u + 1) (set t (at F u) (Some (at G u)))
  agrees_new h z = record {
    known = below_more (λ (p : ℕ). get_or (set t (at F u) (Some (at G u))) (at F p) None ≡ Some (at G p)) u
        (λ p hp. let ne : at F p ≡ at F u → ⊥ = λ q. let s : get_or t (at F p) None ≡ None = ap (λ (i : ℕ). get_or t i None) q ∙ z in let k = a.known p hp in cc in
        get_or-set_other t (at F u) (at F p) (Some (at G u)) None ne ∙ a.known p hp)
        (get_or-set_same t (at F u) (Some (at G u)) None h);
    only = λ x y hx. by_cases (eqb x (at F u))
        (λ e. record { plot = u; less = omega arith; label = sym (eqb-true x (at F u) e) })
        (λ e. later (a.only x y (rw (get_or-set_other t (at F u) x (Some (at G u)) None (eqb-false x (at F u) e)) at hx)));
  }

  -- those that were share its G-class
  pub agrees_old : get_or t (at F u) None ≡ Some (at G u) → Agrees F G (u + 1) t
  agrees_old e = record {
    known = below_more (λ (p : ℕ). get_or t (at F p) None ≡ Some (at G p)) u a.known e;
    only = λ x y hx. later (a.only x y hx);
  }

  -- one does not
  pub agrees_not : (n y : ℕ) → u < n → get_or t (at F u) None ≡ Some y → (at G u ≡ y → ⊥) → finer n F G ≡ false
  agrees_not n y h some ne =
      let e = a.only (at F u) y some in
      let k : Some y ≡ Some (at G e.plot) = sym some ∙ ap (λ (i : ℕ). get_or t i None) (sym e.label) ∙ a.known e.plot e.less in
      let q : y ≡ at G e.plot = cc in
      bool_false (finer n F G) (λ yes. ne (sym ((finer_test n F G).0 yes e.plot u (omega (arith, e.less)) h e.label) ∙ sym q))

-- all plots are passed
pub agrees_all : (n : ℕ) (F G : Column) (t : List (Option ℕ)) → Agrees F G n t → finer n F G ≡ true
agrees_all n F G t a = (finer_test n F G).1 (λ u v hu hv s. let k : Some (at G u) ≡ Some (at G v) = sym (a.known u hu) ∙ ap (λ (i : ℕ). get_or t i None) s ∙ a.known v hv in cc)
