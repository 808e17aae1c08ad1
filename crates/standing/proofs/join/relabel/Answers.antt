use mathlib.Core.Path.{◌≡◌, refl, sym, ap, ap₂, ◌∙◌}
use mathlib.Core.Bool.{Bool, true, false, ◌&&◌}
use mathlib.Core.List.{List}
use Prim.Native.Nat.{ℕ, ◌+◌, ◌<◌}
use native.Mathlib.Omega.{arith}
use lib.Dec.{eqb}
use borrow.Author.Count.{below_more}
use borrow.Author.Tests.{eqb-true, eq-eqb}
use lib.ListN.{length, set}
use Rattle.std.proofs.Common.{IsTrue, ◌↔◌}
use Rattle.rules.specs.Factor.{at, relabel}
use Rattle.rules.proofs.Supremum.{length_relabel}
use Rattle.factor.proofs.Fill.{filled_step}
use Rattle.standing.proofs.Joining.{next_renamed, next_kept, filled_all}
use Rattle.standing.proofs.join.relabel.Goals as goal
use Rattle.standing.proofs.join.relabel.Goals.{then-y-a, else-y-a}

-- one entry more is b
all_more : (all : Bool) (r : List ℕ) (z b i : ℕ) → z ≡ at r i → (IsTrue all ↔ ((k : ℕ) → k < i → at r k ≡ b)) → (IsTrue (all && eqb z b) ↔ ((k : ℕ) → k < i + 1 → at r k ≡ b))
all_more true r z b i is so = (
  λ e. below_more (λ (k : ℕ). at r k ≡ b) i (so.0 refl) (sym is ∙ eqb-true z b e),
  λ f. eq-eqb z b (is ∙ f i (omega arith)),
)
all_more false r z b i is so = (λ e. absurd (cc (e)), λ f. so.1 (λ k h. f k (omega arith)))

pub loop-y-preserved : goal.loop-y-preserved
loop-y-preserved c =
    let s = c.args in
    let t = s.entries.now in
    let i = c.loop-y.y-index in
    let r = relabel s.a s.b t in
    let l : length r ≡ length t = length_relabel s.a s.b t in
    let h : i < length t = omega arith in
    let z : c.if-y-a.z ≡ at r i =
    elim c.if-y-a.branch [ then-y-a w ↦ w.z-is ∙ next_renamed s.a s.b t c.loop-y.entries i h c.loop-y.invariant.0 w.if-y-a.true | else-y-a w ↦ w.z-is ∙ next_kept s.a s.b t c.loop-y.entries i h c.loop-y.invariant.0 w.if-y-a.false ] in (
      ap₂ (λ (l : List ℕ) (y : ℕ). set l i y) c.loop-y.invariant.0 z ∙ filled_step t r i 0 (omega arith) h,
      all_more c.loop-y.all r c.if-y-a.z s.b i z c.loop-y.invariant.1,
    )

-- the entries at the end
pub returns : goal.returns
returns c =
    let s = c.args in
    let t = s.entries.now in
    let r = relabel s.a s.b t in
    let l : length r ≡ length t = length_relabel s.a s.b t in
    let e : c.loop-y.entries ≡ r = c.loop-y.invariant.0 ∙ filled_all t r c.loop-y.y-index l (omega arith) in
    let long : length c.loop-y.entries ≡ c.loop-y.y-index = omega (arith, ap length e, l) in
    record {
      entries = e;
      all = (
        λ one k h. ap (λ (m : List ℕ). at m k) e ∙ c.loop-y.invariant.1.0 one k (omega (arith, h, long)),
        λ f. c.loop-y.invariant.1.1 (λ k h. ap (λ (m : List ℕ). at m k) (sym e) ∙ f k (omega (arith, h, long))),
      );
    }
