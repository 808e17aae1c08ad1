use mathlib.Core.Path.{◌≡◌, refl, ap, ◌∙◌}
use mathlib.Core.Bool.{Bool, true, false}
use mathlib.Core.List.{List}
use Prim.Native.Nat.{ℕ, ◌+◌, ◌<◌}
use native.Mathlib.Nat.{not-suc-le-zero}
use native.Mathlib.Omega.{arith}
use borrow.Author.Tests.{eqb-true, eqb-false}
use lib.Dec.{eqb}
use lib.ListN.{length, get_or, set, length-set, length-replicate}
use lib.Seq.{get_or-set_same, get_or-set_other}
use Rattle.rules.specs.Factor.{classes}
use Rattle.design.specs.State.{column_at}
use Rattle.factor.specs.Labels.{largest}
use Rattle.factor.proofs.LargestLabel.{largest_classes}
use Rattle.design.proofs.FinerWords.{counted_members}
use Rattle.design.proofs.nesting.class_counts.Goals as goal
use Rattle.design.proofs.nesting.class_counts.Goals.{After-largest}

-- one member more is counted
turn : (n i k : ℕ) (family counts : List ℕ) → i < length counts → k ≡ classes (column_at n family i) → ((p : ℕ) → p < i → get_or counts p 0 ≡ classes (column_at n family p))
    → (p : ℕ) → p < i + 1 → get_or (set counts i k) p 0 ≡ classes (column_at n family p)
turn n i k family counts h e before p l = go (eqb p i) refl
  where
    go : (b : Bool) → eqb p i ≡ b → get_or (set counts i k) p 0 ≡ classes (column_at n family p)
    go true q =
        let s : p ≡ i = eqb-true p i q in
        rw s (get_or-set_same counts i k 0 h ∙ e)
    go false q =
        let d = eqb-false p i q in
        get_or-set_other counts i p k 0 d ∙ before p (omega arith)

-- the number of classes of member i
counted : (c : After-largest) → let s = c.args in c.largest.result ≡ classes (column_at s.n s.family.now c.loop-i.i)
counted c =
    let b = c in
    let start = c in
    let s = start.args in
    c.largest.ensures ∙ ap largest c.member.ensures ∙ largest_classes (column_at s.n s.family.now b.loop-i.i) (start.requires.1.numbered b.loop-i.i (omega arith))

pub loop-i-init : goal.loop-i-init
loop-i-init c = (omega arith, length-replicate {A = ℕ} 32 0, λ p h. absurd (not-suc-le-zero h))

pub loop-i-preserved : goal.loop-i-preserved
loop-i-preserved c =
    let s = c.args in
    let i = c.loop-i.i in (
      omega arith,
      length-set c.loop-i.counts i c.largest.result ∙ c.loop-i.invariant.1,
      turn s.n i c.largest.result s.family.now c.loop-i.counts (omega arith) (counted c) c.loop-i.invariant.2,
    )

pub returns : goal.returns
returns c =
    let s = c.args in
    let e : c.loop-i.i ≡ s.size = omega arith in
    counted_members s.n s.family.now c.loop-i.counts s.size c.requires.1 (λ p h. c.loop-i.invariant.2 p (omega arith))
