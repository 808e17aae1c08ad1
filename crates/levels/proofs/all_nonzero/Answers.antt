use mathlib.Core.Path.{◌≡◌, sym, ap, ◌∙◌}
use Prim.Native.Nat.{ℕ, ◌+◌, ◌-◌, ◌*◌, ◌≤◌}
use Rattle.std.proofs.Common.{◌⊎◌, inl, inr}
use lib.Dec.{leb}
use lib.ListN.{length}
use borrow.Author.Tests.{leb-true, leb-false}
use Rattle.rules.proofs.Numbering.{by_cases}
use native.Mathlib.Omega.{arith}
use Rattle.rules.specs.Family.{columns_from}
use Rattle.rules.specs.Design.{nonzero, all_nonzero}
use Rattle.levels.proofs.Asked.{all_stops, all_on, all_rest}
use Rattle.levels.proofs.all_nonzero.Goals as goal

pub loop-c-init : goal.loop-c-init
loop-c-init c =
    let s = c.args in
    let e : s.count ≡ s.first + s.count - s.first = omega arith in
    ap (λ (m : ℕ). all_nonzero (columns_from s.n s.levels.now s.first m)) e

pub returns-then-not-nonzero : goal.returns-then-not-nonzero
returns-then-not-nonzero c =
    let s = c.args in
    let no = sym (c.nonzero.ensures ∙ ap nonzero c.column.ensures) ∙ c.if-not-nonzero.true in
    sym (c.loop-c.invariant ∙ all_stops s.n s.levels.now c.loop-c.c (s.first + s.count - c.loop-c.c) (omega arith) no)

pub loop-c-preserved : goal.loop-c-preserved
loop-c-preserved c =
    let s = c.args in
    let i = c.loop-c.c in
    let yes = sym (c.nonzero.ensures ∙ ap nonzero c.column.ensures) ∙ c.if-not-nonzero.false in
    let e : s.first + s.count - i - 1 ≡ s.first + s.count - (i + 1) = omega arith in
    c.loop-c.invariant ∙ all_on s.n s.levels.now i (s.first + s.count - i) (omega arith) yes ∙ ap (λ (m : ℕ). all_nonzero (columns_from s.n s.levels.now (i + 1) m)) e

pub returns : goal.returns
returns c =
    let s = c.args in
    let i = c.loop-c.c in
    let m = s.first + s.count - i in
    let left : (m ≤ 0) ⊎ (length s.levels.now ≤ 240 * i) = by_cases (leb (s.first + s.count) i) (λ e. let h = leb-true (s.first + s.count) i e in inl (omega arith)) (λ e. let h = leb-false (s.first + s.count) i e in inr (omega arith)) in
    sym (c.loop-c.invariant ∙ all_rest s.n s.levels.now i m left)
