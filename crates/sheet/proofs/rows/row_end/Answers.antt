use Prim.Native.Nat.{ℕ, suc, ◌+◌, ◌-◌}
use mathlib.Core.Path.{◌≡◌, sym, ap, ◌∙◌}
use native.Mathlib.Omega.{arith}
use lib.ListN.{drop}
use Rattle.std.specs.Prelude.{Some}
use Rattle.sheet.specs.Walk.{row_end}
use Rattle.sheet.proofs.LevelLaws.{then_none, then_some}
use Rattle.sheet.proofs.RowLaws.{row_off, row_on, last_off, last_on}
use Rattle.sheet.proofs.rows.row_end.Goals as goal

pub loop-init : goal.loop-init
loop-init c =
    let s = c.args in
    let m : suc (s.n - 1) ≡ s.n = omega arith in
    (omega arith, omega arith, ap (λ (k : ℕ). row_end k s.start (drop s.start s.text.now)) m)

pub returns-in_err-found : goal.returns-in_err-found
returns-in_err-found c =
    let s = c.args in
    let m : s.n - c.loop.counter ≡ suc (s.n - (c.loop.counter + 1)) = omega arith in
    let none = then_none 9 c.loop.at (drop c.loop.at s.text.now) c.in_err-found.ensures in
    c.from_residual.ensures ∙ sym (row_off (s.n - (c.loop.counter + 1)) c.loop.at s.text.now none) ∙ rw m at c.loop.invariant.2

pub loop-preserved : goal.loop-preserved
loop-preserved c =
    let s = c.args in
    let m : s.n - c.loop.counter ≡ suc (s.n - (c.loop.counter + 1)) = omega arith in
    let t = then_some 9 c.loop.at (drop c.loop.at s.text.now) c.in_ok-found.found c.in_ok-found.ensures in
    (omega arith, omega arith, sym (row_on (s.n - (c.loop.counter + 1)) c.loop.at s.text.now c.in_ok-found.found.end t.is t.next) ∙ rw m at c.loop.invariant.2)

pub returns-in_err-last : goal.returns-in_err-last
returns-in_err-last c =
    let s = c.args in
    let m : s.n - c.loop.counter ≡ 0 = omega arith in
    let none = then_none 10 c.loop.at (drop c.loop.at s.text.now) c.in_err-last.ensures in
    c.from_residual-in_err-last.ensures ∙ sym (last_off c.loop.at (drop c.loop.at s.text.now) none) ∙ rw m at c.loop.invariant.2

pub returns : goal.returns
returns c =
    let s = c.args in
    let m : s.n - c.loop.counter ≡ 0 = omega arith in
    let t = then_some 10 c.loop.at (drop c.loop.at s.text.now) c.in_ok-last.last c.in_ok-last.ensures in
    ap (λ (k : ℕ). Some k) t.next ∙ sym (last_on c.loop.at (drop c.loop.at s.text.now) t.is) ∙ rw m at c.loop.invariant.2
