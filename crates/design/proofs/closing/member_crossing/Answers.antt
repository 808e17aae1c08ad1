-- `member_crossing` meets its contract.
use mathlib.Core.Path.{◌∙◌, ap}
use Prim.Native.Nat.{ℕ, ◌+◌, ◌*◌, ◌≤◌}
use native.Mathlib.Omega.{arith}
use lib.ListN.{length}
use Rattle.rules.specs.Factor.{classes, supremum}
use Rattle.factor.specs.Lent.{overlay}
use Rattle.factor.proofs.Lent.{test_parts}
use Rattle.standing.proofs.Nesting.{orthogonal_parts}
use Rattle.design.proofs.closing.member_crossing.Goals as goal

pub returns : goal.returns
returns c =
    let s = c.args in
    let store = s.store.now in
    let fits : (240 * s.i + s.n ≤ length store) × (240 * s.j + s.n ≤ length store) = (omega arith, omega arith) in
    let e = test_parts (λ (k : ℕ). supremum) s.n store store s.i s.j (omega arith) fits.0 fits.1 _ _ c.member.ensures c.member-2.ensures in
    let o = orthogonal_parts s.n store store s.i s.j (omega arith) fits.0 fits.1 _ _ c.member.ensures c.member-2.ensures in
    let b = c.crossing_of.ensures in
    record {
      supremum = b.supremum ∙ ap classes e;
      orthogonal = b.orthogonal ∙ o;
      above = b.above ∙ ap (overlay s.column.now) e;
    }
