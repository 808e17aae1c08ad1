-- `member_bounds` meets its contract.
use mathlib.Core.Path.{◌∙◌, ap}
use Prim.Native.Nat.{ℕ, ◌+◌, ◌*◌, ◌≤◌}
use native.Mathlib.Omega.{arith}
use lib.ListN.{length}
use Rattle.rules.specs.Factor.{classes, infimum, supremum}
use Rattle.factor.specs.Lent.{overlay}
use Rattle.factor.proofs.Lent.{test_parts}
use Rattle.design.proofs.closing.member_bounds.Goals as goal

pub returns : goal.returns
returns c =
    let s = c.args in
    let store = s.store.now in
    let fits : (240 * s.i + s.n ≤ length store) × (240 * s.j + s.n ≤ length store) = (omega arith, omega arith) in
    let e = test_parts (λ (k : ℕ). infimum) s.n store store s.i s.j (omega arith) fits.0 fits.1 _ _ c.member.ensures c.member-2.ensures in
    let f = test_parts (λ (k : ℕ). supremum) s.n store store s.i s.j (omega arith) fits.0 fits.1 _ _ c.member.ensures c.member-2.ensures in
    let b = c.bounds_of.ensures in
    record {
      infimum = b.infimum ∙ ap classes e;
      supremum = b.supremum ∙ ap classes f;
      below = b.below ∙ ap (overlay s.below.now) e;
      above = b.above ∙ ap (overlay s.above.now) f;
    }
