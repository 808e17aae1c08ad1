-- `member_finer` meets its contract.
use mathlib.Core.Path.{◌∙◌}
use native.Mathlib.Omega.{arith}
use Rattle.rules.specs.Factor.{finer}
use Rattle.factor.proofs.Lent.{test_parts}
use Rattle.design.proofs.closing.member_finer.Goals as goal

pub returns : goal.returns
returns c =
    let s = c.args in
    let store = s.store.now in
    c.finer.ensures ∙ test_parts finer s.n store store s.i s.j (omega arith) (omega arith) (omega arith) _ _ c.member.ensures c.member-2.ensures
