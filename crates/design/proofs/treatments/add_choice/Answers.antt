-- `add_choice` meets its contract.
use mathlib.Core.Path.{sym, ap, ◌∙◌}
use Prim.Native.Nat.{◌*◌}
use lib.ListN.{length}
use lib.Seq.{paste}
use Rattle.rules.specs.Factor.{Column}
use Rattle.design.specs.State.{column_at}
use Rattle.design.proofs.Choosing.{choice_none, choice_some}
use Rattle.design.proofs.treatments.add_choice.Goals as goal

pub returns-then-taken-eq0 : goal.returns-then-taken-eq0
returns-then-taken-eq0 c =
    let a = c.args in
    let n = length a.column.now in
    c.put.ensures ∙ ap (λ (F : Column). paste a.infima.now (240 * a.total) F n) (sym (choice_none a.taken a.column.now (column_at n a.infima.now a.e) c.if-taken-eq0.true))

pub returns : goal.returns
returns c =
    let a = c.args in
    let n = length a.column.now in
    c.add_infimum.ensures ∙ ap (λ (F : Column). paste a.infima.now (240 * a.total) F n) (sym (choice_some a.taken a.column.now (column_at n a.infima.now a.e) c.if-taken-eq0.false))
