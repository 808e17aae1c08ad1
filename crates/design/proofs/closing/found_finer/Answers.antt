-- `found_finer` meets its contract: what is known is true, and so is what a walk shows.
use mathlib.Core.Path.{sym, ◌∙◌, subst}
use mathlib.Core.List.{List}
use Prim.Native.Nat.{ℕ}
use Rattle.rules.proofs.Classes.{finer_test}
use Rattle.design.specs.State.{column_at, Known}
use Rattle.design.proofs.KnownOrder.{told_order, known_noted}
use Rattle.design.proofs.closing.found_finer.Goals as goal

pub returns-then-told_finer-clause-finer : goal.returns-then-told_finer-clause-finer
returns-then-told_finer-clause-finer c = λ e. told_order c.requires.0 c.requires.1 c.requires.2 c.requires.3 (sym c.told_finer.ensures ∙ c.if-told_finer.true)

pub returns-then-member_finer : goal.returns-then-member_finer
returns-then-member_finer c =
    let store = c.args.store.now in
    let n = c.args.n in
    let e = sym c.member_finer.ensures ∙ c.if-member_finer.true in
    let k = known_noted c.requires.0.few c.requires.1 c.requires.2 ((finer_test n (column_at n store c.args.i) (column_at n store c.args.j)).0 e) c.requires.3 in
    record {
      finer = λ _. e;
      known = subst (λ (above : List ℕ). Known n store above c.args.size) (sym c.note_finer.ensures) k;
    }
