-- `member_before` meets its contract.
use mathlib.Core.Path.{sym, ap₂, ◌∙◌}
use lib.Dec.{ltb}
use Rattle.rules.specs.Family.{smaller}
use Rattle.design.specs.State.{column_at}
use Rattle.rules.proofs.Columns.{tie_smaller, count_decides}
use Rattle.design.proofs.sorting.member_before.Goals as goal

pub returns-then-counts-i : goal.returns-then-counts-i
returns-then-counts-i c =
    let s = c.args in
    let F = column_at s.n s.store.now s.i in
    let G = column_at s.n s.store.now s.j in
    sym (count_decides F G (λ e. c.if-counts-i.true (c.requires.4 ∙ e ∙ sym c.requires.5)) ∙ ap₂ ltb (sym c.requires.4) (sym c.requires.5))

pub returns : goal.returns
returns c =
    let s = c.args in
    let F = column_at s.n s.store.now s.i in
    let G = column_at s.n s.store.now s.j in
    c.smaller.ensures ∙ ap₂ smaller c.member.ensures c.member-2.ensures ∙ sym (tie_smaller F G (sym c.requires.4 ∙ c.if-counts-i.false ∙ c.requires.5))
