-- `all_nonzero` meets its contract: the plot columns before, then those of the kind.
use mathlib.Core.Path.{sym, ◌∙◌}
use Rattle.rules.specs.Family.{columns_from}
use Rattle.naming.proofs.Entry.{nonzero_first, nonzero_rest}
use Rattle.naming.specs.Columns.{own_of}
use Rattle.naming.proofs.kinds.all_nonzero.Goals as goal

pub returns-then-all_nonzero : goal.returns-then-all_nonzero
returns-then-all_nonzero c =
    let a = c.args in
    let levels = a.levels.now in
    c.all_nonzero-then-all_nonzero.ensures ∙ sym (nonzero_rest (columns_from a.look.plots levels 0 a.look.before) (own_of a.look levels) (sym c.all_nonzero.ensures ∙ c.if-all_nonzero.true))

pub returns-else-all_nonzero : goal.returns-else-all_nonzero
returns-else-all_nonzero c =
    let a = c.args in
    let levels = a.levels.now in
    c.if-all_nonzero.false ∙ sym (nonzero_first (columns_from a.look.plots levels 0 a.look.before) (own_of a.look levels) (sym c.all_nonzero.ensures ∙ c.if-all_nonzero.false))
