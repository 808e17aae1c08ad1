-- `column` meets its contract: the part lent is the column.
use mathlib.Core.Path.{sym, ap, ◌∙◌}
use native.Mathlib.Omega.{arith}
use lib.ListN.{length}
use Rattle.rules.proofs.Buffer.{member_is}
use Rattle.factor.proofs.Lent.{length_part}
use Rattle.naming.proofs.columns.ColumnTable.column.Goals as goal

pub returns : goal.returns
returns c =
    let t = c.args.self.now in
    let p = t.placed in
    record {
      is = c.member.ensures ∙ sym (member_is t.plots p.few_plots t.bytes.now t.count c.args.c c.requires);
      plots = ap length c.member.ensures ∙ length_part t.plots c.args.c t.bytes.now (omega (arith, p.few_plots, p.long, c.requires));
    }
