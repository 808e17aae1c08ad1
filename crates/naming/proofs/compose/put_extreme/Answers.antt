-- `put_extreme` meets its contract: the tests tell U and E.
use mathlib.Core.Path.{refl, sym, ap, ◌∙◌}
use lib.ListN.{length}
use Rattle.std.specs.Prelude.{Some}
use Rattle.naming.proofs.Rules.{extreme_one, extreme_all, extreme_no}
use Rattle.naming.proofs.compose.put_extreme.Goals as goal

pub returns-then-one_class : goal.returns-then-one_class
returns-then-one_class c =
    let F = c.args.member.now in
    let w = c.write_byte.ensures in
    rw (extreme_one (length F) F (sym c.one_class.ensures ∙ c.if-one_class.true)) (ap Some w.answer, w.bytes)

pub returns-then-each_apart : goal.returns-then-each_apart
returns-then-each_apart c =
    let F = c.args.member.now in
    let w = c.write_byte-then-each_apart.ensures in
    rw (extreme_all (length F) F (sym c.one_class.ensures ∙ c.if-one_class.false) (sym c.each_apart.ensures ∙ c.if-each_apart.true)) (ap Some w.answer, w.bytes)

pub returns : goal.returns
returns c =
    let F = c.args.member.now in
    rw (extreme_no (length F) F (sym c.one_class.ensures ∙ c.if-one_class.false) (sym c.each_apart.ensures ∙ c.if-each_apart.false)) (refl, refl)
