-- `names_coarser` meets its contract.
use mathlib.Core.Path.{sym, ◌∙◌}
use native.Mathlib.Omega.{arith}
use Rattle.design.specs.State.{names}
use Rattle.design.proofs.closing.names_coarser.Goals as goal

pub returns-then-q-size : goal.returns-then-q-size
returns-then-q-size c e = names c.in-Some.q (omega (arith, c.in-Some.ensures.0, c.in-Some.ensures.1)) c.if-q-size.true (sym c.told_finer.ensures ∙ e)
