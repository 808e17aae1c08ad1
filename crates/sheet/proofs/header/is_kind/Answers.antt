-- `sheet::header::is_kind` meets its contract.
use native.Mathlib.Omega.{arith}
use Rattle.rules.specs.Sheet.{is_kind}
use Rattle.sheet.proofs.Walk.{slice_next, slice_none}
use Rattle.sheet.proofs.header.is_kind.Goals as goal

pub returns-then-stop-start : goal.returns-then-stop-start
unfolding is_kind
returns-then-stop-start c =
    let s = c.args in
    rw (slice_none s.text.now s.start s.stop c.if-stop-start.true)

pub returns : goal.returns
unfolding is_kind
returns c =
    let s = c.args in
    rw (slice_next s.text.now s.start s.stop (omega arith) (omega arith))
