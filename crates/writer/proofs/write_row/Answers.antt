use mathlib.Core.Path.{refl, ap, ◌∙◌}
use mathlib.Core.List.{[], ◌∷◌}
use Prim.Native.Nat.{ℕ, ◌+◌, ◌≤◌}
use native.Mathlib.Omega.{arith}
use lib.ListN.{length, get_or}
use Rattle.rules.specs.Lists.{decimal_of}
use Rattle.rules.specs.Factor.{at}
use Rattle.factor.specs.Lent.{column_at}
use Rattle.decimal.proofs.Writing.{rest_then, rest_end, wrote_as, wrote_length}
use Rattle.writer.specs.Rows.{field_bytes}
use Rattle.writer.proofs.Rows.{left, left_step, left_whole, left_end}
use Rattle.writer.proofs.write_row.Goals as goal

pub loop-i-init : goal.loop-i-init
loop-i-init c = (refl, refl)

pub loop-i-preserved : goal.loop-i-preserved
loop-i-preserved c =
    let a = c.args in
    let i = c.loop-i.i in
    let cs = a.columns.now in
    let ls = a.levels.now in
    let h : i + 1 ≤ length cs = omega arith in
    let one = field_bytes i (decimal_of (at (column_at a.plots ls (get_or cs i 0)) a.u)) in
    let wrote = wrote_as c.loop-i.out c.loop-i.next (ap (λ (v : ℕ). field_bytes i (decimal_of v)) c.level-level.ensures) c.write_level-next.ensures in
    rest_then a.out.now a.at (left a.plots ls cs a.u 0) c.loop-i.out c.loop-i.next one (left a.plots ls cs a.u (i + 1)) (left_step a.plots ls cs a.u i (omega (arith, h))) wrote c.loop-i.invariant

pub returns : goal.returns
returns c =
    let a = c.args in
    let n = a.plots in
    let cs = a.columns.now in
    let ls = a.levels.now in
    let whole = left n ls cs a.u 0 in
    let last = rest_then a.out.now a.at whole c.loop-i.out c.loop-i.next (10 ∷ []) [] (left_end n ls cs a.u c.loop-i.i (omega arith)) (c.write_byte.ensures.answer, c.write_byte.ensures.bytes) c.loop-i.invariant in
    wrote_as a.out.now a.at (left_whole n ls cs a.u) (rest_end a.out.now a.at whole c.write_byte.new.out c.write_byte.result refl last)
