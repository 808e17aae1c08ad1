use mathlib.Core.Path.{refl, ◌∙◌}
use mathlib.Core.List.{[], ◌∷◌, ◌++◌, append_assoc}
use Prim.Native.Nat.{◌+◌, ◌≤◌}
use native.Mathlib.Omega.{arith}
use Rattle.decimal.proofs.Writing.{rest_then, rest_end, wrote_as, wrote_then, wrote_length}
use Rattle.writer.specs.Rows.{columns_at, line_bytes, sheet_bytes}
use Rattle.writer.proofs.Rows.{lines_from, lines_step, lines_end}
use Rattle.writer.proofs.write_sheet.Goals as goal

pub loop-u-init : goal.loop-u-init
loop-u-init c = (refl, refl)

pub loop-u-preserved : goal.loop-u-preserved
loop-u-preserved c =
    let a = c.args in
    let u = c.loop-u.u in
    let Cs = columns_at a.plots a.levels.now a.columns.now in
    let h : u + 1 ≤ a.plots = omega arith in
    let one = line_bytes Cs u in
    let wrote = c.write_row-at.ensures in
    rest_then c.write_byte-at.new.out c.write_byte-at.result (lines_from a.plots Cs 0) c.loop-u.out c.loop-u.at one (lines_from a.plots Cs (u + 1)) (lines_step a.plots Cs u (omega (arith, h))) wrote c.loop-u.invariant

pub returns : goal.returns
unfolding sheet_bytes
returns c =
    let a = c.args in
    let out = a.out.now in
    let line = a.first_line.now in
    let Cs = columns_at a.plots a.levels.now a.columns.now in
    let rows = lines_from a.plots Cs 0 in
    let first = wrote_then out 0 line (10 ∷ []) (c.write_bytes-line.ensures.answer, c.write_bytes-line.ensures.bytes) (c.write_byte-at.ensures.answer, c.write_byte-at.ensures.bytes) in
    let later = rest_end c.write_byte-at.new.out c.write_byte-at.result rows c.loop-u.out c.loop-u.at (lines_end a.plots Cs c.loop-u.u (omega arith)) c.loop-u.invariant in
    wrote_as out 0 (append_assoc line (10 ∷ []) rows) (wrote_then out 0 (line ++ 10 ∷ []) rows first later)
