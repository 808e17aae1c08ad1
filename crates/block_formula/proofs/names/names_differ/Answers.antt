use mathlib.Core.Path.{refl, sym, ◌∙◌}
use native.Mathlib.Omega.{arith}
use Rattle.rules.specs.Sheet.{plot_mark, header, column_names}
use Rattle.block_formula.proofs.NameLaws.{differ_no, differ_on, differ_end}
use Rattle.block_formula.proofs.names.names_differ.Goals as goal

pub loop-i-init : goal.loop-i-init
loop-i-init c = (omega arith, refl)

pub new_name-requires : goal.new_name-requires
new_name-requires c = (c.requires, omega arith)

pub returns-then-not-new_name : goal.returns-then-not-new_name
returns-then-not-new_name c =
    let a = c.args in
    let ns = column_names plot_mark (header a.line.now) in
    sym (sym c.loop-i.invariant.1 ∙ differ_no ns c.loop-i.i (omega (arith, c.requires)) (sym c.new_name.ensures ∙ c.if-not-new_name.true))

pub loop-i-preserved : goal.loop-i-preserved
loop-i-preserved c =
    let a = c.args in
    let ns = column_names plot_mark (header a.line.now) in
    (omega arith, sym (differ_on ns c.loop-i.i (omega (arith, c.requires)) (sym c.new_name.ensures ∙ c.if-not-new_name.false)) ∙ c.loop-i.invariant.1)

pub returns : goal.returns
returns c =
    let ns = column_names plot_mark (header c.args.line.now) in
    sym (sym c.loop-i.invariant.1 ∙ differ_end ns c.loop-i.i (omega (arith, c.requires)))
