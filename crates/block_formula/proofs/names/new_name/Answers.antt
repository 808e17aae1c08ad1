use mathlib.Core.Path.{refl, sym, ap₂, ◌∙◌}
use mathlib.Core.List.{[]}
use native.Mathlib.Omega.{arith}
use lib.ListN.{get_or}
use Rattle.rules.specs.Sheet.{plot_mark, header, column_names, same_bytes}
use Rattle.block_formula.proofs.NameLaws.{equal_bytes, new_here, new_on, new_end}
use Rattle.block_formula.proofs.names.new_name.Goals as goal

pub loop-j-init : goal.loop-j-init
loop-j-init c = (omega arith, omega arith, refl)

pub returns-then-eq : goal.returns-then-eq
returns-then-eq c =
    let a = c.args in
    let ns = column_names plot_mark (header a.line.now) in
    let same = c.eq.ensures ∙ equal_bytes c.name.result.now c.name-in-loop-j.result.now ∙ ap₂ same_bytes c.name.ensures c.name-in-loop-j.ensures in
    sym (sym c.loop-j.invariant.2 ∙ new_here ns (get_or ns a.i []) c.loop-j.j (omega (arith, c.requires.0)) (sym same ∙ c.if-eq.true))

pub loop-j-preserved : goal.loop-j-preserved
loop-j-preserved c =
    let a = c.args in
    let ns = column_names plot_mark (header a.line.now) in
    let same = c.eq.ensures ∙ equal_bytes c.name.result.now c.name-in-loop-j.result.now ∙ ap₂ same_bytes c.name.ensures c.name-in-loop-j.ensures in
    (omega arith, omega arith, sym (new_on ns (get_or ns a.i []) c.loop-j.j (omega (arith, c.requires.0)) (sym same ∙ c.if-eq.false)) ∙ c.loop-j.invariant.2)

pub returns : goal.returns
returns c =
    let a = c.args in
    let ns = column_names plot_mark (header a.line.now) in
    sym (sym c.loop-j.invariant.2 ∙ new_end ns (get_or ns a.i []) c.loop-j.j (omega (arith, c.requires.0)))
