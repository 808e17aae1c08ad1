use mathlib.Core.Path.{◌≡◌, refl, sym, ap, ◌∙◌}
use mathlib.Core.Bool.{true, false}
use native.Mathlib.Omega.{arith}
use lib.ListN.{drop}
use Rattle.rules.specs.Parents.{slash_form}
use Rattle.sheet.specs.Walk.{field_of}
use Rattle.sheet.proofs.Stops.{field_cut}
use Rattle.conversion.proofs.FirstLine.{formed_end, formed_no, formed_last, formed_on}
use Rattle.conversion.proofs.first_line.slashes_formed.Goals as goal
use Rattle.conversion.proofs.first_line.slashes_formed.Goals.{After-slash_form}

-- what was asked of the part handed on, of the field
said : (c : After-slash_form) → slash_form (field_of (drop c.loop-at.at c.args.text.now)) ≡ c.slash_form.result
said c =
    let d = c in
    sym (ap slash_form (field_cut d.args.text.now d.loop-at.at d.end_of-e.result d.end_of-e.ensures)) ∙ sym c.slash_form.ensures

pub loop-at-init : goal.loop-at-init
loop-at-init c = (omega arith, refl)

pub returns-then-text-e : goal.returns-then-text-e
returns-then-text-e c =
    let t = c.args.text.now in
    sym (sym c.loop-at.invariant.1 ∙ formed_end t c.loop-at.at c.end_of-e.result c.end_of-e.ensures (omega arith))

pub returns-then-not-slash_form : goal.returns-then-not-slash_form
returns-then-not-slash_form c =
    let t = c.args.text.now in
    let no : slash_form (field_of (drop c.loop-at.at t)) ≡ false = said (goal.at.returns-then-not-slash_form c).After-slash_form ∙ c.if-not-slash_form.true in
    sym (sym c.loop-at.invariant.1 ∙ formed_no t c.loop-at.at c.end_of-e.result c.end_of-e.ensures (omega arith) no)

pub returns-then-text-e-eq10 : goal.returns-then-text-e-eq10
returns-then-text-e-eq10 c =
    let t = c.args.text.now in
    let yes : slash_form (field_of (drop c.loop-at.at t)) ≡ true = said (goal.at.returns-then-text-e-eq10 c).After-slash_form ∙ c.if-not-slash_form.false in
    sym (sym c.loop-at.invariant.1 ∙ formed_last t c.loop-at.at c.end_of-e.result c.end_of-e.ensures (omega arith) c.if-text-e-eq10.true yes)

pub loop-at-preserved : goal.loop-at-preserved
loop-at-preserved c =
    let t = c.args.text.now in
    let yes : slash_form (field_of (drop c.loop-at.at t)) ≡ true = said (goal.at.loop-at-preserved c).After-slash_form ∙ c.if-not-slash_form.false in
    (omega arith, sym (formed_on t c.loop-at.at c.end_of-e.result c.end_of-e.ensures (omega arith) c.if-text-e-eq10.false yes) ∙ c.loop-at.invariant.1)
