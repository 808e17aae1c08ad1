-- `compare` meets its contract: the case is the first that fits.
use mathlib.Core.Path.{sym, ◌∙◌}
use mathlib.Core.Bool.{true, false}
use Rattle.standing.proofs.Nesting.{case_fitting, case_neither}
use Rattle.standing.proofs.comparing.compare.Goals as goal

pub returns-in-true-true : goal.returns-in-true-true
returns-in-true-true c = case_fitting c.args.f.now c.args.g.now true true (sym c.in-true-true.ensures) (sym c.in-true-true.ensures')

pub returns-in-true-false : goal.returns-in-true-false
returns-in-true-false c = case_fitting c.args.f.now c.args.g.now true false (sym c.in-true-false.ensures) (sym c.in-true-false.ensures')

pub returns-in-false-true : goal.returns-in-false-true
returns-in-false-true c = case_fitting c.args.f.now c.args.g.now false true (sym c.in-false-true.ensures) (sym c.in-false-true.ensures')

pub returns-then-crossing_of : goal.returns-then-crossing_of
returns-then-crossing_of c =
    case_neither c.args.f.now c.args.g.now true (sym c.in-false-false.ensures) (sym c.in-false-false.ensures') (sym c.if-crossing_of.true ∙ c.crossing_of.ensures.orthogonal)

pub returns-else-crossing_of : goal.returns-else-crossing_of
returns-else-crossing_of c =
    case_neither c.args.f.now c.args.g.now false (sym c.in-false-false.ensures) (sym c.in-false-false.ensures') (sym c.if-crossing_of.false ∙ c.crossing_of.ensures.orthogonal)
