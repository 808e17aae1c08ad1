-- `full_within` meets its contract.
use Rattle.std.proofs.Common.{arith}
use Rattle.std.proofs.lemmas.Bool.Decides.{nat_tests}
use Rattle.rules.specs.Design.{full_within_limits}
use Rattle.design.proofs.Ranges.{in_range}
use Rattle.design.proofs.questions.full_within.Goals as goal
use Rattle.design.proofs.questions.full_within.Goals.{then-within, else-within, then-treatment_columns-le-COLUMNS, else-treatment_columns-le-COLUMNS}

pub returns-then-contains : goal.returns-then-contains
unfolding full_within_limits
returns-then-contains c = elim c.if-treatment_columns-le-COLUMNS.branch [
  | then-treatment_columns-le-COLUMNS w ↦ let r = in_range w.contains.result 6 c.args.k (rw (w.new.ensures.exhausted, w.new.ensures.start, w.new.ensures.end) at w.contains.ensures.value) in grind (arith, nat_tests)
  | else-treatment_columns-le-COLUMNS w ↦ elim c.if-within.branch [ then-within v ↦ grind (arith, nat_tests) | else-within v ↦ grind (arith, nat_tests) ]
]

pub returns-else-contains : goal.returns-else-contains
unfolding full_within_limits
returns-else-contains c = elim c.if-treatment_columns-le-COLUMNS.branch [
  | then-treatment_columns-le-COLUMNS w ↦ let r = in_range w.contains.result 6 c.args.k (rw (w.new.ensures.exhausted, w.new.ensures.start, w.new.ensures.end) at w.contains.ensures.value) in grind (arith, nat_tests)
  | else-treatment_columns-le-COLUMNS w ↦ elim c.if-within.branch [ then-within v ↦ grind (arith, nat_tests) | else-within v ↦ grind (arith, nat_tests) ]
]
