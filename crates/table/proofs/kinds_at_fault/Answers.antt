-- `kinds_at_fault`: case by case.
use mathlib.Core.Path.{refl}
use Rattle.rules.specs.Table.{first_kind, second_kind}
use Rattle.table.proofs.Fault.{one_of_each}
use Rattle.table.proofs.kinds_at_fault.Goals as goal

pub returns-in-PlotPair : goal.returns-in-PlotPair
unfolding first_kind second_kind
returns-in-PlotPair c = rw c.in-PlotPair.is record { first = refl; second = refl }

pub returns-in-TreatmentPair : goal.returns-in-TreatmentPair
unfolding first_kind second_kind
returns-in-TreatmentPair c = rw c.in-TreatmentPair.is record { first = refl; second = refl }

pub returns-in_default : goal.returns-in_default
returns-in_default c =
    let k = one_of_each c.args.question c.in_default.not-PlotPair c.in_default.not-TreatmentPair in record { first = k.0; second = k.1 }
