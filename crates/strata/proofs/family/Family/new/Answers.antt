-- `new` meets its contract: what 15 says yes of is formed.
use Rattle.std.proofs.Common.{sym, ◌∙◌}
use Rattle.strata.proofs.Lent.{formed_of}
use Rattle.strata.proofs.family.Family.new.Goals as goal

pub invariant_of-result : goal.invariant_of-result
invariant_of-result c = record { formed = formed_of _ _ _ (sym c.well_formed-2.ensures ∙ c.if-not-well_formed.false) }
