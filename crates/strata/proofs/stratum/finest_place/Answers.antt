-- `finest_place` meets its contract: the number of classes of the last member tells.
use Rattle.std.proofs.Common.{arith}
use Rattle.strata.proofs.Extreme.{some_members}
use Rattle.strata.proofs.stratum.finest_place.Goals as goal

pub overflow_sub-last : goal.overflow_sub-last
overflow_sub-last c = some_members c.args.family.now.formed

pub counted-requires : goal.counted-requires
counted-requires c = omega (arith, some_members c.args.family.now.formed)
