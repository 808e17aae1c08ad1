-- `place_choices` meets its contract: there is memory for as many infima as there may be.
use mathlib.Core.Logic.{inl, inr}
use Prim.Native.Nat.{◌≤◌}
use native.Mathlib.Omega.{arith}
use Rattle.design.proofs.treatments.place_choices.Goals as goal

pub place_infima-requires : goal.place_infima-requires
place_infima-requires c =
    let few : c.args.d ≤ 3 = omega (arith, c.if-d-lt-FEW_COLUMNS.true) in
    (c.requires.0, c.requires.1, c.requires.2, c.requires.3, c.requires.4, inl (few, omega arith), omega arith, c.requires.5)

pub place_infima-requires-2 : goal.place_infima-requires-2
place_infima-requires-2 c =
    (c.requires.0, c.requires.1, c.requires.2, c.requires.3, c.requires.4, inr (omega arith), omega arith, c.requires.5)
