-- `place_infima` meets its contract: the infima are filled in, and placed.
use mathlib.Core.Path.{sym, subst}
use mathlib.Core.Logic.{◌⊎◌}
use mathlib.Core.List.{List, ◌++◌}
use Prim.Native.Nat.{ℕ, ◌≤◌}
use native.Mathlib.Omega.{arith}
use lib.ListN.{length-replicate}
use Rattle.rules.specs.Factor.{Column}
use Rattle.rules.specs.Family.{◌∈◌, members_of}
use Rattle.design.specs.Treatments.{AllPlaced}
use Rattle.design.proofs.Choosing.{generators_numbered}
use Rattle.design.proofs.treatments.place_infima.Goals as goal

pub fill_infima-total-requires : goal.fill_infima-total-requires
fill_infima-total-requires g c = (c.requires.7.held.some, c.requires.7.held.most, c.requires.0, c.requires.1, c.requires.2, c.requires.3, c.requires.4, subst (λ (m : ℕ). ((c.args.d ≤ 3) × (1920 ≤ m)) ⊎ (15360 ≤ m)) (sym (length-replicate {A = ℕ} _ 0)) c.requires.5)

pub place_all-requires : goal.place_all-requires
place_all-requires g c =
    let n = c.args.n in (
      c.requires.7,
      c.fill_infima-total.ensures.few.1,
      c.fill_infima-total.ensures.few.0,
      λ F m. generators_numbered n c.args.k c.requires.7.held.most c.args.levels.now c.args.first c.args.d (omega arith) F (subst (λ (S : List Column). F ∈ S) c.fill_infima-total.ensures.columns m),
    )

pub returns : goal.returns
returns g c =
    let n = c.args.n in
    subst (λ (S : List Column). AllPlaced n (S ++ members_of n c.args.store.now c.args.size) c.place_all.new.store c.place_all.new.counts c.place_all.result) c.fill_infima-total.ensures.columns c.place_all.ensures
