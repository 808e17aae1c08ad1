-- `put` meets its contract: the number that is written stands for the place.
use mathlib.Core.Path.{◌≡◌, sym, ap, ap₂, ◌∙◌}
use mathlib.Core.List.{List}
use Prim.Native.Nat.{ℕ}
use Rattle.std.proofs.Common.{Option}
use lib.ListN.{set}
use Rattle.std.proofs.lemmas.List.{map-set}
use Rattle.design.specs.Crossing.{place_in}
use Rattle.design.proofs.Joins.{place_more}
use Rattle.design.proofs.entries.Entries.put.Goals as goal
use Rattle.design.proofs.entries.Entries.put.Goals.{in-Some, in-None}

pub returns : goal.returns
returns c =
    let e : place_in c.match-place.self ≡ c.args.place = elim c.match-place.branch [
      | in-Some w ↦ ap place_in w.self-is ∙ place_more w.in-Some.q ∙ sym w.in-Some.is
      | in-None w ↦ ap place_in w.self-is ∙ sym w.in-None.is
    ] in
    map-set place_in c.self.inside.bytes c.args.at c.match-place.self ∙ ap₂ (λ (l : List (Option ℕ)) (p : Option ℕ). set l c.args.at p) c.self.view_is e
