-- `by_sides` meets its contract: the columns of the kind that are coarser, then all that are finer.
use mathlib.Core.List.{List}
use mathlib.Core.Path.{◌≡◌, sym, ap, ap₂, ◌∙◌}
use Prim.Native.Nat.{ℕ}
use Rattle.std.specs.Prelude.{Option}
use Rattle.rules.specs.Factor.{Column}
use Rattle.decimal.specs.Writing.{written, place_after}
use Rattle.naming.proofs.Rules.{wrote_else, none_else, infimum_else, supremum_else}
use Rattle.naming.specs.Columns.{alone}
use Rattle.naming.specs.Members.{side_text, supremum_text, infimum_text, place_text, or_else}
use Rattle.naming.specs.declared.columns.Look.{Look}
use Rattle.naming.specs.declared.sides.Side.TheVariants.{Coarser, Finer}
use Rattle.naming.proofs.compose.Looked.by_sides.Goals as goal
use Rattle.naming.proofs.compose.Looked.by_sides.Goals.{After-by_side}

-- what the columns of the kind that are coarser make, and then all that are finer
module _ (c : After-by_side) where
  abbrev look : Look
  look = c.args.self.now.look

  abbrev F : Column
  F = c.args.member.now

  abbrev text : List ℕ
  text = c.args.self.now.text.now

  abbrev table : List ℕ
  table = c.args.self.now.table.now

  abbrev out : List ℕ
  out = c.args.out.now

  abbrev above : Option (List ℕ)
  above = side_text c.alone.result.look Coarser c.alone.result.text.now c.alone.result.table.now F

  abbrev below : Option (List ℕ)
  below = side_text look Finer text table F

  abbrev rest : List ℕ
  rest = supremum_text look text table c.args.place F

  abbrev place : List ℕ
  place = place_text c.args.place

  above_is : or_else above rest ≡ infimum_text look text table c.args.place F
  above_is =
      let w = c.alone.ensures in
      ap (λ (o : Option (List ℕ)). or_else o rest) (ap₂ (λ (l : Look) (t : List ℕ). side_text l Coarser t c.alone.result.table.now F) w.look w.text ∙ ap (λ (t : List ℕ). side_text (alone look) Coarser text t F) w.table)
      ∙ sym (infimum_else look text table c.args.place F)

  below_is : rest ≡ or_else above rest → or_else below place ≡ infimum_text look text table c.args.place F
  below_is e = sym (supremum_else look text table c.args.place F) ∙ e ∙ above_is

pub returns-in-Some : goal.returns-in-Some
returns-in-Some c =
    let k = (goal.at.returns-in-Some c).After-by_side in
    let r = wrote_else (out k) (above k) (rest k) _ c.in-Some.end c.in-Some.ensures in
    (r.0 ∙ ap (place_after (out k) 0) (above_is k), r.1 ∙ ap (written (out k) 0) (above_is k))

pub returns-in-Some-by_side : goal.returns-in-Some-by_side
returns-in-Some-by_side c =
    let k = (goal.at.returns-in-Some-by_side c).After-by_side in
    let none = none_else (out k) (above k) (rest k) _ c.in_default.ensures in
    let r = wrote_else _ (below k) (place k) _ c.in-Some-by_side.end c.in-Some-by_side.ensures in
    let q = below_is k none.1 in
    (r.0 ∙ ap₂ (λ (o W : List ℕ). place_after o 0 W) none.0 q, r.1 ∙ ap₂ (λ (o W : List ℕ). written o 0 W) none.0 q)

pub returns : goal.returns
returns c =
    let k = (goal.at.returns c).After-by_side in
    let none = none_else (out k) (above k) (rest k) _ c.in_default.ensures in
    let none2 = none_else _ (below k) (place k) _ c.in_default-by_side.ensures in
    let still = none2.0 ∙ none.0 in
    let q = none2.1 ∙ below_is k none.1 in
    let w = c.put_place.ensures in
    (w.0 ∙ ap₂ (λ (o W : List ℕ). place_after o 0 W) still q, w.1 ∙ ap₂ (λ (o W : List ℕ). written o 0 W) still q)
