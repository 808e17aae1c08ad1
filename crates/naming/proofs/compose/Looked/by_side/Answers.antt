-- `by_side` meets its contract: what the columns on the side make is the member, or it is not.
use mathlib.Core.Bool.{Bool, false}
use mathlib.Core.List.{List}
use mathlib.Core.Path.{◌≡◌, refl, sym, ap, ap₂, ◌∙◌}
use Prim.Native.Nat.{ℕ, ◌+◌, ◌<◌}
use native.Mathlib.Omega.{arith}
use lib.ListN.{length, get_or, take}
use Rattle.std.specs.Prelude.{Some}
use Rattle.rules.proofs.Buffer.{length_members}
use Rattle.rules.specs.Factor.{Column}
use Rattle.rules.specs.Family.{alike}
use Rattle.rules.specs.Lists.{passing_from}
use Rattle.rules.specs.Names.{Side as RuleSide, join_of, on_side, shown}
use Rattle.decimal.specs.Writing.{written, place_after}
use Rattle.naming.proofs.Rules.{side_fits, side_fits_not}
use Rattle.naming.proofs.SideWalks.{told_join, told_listed}
use Rattle.naming.specs.declared.columns.Look.{Look}
use Rattle.naming.specs.Columns.{looked_in, side_of, join_by, listed_by}
use Rattle.naming.specs.Members.{list_text, listed_in}
use Rattle.naming.proofs.compose.Looked.by_side.Goals as goal
use Rattle.naming.proofs.compose.Looked.by_side.Goals.{After-alike}

-- what the columns on the side make
module _ (c : After-alike) where
  abbrev look : Look
  look = c.args.self.now.look

  abbrev side : RuleSide
  side = side_of look.plots c.args.side

  abbrev F : Column
  F = c.args.member.now

  abbrev S : List Column
  S = looked_in look c.args.self.now.table.now

  abbrev there : ℕ → Bool
  there = λ j. get_or c.on_side-there.result j false

  size : length S ≡ look.before + look.count
  size = length_members look.plots c.args.self.now.numbered.columns.few_plots c.args.self.now.table.now (look.before + look.count)

  told : (j : ℕ) → j < length S → there j ≡ on_side side F S j
  told j h =
      let w = c.columns-columns.ensures in
      c.on_side-there.ensures j (omega (arith, size, w.count)) ∙ ap₂ (λ (n : ℕ) (Cs : List Column). on_side (side_of n c.args.side) F Cs j) w.plots w.columns

  made : take look.plots c.joined-made.result ≡ join_of side F S
  made =
      let w = c.columns-columns.ensures in
      sym (ap (λ (n : ℕ). take n c.joined-made.result) w.plots) ∙ c.joined-made.ensures
      ∙ ap₂ (λ (n : ℕ) (Cs : List Column). join_by there (side_of n c.args.side) 0 Cs) w.plots w.columns ∙ told_join there side F S told

  found : alike (join_of side F S) F ≡ c.alike.result
  found = sym (ap (λ (X : Column). alike X F) made) ∙ sym c.alike.ensures

  list : listed_in look c.args.side c.args.self.now.table.now c.on_side-there.result ≡ shown side F S
  list = ap (passing_from (listed_by there side S) 0) (sym size) ∙ told_listed there side F S told

pub returns-then-not-alike : goal.returns-then-not-alike
returns-then-not-alike c =
    let k = (goal.at.returns-then-not-alike c).After-alike in
    let s = c.args.self.now in
    rw (side_fits_not s.look c.args.side s.text.now s.table.now (F k) (found k ∙ c.if-not-alike.true)) (refl, refl)

pub returns : goal.returns
returns c =
    let k = (goal.at.returns c).After-alike in
    let s = c.args.self.now in
    let out = c.args.out.now in
    let w = c.put_list.ensures in
    let q = ap (list_text s.look c.args.side s.text.now) (list k) in
    rw (side_fits s.look c.args.side s.text.now s.table.now (F k) (found k ∙ c.if-not-alike.false)) (ap Some (w.0 ∙ ap (place_after out 0) q), w.1 ∙ ap (written out 0) q)
