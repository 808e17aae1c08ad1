-- `put_name` meets its contract: the member is U or E, or its name is found by the columns.
use mathlib.Core.List.{List}
use mathlib.Core.Path.{◌≡◌, sym, ap, ap₂, ◌∙◌}
use Prim.Native.Nat.{ℕ}
use lib.ListN.{length}
use Rattle.rules.specs.Factor.{Column}
use Rattle.decimal.specs.Writing.{written, place_after}
use Rattle.naming.proofs.Rules.{wrote_else, none_else, extreme_else}
use Rattle.naming.specs.Columns.{own_in, looked_in, own_names, look_names}
use Rattle.naming.specs.Members.{extreme_name, column_text, name_text, or_else}
use Rattle.naming.proofs.compose.Looked.put_name.Goals as goal
use Rattle.naming.proofs.compose.Looked.put_name.Goals.{After-put_extreme}

-- U or E, or the name by the columns
module _ (c : After-put_extreme) where
  abbrev F : Column
  F = c.args.member.now

  abbrev rest : List ℕ
  rest = let s = c.args.self.now in column_text s.look s.text.now s.table.now c.args.place F

  is : or_else (extreme_name (length F) F) rest ≡ name_text c.args.self.now.look c.args.self.now.text.now c.args.self.now.table.now c.args.place F
  is =
      let s = c.args.self.now in
      ap (λ (n : ℕ). or_else (extreme_name n F) rest) c.requires
      ∙ sym (extreme_else (own_names s.look s.text.now) (look_names s.look s.text.now) s.look.plots (own_in s.look s.table.now) (looked_in s.look s.table.now) c.args.place F)

pub returns-in-Some : goal.returns-in-Some
returns-in-Some c =
    let k = (goal.at.returns-in-Some c).After-put_extreme in
    let out = k.args.out.now in
    let r = wrote_else out (extreme_name (length (F k)) (F k)) (rest k) _ c.in-Some.end c.in-Some.ensures in
    (r.0 ∙ ap (place_after out 0) (is k), r.1 ∙ ap (written out 0) (is k))

pub returns : goal.returns
returns c =
    let k = (goal.at.returns c).After-put_extreme in
    let out = k.args.out.now in
    let none = none_else out (extreme_name (length (F k)) (F k)) (rest k) _ c.in_default.ensures in
    let w = c.by_columns.ensures in
    (w.0 ∙ ap₂ (λ (o W : List ℕ). place_after o 0 W) none.0 (none.1 ∙ is k), w.1 ∙ ap₂ (λ (o W : List ℕ). written o 0 W) none.0 (none.1 ∙ is k))
