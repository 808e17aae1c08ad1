-- `by_columns` meets its contract: an equivalent column is looked for first.
use mathlib.Core.List.{List, []}
use mathlib.Core.Path.{◌≡◌, sym, ap, ap₂, ◌∙◌}
use Prim.Native.Nat.{ℕ, suc}
use lib.ListN.{get_or}
use Rattle.rules.specs.Factor.{Column}
use Rattle.rules.specs.Names.{Name, equivalent_column, name_by_column, bytes_of}
use Rattle.decimal.specs.Writing.{written, place_after}
use Rattle.naming.proofs.Rules.{column_none, column_some, alone_in}
use Rattle.naming.specs.declared.columns.Look.{Look}
use Rattle.naming.specs.Columns.{own_in, looked_in, own_names, look_names}
use Rattle.naming.specs.Tables.{columns_in}
use Rattle.naming.proofs.compose.Looked.by_columns.Goals as goal
use Rattle.naming.proofs.compose.Looked.by_columns.Goals.{After-equivalent_to}

-- the lowest equivalent column
module _ (c : After-equivalent_to) where
  abbrev look : Look
  look = c.args.self.now.look

  abbrev F : Column
  F = c.args.member.now

  abbrev out : List ℕ
  out = c.args.out.now

  abbrev own : List Column
  own = own_in look c.args.self.now.table.now

  abbrev all : List Column
  all = looked_in look c.args.self.now.table.now

  abbrev names : List (List ℕ)
  names = own_names look c.args.self.now.text.now

  abbrev looked : List (List ℕ)
  looked = look_names look c.args.self.now.text.now

  abbrev name : ℕ → Name
  name x = name_by_column look.plots own all c.args.place F x

  own_is : columns_in c.columns.result ≡ own
  own_is = c.columns.ensures.columns ∙ ap₂ looked_in c.alone.ensures.look c.alone.ensures.table ∙ alone_in look c.args.self.now.text.now c.args.self.now.table.now c.args.place F

pub returns-in-Some : goal.returns-in-Some
unfolding bytes_of
returns-in-Some c =
    let k = (goal.at.returns-in-Some c).After-equivalent_to in
    let a = k.args in
    let x = c.in-Some.c in
    let is : suc x ≡ equivalent_column (F k) 0 (own k) = c.in-Some.ensures ∙ ap (equivalent_column (F k) 0) (own_is k) in
    let q : get_or (names k) x [] ≡ bytes_of (names k) (looked k) (name k (equivalent_column (F k) 0 (own k))) =
    sym (ap (λ (y : ℕ). bytes_of (names k) (looked k) (name k y)) (sym is) ∙ ap (bytes_of (names k) (looked k)) (column_some (names k) (looked k) (look k).plots (own k) (all k) a.place (F k) x)) in
    let w = c.put_marked.ensures in
    (w.0 ∙ ap (place_after (out k) 0) q, w.1 ∙ ap (written (out k) 0) q)

pub returns : goal.returns
returns c =
    let k = (goal.at.returns c).After-equivalent_to in
    let a = k.args in
    let is : ◌≡◌ {A = ℕ} 0 (equivalent_column (F k) 0 (own k)) = c.in_default.ensures ∙ ap (equivalent_column (F k) 0) (own_is k) in
    let q = ap (bytes_of (names k) (looked k)) (sym (ap (name k) (sym is) ∙ column_none (names k) (looked k) (look k).plots (own k) (all k) a.place (F k))) in
    let w = c.by_sides.ensures in
    (w.0 ∙ ap (place_after (out k) 0) q, w.1 ∙ ap (written (out k) 0) q)
