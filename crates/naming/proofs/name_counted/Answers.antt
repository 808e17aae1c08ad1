-- `name_counted` meets its contract: what does not fit is not named, the member is U or E, or the columns are numbered, which changes no name.
use mathlib.Core.Bool.{Bool, true, false}
use mathlib.Core.List.{List}
use mathlib.Core.Path.{◌≡◌, sym, ap, ap₂, ◌∙◌}
use Prim.Native.Nat.{ℕ}
use native.Mathlib.Omega.{arith}
use lib.ListN.{length, take}
use borrow.Author.Rules.{rules}
use Rattle.rules.specs.Names.{equivalent_column, name_by_column, bytes_of}
use Rattle.rules.specs.Naming.{name_buffer}
use Rattle.decimal.specs.Writing.{written, place_after}
use Rattle.naming.proofs.Entry.{Fits, fits, unnamed, named, in_table, accepting, refusing}
use Rattle.naming.proofs.Members.{written_held, place_held}
use Rattle.naming.proofs.Rules.{wrote_else, none_else, extreme_else}
use Rattle.naming.proofs.Tables.{filled_numbered, filled_name}
use Rattle.refusal.specs.declared.Refusal.TheVariants.{Limits}
use Rattle.std.specs.Prelude.{Ok}
use Rattle.naming.specs.Answers.{look_of, member_fits, name_by, counted_naming, name_numbers, name_numbers_of}
use Rattle.naming.specs.Columns.{InTable, own_in, looked_in, own_names, look_names, own_of, looked_of}
use Rattle.naming.specs.Members.{extreme_name, column_text, or_else}
use Rattle.naming.specs.declared.columns.Look.{Look}
use Rattle.naming.proofs.name_counted.Goals as goal
use Rattle.naming.proofs.name_counted.Goals.{After-member_fits}

-- whether the member fits, by the sheet's counts
fit : (c : After-member_fits) (b : Bool) → c.member_fits.result ≡ b
    → let a = c.args in member_fits (look_of a.kind a.source.counts) (length a.source.levels.now) (length a.name.now) (length a.member.now) ≡ b
fit c b e =
    let a = c.args in
    ap (λ (x : Look). member_fits x (length a.source.levels.now) (length a.name.now) (length a.member.now)) (sym c.look-look.ensures) ∙ sym c.member_fits.ensures ∙ e

-- a member that fits
module _ (c : After-member_fits) (e : c.member_fits.result ≡ true) where
  abbrev look : Look
  look = look_of c.args.kind c.args.source.counts

  given : Fits look (length c.args.source.levels.now) (length c.args.name.now) (length c.args.member.now)
  given = fits look (length c.args.source.levels.now) (length c.args.name.now) (length c.args.member.now) (fit c true e)

  -- the columns stand in the level table
  placed : InTable c.look-look.result c.args.source.levels.now
  placed = rw c.look-look.ensures (in_table c.args.kind c.args.source.counts c.args.source.levels.now given.columns)

  on : length c.args.member.now ≡ c.look-look.result.plots
  on = rw c.look-look.ensures given.on

  -- its name by the level table
  abbrev name : List ℕ
  name = name_by look c.args.source.text.now c.args.source.levels.now c.args.place c.args.member.now

  -- that name, written
  answered : (m : ℕ) (after : List ℕ) → m ≡ place_after c.args.name.now 0 name → after ≡ written c.args.name.now 0 name
      → let a = c.args in let b = counted_naming a.kind a.source.counts a.place a.source.text.now a.source.levels.now a.member.now a.name.now in
      (name_numbers (Ok m) ≡ name_numbers_of b) × (after ≡ name_buffer a.name.now b)
  answered m after p w =
      let a = c.args in
      let out = a.name.now in
      accepting m out after (take (length out) name) _ (named look a.source.text.now a.source.levels.now a.member.now a.place (length out) (fit c true e))
      (p ∙ place_held out name) (w ∙ written_held out name)

pub returns-then-not-member_fits : goal.returns-then-not-member_fits
returns-then-not-member_fits c =
    let z = (goal.at.returns-then-not-member_fits c).After-member_fits in
    let a = c.args in
    let s = a.source in
    let out = a.name.now in
    let e = fit z false c.if-not-member_fits.true in
    let whole = refusing Limits out _ (omega arith) (unnamed (look_of a.kind s.counts) s.text.now s.levels.now a.member.now a.place (length out) e) in record { answer = whole.0; buffer = whole.1 }

pub put_extreme-requires : goal.put_extreme-requires
put_extreme-requires c =
    let z = (goal.at.put_extreme-requires c).After-member_fits in
    let e = c.if-not-member_fits.false in
    omega (arith, on z e, (placed z e).few_plots)

pub returns-in-Some : goal.returns-in-Some
unfolding name_by
returns-in-Some c =
    let z = (goal.at.returns-in-Some c).After-member_fits in
    let e = c.if-not-member_fits.false in
    let a = c.args in
    let F = a.member.now in
    let l = look z e in
    let names = own_names l a.source.text.now in
    let looked = look_names l a.source.text.now in
    let own = own_of l a.source.levels.now in
    let all = looked_of l a.source.levels.now in
    let rest = bytes_of names looked (name_by_column l.plots own all a.place F (equivalent_column F 0 own)) in
    let is : or_else (extreme_name (length F) F) rest ≡ name z e =
    ap (λ (n : ℕ). or_else (extreme_name n F) rest) (given z e).on ∙ sym (extreme_else names looked l.plots own all a.place F) in
    let r = wrote_else a.name.now (extreme_name (length F) F) rest _ c.in-Some.end c.in-Some.ensures in
    let whole = answered z e c.in-Some.end _ (r.0 ∙ ap (place_after a.name.now 0) is) (r.1 ∙ ap (written a.name.now 0) is) in
    record { answer = whole.0; buffer = whole.1 }

pub number_looked-requires : goal.number_looked-requires
number_looked-requires c =
    let z = (goal.at.number_looked-requires c).After-member_fits in
    (placed z c.if-not-member_fits.false, search rules)

pub invariant_of-looked : goal.invariant_of-looked
invariant_of-looked c =
    let z = (goal.at.invariant_of-looked c).After-member_fits in
    let m = c.number_looked in
    let long : length m.new.out ≡ 2880 = search rules in
    record { numbered = filled_numbered c.look-look.result c.args.source.levels.now m.new.out (placed z c.if-not-member_fits.false) m.ensures.own m.ensures.all (omega arith) }

pub by_columns-requires : goal.by_columns-requires
by_columns-requires c =
    let z = (goal.at.by_columns-requires c).After-member_fits in
    on z c.if-not-member_fits.false

pub returns : goal.returns
returns c =
    let z = (goal.at.returns c).After-member_fits in
    let e = c.if-not-member_fits.false in
    let a = c.args in
    let s = a.source in
    let F = a.member.now in
    let out = a.name.now in
    let x = c.look-look.result in
    let m = c.number_looked in
    let table = m.new.out in
    let rest = column_text x s.text.now table a.place F in
    let none = none_else out (extreme_name (length F) F) rest _ c.in_default.ensures in
    let is : rest ≡ name z e =
    none.1 ∙ ap (λ (n : ℕ). or_else (extreme_name n F) rest) (on z e)
    ∙ sym (extreme_else (own_names x s.text.now) (look_names x s.text.now) x.plots (own_in x table) (looked_in x table) a.place F)
    ∙ filled_name x s.levels.now table (placed z e) m.ensures.own m.ensures.all s.text.now a.place F
    ∙ ap (λ (y : Look). name_by y s.text.now s.levels.now a.place F) c.look-look.ensures in
    let w = c.by_columns.ensures in
    let whole = answered z e _ _ (w.0 ∙ ap₂ (λ (o W : List ℕ). place_after o 0 W) none.0 is) (w.1 ∙ ap₂ (λ (o W : List ℕ). written o 0 W) none.0 is) in
    record { answer = whole.0; buffer = whole.1 }
