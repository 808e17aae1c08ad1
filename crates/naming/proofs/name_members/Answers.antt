-- `name_members` meets its contract: what does not fit is not named, and numbering the columns changes no name.
use mathlib.Core.Bool.{Bool, true, false}
use mathlib.Core.Path.{◌≡◌, sym, ap, ◌∙◌}
use Prim.Native.Nat.{ℕ, suc}
use native.Mathlib.Omega.{arith}
use lib.ListN.{length, take}
use borrow.Author.Rules.{rules}
use Rattle.factor.specs.Lent.{column_at}
use Rattle.naming.proofs.Entry.{in_table}
use Rattle.naming.proofs.Members.{FamilyFits, family_fits_lem, names_ext, lengths_ext}
use Rattle.naming.proofs.Tables.{filled_numbered, filled_name}
use Rattle.naming.specs.Answers.{look_of}
use Rattle.naming.specs.Columns.{InTable}
use Rattle.naming.specs.Members.{members_fit, each_held, level_held, member_text, member_by}
use Rattle.naming.specs.declared.columns.Look.{Look}
use Rattle.naming.proofs.name_members.Goals as goal
use Rattle.naming.proofs.name_members.Goals.{After-members_fit}

-- whether the members fit, by the sheet's counts
fit : (c : After-members_fit) (b : Bool) → c.members_fit.result ≡ b
    → let a = c.args in members_fit (look_of a.kind a.source.counts) a.size (length a.source.levels.now) (length a.family.now) (length a.names.now) (length a.lengths.now) ≡ b
fit c b e =
    let a = c.args in
    ap (λ (x : Look). members_fit x a.size (length a.source.levels.now) (length a.family.now) (length a.names.now) (length a.lengths.now)) (sym c.look-look.ensures) ∙ sym c.members_fit.ensures ∙ e

family : (c : After-members_fit) → c.members_fit.result ≡ true
    → let a = c.args in FamilyFits (look_of a.kind a.source.counts) a.size (length a.source.levels.now) (length a.family.now) (length a.names.now) (length a.lengths.now)
family c e =
    let a = c.args in
    family_fits_lem (look_of a.kind a.source.counts) a.size (length a.source.levels.now) (length a.family.now) (length a.names.now) (length a.lengths.now) (fit c true e)

-- the columns stand in the level table
placed : (c : After-members_fit) → c.members_fit.result ≡ true → InTable c.look-look.result c.args.source.levels.now
placed c e = let a = c.args in rw c.look-look.ensures (in_table a.kind a.source.counts a.source.levels.now (family c e).columns)

pub number_looked-requires : goal.number_looked-requires
number_looked-requires c =
    let z = (goal.at.number_looked-requires c).After-members_fit in
    (placed z c.if-members_fit.true, search rules)

pub invariant_of-looked : goal.invariant_of-looked
invariant_of-looked c =
    let z = (goal.at.invariant_of-looked c).After-members_fit in
    let m = c.number_looked in
    let long : length m.new.out ≡ 2880 = search rules in
    record { numbered = filled_numbered c.look-look.result c.args.source.levels.now m.new.out (placed z c.if-members_fit.true) m.ensures.own m.ensures.all (omega arith) }

pub put_names-requires : goal.put_names-requires
put_names-requires c =
    let f = family (goal.at.put_names-requires c).After-members_fit c.if-members_fit.true in
    record { few = f.few; long = f.long; room = f.room; counted = f.counted }

pub returns-then-members_fit : goal.returns-then-members_fit
unfolding member_text member_by
returns-then-members_fit c =
    let z = (goal.at.returns-then-members_fit c).After-members_fit in
    let a = c.args in
    let s = a.source in
    let buffer = a.family.now in
    let look = c.look-look.result in
    let m = c.number_looked in
    let e = fit z true c.if-members_fit.true in
    let each = each_held look s.text.now m.new.out buffer in
    let level = level_held (look_of a.kind s.counts) s.text.now s.levels.now buffer in
    let same : (i : ℕ) → each i ≡ level i =
    λ i. ap (take 160) (filled_name look s.levels.now m.new.out (placed z c.if-members_fit.true) m.ensures.own m.ensures.all s.text.now (suc i) (column_at look.plots buffer i))
    ∙ ap (λ (x : Look). level_held x s.text.now s.levels.now buffer i) c.look-look.ensures in
    let w = c.put_names.ensures in record {
      answer = rw e;
      names = rw e (w.names ∙ names_ext each level a.names.now a.size (λ i h. same i));
      lengths = rw e (w.lengths ∙ lengths_ext each level a.lengths.now a.size (λ i h. same i));
    }

pub returns-else-members_fit : goal.returns-else-members_fit
returns-else-members_fit c =
    let e = fit (goal.at.returns-else-members_fit c).After-members_fit false c.if-members_fit.false in
    record { answer = rw e; names = rw e; lengths = rw e }
