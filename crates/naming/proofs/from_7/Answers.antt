-- `from_7` meets its contract: questions 7 and 15 in turn, then the name of the member that the part lent is.
use mathlib.Core.List.{List, []}
use mathlib.Core.Path.{◌≡◌, sym, ap, ◌∙◌}
use Prim.Native.Nat.{ℕ, ◌-◌}
use native.Mathlib.Omega.{arith}
use lib.ListN.{length, get_or}
use Rattle.rules.proofs.Buffer.{length_members, member_is}
use Rattle.rules.proofs.WellFormed.{accepted}
use Rattle.rules.specs.Design.{all_nonzero}
use Rattle.rules.specs.Factor.{Column}
use Rattle.rules.specs.Family.{Family as Members, members_of}
use Rattle.rules.specs.Naming.{Kind as Rule, looked_at, name_at}
use Rattle.factor.proofs.Lent.{length_part}
use Rattle.families.proofs.Lent.{formed_in_lem}
use Rattle.naming.proofs.Entry.{looked_columns, few_looked, named_for, answered, refusing, naming_7, naming_15, naming_found, Ranges, ranges, ranges_fit}
use Rattle.refusal.specs.declared.Refusal.TheVariants.{MissingLevel, Family}
use Rattle.naming.specs.Answers.{kind_of, look_of, naming_by}
use Rattle.naming.specs.Columns.{looked_of}
use Rattle.naming.specs.declared.columns.Look.{Look}
use Rattle.naming.proofs.from_7.Goals as goal
use Rattle.naming.proofs.from_7.Goals.{After-all_nonzero}

-- question 7 was asked of the columns looked at
module _ (c : After-all_nonzero) where
  abbrev text : List ℕ
  text = c.args.source.text.now

  abbrev levels : List ℕ
  levels = c.args.source.levels.now

  abbrev buffer : List ℕ
  buffer = c.args.family.now

  abbrev n : ℕ
  n = c.args.source.counts.plots

  abbrev k : Rule
  k = kind_of c.args.kind

  abbrev S : Members
  S = members_of n buffer c.args.size

  within : Ranges n c.args.size c.args.place (length levels) (length buffer) (length c.args.name.now)
  within = ranges n c.args.size c.args.place (length levels) (length buffer) (length c.args.name.now) c.requires.1

  asked : all_nonzero (looked_at k text n levels) ≡ c.all_nonzero.result
  asked =
      sym (c.all_nonzero.ensures ∙ ap (λ (x : Look). all_nonzero (looked_of x levels)) c.look.ensures ∙ ap all_nonzero (looked_columns text c.args.source.counts c.requires.2 c.args.kind levels))

pub returns-then-not-all_nonzero : goal.returns-then-not-all_nonzero
returns-then-not-all_nonzero c =
    let z = (goal.at.returns-then-not-all_nonzero c).After-all_nonzero in
    let a = z.args in
    let whole = refusing MissingLevel a.name.now _ (omega arith) (naming_7 (k z) (text z) (n z) (levels z) (S z) a.place (asked z ∙ c.if-not-all_nonzero.true)) in record { answer = whole.0; buffer = whole.1 }

pub returns-then-not-well_formed : goal.returns-then-not-well_formed
returns-then-not-well_formed c =
    let z = (goal.at.returns-then-not-well_formed c).After-all_nonzero in
    let a = z.args in
    let f = sym (c.well_formed-2.ensures ∙ formed_in_lem (n z) (buffer z) a.size (within z).few_plots (within z).family) ∙ c.if-not-well_formed.true in
    let whole = refusing Family a.name.now _ (omega arith) (naming_15 (k z) (text z) (n z) (levels z) (S z) a.place (asked z ∙ c.if-not-all_nonzero.false) f) in record { answer = whole.0; buffer = whole.1 }

pub overflow_sub-place : goal.overflow_sub-place
overflow_sub-place c = omega (arith, (within (goal.at.overflow_sub-place c).After-all_nonzero).first)

pub returns : goal.returns
unfolding name_at
returns c =
    let z = (goal.at.returns c).After-all_nonzero in
    let a = c.args in
    let w = within z in
    let look = look_of a.kind a.source.counts in
    let room = length a.name.now in
    let i = a.place - 1 in
    let m = c.member-member in
    let f = sym (c.well_formed-2.ensures ∙ formed_in_lem (n z) (buffer z) a.size w.few_plots w.family) ∙ c.if-not-well_formed.false in
    let few = (accepted (S z) f).few in
    let size : length (S z) ≡ a.size = length_members (n z) w.few_plots (buffer z) a.size in
    let e = naming_found (k z) (text z) (n z) (levels z) (S z) a.place (asked z ∙ c.if-not-all_nonzero.false) f in
    let is = member_is (n z) w.few_plots (buffer z) a.size i (omega (arith, w.first, w.last)) in
    let on : length (get_or (S z) i []) ≡ n z = ap length is ∙ length_part (n z) i (buffer z) (omega (arith, w.first, w.last, w.few_plots, w.family)) in
    let fitting = ranges_fit a.kind a.source.counts a.size a.place (length (levels z)) (length (buffer z)) room (length (get_or (S z) i [])) w (few_looked (text z) a.source.counts c.requires.2 c.requires.0 a.kind) on in
    let same : naming_by look (text z) (levels z) m.result.now a.place room ≡ record { refusal = 0; name = name_at (k z) (text z) (n z) (levels z) (S z) a.place } =
    ap (λ (F : Column). naming_by look (text z) (levels z) F a.place room) (m.ensures ∙ sym is)
    ∙ named_for a.kind a.source.counts (text z) (levels z) (get_or (S z) i []) a.place room c.requires.0 c.requires.2 (omega (arith, w.last)) fitting in
    let whole = answered _ a.name.now _ _ _ (e ∙ sym same) (c.name_counted.ensures.answer, c.name_counted.ensures.buffer) in record { answer = whole.0; buffer = whole.1 }
