-- `steps::full_from_11` meets its contract: the treatments are closed, then judged.
use mathlib.Core.Path.{◌≡◌, ap, ◌∙◌}
use mathlib.Core.List.{List}
use Prim.Native.Nat.{ℕ}
use native.Mathlib.Omega.{arith}
use lib.ListN.{length}
use Rattle.rules.specs.Factor.{Column}
use Rattle.rules.specs.Family.{◌∈◌, columns_from, members_of}
use Rattle.rules.specs.Closing.{Closing}
use Rattle.rules.specs.Design.{question11, treatment_buffer}
use Rattle.rules.proofs.Demand3.{column_length}
use Rattle.design.specs.Answers.{full_numbers_of}
use Rattle.design.proofs.Choosing.{members_plots}
use Rattle.design.proofs.FullAnswered.{first_held, first_tells, first_covered}
use Rattle.design.proofs.steps.full_from_11.Goals as goal
use Rattle.design.proofs.steps.full_from_11.Goals.{After-first_family-closed}

-- the treatment columns, which are on n plots
abbrev columns : After-first_family-closed → List Column
columns c = columns_from c.args.n c.args.levels.now 6 c.args.d

on : (c : After-first_family-closed) (F : Column) → F ∈ columns c → length F ≡ c.args.n
on c = let s = c in column_length s.args.n s.args.levels.now s.args.d 6 s.requires.1 s.requires.5 (omega (arith, s.requires.2))

-- the treatment buffer once the first family is written
abbrev after : After-first_family-closed → List ℕ
after c = c.first_family-closed.new.family

-- the marks
abbrev marks : After-first_family-closed → List ℕ
marks c = c.first_family-closed.new.marks

pub judge_treatments-requires : goal.judge_treatments-requires
judge_treatments-requires c =
    let f = (goal.at.judge_treatments-requires c).After-first_family-closed in
    let tells = first_tells c.args.n c.args.k (columns f) (on f) c.args.treatment_family.now (after f) (marks f) c.requires.1 c.requires.8 f.first_family-closed.result f.first_family-closed.ensures in
    (c.requires.0, c.requires.1, c.requires.6, tells)

pub returns : goal.returns
returns c =
    let f = (goal.at.returns c).After-first_family-closed in
    let n = c.args.n in
    let P = members_of n c.args.plot.now c.args.held in
    let held = first_held n c.args.k (columns f) (on f) c.args.treatment_family.now (after f) (marks f) c.requires.1 c.requires.8 f.first_family-closed.result f.first_family-closed.ensures in
    let on_p = members_plots n c.args.plot.now c.args.held c.requires.1 (omega (arith, c.requires.6.room, c.requires.6.few)) in
    let covered = first_covered n c.args.k (columns f) (on f) c.args.treatment_family.now (after f) (marks f) c.requires.1 c.requires.8 P on_p c.requires.7 f.first_family-closed.result f.first_family-closed.ensures in
    record {
      answer = c.judge_treatments.ensures.answer ∙ ap (λ (x : Closing). full_numbers_of (question11 n P x)) held;
      buffer = c.judge_treatments.ensures.buffer ∙ ap (λ (x : Closing). treatment_buffer (after f) (question11 n P x)) held ∙ covered;
    }
