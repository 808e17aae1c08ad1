-- `print_design`: the line of a refusal by 6 to 14, or the table.
use mathlib.Core.Path.{◌≡◌, refl, sym, ap, ◌∙◌}
use mathlib.Core.List.{List}
use Prim.Native.Nat.{ℕ, ◌≤◌}
use native.Mathlib.Omega.{arith}
use lib.ListN.{length, replicate, length-replicate}
use Rattle.rules.specs.Design.{Answer, full_design}
use Rattle.rules.specs.Table.{rows_bytes}
use Rattle.rules.proofs.Made.{Tells, full_tells}
use Rattle.decimal.proofs.Writing.{wrote_as}
use Rattle.refusal.specs.Numbers.{number_of}
use Rattle.design.specs.Answers.{FullNumbers, full_numbers, full_numbers_of}
use Rattle.table.proofs.TableLaws.{places_few, accepted_in, accepted_rows_lem, refused_rows, plots_nameable, treatments_nameable}
use Rattle.table.proofs.print_design.Goals as goal
use Rattle.table.proofs.print_design.Goals.{After-full_design-design}

-- the number of plots
abbrev number : After-full_design-design → ℕ
number c = c.args.source.counts.plots

-- the rules' answer
abbrev design : After-full_design-design → Answer
design c = let s = c.args.source in full_design (number c) s.counts.plot_columns s.counts.treatment_columns 6 s.levels.now 7680 7680

-- what it tells
tells : (c : After-full_design-design) → Tells (number c) (design c)
tells c = let s = c.args.source in full_tells (number c) s.counts.plot_columns s.counts.treatment_columns 6 s.levels.now 7680 7680

-- a family's buffer before
abbrev empty : List ℕ
empty = replicate 7680 0

long : 7680 ≤ length empty
long = let l : length empty ≡ 7680 = length-replicate {A = ℕ} 7680 0 in omega arith

pub print_refusal-requires : goal.print_refusal-requires
unfolding full_numbers full_numbers_of
print_refusal-requires c =
    let f = (goal.at.print_refusal-requires c).After-full_design-design in
    let s = c.args.source in
    let r = c.in-Err in
    let e = f.full_design-design.ensures in
    let same = sym (ap full_numbers r.is) ∙ e.answer in
    let few = places_few (number f) (design f) (tells f) in
    let one : r.refusal.first ≡ (design f).places.first = ap (λ (x : FullNumbers). x.first) same in
    let two : r.refusal.second ≡ (design f).places.second = ap (λ (x : FullNumbers). x.second) same in (
      (
        plots_nameable (number f) c.requires.1 c.requires.2 (design f) (tells f) empty empty long long s.text.now s.levels.now c.requires.0 c.requires.3 f.full_design-design.new.plot_family e.plots,
        treatments_nameable (number f) c.requires.1 c.requires.2 (design f) (tells f) empty empty long long s.text.now s.levels.now c.requires.0 c.requires.3 f.full_design-design.new.treatment_family e.treatments,
        c.requires.4,
      ),
      omega (arith, one, few.0),
      omega (arith, two, few.1),
    )

pub returns-in-Err : goal.returns-in-Err
unfolding full_numbers
returns-in-Err c =
    let f = (goal.at.returns-in-Err c).After-full_design-design in
    let s = c.args.source in
    let r = c.in-Err in
    let e = f.full_design-design.ensures in
    let q = r.refusal in
    wrote_as c.args.out.now 0
    (ap rows_bytes
    (refused_rows (number f) c.requires.1 c.requires.2 (design f) (tells f) empty empty long long s.text.now s.levels.now _ (sym (ap full_numbers r.is) ∙ e.answer) refl (number_of q.question) q.first q.second refl refl refl f.full_design-design.new.plot_family f.full_design-design.new.treatment_family e.plots e.treatments))
    c.print_refusal.ensures

pub print_accepted-requires : goal.print_accepted-requires
unfolding full_numbers
print_accepted-requires c =
    let f = (goal.at.print_accepted-requires c).After-full_design-design in
    let s = c.args.source in
    let g = c.in-Ok in
    let e = f.full_design-design.ensures in
    (c.requires.0, c.requires.3, accepted_in (number f) c.requires.1 c.requires.2 (design f) (tells f) empty empty long long s.text.now s.levels.now _ (sym (ap full_numbers g.is) ∙ e.answer) refl f.full_design-design.new.plot_family f.full_design-design.new.treatment_family e.plots e.treatments, c.requires.4)

pub returns-in-Ok : goal.returns-in-Ok
unfolding full_numbers
returns-in-Ok c =
    let f = (goal.at.returns-in-Ok c).After-full_design-design in
    let s = c.args.source in
    let g = c.in-Ok in
    let e = f.full_design-design.ensures in
    wrote_as c.args.out.now 0
    (ap rows_bytes (accepted_rows_lem (number f) c.requires.1 c.requires.2 (design f) (tells f) empty empty long long s.text.now s.levels.now _ (sym (ap full_numbers g.is) ∙ e.answer) refl f.full_design-design.new.plot_family f.full_design-design.new.treatment_family e.plots e.treatments))
    c.print_accepted.ensures
