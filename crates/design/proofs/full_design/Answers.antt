-- `design::full_design` meets its contract: questions 6 and 7 of both kinds of columns, then questions 8 to 14, demand 2 and C-13 of what is left.
use mathlib.Core.Path.{◌≡◌, refl, sym, ap, ◌∙◌}
use mathlib.Core.Bool.{Bool, true, false, ◌&&◌}
use lib.ListN.{length}
use Rattle.rules.specs.Family.{columns_from, written}
use Rattle.rules.specs.Design.{all_nonzero, plot_buffer, treatment_buffer}
use Rattle.rules.specs.Demand2.{Within}
use Rattle.rules.proofs.Demand2.{within_to}
use Rattle.design.specs.Answers.{full_numbers, full_numbers_of}
use Rattle.design.proofs.WithTreatments.{full_6, full_7, full_8, promised}
use Rattle.design.proofs.full_design.Goals as goal
use Rattle.design.proofs.full_design.Goals.{Else-not-full_within}

and_false : (a b : Bool) → b ≡ false → a && b ≡ false
and_false true b e = e
and_false false b e = refl

-- question 6 said yes
in-limits : (c : Else-not-full_within) → let a = c.args in Within a.plots a.plot_columns a.treatment_columns a.k a.levels.now a.plot_family.now a.treatment_family.now
in-limits c = within_to _ _ _ _ _ _ _ (sym c.full_within.ensures ∙ c.if-not-full_within.false)

pub returns-then-not-full_within : goal.returns-then-not-full_within
unfolding written
returns-then-not-full_within c =
    let a = c.args in
    let levels = a.levels.now in
    let p = a.plot_family.now in
    let b = a.treatment_family.now in
    let e = full_6 a.plots a.plot_columns a.treatment_columns a.k levels (length p) (length b) (sym c.full_within.ensures ∙ c.if-not-full_within.true) in
    let whole = promised a.plots a.plot_columns a.treatment_columns a.k levels p b p b (full_numbers c.full_refused.result) (c.full_refused.ensures ∙ ap full_numbers_of (sym e)) (ap (plot_buffer p) (sym e)) (ap (treatment_buffer b) (sym e)) in
    record { answer = whole.0; plots = whole.1; treatments = whole.2; demand = whole.3; trusted = whole.4; compared = whole.5 }

pub returns-then-not-all_nonzero : goal.returns-then-not-all_nonzero
unfolding written
returns-then-not-all_nonzero c =
    let a = c.args in
    let levels = a.levels.now in
    let p = a.plot_family.now in
    let b = a.treatment_family.now in
    let yes = sym c.full_within.ensures ∙ c.if-not-full_within.false in
    let no7 : all_nonzero (columns_from a.plots levels 0 a.plot_columns) ≡ false = sym c.all_nonzero.ensures ∙ c.if-not-all_nonzero.true in
    let e = full_7 a.plots a.plot_columns a.treatment_columns a.k levels (length p) (length b) yes (ap (λ (x : Bool). x && all_nonzero (columns_from a.plots levels 6 a.treatment_columns)) no7) in
    let whole = promised a.plots a.plot_columns a.treatment_columns a.k levels p b p b (full_numbers c.full_refused-then-not-all_nonzero.result) (c.full_refused-then-not-all_nonzero.ensures ∙ ap full_numbers_of (sym e)) (ap (plot_buffer p) (sym e)) (ap (treatment_buffer b) (sym e)) in
    record { answer = whole.0; plots = whole.1; treatments = whole.2; demand = whole.3; trusted = whole.4; compared = whole.5 }

pub returns-then-not-all_nonzero-2 : goal.returns-then-not-all_nonzero-2
unfolding written
returns-then-not-all_nonzero-2 c =
    let a = c.args in
    let levels = a.levels.now in
    let p = a.plot_family.now in
    let b = a.treatment_family.now in
    let yes = sym c.full_within.ensures ∙ c.if-not-full_within.false in
    let no7 : all_nonzero (columns_from a.plots levels 6 a.treatment_columns) ≡ false = sym c.all_nonzero-2.ensures ∙ c.if-not-all_nonzero-2.true in
    let e = full_7 a.plots a.plot_columns a.treatment_columns a.k levels (length p) (length b) yes (and_false (all_nonzero (columns_from a.plots levels 0 a.plot_columns)) _ no7) in
    let whole = promised a.plots a.plot_columns a.treatment_columns a.k levels p b p b (full_numbers c.full_refused-then-not-all_nonzero-2.result) (c.full_refused-then-not-all_nonzero-2.ensures ∙ ap full_numbers_of (sym e)) (ap (plot_buffer p) (sym e)) (ap (treatment_buffer b) (sym e)) in
    record { answer = whole.0; plots = whole.1; treatments = whole.2; demand = whole.3; trusted = whole.4; compared = whole.5 }

pub full_from_8-requires : goal.full_from_8-requires
full_from_8-requires c =
    let l = in-limits (goal.at.full_from_8-requires c).Else-not-full_within in
    (l.plots_least, l.plots_most, l.plot_columns_holds, l.treatment_columns_holds, l.level_least, l.level_most, l.table, l.plot_family_holds, l.treatment_family)

pub returns : goal.returns
returns c =
    let a = c.args in
    let levels = a.levels.now in
    let p = a.plot_family.now in
    let b = a.treatment_family.now in
    let yes = sym c.full_within.ensures ∙ c.if-not-full_within.false in
    let first = sym c.all_nonzero.ensures ∙ c.if-not-all_nonzero.false in
    let second = sym c.all_nonzero-2.ensures ∙ c.if-not-all_nonzero-2.false in
    let e = full_8 a.plots a.plot_columns a.treatment_columns a.k levels (length p) (length b) yes first second in
    let whole = promised a.plots a.plot_columns a.treatment_columns a.k levels p b _ _ (full_numbers c.full_from_8.result) (c.full_from_8.ensures.answer ∙ ap full_numbers_of (sym e)) (c.full_from_8.ensures.plots ∙ ap (plot_buffer p) (sym e)) (c.full_from_8.ensures.treatments ∙ ap (treatment_buffer b) (sym e)) in
    record { answer = whole.0; plots = whole.1; treatments = whole.2; demand = whole.3; trusted = whole.4; compared = whole.5 }
