-- `design::plot_design` meets its contract: questions 6 to 10 in turn, demand 3 and C-13 of the family left in the buffer.
use mathlib.Core.Path.{◌≡◌, sym, ap, ◌∙◌}
use mathlib.Core.Bool.{true, false}
use lib.ListN.{length}
use Rattle.rules.specs.Limits.{PlotLimits}
use Rattle.rules.specs.Family.{columns_from, written}
use Rattle.rules.specs.Design.{plot_buffer, within_limits, all_nonzero}
use Rattle.rules.proofs.Demand2.{plot_limits}
use Rattle.design.specs.Answers.{plot_numbers, plot_numbers_of}
use Rattle.design.proofs.Answered.{design_6, design_7, design_8, promised}
use Rattle.design.proofs.plot_design.Goals as goal
use Rattle.design.proofs.plot_design.Goals.{Else-not-within}

-- question 6 said yes
in-limits : (c : Else-not-within) → PlotLimits c.args.plots c.args.columns (length c.args.levels.now) (length c.args.family.now)
in-limits c = plot_limits _ _ _ _ (sym c.within.ensures ∙ c.if-not-within.false)

pub returns-then-not-within : goal.returns-then-not-within
unfolding written
returns-then-not-within c =
    let a = c.args in
    let levels = a.levels.now in
    let family = a.family.now in
    let no6 : within_limits a.plots a.columns (length levels) (length family) ≡ false = sym c.within.ensures ∙ c.if-not-within.true in
    let e = design_6 a.plots a.columns levels (length family) no6 in
    let whole = promised a.plots a.columns levels family family (plot_numbers c.refused.result) (c.refused.ensures ∙ ap plot_numbers_of (sym e)) (ap (plot_buffer family) (sym e)) in
    record { answer = whole.0; buffer = whole.1; demand = whole.2; trusted = whole.3; compared = whole.4 }

pub returns-then-not-all_nonzero : goal.returns-then-not-all_nonzero
unfolding written
returns-then-not-all_nonzero c =
    let a = c.args in
    let levels = a.levels.now in
    let family = a.family.now in
    let yes6 : within_limits a.plots a.columns (length levels) (length family) ≡ true = sym c.within.ensures ∙ c.if-not-within.false in
    let no7 : all_nonzero (columns_from a.plots levels 0 a.columns) ≡ false = sym c.all_nonzero.ensures ∙ c.if-not-all_nonzero.true in
    let e = design_7 a.plots a.columns levels (length family) yes6 no7 in
    let whole = promised a.plots a.columns levels family family (plot_numbers c.refused-then-not-all_nonzero.result) (c.refused-then-not-all_nonzero.ensures ∙ ap plot_numbers_of (sym e)) (ap (plot_buffer family) (sym e)) in
    record { answer = whole.0; buffer = whole.1; demand = whole.2; trusted = whole.3; compared = whole.4 }

pub plot_from_8-requires : goal.plot_from_8-requires
plot_from_8-requires c = let l = in-limits (goal.at.plot_from_8-requires c).Else-not-within in (l.plots_some, l.plots_few, l.columns, l.table, l.room)

pub returns : goal.returns
returns c =
    let a = c.args in
    let levels = a.levels.now in
    let family = a.family.now in
    let yes6 : within_limits a.plots a.columns (length levels) (length family) ≡ true = sym c.within.ensures ∙ c.if-not-within.false in
    let yes7 : all_nonzero (columns_from a.plots levels 0 a.columns) ≡ true = sym c.all_nonzero.ensures ∙ c.if-not-all_nonzero.false in
    let e = design_8 a.plots a.columns levels (length family) yes6 yes7 in
    let whole = promised a.plots a.columns levels family c.plot_from_8.new.family (plot_numbers c.plot_from_8.result) (c.plot_from_8.ensures.answer ∙ ap plot_numbers_of (sym e)) (c.plot_from_8.ensures.buffer ∙ ap (plot_buffer family) (sym e)) in
    record { answer = whole.0; buffer = whole.1; demand = whole.2; trusted = whole.3; compared = whole.4 }
