-- `steps::full_from_8` meets its contract: a refused plot family ends it, an accepted one goes on to the treatments.
use mathlib.Core.Path.{◌≡◌, refl, sym, ap, ◌∙◌}
use mathlib.Core.List.{List}
use Prim.Native.Nat.{ℕ}
use native.Mathlib.Omega.{arith}
use borrow.Author.Rules.{rules}
use Rattle.std.proofs.lemmas.Result.{err_from_is_err_and}
use Rattle.rules.specs.Factor.{Column}
use Rattle.rules.specs.Family.{Family, columns_from, written}
use Rattle.rules.specs.Closing.{Closing, plot_family, first_treatment_family}
use Rattle.rules.specs.Design.{Answer, question8, question11, plot_buffer, with_treatments, treatment_buffer}
use Rattle.rules.proofs.Demand3.{column_length}
use Rattle.design.specs.Answers.{plot_numbers, full_numbers, full_numbers_of}
use Rattle.design.specs.Closings.{closed_in, goes_on}
use Rattle.design.proofs.WithTreatments.{plot_alone, with_refused, with_accepted, with_plot_lem, refused_numbers, refused_not, Goes, goes_on_lem, ready_few, goes_numbered, goes_treatments}
use Rattle.design.proofs.steps.full_from_8.Goals as goal
use Rattle.design.proofs.steps.full_from_8.Goals.{After-judge_plots, In_ok-held}

-- the memory that holds the plot family
abbrev memory : After-judge_plots → List ℕ
memory c = c.close_plot_family-closed.new.plot

-- what is answered to it
abbrev answered : After-judge_plots → Answer
answered c = question8 c.args.n (closed_in c.args.n (memory c) c.close_plot_family-closed.result)

-- the treatment columns, and their first family
abbrev columns : After-judge_plots → List Column
columns c = columns_from c.args.n c.args.levels.now 6 c.args.d

abbrev treatments : After-judge_plots → Closing
treatments c = first_treatment_family c.args.n c.args.k (columns c)

-- the answer goes on as the rules say
LikeTheRules : (c : After-judge_plots) → Type 0
LikeTheRules c =
    let s = c in
    goes_on s.args.n (treatments c) (answered c) ≡ with_treatments s.args.n s.args.k (columns c) (question8 s.args.n (plot_family s.args.n (columns_from s.args.n s.args.levels.now 0 s.args.c)))

like-the-rules : (c : After-judge_plots) → LikeTheRules c
unfolding LikeTheRules
like-the-rules c =
    let s = c in
    ap (λ (X : Closing). goes_on s.args.n (treatments c) (question8 s.args.n X)) c.close_plot_family-closed.ensures.family
    ∙ goes_treatments s.args.n s.args.k (columns c) (question8 s.args.n (plot_family s.args.n (columns_from s.args.n s.args.levels.now 0 s.args.c)))

-- the plot buffer is left as it is
LeftPlots : (c : After-judge_plots) → Type 0
LeftPlots c =
    let s = c in
    memory c ≡ plot_buffer s.args.plot_family.now (with_treatments s.args.n s.args.k (columns c) (question8 s.args.n (plot_family s.args.n (columns_from s.args.n s.args.levels.now 0 s.args.c))))

left-plots : (c : After-judge_plots) → LeftPlots c
unfolding LeftPlots
left-plots c =
    let s = c in
    let a : Answer = question8 s.args.n (plot_family s.args.n (columns_from s.args.n s.args.levels.now 0 s.args.c)) in
    c.close_plot_family-closed.ensures.buffer
    ∙ ap (written s.args.plot_family.now 0) (sym (with_plot_lem s.args.n (treatments c) a))
    ∙ ap (plot_buffer s.args.plot_family.now) (goes_treatments s.args.n s.args.k (columns c) a)

-- what an accepted plot family leaves
AcceptedHere : (c : In_ok-held) → Type 0
AcceptedHere c =
    let f = (goal.at.In_ok-held c).After-judge_plots in
    Goes f.args.n (closed_in f.args.n (memory f) f.close_plot_family-closed.result) (memory f) c.in_ok-held.held

accepted-here : (c : In_ok-held) → AcceptedHere c
unfolding AcceptedHere plot_numbers
accepted-here c =
    let f = (goal.at.In_ok-held c).After-judge_plots in
    let s = c in
    let ready = f.close_plot_family-closed.ensures.tables in
    let few = ready_few s.args.n (memory f) f.close_plot_family-closed.new.marks f.close_plot_family-closed.result ready in
    goes_on_lem s.args.n (memory f) f.close_plot_family-closed.result ready.most few c.in_ok-held.ensures

pub full_from_11-requires : goal.full_from_11-requires
unfolding AcceptedHere
full_from_11-requires c =
    let q = (goal.at.full_from_11-requires c).In_ok-held in
    let f = (goal.at.full_from_11-requires c).After-judge_plots in
    let n = c.args.n in
    let on = column_length n c.args.levels.now c.args.c 0 c.requires.1 c.requires.6 (omega (arith, c.requires.2)) in
    let w = goes_numbered n (columns_from n c.args.levels.now 0 c.args.c) on (memory f) q.in_ok-held.held c.requires.1 f.close_plot_family-closed.ensures.tables.room f.close_plot_family-closed.ensures.family (accepted-here q) in
    (c.requires.0, c.requires.1, c.requires.3, c.requires.4, c.requires.5, c.requires.6, w.0, w.1, c.requires.8, search rules)

pub returns-in_err-held : goal.returns-in_err-held
unfolding plot_numbers full_numbers written LikeTheRules LeftPlots
returns-in_err-held c =
    let f = (goal.at.returns-in_err-held c).After-judge_plots in
    let n = c.args.n in
    let e = c.in_err-held.ensures in
    let alone = plot_alone n (closed_in n (memory f) f.close_plot_family-closed.result) in
    let r = with_refused n (treatments f) (answered f) (refused_not n (treatments f) (answered f) _ e refl) in
    let p = err_from_is_err_and c.from_residual.result c.from_residual.ensures.1 in record {
      answer = rw (p.1, p.2) (refused_numbers n (treatments f) (answered f) _ e refl alone ∙ ap full_numbers_of (like-the-rules f));
      plots = left-plots f;
      treatments = ap (written c.args.treatment_family.now 0) (sym (ap (λ (y : Answer). y.treatment) r ∙ alone)) ∙ ap (treatment_buffer c.args.treatment_family.now) (like-the-rules f);
    }

pub returns : goal.returns
unfolding AcceptedHere LikeTheRules LeftPlots
returns c =
    let q = (goal.at.returns c).In_ok-held in
    let f = (goal.at.returns c).After-judge_plots in
    let n = c.args.n in
    let g = accepted-here q in
    let w = ap (λ (P : Family). question11 n P (treatments f)) g.members ∙ sym (with_accepted n (treatments f) (answered f) g.accepted) ∙ like-the-rules f in record {
      answer = c.full_from_11.ensures.answer ∙ ap full_numbers_of w;
      plots = left-plots f;
      treatments = c.full_from_11.ensures.buffer ∙ ap (treatment_buffer c.args.treatment_family.now) w;
    }
