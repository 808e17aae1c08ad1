-- `sheet::questions::from_3` meets its contract.
use mathlib.Core.Path.{◌≡◌, sym, ap, ◌∙◌}
use mathlib.Core.Bool.{true, false}
use native.Mathlib.Omega.{arith}
use Rattle.std.specs.Prelude.{Some, None}
use Rattle.std.proofs.lemmas.Grind.{common_steps}
use Rattle.std.proofs.lemmas.Bool.Decides.{nat_tests}
use Rattle.std.proofs.lemmas.Result.{err_from_is_err_and}
use Rattle.rules.specs.Limits.{most_plots}
use Rattle.rules.specs.Sheet.{within, question3, levels_after, refused}
use Rattle.refusal.specs.declared.Refusal.{Refusal}
use Rattle.refusal.specs.declared.Refusal.TheVariants.{FirstLine, LaterLine}
use Rattle.refusal.specs.Numbers.{number_of}
use Rattle.sheet.specs.Answers.{first_line}
use Rattle.sheet.proofs.QuestionLaws.{headed_none, headed_some, refused_3, fields_some, fields_few, columns_size, columns_placed, later_bad, later_other, later_lines_lem, later_read, later_stored}
use Rattle.sheet.proofs.questions.from_3.Goals as goal
use Rattle.sheet.proofs.questions.from_3.Goals.{In_ok-header, In_ok-plots}

-- question 3 said yes
told : (c : In_ok-header) → (question3 c.args.text.now ≡ true) × (c.in_ok-header.header ≡ first_line c.args.text.now)
told c =
    let some : c.read_header.result ≡ Some c.in_ok-header.header = grind arith in
    headed_some c.args.text.now c.in_ok-header.header (sym some ∙ c.read_header.ensures)

pub returns-in_err-header : goal.returns-in_err-header
unfolding levels_after
returns-in_err-header c =
    let none : c.read_header.result ≡ None = grind arith in
    let e = refused_3 c.args.text.now (headed_none c.args.text.now (sym none ∙ c.read_header.ensures)) in
    let why : c.in_err-header.field-0.0 ≡ FirstLine = grind arith in
    let p = err_from_is_err_and c.from_residual.result c.from_residual.ensures.1 in
    record {
      answer = rw (p.1, p.2, e) (ap (λ (q : Refusal). refused (number_of q)) why);
      table = rw e;
    }

pub overflow_add-n : goal.overflow_add-n
overflow_add-n c = let t = told c in omega (arith, fields_few c.args.text.now t.0 c.in_ok-header.header t.1)

pub judge-requires : goal.judge-requires
judge-requires c = let t = told c in fields_some c.args.text.now t.0 c.in_ok-header.header t.1

pub returns-in_err-plots : goal.returns-in_err-plots
unfolding levels_after
returns-in_err-plots c =
    let d = (goal.at.returns-in_err-plots c).In_ok-header in
    let t = told d in
    let none : c.judge.result ≡ None = grind arith in
    let why : c.in_err-plots.field-0.0 ≡ LaterLine = grind arith in
    let p = err_from_is_err_and c.from_residual-in_err-plots.result c.from_residual-in_err-plots.ensures.1 in
    let e = later_bad d.args.text.now t.0 d.in_ok-header.header t.1 (sym none ∙ c.judge.ensures) in
    record {
      answer = rw (p.1, p.2, e) (ap (λ (q : Refusal). refused (number_of q)) why);
      table = rw e;
    }

pub returns-then-not-contains : goal.returns-then-not-contains
unfolding levels_after
returns-then-not-contains c =
    let d = (goal.at.returns-then-not-contains c).In_ok-header in
    let t = told d in
    let some : c.judge.result ≡ Some c.in_ok-plots.plots = grind arith in
    let other : within 1 most_plots c.in_ok-plots.plots ≡ false = grind (arith, common_steps, nat_tests) in
    let e = later_other d.args.text.now t.0 d.in_ok-header.header t.1 c.in_ok-plots.plots (sym some ∙ c.judge.ensures) other in
    record {
      answer = rw e;
      table = rw e;
    }

pub shared_ref_as_front-store : goal.shared_ref_as_front-store
shared_ref_as_front-store c = let t = told (goal.at.shared_ref_as_front-store c).In_ok-header in fields_few c.args.text.now t.0 c.in_ok-header.header t.1

pub store-requires : goal.store-requires
store-requires c =
    let d = (goal.at.store-requires c).In_ok-header in
    let t = told d in
    let some : c.judge.result ≡ Some c.in_ok-plots.plots = grind arith in
    let good : within 1 most_plots c.in_ok-plots.plots ≡ true = grind (arith, common_steps, nat_tests) in
    (columns_placed d.args.text.now t.0 d.in_ok-header.header t.1 _ (omega arith), rw (columns_size d.args.text.now t.0 d.in_ok-header.header t.1) (later_lines_lem d.args.text.now t.0 d.in_ok-header.header t.1 c.in_ok-plots.plots (sym some ∙ c.judge.ensures) good))

pub returns : goal.returns
returns c =
    let d = (goal.at.returns c).In_ok-header in
    let t = told d in
    let some : c.judge.result ≡ Some c.in_ok-plots.plots = grind arith in
    let good : within 1 most_plots c.in_ok-plots.plots ≡ true = grind (arith, common_steps, nat_tests) in
    record {
      answer = sym (later_read d.args.text.now t.0 d.in_ok-header.header t.1 c.in_ok-plots.plots (sym some ∙ c.judge.ensures) good);
      table = c.store.ensures ∙ later_stored d.args.text.now t.0 d.in_ok-header.header t.1 c.in_ok-plots.plots (sym some ∙ c.judge.ensures) good d.args.levels.now;
    }
