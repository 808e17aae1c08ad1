-- `member_name` meets its contract: questions 2, 3 and 6 in turn, then the rest.
use mathlib.Core.Path.{◌≡◌, sym, ◌∙◌}
use Rattle.rules.specs.Sheet.{question2}
use native.Mathlib.Omega.{arith}
use lib.ListN.{length}
use Rattle.std.specs.Prelude.{None, Some, Err}
use Rattle.std.proofs.lemmas.Result.{err_from_is_err_and}
use Rattle.sheet.specs.Answers.{headed}
use Rattle.sheet.proofs.QuestionLaws.{headed_none, headed_some}
use Rattle.refusal.specs.declared.Refusal.TheVariants.{TextLength, FirstLine, Limits}
use Rattle.naming.specs.Answers.{kind_of}
use Rattle.naming.proofs.Ranges.{in_range}
use Rattle.naming.proofs.Entry.{counted_in, answered, refusing, naming_2, naming_3, naming_6, naming_on}
use Rattle.naming.proofs.member_name.Goals as goal
use Rattle.naming.proofs.member_name.Goals.{After-contains, In_ok-header}

-- question 2 is asked of the text's length
asked : (c : After-contains) → c.contains.result ≡ question2 c.args.text.now
asked c =
    in_range c.contains.result 1 32768 (length c.args.text.now)
    (c.contains.ensures.value ∙ rw (c.new.ensures.start, c.new.ensures.end, c.new.ensures.exhausted))

pub returns-then-not-contains : goal.returns-then-not-contains
returns-then-not-contains c =
    let z = (goal.at.returns-then-not-contains c).After-contains in
    let a = c.args in
    let k = kind_of a.kind in
    let out = a.name.now in
    let e = naming_2 k a.text.now a.levels.now a.family.now a.plots a.size a.place (length out) (sym (asked z) ∙ c.if-not-contains.true) in
    let whole = refusing TextLength out _ (omega arith) e in record { answer = whole.0; buffer = whole.1 }

pub returns-in_err-header : goal.returns-in_err-header
returns-in_err-header c =
    let z = (goal.at.returns-in_err-header c).After-contains in
    let a = c.args in
    let text = a.text.now in
    let k = kind_of a.kind in
    let out = a.name.now in
    let p = err_from_is_err_and c.from_residual.result c.from_residual.ensures.1 in
    let none : c.read_header.result ≡ None = grind arith in
    let e = naming_3 k text a.levels.now a.family.now a.plots a.size a.place (length out) (sym (asked z) ∙ c.if-not-contains.false) (headed_none text (sym none ∙ c.read_header.ensures)) in
    let whole = refusing FirstLine out _ (omega arith) e in
    let is : c.from_residual.result ≡ Err FirstLine = grind arith in
    rw is (record { answer = whole.0; buffer = whole.1 })

-- the first line is of the form
headed_by : (c : In_ok-header) → Some c.in_ok-header.header ≡ headed c.args.text.now
headed_by c =
    let some : c.read_header.result ≡ Some c.in_ok-header.header = grind arith in
    sym some ∙ c.read_header.ensures

pub returns-then-not-within : goal.returns-then-not-within
returns-then-not-within c =
    let z = (goal.at.returns-then-not-within c).After-contains in
    let a = c.args in
    let text = a.text.now in
    let levels = a.levels.now in
    let buffer = a.family.now in
    let k = kind_of a.kind in
    let out = a.name.now in
    let y = (goal.at.returns-then-not-within c).In_ok-header in
    let q = (headed_some text c.in_ok-header.header (headed_by y)).0 in
    let e = naming_6 k text levels buffer a.plots a.size a.place (length out) (sym (asked z) ∙ c.if-not-contains.false) q (sym c.within.ensures ∙ c.if-not-within.true) in
    let whole = refusing Limits out _ (omega arith) e in record { answer = whole.0; buffer = whole.1 }

pub from_7-requires : goal.from_7-requires
from_7-requires c =
    let a = c.args in
    let text = a.text.now in
    let levels = a.levels.now in
    let buffer = a.family.now in
    let k = kind_of a.kind in
    let out = a.name.now in
    let y = (goal.at.from_7-requires c).In_ok-header in
    let q = (headed_some text c.in_ok-header.header (headed_by y)).0 in
    (q, sym c.within.ensures ∙ c.if-not-within.false, counted_in text q c.in_ok-header.header (headed_by y) a.plots)

pub returns : goal.returns
returns c =
    let z = (goal.at.returns c).After-contains in
    let a = c.args in
    let text = a.text.now in
    let levels = a.levels.now in
    let buffer = a.family.now in
    let k = kind_of a.kind in
    let out = a.name.now in
    let y = (goal.at.returns c).In_ok-header in
    let q = (headed_some text c.in_ok-header.header (headed_by y)).0 in
    let e = naming_on k text levels buffer a.plots a.size a.place (length out) (sym (asked z) ∙ c.if-not-contains.false) q (sym c.within.ensures ∙ c.if-not-within.false) in
    let r = c.from_7.ensures in
    let whole = answered _ out _ _ _ e (r.answer, r.buffer) in record { answer = whole.0; buffer = whole.1 }
