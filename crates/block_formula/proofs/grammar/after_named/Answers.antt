-- `grammar::after_named`: the name ends at the first `=`, and the count at the first byte that is no digit.
use Rattle.std.proofs.Common.{ℕ, List, ◌≡◌, ◌+◌, ◌-◌, ◌≤◌, length, take, drop, ap, sym, ◌∙◌, arith, Some}
use Rattle.rules.specs.Sheet.{all, digit}
use Rattle.rules.specs.Formula.{leading}
use Rattle.sheet.proofs.FirstByte.{rest_taken}
use Rattle.block_formula.specs.Text.{count_of}
use Rattle.block_formula.proofs.CountLaws.{leading_digits, leading_short, no_count, some_count}
use Rattle.block_formula.proofs.GrammarLaws.{named_none, named_unnamed, named_uncounted, named_ends}
use Rattle.block_formula.proofs.grammar.after_named.Goals as goal
use Rattle.block_formula.proofs.grammar.after_named.Goals.{After-digits-digits}

-- what follows the `=`, and its digits
abbrev rest : After-digits-digits → List ℕ
rest c = drop (c.in_ok-end.end + 1) c.args.text.now

digits_are : (c : After-digits-digits) → c.digits-digits.result.now ≡ leading (rest c)
digits_are c = c.digits-digits.ensures ∙ ap leading (rest_taken (c.in_ok-end.end + 1) c.args.text.now)

digits_inside : (c : After-digits-digits) → length c.digits-digits.result.now ≤ length (take (length c.args.text.now - (c.in_ok-end.end + 1)) (rest c))
digits_inside c = omega (arith, ap length c.digits-digits.ensures, leading_short (take (length c.args.text.now - (c.in_ok-end.end + 1)) (rest c)))

pub returns-in_err-end : goal.returns-in_err-end
returns-in_err-end c = rw c.from_residual.ensures (sym (named_none c.args.text.now (sym c.in_err-end.ensures)))

pub returns-then-not-is_name : goal.returns-then-not-is_name
returns-then-not-is_name c = sym (named_unnamed c.args.text.now c.in_ok-end.end (sym c.in_ok-end.ensures) (sym c.is_name.ensures ∙ c.if-not-is_name.true))

pub count-requires : goal.count-requires
count-requires c = ap (all digit) c.digits-digits.ensures ∙ leading_digits _

pub returns-in_err-count : goal.returns-in_err-count
returns-in_err-count c =
    let d = (goal.at.returns-in_err-count c).After-digits-digits in
    rw c.from_residual-in_err-count.ensures
    (sym (named_uncounted c.args.text.now c.in_ok-end.end (sym c.in_ok-end.ensures) (no_count (leading (rest d)) (sym (ap count_of (digits_are d)) ∙ sym c.in_err-count.ensures))))

pub slice_bounds-result-count : goal.slice_bounds-result-count
slice_bounds-result-count c = digits_inside (goal.at.slice_bounds-result-count c).After-digits-digits

pub slice_bounds-result-start : goal.slice_bounds-result-start
slice_bounds-result-start c = digits_inside (goal.at.slice_bounds-result-start c).After-digits-digits

pub returns : goal.returns
returns c =
    let d = (goal.at.returns c).After-digits-digits in
    let t = c.args.text.now in
    ap Some
    (rest_taken (length c.digits-digits.result.now) (take (length t - (c.in_ok-end.end + 1)) (rest d)) ∙ ap (drop (length c.digits-digits.result.now)) (rest_taken (c.in_ok-end.end + 1) t)
    ∙ ap (λ (m : ℕ). drop m (rest d)) (ap length (digits_are d)))
    ∙ sym (named_ends t c.in_ok-end.end (sym c.in_ok-end.ensures) (sym c.is_name.ensures ∙ c.if-not-is_name.false) (some_count (leading (rest d)) c.in_ok-count.field-0 (sym (ap count_of (digits_are d)) ∙ sym c.in_ok-count.ensures)))
