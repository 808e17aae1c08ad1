use Rattle.std.proofs.Common.{ℕ, suc, ◌≡◌, ap, sym, ◌∙◌, arith, Some, eqb}
use Rattle.rules.proofs.Numbering.{by_cases}
use Rattle.rules.specs.Formula.{operators, close_bracket, formula_at}
use Rattle.block_formula.specs.Text.{rest_of, allowed}
use Rattle.block_formula.proofs.GrammarLaws.{item_none, item_named, item_open, closed_none, closed_end, closed_yes, closed_other, no_steps, more_none, more_end, more_stop, more_on}
use Rattle.block_formula.proofs.grammar.+after_formula_after_item.Goals as goal
use Rattle.block_formula.proofs.grammar.+after_formula_after_item.Goals.{after_formula-in_default-via-in-Some+else-may_follow, after_formula-in_default-via-in_default}

pub after_formula-returns-in_err-left : goal.after_formula-returns-in_err-left
after_formula-returns-in_err-left t c =
    let a = c.args in
    let none : a.steps ≡ 0 = omega (arith, c.in_err-left.ensures) in
    rw c.from_residual.ensures (sym (ap (λ (m : ℕ). rest_of (formula_at m (allowed a.only) a.text.now)) none ∙ no_steps (allowed a.only) a.text.now))

pub after_formula-returns-in_err-rest : goal.after_formula-returns-in_err-rest
after_formula-returns-in_err-rest t c =
    let a = c.args in
    let step : a.steps ≡ suc c.in_ok-left.left = omega (arith, c.in_ok-left.ensures) in
    rw c.from_residual-in_err-rest.ensures
    (sym (ap (λ (m : ℕ). rest_of (formula_at m (allowed a.only) a.text.now)) step ∙ more_none a.text.now c.in_ok-left.left (allowed a.only) (sym c.in_err-rest.ensures)))

pub after_formula-returns-in-Some : goal.after_formula-returns-in-Some
after_formula-returns-in-Some t c =
    let a = c.args in
    let step : a.steps ≡ suc c.in_ok-left.left = omega (arith, c.in_ok-left.ensures) in
    let item = sym c.in_ok-rest.ensures ∙ ap Some c.in-Some.ensures.cases.0 in
    c.after_formula.ensures
    ∙ sym (ap (λ (m : ℕ). rest_of (formula_at m (allowed a.only) a.text.now)) step
    ∙ more_on a.text.now c.in_ok-left.left (allowed a.only) c.in-Some.field-0-0.now c.in-Some.later.now item (sym c.may_follow.ensures ∙ c.if-may_follow.true))

pub after_formula-returns-in_default : goal.after_formula-returns-in_default
after_formula-returns-in_default t c =
    let a = c.args in
    let left = c.in_ok-left.left in
    let rest = c.in_ok-rest.rest.now in
    let step : a.steps ≡ suc left = omega (arith, c.in_ok-left.ensures) in
    let grow = ap (λ (m : ℕ). rest_of (formula_at m (allowed a.only) a.text.now)) step in
    elim c.in_default.branch [
      | after_formula-in_default-via-in-Some+else-may_follow w ↦ let item = sym c.in_ok-rest.ensures ∙ ap Some w.in-Some.ensures.cases.0 in
          ap Some w.in-Some.ensures.cases.0
          ∙ sym (grow ∙ more_stop a.text.now left (allowed a.only) w.in-Some.field-0-0.now w.in-Some.later.now item (sym w.may_follow.ensures ∙ w.if-may_follow.false))
      | after_formula-in_default-via-in_default w ↦ sym (grow ∙ more_end a.text.now left (allowed a.only) rest (sym c.in_ok-rest.ensures) w.in_default.ensures.cases)
    ]

pub after_item-returns-in_err-first : goal.after_item-returns-in_err-first
after_item-returns-in_err-first t c = rw c.from_residual.ensures (sym (item_none (formula_at c.args.steps operators) c.args.text.now c.in_err-first.ensures.cases))

pub after_item-returns-then-first-ne40 : goal.after_item-returns-then-first-ne40
after_item-returns-then-first-ne40 t c =
    c.after_named.ensures ∙ sym (item_named (formula_at c.args.steps operators) c.args.text.now c.in_ok-first.field-0-0.now c.in_ok-first.inner.now c.in_ok-first.ensures.cases.0 c.if-first-ne40.true)

pub after_item-returns-in_err-after_formula : goal.after_item-returns-in_err-after_formula
after_item-returns-in_err-after_formula t c =
    let f = formula_at c.args.steps operators in
    let inner = c.in_ok-first.inner.now in
    let open_is = item_open f c.args.text.now c.in_ok-first.field-0-0.now inner c.in_ok-first.ensures.cases.0 c.if-first-ne40.false in
    rw c.from_residual-in_err-after_formula.ensures (sym (open_is ∙ closed_none (f inner) (sym c.in_err-after_formula.ensures)))

pub after_item-returns-in_err-last : goal.after_item-returns-in_err-last
after_item-returns-in_err-last t c =
    let f = formula_at c.args.steps operators in
    let inner = c.in_ok-first.inner.now in
    let open_is = item_open f c.args.text.now c.in_ok-first.field-0-0.now inner c.in_ok-first.ensures.cases.0 c.if-first-ne40.false in
    rw c.from_residual-in_err-last.ensures (sym (open_is ∙ closed_end (f inner) c.in_ok-after_formula.field-0.now (sym c.in_ok-after_formula.ensures) c.in_err-last.ensures.cases))

pub after_item-returns : goal.after_item-returns
after_item-returns t c =
    let f = formula_at c.args.steps operators in
    let inner = c.in_ok-first.inner.now in
    let x = c.in_ok-last.field-0-0.now in
    let rest = c.in_ok-after_formula.field-0.now in
    let parts = c.in_ok-last.ensures.cases.0 in
    let open_is = item_open f c.args.text.now c.in_ok-first.field-0-0.now inner c.in_ok-first.ensures.cases.0 c.if-first-ne40.false in
    by_cases (eqb x close_bracket)
    (λ e. rw (c.then_some.ensures, e) (sym (open_is ∙ closed_yes (f inner) x rest c.in_ok-last.rest.now (sym c.in_ok-after_formula.ensures) parts e)))
    (λ e. rw (c.then_some.ensures, e) (sym (open_is ∙ closed_other (f inner) x rest c.in_ok-last.rest.now (sym c.in_ok-after_formula.ensures) parts e)))
