use Prim.Native.Nat.{ℕ, ◌+◌, ◌≤◌, ◌<◌}
use mathlib.Core.Path.{◌≡◌, sym, ap, ◌∙◌}
use mathlib.Core.Bool.{true, false}
use native.Mathlib.Omega.{arith}
use lib.ListN.{length, get_or, drop, drop_of_length-le}
use Rattle.std.proofs.lemmas.Grind.{common_steps}
use Rattle.std.proofs.lemmas.Bool.Decides.{nat_tests}
use Rattle.std.specs.Prelude.{Some}
use Rattle.rules.specs.Sheet.{within}
use Rattle.sheet.proofs.FirstByte.{rest_taken}
use Rattle.sheet.proofs.LevelLaws.{passed_none, passed_past, passed_out, passed_stray, passed_end, passed_large, passed_on, passed_some, no_stop, first_bad, first_good, past_size, past_byte}
use Rattle.sheet.proofs.field.level_then.Goals as goal
use Rattle.sheet.proofs.field.level_then.Goals.{In_ok-get}

-- the bytes at hand are what stands in the text from `start` on
here : (c : In_ok-get) → c.in_ok-get.field-0.now ≡ drop c.args.start c.args.text.now
here c = c.in_ok-get.ensures.lookup.0.2 ∙ rest_taken c.args.start c.args.text.now

pub returns-in_err-get : goal.returns-in_err-get
returns-in_err-get c =
    let h : length c.args.text.now ≤ c.args.start = grind arith in
    c.from_residual.ensures ∙ sym (passed_past c.args.stop c.args.start (drop c.args.start c.args.text.now) (drop_of_length-le c.args.text.now h))

pub returns-in_default : goal.returns-in_default
returns-in_default c =
    let xs = drop c.args.start c.args.text.now in
    let e = ap length (here (goal.at.returns-in_default c).In_ok-get) in
    sym (passed_out c.args.stop c.args.start xs 0 0 (passed_none xs) (omega arith))

pub returns-then-not-contains : goal.returns-then-not-contains
returns-then-not-contains c =
    let xs = drop c.args.start c.args.text.now in
    let e = here (goal.at.returns-then-not-contains c).In_ok-get in
    let n : within 49 57 (get_or c.in_ok-get.field-0.now 0 0) ≡ false = grind (arith, common_steps, nat_tests) in
    sym (first_bad c.args.stop c.args.start xs (omega (arith, ap length e)) (rw e at n))

pub loop-i-init : goal.loop-i-init
loop-i-init c =
    let xs = drop c.args.start c.args.text.now in
    let e = here (goal.at.loop-i-init c).In_ok-get in
    let n : within 49 57 (get_or c.in_ok-get.field-0.now 0 0) ≡ true = grind (arith, common_steps, nat_tests) in
    rw e (first_good c.args.stop c.args.start xs (omega (arith, ap length e)) (rw e at n))

pub returns-then-not-ends_field : goal.returns-then-not-ends_field
returns-then-not-ends_field c = sym (no_stop c.args.stop c.args.start (drop c.args.start c.args.text.now) (sym c.ends_field.ensures ∙ c.if-not-ends_field.true))

pub returns-then-x-stop : goal.returns-then-x-stop
returns-then-x-stop c =
    let xs = drop c.args.start c.args.text.now in
    let e = here (goal.at.returns-then-x-stop c).In_ok-get in
    let i = c.loop-i.i in
    let h : i + 1 < length xs = omega (arith, past_size c.in_ok-get.field-0.now xs e) in
    let b = sym (past_byte c.in_ok-get.field-0.now xs e i) ∙ c.if-x-stop.true in
    let k : c.args.start + i + 2 ≡ c.args.start + (i + 1) + 1 = omega arith in
    ap (λ (k : ℕ). Some (record { end = k; level = c.loop-i.level })) k
    ∙ sym (passed_end c.args.stop c.args.start xs (i + 1) c.loop-i.level c.loop-i.invariant h b (sym c.ends_field.ensures ∙ c.if-not-ends_field.false) (passed_some xs i c.loop-i.level c.loop-i.invariant))

pub returns-then-not-is_ascii_digit : goal.returns-then-not-is_ascii_digit
returns-then-not-is_ascii_digit c =
    let xs = drop c.args.start c.args.text.now in
    let e = here (goal.at.returns-then-not-is_ascii_digit c).In_ok-get in
    let i = c.loop-i.i in
    let h : i + 1 < length xs = omega (arith, past_size c.in_ok-get.field-0.now xs e) in
    let b = past_byte c.in_ok-get.field-0.now xs e i in
    sym (passed_stray c.args.stop c.args.start xs (i + 1) c.loop-i.level c.loop-i.invariant h (rw b at (sym c.is_ascii_digit.ensures.value ∙ c.if-not-is_ascii_digit.true)) (λ z s k. c.if-x-stop.false (b ∙ z)))

pub returns-then-level-gt-LEVEL : goal.returns-then-level-gt-LEVEL
returns-then-level-gt-LEVEL c =
    let xs = drop c.args.start c.args.text.now in
    let e = here (goal.at.returns-then-level-gt-LEVEL c).In_ok-get in
    let i = c.loop-i.i in
    let h : i + 1 < length xs = omega (arith, past_size c.in_ok-get.field-0.now xs e) in
    let b = past_byte c.in_ok-get.field-0.now xs e i in
    sym (passed_large c.args.stop c.args.start xs (i + 1) c.loop-i.level c.loop-i.invariant h (rw b at (sym c.is_ascii_digit.ensures.value ∙ c.if-not-is_ascii_digit.false)) (omega arith))

pub loop-i-preserved : goal.loop-i-preserved
loop-i-preserved c =
    let xs = drop c.args.start c.args.text.now in
    let e = here (goal.at.loop-i-preserved c).In_ok-get in
    let i = c.loop-i.i in
    let h : i + 1 < length xs = omega (arith, past_size c.in_ok-get.field-0.now xs e) in
    let b = past_byte c.in_ok-get.field-0.now xs e i in
    let k = passed_some xs i c.loop-i.level c.loop-i.invariant in
    rw b (passed_on c.args.stop c.args.start xs (i + 1) c.loop-i.level c.loop-i.invariant h (rw b at (sym c.is_ascii_digit.ensures.value ∙ c.if-not-is_ascii_digit.false)) (omega arith) (omega arith))

pub returns : goal.returns
returns c =
    let xs = drop c.args.start c.args.text.now in
    let e = here (goal.at.returns c).In_ok-get in
    sym (passed_out c.args.stop c.args.start xs (c.loop-i.i + 1) c.loop-i.level c.loop-i.invariant (omega (arith, past_size c.in_ok-get.field-0.now xs e)))
