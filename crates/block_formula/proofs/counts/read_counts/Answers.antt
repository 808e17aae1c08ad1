use Rattle.std.proofs.Common.{ℕ, List, ◌+◌, ◌++◌, arith, take, drop, sym, ap, ap₂, ◌∙◌, append-nil}
use Rattle.std.specs.Option.{unwrap_or}
use Rattle.rules.specs.Sheet.{all, digit}
use Rattle.rules.specs.Formula.{leading}
use Rattle.sheet.proofs.FirstByte.{rest_taken}
use Rattle.block_formula.specs.Text.{count_of, counts_in}
use Rattle.block_formula.proofs.CountLaws.{leading_digits, count_most, counts_turn, counts_on, counts_all}
use Rattle.block_formula.proofs.counts.read_counts.Goals as goal
use Rattle.block_formula.proofs.counts.read_counts.Goals.{then-x-eq61, else-x-eq61}

pub count-requires : goal.count-requires
count-requires c = ap (all digit) c.digits.ensures ∙ leading_digits _

pub overflow_cast-counts : goal.overflow_cast-counts
overflow_cast-counts c = omega (arith, c.unwrap_or.ensures ∙ ap (λ o. unwrap_or o 0) c.count.ensures, count_most c.digits.result.now)

pub loop-i-preserved : goal.loop-i-preserved
loop-i-preserved c =
    let t = c.args.text.now in
    let i = c.loop-i.i in
    let n = c.loop-i.n in
    elim c.if-x-eq61.branch [
      | then-x-eq61 w ↦ let ds = w.digits.ensures ∙ ap leading (rest_taken (i + 1) t) in
          let v = w.unwrap_or.ensures ∙ ap (λ o. unwrap_or o 0) (w.count.ensures ∙ ap count_of ds) in (
            omega arith,
            omega arith,
            ap₂ (λ (m : ℕ) (xs : List ℕ). take m xs ++ counts_in (drop (i + 1) t)) w.n-is w.counts-is
                ∙ counts_turn t i (omega arith) c.loop-i.counts n w.unwrap_or.result w.if-x-eq61.true (omega arith) v ∙ c.loop-i.invariant.2,
          )
      | else-x-eq61 w ↦ (
        omega arith,
        omega arith,
        ap₂ (λ (m : ℕ) (xs : List ℕ). take m xs ++ counts_in (drop (i + 1) t)) w.n-is w.counts-is
            ∙ ap (λ (xs : List ℕ). take n c.loop-i.counts ++ xs) (sym (counts_on t i (omega arith) w.if-x-eq61.false)) ∙ c.loop-i.invariant.2,
      )
    ]

pub returns : goal.returns
returns c =
    let t = c.args.text.now in
    let taken = take c.loop-i.n c.loop-i.counts in
    sym (append-nil taken) ∙ ap (λ (xs : List ℕ). taken ++ xs) (sym (counts_all t c.loop-i.i (omega arith))) ∙ c.loop-i.invariant.2
