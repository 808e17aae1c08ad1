-- `column_numbers` meets its contract: the walk does not stop before the column's end.
use mathlib.Core.Path.{◌≡◌, ap, ◌∙◌}
use native.Mathlib.Omega.{arith}
use lib.ListN.{take, length-take}
use lib.Seq.{take_all}
use Rattle.rules.specs.Factor.{Column, number, classes}
use Rattle.factor.specs.Lent.{column_at, plots_of, overlay}
use Rattle.levels.proofs.column_numbers.Goals as goal

pub returns : goal.returns
returns c =
    let n = c.args.n in
    let F = column_at n c.args.levels.now c.args.c in
    let e : take n (plots_of c.column.result.now) ≡ plots_of F =
    ap (λ (X : Column). take n (plots_of X)) c.column.ensures ∙ take_all n (plots_of F) (rw (length-take, length-take) (omega arith)) in
    record {
      answer = c.number_levels.ensures.answer ∙ ap classes e;
      numbers = c.number_levels.ensures.numbers ∙ ap (λ (X : Column). overlay c.args.out.now (number X)) e;
    }
