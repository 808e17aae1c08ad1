-- `rachdoum::rachdoum_formula` meets its contract: the answer has the rules' numbers.
use mathlib.Core.Path.{ap, ◌∙◌}
use mathlib.Core.List.{[], ◌∷◌}
use Prim.Native.Nat.{ℕ}
use Rattle.writer.specs.Answers.{SheetNumbers, answer_numbers}
use Rattle.rachdoum.proofs.Sizes.{refusal_written, size_written}
use Rattle.rachdoum.proofs.rachdoum_formula.Goals as goal

pub returns : goal.returns
unfolding answer_numbers
returns c =
    let f = c.expand in
    record {
      refusal = c.put_size.ensures.refusal ∙ refusal_written f.result ∙ ap (λ (y : SheetNumbers). y.refusal) f.ensures.answer;
      buffer = f.ensures.sheet;
      numbers = c.put_size.ensures.numbers ∙ ap (λ (m : ℕ). m ∷ []) (size_written f.result ∙ ap (λ (y : SheetNumbers). y.size) f.ensures.answer);
    }
