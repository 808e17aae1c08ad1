-- `rachdoum::rachdoum_skeleton` meets its contract: the answer has the rules' numbers.
use mathlib.Core.Path.{ap, ◌∙◌}
use mathlib.Core.List.{[], ◌∷◌}
use Prim.Native.Nat.{ℕ}
use Rattle.table.specs.Answers.{PrintNumbers, print_numbers_of}
use Rattle.rachdoum.proofs.Sizes.{refusal_printed, size_printed}
use Rattle.rachdoum.proofs.rachdoum_skeleton.Goals as goal

pub returns : goal.returns
unfolding print_numbers_of
returns c =
    let f = c.skeleton_table in
    record {
      refusal = c.put_size.ensures.refusal ∙ refusal_printed f.result ∙ ap (λ (y : PrintNumbers). y.refusal) f.ensures.answer;
      buffer = f.ensures.buffer;
      numbers = c.put_size.ensures.numbers ∙ ap (λ (m : ℕ). m ∷ []) (size_printed f.result ∙ ap (λ (y : PrintNumbers). y.size) f.ensures.answer);
    }
