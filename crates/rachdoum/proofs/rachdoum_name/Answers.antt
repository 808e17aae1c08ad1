-- `rachdoum::rachdoum_name` meets its contract: the answer has the rules' numbers.
use mathlib.Core.Path.{ap, ◌∙◌}
use mathlib.Core.List.{[], ◌∷◌}
use Prim.Native.Nat.{ℕ}
use lib.ListN.{length}
use Rattle.rules.specs.Naming.{Kind, NameAnswer, naming, name_buffer}
use Rattle.naming.specs.Answers.{NameNumbers, name_numbers_of}
use Rattle.rachdoum.proofs.Sizes.{refusal_named, size_named}
use Rattle.rachdoum.proofs.rachdoum_name.Goals as goal

pub returns : goal.returns
unfolding name_numbers_of
returns c =
    let s = c.stated_kind-kind.ensures in
    let x = c.args in
    let f = c.member_name-found in
    let a : Kind → NameAnswer = λ k. naming k x.text.now x.levels.now x.family.now x.plots x.size x.place (length x.name.now) in
    let r = f.ensures.answer ∙ ap (λ k. name_numbers_of (a k)) s in
    record {
      refusal = c.put_size.ensures.refusal ∙ refusal_named f.result ∙ ap (λ (y : NameNumbers). y.refusal) r;
      buffer = f.ensures.buffer ∙ ap (λ k. name_buffer x.name.now (a k)) s;
      numbers = c.put_size.ensures.numbers ∙ ap (λ (m : ℕ). m ∷ []) (size_named f.result ∙ ap (λ (y : NameNumbers). y.size) r);
    }
