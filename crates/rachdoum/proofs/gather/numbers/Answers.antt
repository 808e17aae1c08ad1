-- `numbers` meets its contract: the lists stand one after another.
use mathlib.Core.Path.{◌≡◌, ap, ◌∙◌}
use mathlib.Core.List.{List}
use lib.IntN.{ℤ}
use lib.ListN.{length}
use lib.Seq.{paste}
use native.Mathlib.Omega.{arith}
use Rattle.rachdoum.proofs.Pasting.{two}
use Rattle.rachdoum.proofs.gather.numbers.Goals as goal

pub returns : goal.returns
returns c =
    let a = c.args in
    let la : length a.a ≡ 32 = omega arith in
    let lb : length a.b ≡ 32 = omega arith in
    (rw lb at c.put-2.ensures) ∙ ap (λ (w : List ℤ). paste w 32 a.b 32) (rw la at c.put.ensures) ∙ two a.a a.b la lb
