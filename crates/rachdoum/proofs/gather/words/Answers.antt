-- `words` meets its contract: the lists stand one after another.
use mathlib.Core.Path.{◌≡◌, ap, ◌∙◌}
use mathlib.Core.List.{List}
use Prim.Native.Nat.{ℕ}
use lib.ListN.{length}
use lib.Seq.{paste}
use native.Mathlib.Omega.{arith}
use Rattle.rachdoum.proofs.Pasting.{three}
use Rattle.rachdoum.proofs.gather.words.Goals as goal

pub returns : goal.returns
returns c =
    let a = c.args in
    let la : length a.a ≡ 32 = omega arith in
    let lb : length a.b ≡ 32 = omega arith in
    let lc : length a.c ≡ 32 = omega arith in
    (rw lc at c.put-3.ensures)
    ∙ ap (λ (w : List ℕ). paste w 65 a.c 32) ((rw lb at c.put-2.ensures) ∙ ap (λ (w : List ℕ). paste w 33 a.b 32) (rw la at c.put.ensures))
    ∙ three a.first a.a a.b a.c la lb lc
