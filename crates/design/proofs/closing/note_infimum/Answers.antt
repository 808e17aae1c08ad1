-- `note_infimum` meets its contract.
use mathlib.Core.Path.{ap, ◌∙◌}
use mathlib.Core.List.{List}
use Prim.Native.Nat.{ℕ}
use lib.ListN.{length}
use Rattle.design.specs.State.{noted}
use Rattle.design.proofs.KnownOrder.{noted_words}
use Rattle.design.proofs.closing.note_infimum.Goals as goal

pub note_finer-requires-2 : goal.note_finer-requires-2
note_finer-requires-2 c =
    (ap length c.note_finer.ensures ∙ noted_words c.args.above.now c.args.p c.args.i c.requires.0, c.requires.3, c.requires.2)

pub returns : goal.returns
returns c =
    c.note_finer-2.ensures ∙ ap (λ (l : List ℕ). noted l c.args.p c.args.j) c.note_finer.ensures
