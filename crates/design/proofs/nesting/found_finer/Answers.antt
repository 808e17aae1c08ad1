-- `found_finer` meets its contract: numbers of classes tell it, or a walk.
use mathlib.Core.Path.{refl, sym, ◌∙◌}
use lib.ListN.{length}
use Rattle.design.proofs.Suprema.{known_order}
use Rattle.design.proofs.nesting.found_finer.Goals as goal

pub returns-then-known_finer : goal.returns-then-known_finer
returns-then-known_finer c = let a = c.args in
    λ e. known_order (length a.a.now) a.f a.g a.a.now a.b.now c.requires.0 refl c.requires.2 c.requires.3 c.requires.4 (sym c.known_finer.ensures ∙ e)
