-- `combine_join` meets its contract: an entry that follows is stored, and other pairs are walked.
use native.Mathlib.Nat.{le_refl}
use Rattle.design.proofs.Work.{work_follows}
use Rattle.design.proofs.closing.combine_join.Goals as goal

pub known_entry-requires : goal.known_entry-requires
known_entry-requires c = (c.requires.0.places, c.requires.3.words, c.requires.0.few, c.requires.1, c.requires.2)

pub returns-in-Some : goal.returns-in-Some
returns-in-Some c =
    record {
      kept = (c.requires.0, le_refl _, c.requires.3);
      step = λ Gs w. work_follows w c.requires.1 c.requires.2 c.in-Some.known (c.in-Some.ensures c.args.store.now c.requires.0 c.requires.3);
    }
