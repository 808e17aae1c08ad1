-- `members_of` meets its contract: words are sought, or left empty.
use mathlib.Core.Path.{sym, subst}
use mathlib.Core.List.{List}
use Prim.Native.Nat.{ℕ}
use lib.ListN.{get_or}
use Rattle.design.specs.Crossing.{FinerBits}
use Rattle.design.proofs.FinerWords.{words_none}
use Rattle.design.proofs.nesting.members_of.Goals as goal
use Rattle.design.proofs.nesting.members_of.Goals.{then-other-lt-SOME_MEMBERS, else-other-lt-SOME_MEMBERS}

pub invariant_of-result : goal.invariant_of-result
invariant_of-result c = let a = c.args in
    let P : List ℕ → Type 0 = λ l. (k : ℕ) → FinerBits a.plots a.bytes.now (get_or l k 0) k in record {
      ordered = record {
        some = c.requires.0;
        most = c.requires.1;
        few = c.requires.2.few;
        counted = c.class_counts-counts.ensures;
        words = elim c.if-other-lt-SOME_MEMBERS.branch [
          | then-other-lt-SOME_MEMBERS w ↦ subst P (sym w.finer-is) (words_none a.plots a.bytes.now)
          | else-other-lt-SOME_MEMBERS w ↦ subst P (sym w.finer-is) w.finer_words-finer.ensures
        ];
      };
    }
