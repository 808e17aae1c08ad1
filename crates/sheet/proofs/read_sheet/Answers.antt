-- `sheet::read_sheet` meets its contract.
use mathlib.Core.Path.{◌≡◌, sym, ap, ◌∙◌}
use mathlib.Core.Bool.{true, false}
use mathlib.Core.List.{List}
use Prim.Native.Nat.{ℕ, ◌≤◌}
use native.Mathlib.Omega.{arith}
use lib.ListN.{length}
use borrow.Author.Tests.{le-leb}
use Rattle.std.proofs.lemmas.Grind.{common_steps}
use Rattle.std.proofs.lemmas.Bool.Decides.{nat_tests}
use Rattle.rules.specs.Limits.{most_text, table_cells}
use Rattle.rules.specs.Sheet.{Outcome, refused, within, reading, reading_to, reading_from3, levels_after, OlderKept}
use Rattle.rules.specs.Limits.{most_level}
use Rattle.rules.proofs.Sheet.{refused_1}
use Rattle.rules.proofs.OlderSheets.{older_kept}
use Rattle.sheet.proofs.read_sheet.Goals as goal

-- question 2, once question 1 says yes
module _ (text levels : List ℕ) (room : table_cells ≤ length levels) where
  other_size : within 1 most_text (length text) ≡ false → reading text levels ≡ refused 2
  unfolding reading_to
  other_size e = rw (le-leb table_cells (length levels) room, e, reading_to)

  good_size : within 1 most_text (length text) ≡ true → reading text levels ≡ reading_from3 most_level text
  unfolding reading_to
  good_size e = rw (le-leb table_cells (length levels) room, e, reading_to)

-- a refusal that leaves the level table as it was
refusal : (text levels : List ℕ) (q : ℕ) → reading text levels ≡ refused q
    → (refused q ≡ reading text levels) × ((levels ≡ levels_after (reading text levels) text levels) × OlderKept text levels (refused q) levels)
unfolding levels_after
refusal text levels q e = let kept : levels ≡ levels_after (reading text levels) text levels = rw e in (sym e, (kept, older_kept text levels (refused q) levels (sym e) kept))

pub returns-then-levels-lt-LEVELS : goal.returns-then-levels-lt-LEVELS
returns-then-levels-lt-LEVELS c =
    let s = c.args in
    let whole = refusal s.text.now s.levels.now 1 (refused_1 s.text.now s.levels.now c.if-levels-lt-LEVELS.true) in record { answer = whole.0; table = whole.1.0; older = whole.1.1 }

pub returns-then-not-contains : goal.returns-then-not-contains
returns-then-not-contains c =
    let s = c.args in
    let e : within 1 most_text (length s.text.now) ≡ false = grind (arith, common_steps, nat_tests) in
    let whole = refusal s.text.now s.levels.now 2 (other_size s.text.now s.levels.now (omega arith) e) in record { answer = whole.0; table = whole.1.0; older = whole.1.1 }

pub returns : goal.returns
returns c =
    let s = c.args in
    let w : within 1 most_text (length s.text.now) ≡ true = grind (arith, common_steps, nat_tests) in
    let e = good_size s.text.now s.levels.now (omega arith) w in
    let r = c.from_3.ensures in
    let answer = r.answer ∙ sym e in
    let table = r.table ∙ ap (λ (o : Outcome). levels_after o s.text.now s.levels.now) (sym e) in
    record { answer = answer; table = table; older = older_kept s.text.now s.levels.now _ _ answer table }
