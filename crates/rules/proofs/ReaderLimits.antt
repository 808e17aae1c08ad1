-- Laws of the reader's limits: how long a level table and a text may be, and how many plot lines a text may have.
-- Assumes nothing.
use mathlib.Core.Path.{◌≡◌, ap₂}
use mathlib.Core.Logic.{◌↔◌}
use mathlib.Core.Bool.{true, ◌&&◌}
use mathlib.Core.List.{List}
use Prim.Native.Nat.{ℕ, ◌≤◌}
use lib.Dec.{leb}
use lib.ListN.{length}
use borrow.Author.Tests.{leb-true, le-leb}
use Rattle.rules.specs.Sheet.{within, later_lines, question1, question2, question5}
use Rattle.rules.proofs.Sheet.{and_left, and_right}

within_test : (a b x : ℕ) → within a b x ≡ true ↔ ((a ≤ x) × (x ≤ b))
within_test a b x = (λ e. (leb-true a x (and_left (leb a x) (leb x b) e), leb-true x b (and_right (leb a x) (leb x b) e)), λ w. ap₂ ◌&&◌ (le-leb a x w.0) (le-leb x b w.1))

-- 1. "Does the lent level table hold at least 2,880 numbers?"
pub table_limit : (levels : List ℕ) → question1 levels ≡ true ↔ (2880 ≤ length levels)
table_limit levels = (leb-true 2880 (length levels), le-leb 2880 (length levels))

-- 2. "Is the text 1 to 32,768 bytes?"
pub text_limits : (text : List ℕ) → question2 text ≡ true ↔ ((1 ≤ length text) × (length text ≤ 32768))
text_limits text = within_test 1 32768 (length text)

-- 5. "Are there 1 to 240 plot lines?"
pub line_limits : (text : List ℕ) → question5 text ≡ true ↔ ((1 ≤ length (later_lines text)) × (length (later_lines text) ≤ 240))
unfolding question5
line_limits text = within_test 1 240 (length (later_lines text))
