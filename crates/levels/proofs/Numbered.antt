-- A column of the level table, numbered into an array: what a caller knows of the array and of the number answered.
-- Assumes nothing.
use mathlib.Core.Path.{◌≡◌, sym, ap, ◌∙◌}
use mathlib.Core.List.{List}
use Prim.Native.Nat.{ℕ, ◌+◌, ◌*◌, ◌≤◌}
use native.Mathlib.Omega.{arith}
use lib.ListN.{length, take, length-append}
use lib.Seq.{take_all}
use Rattle.rules.specs.Limits.{most_plots}
use Rattle.rules.specs.Factor.{Column, number, classes}
use Rattle.rules.proofs.Numbering.{length_number}
use Rattle.rules.proofs.ClassCount.{classes_most}
use Rattle.rules.proofs.Columns.{classes_number}
use Rattle.factor.specs.Lent.{column_at, plots_of, overlay}
use Rattle.factor.proofs.Lent.{length_part, take_overlay}

-- the first n bytes are the numbers of F, which has k classes
pub record Numbered (n : ℕ) (F : Column) (bytes : List ℕ) (k : ℕ) : Type 0 where
  pub plots : length F ≡ n
  pub numbered_plots : length (number F) ≡ n
  pub room : n ≤ length bytes
  pub numbers : take n bytes ≡ number F
  pub lent_plots : length (take n bytes) ≡ n
  pub count : k ≡ classes (number F)
  pub few : k ≤ most_plots

-- of a column that lies in the table whole
pub column_numbered : (n c : ℕ) (levels out bytes : List ℕ) (k : ℕ) → n ≤ most_plots → most_plots * c + n ≤ length levels
    → k ≡ classes (plots_of (column_at n levels c)) → bytes ≡ overlay out (number (plots_of (column_at n levels c))) → Numbered n (column_at n levels c) bytes k
column_numbered n c levels out bytes k small fits counted written = record {
  plots = plots;
  numbered_plots = on;
  room = rw (is, length-append) (omega (arith, on));
  numbers = first;
  lent_plots = ap length first ∙ on;
  count = counted ∙ ap classes whole ∙ sym (classes_number F);
  few = omega (arith, counted ∙ ap classes whole, classes_most F, plots);
}
  where
    F : Column
    F = column_at n levels c

    plots : length F ≡ n
    plots = length_part n c levels fits

    on : length (number F) ≡ n
    on = length_number F ∙ plots

    whole : plots_of F ≡ F
    whole = take_all most_plots F (omega (arith, plots, small))

    is : bytes ≡ overlay out (number F)
    is = written ∙ ap (λ (X : Column). overlay out (number X)) whole

    first : take n bytes ≡ number F
    first = ap (take n) is ∙ take_overlay out (number F) n on
