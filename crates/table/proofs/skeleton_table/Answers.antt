-- `skeleton_table`: a buffer that is not too short has room for the whole text.
use mathlib.Core.Path.{ap, ◌∙◌}
use mathlib.Core.Bool.{true}
use Prim.Native.Nat.{ℕ, ◌≤◌}
use native.Mathlib.Omega.{arith}
use lib.ListN.{length}
use Rattle.rules.specs.Table.{table_text}
use Rattle.rules.proofs.TableSize.{table_fits}
use Rattle.decimal.proofs.Writing.{written_all, place_all}
use Rattle.table.specs.Answers.{print_numbers, print_numbers_of}
use Rattle.table.proofs.TableLaws.{table_whole}
use Rattle.table.proofs.skeleton_table.Goals as goal

pub returns : goal.returns
unfolding print_numbers print_numbers_of
returns c =
    let a = c.args in
    let out = a.out.now in
    let text = table_text a.text.now in
    let long : 32768 ≤ length out = omega arith in
    let w = c.print.ensures in
    let fits : length text ≤ length out = omega (arith, table_fits a.text.now) in
    rw (table_whole a.text.now (length out) long) record {
      answer = ap (λ (m : ℕ). record { accepted = true; refusal = 0; size = m }) (w.0 ∙ place_all out text fits);
      buffer = w.1 ∙ written_all out text fits;
    }
