-- `sheet::field::is_name` meets its contract.
use mathlib.Core.Path.{◌≡◌, sym, ◌∙◌}
use mathlib.Core.Bool.{◌&&◌}
use native.Mathlib.Omega.{arith}
use lib.ListN.{length, get_or, take, drop}
use Prim.Native.Nat.{◌-◌}
use Rattle.std.specs.Prelude.{◌↔◌, IsTrue, All}
use Rattle.std.proofs.Common.{rules}
use Rattle.std.proofs.iter.runs.Made.{chains}
use Rattle.std.proofs.lemmas.Grind.{common_steps}
use Rattle.std.proofs.lemmas.Bool.Decides.{nat_tests}
use Rattle.rules.specs.Sheet.{within, letter, letter_or_digit}
use Rattle.sheet.proofs.NameForm.{name_none, name_bytes}
use Rattle.sheet.proofs.Walk.{all_told}
use Rattle.sheet.proofs.field.is_name.Goals as goal
use Rattle.sheet.proofs.field.is_name.Goals.{Joined-is_ascii_alphabetic, then-is_ascii_alphabetic, else-is_ascii_alphabetic}

-- the first byte and the length
front : (c : Joined-is_ascii_alphabetic) → c.if-is_ascii_alphabetic.value ≡ letter (get_or c.args.name.now 0 0) && within 1 11 (length (take (length c.args.name.now - 1) (drop 1 c.args.name.now)))
front c =
    elim c.if-is_ascii_alphabetic.branch [
      | then-is_ascii_alphabetic w ↦ grind (arith, common_steps, nat_tests)
      | else-is_ascii_alphabetic w ↦ grind (arith, common_steps, nat_tests)
    ]

pub returns-in-empty : goal.returns-in-empty
returns-in-empty c = sym (name_none c.args.name.now c.in-empty.len_below)

pub returns-then-contains : goal.returns-then-contains
returns-then-contains c =
    let name = c.args.name.now in
    let f = front (goal.at.returns-then-contains c).Joined-is_ascii_alphabetic in
    let m : IsTrue c.all.result ↔ All (λ x. IsTrue (letter_or_digit x)) (take (length name - 1) (drop 1 name)) = search (rules, chains) in
    let e = all_told letter_or_digit (take (length name - 1) (drop 1 name)) c.all.result m in
    e ∙ sym (name_bytes name c.in-len1-up.len_at_least ∙ rw (← f, c.if-contains.true))

pub returns-else-contains : goal.returns-else-contains
returns-else-contains c =
    let name = c.args.name.now in
    let f = front (goal.at.returns-else-contains c).Joined-is_ascii_alphabetic in
    rw (c.if-contains.false) (sym (name_bytes name c.in-len1-up.len_at_least ∙ rw (← f, c.if-contains.false)))
