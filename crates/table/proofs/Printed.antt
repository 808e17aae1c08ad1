-- What is printed for the answer of an entry, by its refusal and by the number of this.
-- Assumes nothing.
use mathlib.Core.Path.{◌≡◌, ap, subst}
use mathlib.Core.List.{List}
use Prim.Native.Nat.{ℕ}
use Rattle.std.specs.Prelude.{Result, Ok, Err, IsErrAnd, MatchResult}
use Rattle.refusal.specs.declared.Refusal.{Refusal}
use Rattle.refusal.specs.Numbers.{number_of}
use Rattle.writer.specs.Answers.{Printed as EntryPrinted}
use Rattle.table.specs.Answers.{Printed, with_number}

-- they are the same
pub entry_printed : (w : Result ℕ Refusal) (n : Result ℕ ℕ) (before after : List ℕ) (r : ℕ) → n ≡ with_number w → Printed n before after r → EntryPrinted w before after r
entry_printed (Ok m) n before after r e p = subst (λ (x : Result ℕ ℕ). Printed x before after r) e p
entry_printed (Err q) n before after r e p = subst (λ (x : Result ℕ ℕ). Printed x before after r) e p

-- an answer whose refusal was replaced by its number
pub told_by_number : (w : Result ℕ Refusal) (n : Result ℕ ℕ) → MatchResult w (λ m. n ≡ Ok m) (λ q. IsErrAnd n (λ k. k ≡ number_of q)) → n ≡ with_number w
told_by_number (Ok m) n p = p
told_by_number (Err q) (Ok m) p = absurd p
told_by_number (Err q) (Err k) p = ap Err p
