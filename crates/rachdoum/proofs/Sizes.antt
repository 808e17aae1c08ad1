-- What an entry that writes bytes answers, by the numbers of each crate.
-- Assumes nothing.
use mathlib.Core.Path.{◌≡◌, refl}
use Prim.Native.Nat.{ℕ}
use Rattle.std.specs.Prelude.{Result, Ok, Err}
use Rattle.refusal.specs.declared.Refusal.{Refusal}
use Rattle.naming.specs.Answers.{name_numbers}
use Rattle.table.specs.Answers.{print_numbers}
use Rattle.writer.specs.Answers.{writing_numbers}
use Rattle.rachdoum.specs.Numbers.{refusal_of, size_of}

pub refusal_named : (r : Result ℕ Refusal) → refusal_of r ≡ (name_numbers r).refusal
unfolding name_numbers
refusal_named (Ok m) = refl
refusal_named (Err q) = refl

pub size_named : (r : Result ℕ Refusal) → size_of r ≡ (name_numbers r).size
unfolding name_numbers
size_named (Ok m) = refl
size_named (Err q) = refl

pub refusal_printed : (r : Result ℕ Refusal) → refusal_of r ≡ (print_numbers r).refusal
unfolding print_numbers
refusal_printed (Ok m) = refl
refusal_printed (Err q) = refl

pub size_printed : (r : Result ℕ Refusal) → size_of r ≡ (print_numbers r).size
unfolding print_numbers
size_printed (Ok m) = refl
size_printed (Err q) = refl

pub refusal_written : (r : Result ℕ Refusal) → refusal_of r ≡ (writing_numbers r).refusal
unfolding writing_numbers
refusal_written (Ok m) = refl
refusal_written (Err q) = refl

pub size_written : (r : Result ℕ Refusal) → size_of r ≡ (writing_numbers r).size
unfolding writing_numbers
size_written (Ok m) = refl
size_written (Err q) = refl
