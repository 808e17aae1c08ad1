-- The text written is within its buffer, by the table's promise, and is not refused.
use Rattle.std.specs.Prelude.{Result, Ok, Err}
use Rattle.std.proofs.Common.{rules, ◌≡◌, ℕ, ◌≤◌, List, arith, length, drop, sym, ap, ◌∙◌, length-append, length-take-le}
use Rattle.rules.specs.Table.{TableAnswer, skeleton_table, table_buffer}
use Rattle.refusal.specs.declared.Refusal.{Refusal}
use Rattle.refusal.specs.Numbers.{number_of}
use Rattle.refusal.proofs.Numbers.{numbered}
use Rattle.table.specs.Answers.{PrintNumbers, print_numbers, print_numbers_of}
use Rattle.table.proofs.TableLaws.{table_whole}
use Rattle.skeleton.proofs.main.Goals as goal

-- with room for it the text is written
printed : (text : List ℕ) (r : Result ℕ Refusal) → print_numbers r ≡ print_numbers_of (skeleton_table text 32768) → r ≡ Ok (length (skeleton_table text 32768).text)
unfolding print_numbers print_numbers_of
printed text (Ok m) e = ap Ok (ap (λ (x : PrintNumbers). x.size) e)
printed text (Err q) e =
    let z : number_of q ≡ 0 = ap (λ (x : PrintNumbers). x.refusal) e ∙ ap (λ (a : TableAnswer). a.refusal) (table_whole text 32768 (omega arith)) in
    absurd (omega (arith, numbered q, z))

-- a text that starts a buffer is within it
within : (text : List ℕ) (before after : List ℕ) (r : Result ℕ Refusal) (m : ℕ)
    → print_numbers r ≡ print_numbers_of (skeleton_table text 32768) → after ≡ table_buffer before (skeleton_table text 32768) → r ≡ Ok m → m ≤ length after
within text before after r m e w k =
    let t : List ℕ = (skeleton_table text 32768).text in
    let same : m ≡ length t = cc (printed text r e) in
    rw (w, length-append t (drop (length t) before), same) (omega arith)

pub unwrap-length-requires : goal.unwrap-length-requires
unwrap-length-requires c = rw (printed _ _ c.skeleton_table.ensures.answer) (search rules)

pub slice_bounds-out-end : goal.slice_bounds-out-end
slice_bounds-out-end c = within _ _ _ _ _ c.skeleton_table.ensures.answer c.skeleton_table.ensures.buffer c.unwrap-length.ensures

pub slice_bounds-write_all-end : goal.slice_bounds-write_all-end
slice_bounds-write_all-end c = sym (length-take-le _ _ (within _ _ _ _ _ c.skeleton_table.ensures.answer c.skeleton_table.ensures.buffer c.unwrap-length.ensures))
