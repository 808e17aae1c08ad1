-- The structs and enums that the functions answer, by the rules' definitions.
-- Assumes nothing.
use Rattle.std.specs.Prelude.{Bool, true, false, ◌&&◌, Option, Some, None, Result, Ok, Err, List, [], ◌∷◌, ◌++◌, ℕ, zero, suc, ◌+◌, ◌-◌, min, leb, length, replicate}
use Rattle.sheet.specs.declared.header.Span.{Span}
use Rattle.rules.specs.Limits.{most_columns, most_fields, most_level}
use Rattle.rules.specs.Sheet.{Field, Line, newline, plot_mark, treatment_mark, all, has, up_to, is_column, is_kind, count_kind, header, columns_after, is_plot_line, question3, Outcome, read, refused}
use Rattle.refusal.specs.declared.Refusal.{Refusal}
use Rattle.refusal.specs.Numbers.{number_of}
use Rattle.sheet.specs.declared.Counts.{Counts}
use Rattle.sheet.specs.declared.header.Header.{Header}

-- the number and values that the rules give each case of the reader's answer
abbrev pub outcome_of : Result Counts Refusal → Outcome
outcome_of (Ok c) = read c.plots c.plot_columns c.treatment_columns
outcome_of (Err q) = refused (number_of q)

-- ---- the first line

-- columns of the level table, with 0 past the fields
abbrev pub padded : List ℕ → List ℕ
padded cs = cs ++ replicate (most_fields - length cs) 0

-- xs starts with a line of columns, at most 6 of a kind with p plot and t treatment columns before it
unfoldable pub markable : ℕ → ℕ → List ℕ → Bool
unfolding has all is_column header count_kind
markable p t xs =
    has newline xs && all is_column (header xs) && leb (p + count_kind plot_mark (header xs)) most_columns && leb (t + count_kind treatment_mark (header xs)) most_columns

-- that line, when xs stands at `at` and the columns before it take cs
unfoldable pub marked : ℕ → ℕ → ℕ → List ℕ → List ℕ → Option Header
unfolding markable header count_kind columns_after up_to
marked at p t cs xs = elim (markable p t xs) [
  | true ↦ Some (record {
    end = at + suc (length (up_to newline xs));
    plot_columns = p + count_kind plot_mark (header xs);
    treatment_columns = t + count_kind treatment_mark (header xs);
    columns = padded (cs ++ columns_after p t (header xs));
  })
  | false ↦ None
]

-- the first line of a text that question 3 accepts
unfoldable pub first_line : List ℕ → Header
unfolding header count_kind columns_after up_to
first_line text = record {
  end = suc (length (up_to newline text));
  plot_columns = count_kind plot_mark (header text);
  treatment_columns = count_kind treatment_mark (header text);
  columns = padded (columns_after 0 0 (header text));
}

-- question 3, and what it tells
unfoldable pub headed : List ℕ → Option Header
unfolding question3 first_line
headed text = elim (question3 text) [ true ↦ Some (first_line text) | false ↦ None ]

-- where the name in the field from `start` to `stop` stands: past the two bytes of its kind
abbrev pub past_mark : ℕ → ℕ → Span
past_mark start stop = record { start = min (start + 2) stop; end = stop }

-- where the name of column c, from 0, of the fields that a byte marks stands, when the first of the fields starts at `at`
unfoldable pub span_from : ℕ → ℕ → ℕ → List Field → Option Span
unfolding is_kind
span_from mark c at [] = None
span_from mark zero at (f ∷ fs) = elim (is_kind mark f) [ true ↦ Some (past_mark at (at + length f)) | false ↦ span_from mark zero (suc (at + length f)) fs ]
span_from mark (suc c) at (f ∷ fs) = elim (is_kind mark f) [ true ↦ span_from mark c (suc (at + length f)) fs | false ↦ span_from mark (suc c) (suc (at + length f)) fs ]

-- the same of a text's first line; the bytes there are the column's name (span_some in proofs/NameLaws)
unfoldable pub column_span : ℕ → ℕ → List ℕ → Option Span
unfolding span_from header
column_span mark c text = span_from mark c 0 (header text)

-- ---- the later lines

-- question 4 of these lines, after `count` others: how many lines there are with them
unfoldable pub judged : ℕ → ℕ → List Line → Option ℕ
unfolding all is_plot_line
judged count n ls = elim (all (is_plot_line most_level n) ls) [ true ↦ Some (count + length ls) | false ↦ None ]
