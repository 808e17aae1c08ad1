-- Laws of naming the members of families made from a sheet that was read: the name is answered, not refused.
-- Assumes nothing.
use mathlib.Core.Path.{◌≡◌, sym, ap, ◌∙◌}
use mathlib.Core.Bool.{true}
use mathlib.Core.List.{List}
use Prim.Native.Nat.{ℕ, ◌≤◌}
use lib.ListN.{length}
use borrow.Author.Tests.{le-leb, lt-ltb}
use Rattle.rules.specs.Family.{Family, columns_from, members_of, well_formed}
use Rattle.rules.specs.Design.{Answer, plots_within, all_nonzero, plot_buffer, treatment_buffer}
use Rattle.rules.specs.Sheet.{Outcome, read, reading, levels_after}
use Rattle.rules.specs.Naming.{Kind, plot, treatment, kind_columns, looked_at, name_at, naming_within, naming_from7, naming}
use Rattle.rules.proofs.Sheet.{read_accepts, plot_levels_nonzero}
use Rattle.rules.proofs.ReadSheets.{read_questions, read_nonzero, length_table}
use Rattle.rules.proofs.Made.{Tells, Placed, plot_back, plot_buffer_length, treatment_back, treatment_buffer_length}

module _ (text levels : List ℕ) (n p t : ℕ) (e : reading text levels ≡ read n p t) where
  -- question 7 holds of the columns that a member looks at
  pub looked_nonzero : (kind : Kind) → all_nonzero (looked_at kind text n (levels_after (read n p t) text levels)) ≡ true
  unfolding looked_at kind_columns
  looked_nonzero plot =
      ap (λ (c : ℕ). all_nonzero (columns_from n (levels_after (read n p t) text levels) 0 c)) (sym (read_accepts text levels n p t e).plot_columns_holds)
      ∙ ap (λ (o : Outcome). all_nonzero (columns_from n (levels_after o text levels) 0 p)) (sym e) ∙ plot_levels_nonzero text levels n p t e
  looked_nonzero treatment = let a = read_accepts text levels n p t e in rw (← a.plot_columns_holds, ← a.treatment_columns_holds) (read_nonzero text levels n p t e)

  -- the name of a member of a family in a buffer, which question 15 accepts
  pub name_answered : (kind : Kind) (b : List ℕ) (size place nameLength : ℕ) (S : Family) → 7680 ≤ length b → 160 ≤ nameLength → 1 ≤ place → place ≤ size → members_of n b size ≡ S → well_formed S ≡ true
      → naming kind text (levels_after (read n p t) text levels) b n size place nameLength ≡ record { refusal = 0; name = name_at kind text n (levels_after (read n p t) text levels) S place }
  unfolding naming naming_within naming_from7 plots_within
  name_answered kind b size place nameLength S room long some most is formed =
      let a = read_accepts text levels n p t e in
      let within : naming_within n size place (length (levels_after (read n p t) text levels)) (length b) nameLength ≡ true =
      rw (
        lt-ltb 0 n a.plots_some,
        le-leb n 240 a.plots_few,
        lt-ltb 0 place some,
        le-leb place size most,
        length_table text levels n p t e,
        le-leb 2880 (length levels) a.table_fits,
        le-leb 7680 (length b) room,
        le-leb 160 nameLength long,
      ) in
      rw ((read_questions text levels n p t e).0, (read_questions text levels n p t e).1, within, naming, is) (rw (looked_nonzero kind, formed, naming_from7))

  -- the plot member at a place of a design's answer, read from the buffer it was written to
  module _ (a : Answer) (tells : Tells n a) (b : List ℕ) (room : 7680 ≤ length b) (place nameLength : ℕ) (long : 160 ≤ nameLength) (some : 1 ≤ place) where
    pub plot_name_lem : Placed n a.plot place
        → naming plot text (levels_after (read n p t) text levels) (plot_buffer b a) n (length a.plot) place nameLength
        ≡ record { refusal = 0; name = name_at plot text n (levels_after (read n p t) text levels) a.plot place }
    plot_name_lem w =
        let few = (read_accepts text levels n p t e).plots_few in
        name_answered plot (plot_buffer b a) (length a.plot) place nameLength a.plot (rw (plot_buffer_length n few a tells b room) room) long some w.most (plot_back n few a tells b room) w.made.formed

    -- and the treatment member
    pub treatment_name : Placed n a.treatment place
        → naming treatment text (levels_after (read n p t) text levels) (treatment_buffer b a) n (length a.treatment) place nameLength
        ≡ record { refusal = 0; name = name_at treatment text n (levels_after (read n p t) text levels) a.treatment place }
    treatment_name w =
        let few = (read_accepts text levels n p t e).plots_few in
        name_answered treatment (treatment_buffer b a) (length a.treatment) place nameLength a.treatment (rw (treatment_buffer_length n few a tells b room) room) long some w.most (treatment_back n few a tells b room)
        w.made.formed
