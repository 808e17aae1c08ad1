use Prim.Native.Nat.{ℕ, ◌+◌}
use mathlib.Core.Path.{◌≡◌, refl, sym, ap, ◌∙◌}
use mathlib.Core.Bool.{true}
use mathlib.Core.List.{List}
use mathlib.Core.Logic.{inl, inr}
use native.Mathlib.Omega.{arith}
use lib.ListN.{length, take, drop, set, length-set}
use Rattle.std.specs.Prelude.{Some}
use Rattle.sheet.specs.Walk.{field_of, column_there}
use Rattle.sheet.proofs.ColumnLaws.{Column, column_there_lem, column_end_none, column_end_some}
use Rattle.sheet.proofs.HeaderLaws.{Step, counted_plot, counted_treatment, marks_off, marks_over, marks_on, marks_last, filled_none, filled_set, filled_take, filled_on}
use Rattle.sheet.proofs.header.marks.Goals as goal
use Rattle.sheet.proofs.header.marks.Goals.{In_ok-e, Joined-text-at-eq112, then-text-at-eq112+else-p-ge-COLUMNS, else-text-at-eq112+else-t-ge-COLUMNS}

-- the field at hand is a column
module _ (c : In_ok-e) where
  abbrev text : List ℕ
  text = c.args.text.now

  abbrev at : ℕ
  at = c.loop-e.at

  told : (column_there (drop at text) ≡ true) × (c.in_ok-e.e ≡ at + length (field_of (drop at text)))
  told = column_end_some text at c.in_ok-e.e c.in_ok-e.ensures

  held : Column text at
  held = column_there_lem text at told.0

  place : c.in_ok-e.e ≡ at + length (field_of (drop at text))
  place = told.1

-- what is counted and stored of it
taken : (c : Joined-text-at-eq112) → Column c.args.text.now c.loop-e.at
    → Step (field_of (drop c.loop-e.at c.args.text.now)) c.loop-e.p c.loop-e.t c.loop-e.columns c.if-text-at-eq112.p c.if-text-at-eq112.t c.if-text-at-eq112.columns
taken c k =
    let f = field_of (drop c.loop-e.at c.args.text.now) in
    elim c.if-text-at-eq112.branch [
      | then-text-at-eq112+else-p-ge-COLUMNS w ↦ record {
        column = c.loop-e.p;
        counted = rw (w.p-is, w.t-is) (counted_plot f c.loop-e.p c.loop-e.t k.is (k.first ∙ w.if-text-at-eq112.true));
        stored = w.columns-is;
        one = omega arith;
        few_plots = omega arith;
        few_treatments = omega arith;
      }
      | else-text-at-eq112+else-t-ge-COLUMNS w ↦ record {
        column = 6 + c.loop-e.t;
        counted = rw (w.p-is, w.t-is) (counted_treatment f c.loop-e.p c.loop-e.t k.is (λ z. w.if-text-at-eq112.false (sym k.first ∙ z)));
        stored = w.columns-is;
        one = omega arith;
        few_plots = omega arith;
        few_treatments = omega arith;
      }
    ]

pub loop-e-init : goal.loop-e-init
loop-e-init c = (omega arith, omega arith, omega arith, refl, filled_none, refl)

pub returns-in_err-e : goal.returns-in_err-e
returns-in_err-e c =
    let t = c.args.text.now in
    c.from_residual.ensures ∙ sym (marks_off t c.loop-e.at c.loop-e.p c.loop-e.t (take (c.loop-e.p + c.loop-e.t) c.loop-e.columns) (column_end_none t c.loop-e.at c.in_err-e.ensures)) ∙ c.loop-e.invariant.5

pub bounds-text-at : goal.bounds-text-at
bounds-text-at c = let d = (goal.at.bounds-text-at c).In_ok-e in omega (arith, place d, (held d).ended)

pub returns-then-p-ge-COLUMNS : goal.returns-then-p-ge-COLUMNS
returns-then-p-ge-COLUMNS c =
    let d = (goal.at.returns-then-p-ge-COLUMNS c).In_ok-e in
    let k = held d in
    let m = counted_plot (field_of (drop (at d) (text d))) d.loop-e.p d.loop-e.t k.is (k.first ∙ c.if-text-at-eq112.true) in
    sym (marks_over (text d) (at d) d.loop-e.p d.loop-e.t (take (d.loop-e.p + d.loop-e.t) d.loop-e.columns) k d.in_ok-e.e (place d) d.loop-e.p (d.loop-e.p + 1) d.loop-e.t m (inl (omega arith)))
    ∙ d.loop-e.invariant.5

pub returns-then-t-ge-COLUMNS : goal.returns-then-t-ge-COLUMNS
returns-then-t-ge-COLUMNS c =
    let d = (goal.at.returns-then-t-ge-COLUMNS c).In_ok-e in
    let k = held d in
    let m = counted_treatment (field_of (drop (at d) (text d))) d.loop-e.p d.loop-e.t k.is (λ z. c.if-text-at-eq112.false (sym k.first ∙ z)) in
    sym (marks_over (text d) (at d) d.loop-e.p d.loop-e.t (take (d.loop-e.p + d.loop-e.t) d.loop-e.columns) k d.in_ok-e.e (place d) (6 + d.loop-e.t) d.loop-e.p (d.loop-e.t + 1) m (inr (omega arith)))
    ∙ d.loop-e.invariant.5

pub overflow_add-at : goal.overflow_add-at
overflow_add-at c = let d = (goal.at.overflow_add-at c).In_ok-e in omega (arith, place d, (held d).ended)

pub bounds-text-e : goal.bounds-text-e
bounds-text-e c = let d = (goal.at.bounds-text-e c).In_ok-e in omega (arith, place d, (held d).ended)

pub returns-then-text-e-eq10 : goal.returns-then-text-e-eq10
returns-then-text-e-eq10 c =
    let j = (goal.at.returns-then-text-e-eq10 c).Joined-text-at-eq112 in
    let d = (goal.at.returns-then-text-e-eq10 c).In_ok-e in
    let s = taken j (held d) in
    let e = d.in_ok-e.e in
    let n = d.loop-e.p + d.loop-e.t in
    let is = s.stored ∙ filled_set d.loop-e.columns n s.column d.loop-e.invariant.4 (omega arith) in
    ap (λ (cs : List ℕ). Some (record { end = e + 1; plot_columns = j.if-text-at-eq112.p; treatment_columns = j.if-text-at-eq112.t; columns = cs })) is
    ∙ sym (marks_last (text d) (at d) d.loop-e.p d.loop-e.t (take n d.loop-e.columns) (held d) e (place d) s.column j.if-text-at-eq112.p j.if-text-at-eq112.t s.counted c.if-text-e-eq10.true s.few_plots s.few_treatments)
    ∙ d.loop-e.invariant.5

pub loop-e-smaller : goal.loop-e-smaller
loop-e-smaller c = let d = (goal.at.loop-e-smaller c).In_ok-e in omega (arith, place d, (held d).ended)

pub loop-e-preserved : goal.loop-e-preserved
loop-e-preserved c =
    let j = (goal.at.loop-e-preserved c).Joined-text-at-eq112 in
    let d = (goal.at.loop-e-preserved c).In_ok-e in
    let s = taken j (held d) in
    let e = d.in_ok-e.e in
    let n = d.loop-e.p + d.loop-e.t in
    let r = set d.loop-e.columns n s.column in
    let fill = filled_on d.loop-e.columns n s.column d.loop-e.invariant.4 (omega arith) in
    let cs = filled_take d.loop-e.columns n s.column d.loop-e.invariant.4 (omega arith) in (
      s.few_plots,
      s.few_treatments,
      omega (arith, place d, (held d).ended),
      ap length s.stored ∙ length-set d.loop-e.columns n s.column ∙ d.loop-e.invariant.3,
      rw (s.one, s.stored) fill,
      rw (s.one, s.stored, cs)
          (sym (marks_on (text d) (at d) d.loop-e.p d.loop-e.t (take n d.loop-e.columns) (held d) e (place d) s.column j.if-text-at-eq112.p j.if-text-at-eq112.t s.counted c.if-text-e-eq10.false) ∙ d.loop-e.invariant.5),
    )
