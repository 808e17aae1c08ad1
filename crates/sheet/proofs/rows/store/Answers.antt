use mathlib.Core.Path.{refl, sym, ap, ◌∙◌}
use native.Mathlib.Omega.{arith}
use native.Mathlib.Nat.{zero-add}
use lib.ListN.{length, drop}
use Rattle.rules.specs.Sheet.{up_to, fields}
use Rattle.rules.proofs.Sheet.{length_with_plot}
use Rattle.sheet.proofs.StoreLaws.{more_none, more_form, more_turn}
use Rattle.sheet.proofs.rows.store.Goals as goal

pub loop-u-init : goal.loop-u-init
loop-u-init c =
    (omega arith, refl, record { counted = rw zero-add (sym c.requires.1.counted); form = c.requires.1.form; work = refl })

pub store_row-at-requires : goal.store_row-at-requires
store_row-at-requires c =
    let a = c.args in
    let m = c.loop-u.invariant.2 in (
      record { some = c.requires.0.some; places = c.requires.0.places; room = omega (arith, c.requires.0.room) },
      omega (arith, c.requires.1.few),
      more_form a.columns.now (length a.columns.now) c.loop-u.u a.plots a.text.now c.loop-u.at c.loop-u.levels _ m (omega arith),
    )

pub loop-u-preserved : goal.loop-u-preserved
loop-u-preserved c =
    let a = c.args in
    let m = c.loop-u.invariant.2 in
    let w = c.store_row-at.ensures in (
      omega arith,
      ap length w.table ∙ length_with_plot a.columns.now c.loop-u.u (fields (up_to 10 (drop c.loop-u.at a.text.now))) c.loop-u.levels ∙ c.loop-u.invariant.1,
      more_turn a.columns.now (length a.columns.now) c.loop-u.u a.plots a.text.now c.loop-u.at c.loop-u.levels _ m (omega arith) _ _ w.next w.table,
    )

pub shape_of-levels : goal.shape_of-levels
shape_of-levels c = c.loop-u.invariant.1

pub returns : goal.returns
returns c =
    let a = c.args in
    more_none a.columns.now (length a.columns.now) c.loop-u.u a.plots a.text.now c.loop-u.at c.loop-u.levels _ c.loop-u.invariant.2 (omega arith)
