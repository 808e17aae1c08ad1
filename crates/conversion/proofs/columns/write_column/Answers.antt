use Prim.Native.Nat.{ℕ, ◌+◌, ◌*◌}
use mathlib.Core.List.{List}
use mathlib.Core.Path.{◌≡◌, refl, sym, ap, ap₂, ◌∙◌}
use native.Mathlib.Omega.{arith}
use native.Mathlib.Numerals.{add-one}
use lib.ListN.{length, set, length-set}
use lib.Seq.{paste, paste-zero, paste-suc}
use Rattle.conversion.proofs.columns.write_column.Goals as goal

pub loop-u-init : goal.loop-u-init
loop-u-init c =
    let a = c.args in
    (refl, paste-zero a.levels.now (240 * a.c) a.numbers.now)

pub loop-u-preserved : goal.loop-u-preserved
loop-u-preserved c =
    let a = c.args in
    let u = c.loop-u.u in (
      length-set c.loop-u.levels (240 * a.c + u) c.from.result ∙ c.loop-u.invariant.0,
      ap₂ (λ (l : List ℕ) (x : ℕ). set l (240 * a.c + u) x) c.loop-u.invariant.1 c.from.ensures ∙ paste-suc a.levels.now (240 * a.c) a.numbers.now u 0 (omega arith) (omega arith)
          ∙ ap (paste a.levels.now (240 * a.c) a.numbers.now) (sym (add-one u)),
    )

pub shape_of-levels : goal.shape_of-levels
shape_of-levels c = c.loop-u.invariant.0

pub returns : goal.returns
returns c =
    let a = c.args in
    let z : c.loop-u.u ≡ length a.numbers.now = omega arith in
    c.loop-u.invariant.1 ∙ ap (paste a.levels.now (240 * a.c) a.numbers.now) z
