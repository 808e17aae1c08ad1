use Prim.Native.Nat.{ℕ, suc, ◌+◌, ◌-◌}
use mathlib.Core.Path.{◌≡◌, refl, sym, ◌∙◌}
use mathlib.Core.Bool.{true}
use mathlib.Core.List.{List, ◌∷◌}
use native.Mathlib.Omega.{arith}
use native.Mathlib.Numerals.{add-one}
use native.Mathlib.Nat.{sub-zero}
use lib.ListN.{length, get_or, drop, length-set}
use lib.Seq.{drop-cons}
use Rattle.rules.specs.Sheet.{up_to, fields, with_plot}
use Rattle.sheet.specs.Walk.{level_there}
use Rattle.sheet.proofs.LevelLaws.{then_some, then_on}
use Rattle.sheet.proofs.StoreLaws.{left_start, left_there, left_turn, place_at}
use Rattle.sheet.proofs.rows.store_row.Goals as goal
use Rattle.sheet.proofs.rows.store_row.Goals.{After-level_then}

pub loop-i-init : goal.loop-i-init
loop-i-init c =
    let a = c.args in
    (refl, rw sub-zero (left_start (length a.columns.now) a.columns.now a.u (drop a.start a.text.now) a.start a.levels.now c.requires.0.some c.requires.2))

-- the level at hand is there
module _ (c : After-level_then) where
  abbrev xs : List ℕ
  xs = drop c.loop-i.at c.args.text.now

  there : level_there c.stop_after.result xs ≡ true
  there =
      let left : ℕ = length c.args.columns.now - (c.loop-i.i + 1) in
      let m : length c.args.columns.now - c.loop-i.i ≡ suc left = omega arith in
      rw c.stop_after.ensures (left_there left xs (rw m at c.loop-i.invariant.1).0)

pub unwrap-found-requires : goal.unwrap-found-requires
unwrap-found-requires c = rw (c.level_then.ensures ∙ then_on c.stop_after.result c.loop-i.at (xs c) (there c))

pub bounds-levels-column : goal.bounds-levels-column
bounds-levels-column c =
    let p = place_at c.args.columns.now c.loop-i.i c.requires.0.places (omega arith) in omega (arith, c.requires.0.room)

pub loop-i-preserved : goal.loop-i-preserved
loop-i-preserved c =
    let a = c.args in
    let i = c.loop-i.i in
    let cs = a.columns.now in
    let at = c.loop-i.at in
    let t = then_some c.stop_after.result at (drop at a.text.now) c.unwrap-found.result (sym c.unwrap-found.ensures ∙ c.level_then.ensures) in
    let d : drop i cs ≡ get_or cs i 0 ∷ drop (i + 1) cs = rw add-one (drop-cons cs i 0 (omega arith)) in
    let m : length cs - i ≡ suc (length cs - (i + 1)) = omega arith in
    let r = left_turn (get_or cs i 0) (drop (i + 1) cs) a.u a.text.now at c.unwrap-found.result.end c.loop-i.levels
    (with_plot cs a.u (fields (up_to 10 (drop a.start a.text.now))) a.levels.now) (a.start + suc (length (up_to 10 (drop a.start a.text.now))))
    t.next (length cs - (i + 1)) (rw (m, d) at c.loop-i.invariant.1) in
    (simp length-set c.loop-i.invariant.0, rw t.number r)

pub returns : goal.returns
returns c =
    let a = c.args in
    let m : length a.columns.now - c.loop-i.i ≡ 0 = omega arith in
    let l = rw m at c.loop-i.invariant.1 in
    record {
      next = l.1;
      table = l.0;
    }
