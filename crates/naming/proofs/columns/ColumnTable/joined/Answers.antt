-- `joined` meets its contract: the column before those that are joined is joined with them, or passed.
use mathlib.Core.Bool.{Bool, false}
use mathlib.Core.List.{List, []}
use mathlib.Core.Path.{◌≡◌, sym, ap, ◌∙◌}
use Prim.Native.Nat.{ℕ, suc, ◌-◌, ◌<◌}
use native.Mathlib.Omega.{arith}
use lib.ListN.{length, get_or, take, drop}
use Rattle.std.specs.Prelude.{Option, None, Some, unwrap_or}
use Rattle.rules.proofs.Buffer.{length_members}
use Rattle.rules.specs.Factor.{Column}
use Rattle.rules.specs.Names.{Side as RuleSide}
use Rattle.naming.proofs.SideWalks.{by_none, by_here, by_past}
use Rattle.naming.specs.Columns.{side_of, join_by, made_of}
use Rattle.naming.specs.Tables.{columns_in}
use Rattle.naming.proofs.columns.ColumnTable.joined.Goals as goal
use Rattle.naming.proofs.columns.ColumnTable.joined.Goals.{At-loop-c}

-- the column before those that are joined
module _ (c : At-loop-c) (some : 0 < c.loop-c.c) where
  abbrev side : RuleSide
  side = side_of c.args.self.now.plots c.args.side

  abbrev there : ℕ → Bool
  there = λ j. get_or c.args.there.now j false

  abbrev S : List Column
  S = columns_in c.args.self.now

  abbrev i : ℕ
  i = c.loop-c.c - 1

  less : i < length S
  less = let t = c.args.self.now in omega (arith, length_members t.plots t.placed.few_plots t.bytes.now t.count)

  -- what is joined before it
  before : made_of c.args.self.now.plots side c.loop-c.made ≡ join_by there side (suc i) (drop (suc i) S)
  before =
      let next : c.loop-c.c ≡ suc i = omega arith in
      c.loop-c.invariant ∙ ap (λ (j : ℕ). join_by there side j (drop j S)) next

-- what was made, or what no column makes
unwrapped : (n : ℕ) (s : RuleSide) (made : Option (List ℕ)) (none r : List ℕ) → take n none ≡ s.none → r ≡ unwrap_or made none → take n r ≡ made_of n s made
unwrapped n s None none r e f = ap (take n) f ∙ e
unwrapped n s (Some x) none r e f = ap (take n) f

pub loop-c-init : goal.loop-c-init
loop-c-init c =
    let t = c.args.self.now in
    let size : length (columns_in t) ≡ t.count = length_members t.plots t.placed.few_plots t.bytes.now t.count in
    sym (by_none (λ j. get_or c.args.there.now j false) (side_of t.plots c.args.side) (columns_in t) t.count (omega arith))

pub loop-c-preserved-then-there-c : goal.loop-c-preserved-then-there-c
loop-c-preserved-then-there-c c =
    let b = (goal.at.loop-c-preserved-then-there-c c).At-loop-c in
    let h : 0 < b.loop-c.c = omega arith in
    c.join.ensures ∙ ap ((side b h).join (get_or (S b h) (i b h) [])) (before b h) ∙ sym (by_here (there b h) (side b h) (S b h) (i b h) (less b h) c.if-there-c.true)

pub loop-c-preserved : goal.loop-c-preserved
loop-c-preserved c =
    let b = (goal.at.loop-c-preserved c).At-loop-c in
    let h : 0 < b.loop-c.c = omega arith in
    before b h ∙ sym (by_past (there b h) (side b h) (S b h) (i b h) (less b h) c.if-there-c.false)

pub returns : goal.returns
returns c =
    let t = c.args.self.now in
    let s = side_of t.plots c.args.side in
    let z : c.loop-c.c ≡ 0 = omega arith in
    unwrapped t.plots s c.loop-c.made c.none.result c.unwrap_or.result c.none.ensures c.unwrap_or.ensures ∙ (rw z at c.loop-c.invariant)
