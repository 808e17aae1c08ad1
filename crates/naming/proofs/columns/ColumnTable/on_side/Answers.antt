-- `on_side` meets its contract: the columns before i, and column i.
use mathlib.Core.Bool.{false}
use mathlib.Core.List.{[]}
use mathlib.Core.Path.{◌≡◌, ap, ◌∙◌}
use Prim.Native.Nat.{ℕ, ◌<◌}
use native.Mathlib.Omega.{arith}
use lib.ListN.{length, get_or, length-set}
use lib.Seq.{get_or-set_same, get_or-set_other}
use Rattle.std.proofs.Common.{below_more}
use Rattle.rules.specs.Names.{on_side}
use Rattle.naming.specs.Columns.{side_of}
use Rattle.naming.specs.Tables.{columns_in}
use Rattle.naming.proofs.columns.ColumnTable.on_side.Goals as goal

pub loop-i-preserved : goal.loop-i-preserved
unfolding on_side
loop-i-preserved c =
    let t = c.args.self.now in
    let i = c.loop-i.i in
    let there = c.loop-i.there in
    let r = c.towards.result in
    let F = c.args.member.now in
    let inside : i < length there = omega (arith, t.placed.few, c.loop-i.invariant.0) in
    let here : r ≡ (side_of t.plots c.args.side).towards F (get_or (columns_in t) i []) =
    c.towards.ensures ∙ ap (λ (n : ℕ). (side_of n c.args.side).towards F c.column.result.now) c.requires ∙ ap ((side_of t.plots c.args.side).towards F) c.column.ensures.is in (
      length-set there i r ∙ c.loop-i.invariant.0,
      below_more _ _
          (λ k h. get_or-set_other there i k r false (λ (e : k ≡ i). omega arith) ∙ c.loop-i.invariant.1 k h)
          (get_or-set_same there i r false inside ∙ here),
    )
