use mathlib.Core.Path.{◌≡◌, sym, subst}
use mathlib.Core.List.{List, ◌++◌}
use Prim.Native.Nat.{ℕ, ◌+◌, ◌-◌}
use native.Mathlib.Omega.{arith}
use Rattle.std.proofs.Common.{None}
use lib.Dec.{eqb}
use lib.ListN.{drop}
use borrow.Author.Tests.{eqb-true, eqb-false}
use Rattle.rules.specs.Factor.{Column}
use Rattle.rules.specs.Closing.{only_supremum, products_of, products}
use Rattle.rules.proofs.Numbering.{by_cases}
use Rattle.design.specs.Sides.{Placed, plot_of, plot_members, treatment_members}
use Rattle.design.proofs.Joins.{rows_none, rows_more}
use Rattle.design.proofs.crossing.cross_all.Goals as goal

pub loop-i-init : goal.loop-i-init
loop-i-init c =
    let s = c.args.sides.now in (
      c.requires.0,
      λ a b h k. absurd (omega arith),
      subst (λ (l : List Column). Placed s l c.args.found.now) (sym (rows_none s.plot.plots s.plot.ordered.most s.plot.bytes.now s.plot.size (treatment_members s))) c.requires.1,
    )

pub loop-i-preserved : goal.loop-i-preserved
loop-i-preserved c =
    let s = c.args.sides.now in
    let i = c.loop-i.i - 1 in
    let next : c.loop-i.i ≡ i + 1 = omega (arith, c.loop-i-test.true) in
    let F = plot_of s i in
    let P = plot_members s in
    let T = treatment_members s in
    let none : c.cross_row.result ≡ None = c.in_default.is in (
      c.cross_row.ensures.kept,
      λ a k h l m. by_cases (eqb a i) (λ z. rw (eqb-true a i z) (c.cross_row.ensures.all none k m)) (λ z. c.loop-i.invariant.1 a k (omega (arith, eqb-false a i z)) l m),
      rows_more s.plot.plots s.plot.ordered.most s.plot.bytes.now s.plot.size T i (omega arith)
          (subst (λ (x : ℕ). Placed s (products only_supremum (drop x P) T ++ products_of only_supremum F T) c.cross_row.new.found) next
          (c.cross_row.ensures.places none (products only_supremum (drop c.loop-i.i P) T) c.loop-i.invariant.2)),
    )
