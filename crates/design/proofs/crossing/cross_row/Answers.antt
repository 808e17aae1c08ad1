use mathlib.Core.Path.{◌≡◌, sym, ◌∙◌, subst}
use mathlib.Core.Bool.{true}
use mathlib.Core.List.{List, ◌∷◌, [], ◌++◌}
use Prim.Native.Nat.{ℕ, ◌+◌, ◌-◌}
use native.Mathlib.Omega.{arith}
use lib.Dec.{eqb}
use lib.ListN.{drop}
use borrow.Author.Tests.{eqb-true, eqb-false}
use Rattle.rules.specs.Factor.{Column}
use Rattle.rules.specs.Closing.{only_supremum, products_of}
use Rattle.rules.proofs.Numbering.{by_cases}
use Rattle.design.specs.Sides.{Placed, test_of, plot_of, supremum_of, treatment_members}
use Rattle.design.proofs.Joins.{row_none, row_more}
use Rattle.design.proofs.crossing.cross_row.Goals as goal

pub loop-j-init : goal.loop-j-init
loop-j-init c =
    let s = c.args.sides.now in (
      c.requires.1,
      λ k a b. absurd (omega arith),
      λ As p. subst (λ (l : List Column). Placed s l c.args.found.now) (sym (row_none s.plot.plots s.plot.ordered.most s.treatment.bytes.now s.treatment.size As (plot_of s c.args.i))) p,
    )

pub cross_pair-requires : goal.cross_pair-requires
cross_pair-requires c = (c.requires.0, omega arith, c.loop-j.invariant.0)

pub loop-j-preserved : goal.loop-j-preserved
loop-j-preserved c =
    let s = c.args.sides.now in
    let j = c.loop-j.j - 1 in
    let e : test_of s c.args.i j ≡ true = sym c.cross_pair.ensures.test ∙ c.if-not-cross_pair.false in
    let next : c.loop-j.j ≡ j + 1 = omega (arith, c.loop-j-test.true) in
    let F = plot_of s c.args.i in
    let T = treatment_members s in (
      c.cross_pair.ensures.kept,
      λ k a h. by_cases (eqb k j) (λ z. rw (eqb-true k j z) e) (λ z. c.loop-j.invariant.1 k (omega (arith, eqb-false k j z)) h),
      λ As p.
          row_more s.plot.plots s.plot.ordered.most s.treatment.bytes.now s.treatment.size As F j (omega arith)
          (subst (λ (x : ℕ). Placed s ((As ++ products_of only_supremum F (drop x T)) ++ supremum_of s c.args.i j ∷ []) c.cross_pair.new.found) next
          (c.cross_pair.ensures.places c.if-not-cross_pair.false (As ++ products_of only_supremum F (drop c.loop-j.j T)) (c.loop-j.invariant.2 As p))),
    )

pub returns-clause-places : goal.returns-clause-places
returns-clause-places c =
    let s = c.args.sides.now in
    let e : c.loop-j.j ≡ 0 = omega arith in
    λ _ As p. subst (λ (x : ℕ). Placed s (As ++ products_of only_supremum (plot_of s c.args.i) (drop x (treatment_members s))) c.loop-j.found) e (c.loop-j.invariant.2 As p)
