use mathlib.Core.Path.{◌≡◌, sym, ap, ◌∙◌, subst}
use Prim.Native.Nat.{ℕ, ◌<◌}
use native.Mathlib.Omega.{arith}
use lib.ListN.{length}
use lib.Seq.{get_or-take}
use Rattle.rules.specs.Factor.{Column, at, infimum}
use Rattle.standing.specs.Cells.{Cover}
use Rattle.standing.proofs.Listing.{cover_none, cover_new, cover_old, cover_classes, cover_listed, number_new, number_old}
use Rattle.standing.proofs.meet.list_cells.Goals as goal
use Rattle.standing.proofs.meet.list_cells.Goals.{else-cells-below, then-cells-below}

pub loop-u-init : goal.loop-u-init
loop-u-init c =
    let e = c.new-cells.ensures in
    rw (e.first, e.second, e.none) (cover_none c.args.columns.f.now c.args.columns.g.now)

pub push-requires : goal.push-requires
push-requires c = omega (arith, c.loop-u.invariant.few, c.args.columns.in_ranges.few)

pub loop-u-preserved : goal.loop-u-preserved
loop-u-preserved c =
    let F = c.args.columns.f.now in
    let G = c.args.columns.g.now in
    let r = c.args.columns.in_ranges in
    let l : length F ≡ length G = sym r.even in
    let b = c.loop-u in
    let cover : Cover b.u F G b.cells.f b.cells.g b.cells.count = b.invariant in
    let h : b.u < length F = omega arith in
    let number : at c.args.below.now b.u ≡ at (infimum F G) b.u = sym (get_or-take (length F) c.args.below.now b.u 0 h) ∙ ap (λ (x : Column). at x b.u) c.requires in
    elim c.if-cells-below.branch [
      | then-cells-below w ↦ let p = w.push.ensures in
          rw (w.cells-is, p.first, p.second, p.count) (cover_new b.u F G b.cells.f b.cells.g b.cells.count cover l h (number_new F G l b.u h (omega (arith, cover.total, number, w.if-cells-below.true))) (omega (arith, cover.few, r.few)))
      | else-cells-below w ↦ rw w.cells-is (cover_old b.u F G b.cells.f b.cells.g b.cells.count cover l h (number_old F G l b.u h (omega (arith, cover.total, number, w.if-cells-below.false))))
    ]

pub returns : goal.returns
returns c =
    let F = c.args.columns.f.now in
    let G = c.args.columns.g.now in
    let r = c.args.columns.in_ranges in
    let X = c.loop-u.cells.f in
    let Y = c.loop-u.cells.g in
    let m = c.loop-u.cells.count in
    let e : c.loop-u.u ≡ length F = omega arith in
    let cover = subst (λ (n : ℕ). Cover n F G X Y m) e c.loop-u.invariant in
    record {
      answer = cover_classes F G X Y m (sym r.even) r.few cover;
      list = cover_listed F G X Y m (sym r.even) r.few cover;
    }
