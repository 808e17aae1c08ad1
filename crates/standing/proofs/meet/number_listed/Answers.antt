use mathlib.Core.Path.{◌≡◌, refl, sym, ap, ap₂, ◌∙◌, subst}
use mathlib.Core.List.{List}
use Prim.Native.Nat.{ℕ, ◌+◌, ◌<◌}
use native.Mathlib.Omega.{arith}
use lib.ListN.{length, set, length-set}
use lib.Seq.{take-length}
use Rattle.rules.specs.Factor.{at, number}
use Rattle.rules.proofs.Numbering.{length_number}
use Rattle.factor.specs.Lent.{overlay}
use Rattle.factor.proofs.Fill.{filled_step}
use Rattle.factor.proofs.Table.{classes_none}
use Rattle.standing.specs.Cells.{Cover}
use Rattle.standing.proofs.Codes.{codes_of, length_codes, codes_at, number_codes, classes_first}
use Rattle.standing.proofs.CellTable.{inside_below}
use Rattle.standing.proofs.Listing.{cover_new, cover_old, cover_classes, cover_listed, count_new, count_old}
use Rattle.standing.proofs.meet.number_listed.Goals as goal
use Rattle.standing.proofs.meet.number_listed.Goals.{else-numbers-met, then-numbers-met}

pub loop-u-init : goal.loop-u-init
loop-u-init g c =
    let k = c.args.columns in
    let none = c.new-numbers.ensures (codes_of k.past_g k.f.now k.g.now) in
    (omega arith, omega (arith, none.total, classes_none), none, refl, c.requires.none)

pub number-requires : goal.number-requires
number-requires g c =
    let k = c.args.columns in
    let r = k.in_ranges in
    (omega (arith, c.requires.fits), (omega (arith, c.requires.inside, inside_below k.past_f k.past_g g.row.N k.f.now k.g.now r.even r.below_f r.below_g c.requires.inside c.loop-u.u (omega arith)), omega (arith, c.loop-u.invariant.1, r.few)))

pub push-requires : goal.push-requires
push-requires g c = omega (arith, c.loop-u.invariant.4.few, c.args.columns.in_ranges.few)

pub loop-u-preserved : goal.loop-u-preserved
loop-u-preserved g c =
    let k = c.args.columns in
    let r = k.in_ranges in
    let F = k.f.now in
    let G = k.g.now in
    let codes = codes_of k.past_g F G in
    let l : length F ≡ length G = sym r.even in
    let bytes : (u : ℕ) → u < length F → at G u < k.past_g = λ u h. r.below_g u (rw r.even h) in
    let b = c.loop-u in
    let u = b.u in
    let h : u < length F = omega arith in
    let hu : u < length codes = rw (length_codes k.past_g F G l) h in
    let n = c.number.ensures.numbered codes u hu (codes_at k.past_g F G l u h) b.invariant.2 in
    let room : u < length c.args.out.now = omega (arith, r.few) in
    let cover : Cover u F G b.cells.f b.cells.g b.cells.count = b.invariant.4 in
    let before = b.invariant.2.total ∙ classes_first k.past_g F G l bytes u in
    let after = n.1.total ∙ classes_first k.past_g F G l bytes (u + 1) in (
      simp length-set b.invariant.0,
      omega (arith, c.number.ensures.grown, b.invariant.1),
      n.1,
      ap₂ (λ (l : List ℕ) (y : ℕ). set l u y) b.invariant.3 n.0 ∙ filled_step c.args.out.now (number codes) u 0 (rw length_number hu) room,
      elim c.if-numbers-met.branch [
        | then-numbers-met w ↦ let p = w.push.ensures in
            rw (w.cells-is, p.first, p.second, p.count) (cover_new u F G b.cells.f b.cells.g b.cells.count cover l h (count_new F G l u h (λ e. w.if-numbers-met.true (after ∙ e ∙ sym before))) (omega (arith, cover.few, r.few)))
        | else-numbers-met w ↦ rw w.cells-is (cover_old u F G b.cells.f b.cells.g b.cells.count cover l h (count_old F G l u h (sym after ∙ w.if-numbers-met.false ∙ before)))
      ],
    )

pub returns : goal.returns
returns g c =
    let k = c.args.columns in
    let r = k.in_ranges in
    let F = k.f.now in
    let G = k.g.now in
    let codes = codes_of k.past_g F G in
    let l : length F ≡ length G = sym r.even in
    let long : length codes ≡ length F = length_codes k.past_g F G l in
    let bytes : (u : ℕ) → u < length F → at G u < k.past_g = λ u h. r.below_g u (rw r.even h) in
    let X = c.loop-u.cells.f in
    let Y = c.loop-u.cells.g in
    let m = c.loop-u.cells.count in
    let e : c.loop-u.u ≡ length F = omega arith in
    let q : c.loop-u.u ≡ length (number codes) = e ∙ sym long ∙ sym (length_number codes) in
    let cover = subst (λ (n : ℕ). Cover n F G X Y m) e c.loop-u.invariant.4 in
    record {
      answer = cover_classes F G X Y m l r.few cover;
      list = cover_listed F G X Y m l r.few cover;
      numbers = c.loop-u.invariant.3 ∙ rw (q, take-length (number codes)) (ap (overlay c.args.out.now) (number_codes k.past_g F G l bytes));
    }
