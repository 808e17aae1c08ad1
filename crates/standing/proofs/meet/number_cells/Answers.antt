use mathlib.Core.Path.{◌≡◌, refl, sym, ap, ap₂, ◌∙◌}
use mathlib.Core.List.{List}
use Prim.Native.Nat.{ℕ, ◌<◌}
use native.Mathlib.Omega.{arith}
use lib.ListN.{length, set, length-set}
use lib.Seq.{take-length}
use Rattle.rules.specs.Factor.{at, number}
use Rattle.rules.proofs.Numbering.{length_number}
use Rattle.factor.specs.Lent.{overlay}
use Rattle.factor.proofs.Fill.{filled_step}
use Rattle.factor.proofs.Table.{classes_none}
use Rattle.standing.proofs.Codes.{codes_of, length_codes, codes_at, number_codes, classes_codes}
use Rattle.standing.proofs.CellTable.{inside_below}
use Rattle.standing.proofs.meet.number_cells.Goals as goal

pub loop-u-init : goal.loop-u-init
loop-u-init g c =
    let columns = c.args.columns in
    let none = c.new-numbers.ensures (codes_of columns.past_g columns.f.now columns.g.now) in
    (omega arith, omega (arith, none.total, classes_none), none, refl)

pub number-requires : goal.number-requires
number-requires g c =
    let k = c.args.columns in
    let r = k.in_ranges in
    (omega (arith, c.requires.fits), (omega (arith, c.requires.inside, inside_below k.past_f k.past_g g.row.N k.f.now k.g.now r.even r.below_f r.below_g c.requires.inside c.loop-u.u (omega arith)), omega (arith, c.loop-u.invariant.1, r.few)))

pub loop-u-preserved : goal.loop-u-preserved
loop-u-preserved g c =
    let k = c.args.columns in
    let r = k.in_ranges in
    let codes = codes_of k.past_g k.f.now k.g.now in
    let l : length k.f.now ≡ length k.g.now = sym r.even in
    let u = c.loop-u.u in
    let h : u < length k.f.now = omega arith in
    let hu : u < length codes = rw (length_codes k.past_g k.f.now k.g.now l) h in
    let n = c.number.ensures.numbered codes u hu (codes_at k.past_g k.f.now k.g.now l u h) c.loop-u.invariant.2 in
    let room : u < length c.args.out.now = omega (arith, r.few) in (
      simp length-set c.loop-u.invariant.0,
      omega (arith, c.number.ensures.grown, c.loop-u.invariant.1),
      n.1,
      ap₂ (λ (l : List ℕ) (y : ℕ). set l u y) c.loop-u.invariant.3 n.0 ∙ filled_step c.args.out.now (number codes) u 0 (rw length_number hu) room,
    )

pub returns : goal.returns
returns g c =
    let k = c.args.columns in
    let r = k.in_ranges in
    let codes = codes_of k.past_g k.f.now k.g.now in
    let l : length k.f.now ≡ length k.g.now = sym r.even in
    let long : length codes ≡ length k.f.now = length_codes k.past_g k.f.now k.g.now l in
    let bytes : (u : ℕ) → u < length k.f.now → at k.g.now u < k.past_g = λ u h. r.below_g u (rw r.even h) in
    let e : c.loop-u.u ≡ length codes = omega (arith, long) in
    let q : c.loop-u.u ≡ length (number codes) = e ∙ sym (length_number codes) in
    record {
      answer = c.loop-u.invariant.2.total ∙ rw (e, take-length codes) (classes_codes k.past_g k.f.now k.g.now l bytes);
      numbers = c.loop-u.invariant.3 ∙ rw (q, take-length (number codes)) (ap (overlay c.args.out.now) (number_codes k.past_g k.f.now k.g.now l bytes));
    }
