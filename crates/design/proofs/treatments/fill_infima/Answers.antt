use mathlib.Core.Path.{◌≡◌, refl, sym, ap, ap₂, ◌∙◌, subst}
use mathlib.Core.List.{List, []}
use Prim.Native.Nat.{ℕ, ◌-◌, ◌/◌, ◌≤◌}
use native.Mathlib.Omega.{arith}
use borrow.Author.Rules.{rules}
use lib.ListN.{length, take, replicate, length-replicate}
use lib.Seq.{paste}
use Rattle.rules.specs.Factor.{Column, universal}
use Rattle.rules.specs.Closing.{choices}
use Rattle.rules.proofs.Extremes.{length_universal}
use Rattle.design.specs.Treatments.{Room, Infima}
use Rattle.design.proofs.Start.{take_ones}
use Rattle.design.proofs.Choosing.{doubled, doubled_least, doubled_bytes, length_pasted, doubled_first, doubled_room, doubled_next, zero_at, infima_none, last_of, last_none, last_more, last_all}
use Rattle.design.proofs.treatments.fill_infima.Goals as goal
use Rattle.design.proofs.treatments.fill_infima.Goals.{After-put, Start}

-- the first of the ones are as many as plots
length-ones : (c : Start) → length (take {A = ℕ} c.args.n (replicate 240 1)) ≡ c.args.n
length-ones c = ap length (take_ones c.args.n c.requires.1) ∙ length_universal c.args.n

-- there is room for a number of columns each
room : (c : Start) → Room c.args.n (replicate 64 0)
room c = record { some = c.requires.0; most = c.requires.1; cells = length-replicate {A = ℕ} 64 0; small = λ e. rw (zero_at 64 e) (omega arith) }

-- the buffer has room for each infimum, so for one
bytes : (c : Start) → doubled c.args.d 1 ≤ length c.args.infima.now / 240
bytes c = doubled_bytes c.args.d (length c.args.infima.now) c.requires.2 c.requires.7

wide : (c : Start) → 240 ≤ length c.args.infima.now
wide c = omega (arith, bytes c, doubled_least c.args.d 1)

-- U is put
begun : (c : After-put) → let s = (goal.at.After-put c).Start in c.put.new.store ≡ paste s.args.infima.now 0 (universal s.args.n) s.args.n
begun c =
    let s = (goal.at.After-put c).Start in
    c.put.ensures ∙ ap₂ (λ (X : Column) (m : ℕ). paste s.args.infima.now 0 X m) (take_ones s.args.n s.requires.1) (length-ones s)

-- the buffer is as long as it was
same : (c : After-put) → length c.put.new.store ≡ length c.args.infima.now
same c =
    let s = (goal.at.After-put c).Start in
    ap length (begun c) ∙ length_pasted s.args.n s.requires.1 s.args.infima.now 0 (universal s.args.n) (length_universal s.args.n) (omega (arith, wide s))

pub slice_bounds-put-end : goal.slice_bounds-put-end
slice_bounds-put-end c = sym (length-ones (goal.at.slice_bounds-put-end c).Start)

pub put-requires : goal.put-requires
put-requires c =
    let s = (goal.at.put-requires c).Start in
    let l = length-ones s in
    (omega (arith, s.requires.1), wide s)

pub loop-c-init : goal.loop-c-init
loop-c-init c =
    let p = (goal.at.loop-c-init c).After-put in
    let s = (goal.at.loop-c-init c).Start in
    let n = s.args.n in
    let infima = s.args.infima.now in
    let zeros : List ℕ = replicate 64 0 in
    let e = begun p in (
      omega arith,
      doubled_first s.args.d s.requires.2,
      subst (λ (l : ℕ). doubled s.args.d 1 ≤ l / 240) (sym (same p)) (bytes s),
      refl,
      subst (λ (Cs : List (List Column)). Infima n p.put.new.store zeros 1 Cs) (sym (last_none n s.args.k s.args.first s.args.d s.args.levels.now s.args.d refl))
          (subst (λ (b : List ℕ). Infima n b zeros 1 (choices s.args.k [])) (sym e) (infima_none n s.args.k infima zeros (room s) (wide s) (zero_at 64 0))),
    )

pub extend_by-total-requires : goal.extend_by-total-requires
extend_by-total-requires c =
    (c.loop-c.invariant.4.room, doubled_room 64 c.loop-c.c c.loop-c.total c.loop-c-test.true c.loop-c.invariant.1, c.requires.4, omega arith, omega (arith, doubled_room (length c.loop-c.infima / 240) c.loop-c.c c.loop-c.total c.loop-c-test.true c.loop-c.invariant.2))

pub loop-c-preserved : goal.loop-c-preserved
loop-c-preserved c =
    let n = c.args.n in
    let k = c.args.k in
    let d = c.args.d in
    let levels = c.args.levels.now in
    let m = c.loop-c.c in
    let kept : length c.extend_by-total.new.infima ≡ length c.loop-c.infima = search rules in (
      omega arith,
      doubled_next 64 m c.loop-c.total c.extend_by-total.result c.loop-c-test.true c.loop-c.invariant.1 c.extend_by-total.ensures.kept.1,
      subst (λ (l : ℕ). doubled (m - 1) c.extend_by-total.result ≤ l / 240) (sym kept) (doubled_next (length c.loop-c.infima / 240) m c.loop-c.total c.extend_by-total.result c.loop-c-test.true c.loop-c.invariant.2 c.extend_by-total.ensures.kept.1),
      kept ∙ c.loop-c.invariant.3,
      subst (λ (Cs : List (List Column)). Infima n c.extend_by-total.new.infima c.extend_by-total.new.lengths c.extend_by-total.result Cs) (last_more n k c.args.first d levels c.requires.3 m c.loop-c-test.true c.loop-c.invariant.0)
          (c.extend_by-total.ensures.extends (last_of n k c.args.first d levels m) c.loop-c.invariant.4),
    )

pub shape_of-infima : goal.shape_of-infima
shape_of-infima c = c.loop-c.invariant.3 ∙ same (goal.at.shape_of-infima c).After-put

pub returns : goal.returns
returns c =
    let e : c.loop-c.c ≡ 0 = omega arith in
    record {
      few = (c.loop-c.invariant.4.few, c.loop-c.invariant.4.fits);
      columns = c.loop-c.invariant.4.columns ∙ last_all c.args.n c.args.k c.args.first c.args.d c.args.levels.now c.loop-c.c e;
    }
