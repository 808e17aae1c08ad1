use mathlib.Core.Path.{◌≡◌, refl, sym, ap, ◌∙◌}
use Prim.Native.Nat.{ℕ, ◌+◌, ◌≤◌, ◌<◌}
use native.Mathlib.Omega.{arith}
use borrow.Author.Rules.{rules}
use lib.ListN.{length, get_or, take, set, length-set}
use lib.Seq.{get_or-take, length-take-le}
use Rattle.rules.specs.Limits.{most_plots}
use Rattle.rules.specs.Factor.{at, number, classes}
use Rattle.rules.proofs.Numbering.{length_number}
use Rattle.factor.proofs.Fill.{filled_step}
use Rattle.numbering.specs.Seen.{bucket_of, look, found}
use Rattle.numbering.proofs.Written.{walked, walked_plots, filled_number}
use Rattle.numbering.proofs.Chain.{found_is, found_none, Seen, seen_is, seen_none, seen_old, seen_new}
use Rattle.numbering.proofs.number_levels.Goals as goal
use Rattle.numbering.proofs.number_levels.Goals.{Joined-look_up, in-Some, in-None}

-- the label of plot u is looked up and, where it is new, entered: then u + 1 plots are seen, and c is the number of plot u
stepped : (c : Joined-look_up)
    → let b = c.before in
    let levels = b.args.levels.now in
    let new = c.match-look_up.classes in
    Seen levels (b.loop-u.u + 1) new.labels new.chain new.last new.count
    × (c.match-look_up.c ≡ at (number levels) b.loop-u.u) × (c.match-look_up.c ≤ b.loop-u.classes.count + 1) × (new.count ≤ b.loop-u.classes.count + 1)
stepped c =
    let b = c.before in
    let levels = b.args.levels.now in
    let u = b.loop-u.u in
    let labels = b.loop-u.classes.labels in
    let chain = b.loop-u.classes.chain in
    let last = b.loop-u.classes.last in
    let k = b.loop-u.classes.count in
    let n = b.common_plots-n.result in
    let part : length (take n levels) ≡ n = length-take-le n levels (omega arith) in
    let h : u < length levels = omega (arith, part) in
    let few : k < most_plots = omega (arith, part) in
    let item : get_or (take n levels) u 0 ≡ at levels u = get_or-take n levels u 0 (omega (arith, part)) in
    let told : c.look_up.result ≡ found (look labels chain last (at levels u)) = c.look_up.ensures ∙ ap (λ (y : ℕ). found (look labels chain last y)) item in
    elim c.match-look_up.branch [
      | in-None w ↦ let t = seen_new levels u labels chain last k b.loop-u.invariant.3 h few (found_none _ (sym w.in-None.is ∙ told)) in
          let e = w.add-c.ensures in
          rw (w.classes-is, w.c-is) (
            seen_is levels (u + 1)
                (e.labels ∙ ap (λ (y : ℕ). set labels (k + 1) y) item)
                (e.chain ∙ ap (λ (y : ℕ). set chain (k + 1) (get_or last (bucket_of y) 0)) item)
                (e.last ∙ ap (λ (y : ℕ). set last (bucket_of y) (k + 1)) item) e.count t.0,
            e.number ∙ t.1,
            omega (arith, e.number),
            omega (arith, e.count),
          )
      | in-Some w ↦ let f = found_is w.in-Some.c _ (sym w.in-Some.is ∙ told) in
          let t = seen_old levels u labels chain last k b.loop-u.invariant.3 h f.1 in
          rw (w.classes-is, w.c-is) (t.0, sym f.0 ∙ t.1, omega (arith, f.0, t.2), omega arith)
    ]

pub invariant_of-classes : goal.invariant_of-classes
invariant_of-classes c = let none = seen_none c.args.levels.now in record { few = omega arith; chained = none.chained }

pub loop-u-init : goal.loop-u-init
loop-u-init c = (omega arith, refl, search rules, seen_none c.args.levels.now)

pub overflow_cast-room : goal.overflow_cast-room
overflow_cast-room c =
    let n = c.common_plots-n.result in
    let part : length (take n c.args.levels.now) ≡ n = length-take-le n c.args.levels.now (omega arith) in
    let t = (stepped (goal.at.overflow_cast-room c).Joined-look_up).2 in
    omega (arith, part)

pub loop-u-preserved : goal.loop-u-preserved
loop-u-preserved c =
    let levels = c.args.levels.now in
    let out = c.args.out.now in
    let u = c.loop-u.u in
    let t = stepped (goal.at.loop-u-preserved c).Joined-look_up in
    let n = c.common_plots-n.result in
    let part : length (take n levels) ≡ n = length-take-le n levels (omega arith) in
    let h : u < length (number levels) = rw length_number (omega (arith, part)) in
    let room : length out ≡ most_plots = search rules in
    let l : u < length out = omega (arith, part, room) in
    (omega (arith, t.3), rw (t.1, c.loop-u.invariant.1) (filled_step out (number levels) u 0 h l), simp length-set c.loop-u.invariant.2, t.0)

pub returns : goal.returns
returns c =
    let levels = c.args.levels.now in
    let n = c.common_plots-n.result in
    let part : length (take n levels) ≡ n = length-take-le n levels (omega arith) in
    let e : c.loop-u.u ≡ walked levels c.args.stop = omega (arith, part) in
    record {
      answer = c.loop-u.invariant.3.count ∙ rw e (ap classes (walked_plots levels c.args.stop));
      numbers = c.loop-u.invariant.1 ∙ rw e (filled_number levels c.args.stop c.args.out.now);
    }
