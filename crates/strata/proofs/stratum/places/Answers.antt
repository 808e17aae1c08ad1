use Rattle.std.proofs.Common.{◌≡◌, ℕ, ◌+◌, ◌≤◌, refl, sym, ap, ◌∙◌, not, eqb, map, take, length, get_or, suc, arith}
use borrow.Author.Tests.{ne_eqb}
use Rattle.rules.specs.Factor.{every}
use Rattle.rules.specs.Strata.{stratum}
use Rattle.rules.proofs.Places.{places_start, places_step, places_end}
use Rattle.strata.specs.Family.{members}
use Rattle.strata.specs.Pair.{treatments, stratum_of}
use Rattle.strata.specs.Words.{coarsest}
use Rattle.strata.proofs.StratumLaws.{length_map, every_on, every_fails, passing_le}
use Rattle.strata.proofs.Pairs.{length_treatments, all_placed_is, stratum_is, words_taken, found_place}
use Rattle.strata.proofs.stratum.places.Goals as goal

pub loop-t-init : goal.loop-t-init
unfolding every
loop-t-init c =
    let d = c.args.pair.now in
    (places_start 0 (map (stratum d.plot.plots (members d.plot)) (treatments d)), refl)

pub returns-in_err-place : goal.returns-in_err-place
returns-in_err-place c =
    let d = c.args.pair.now in
    let t = c.loop-t.t in
    let none : 0 ≡ stratum_of d t = c.in_err-place.ensures ∙ found_place d c.args.words.now c.requires t (omega arith) c.candidates-among.result c.candidates-among.ensures in
    rw c.from_residual.ensures
    (all_placed_is d ∙ every_fails (λ k. not (eqb (stratum_of d k) 0)) d.treatment.size t (omega arith) (ap (λ (z : ℕ). not (eqb z 0)) (sym none)))

pub overflow_add-places : goal.overflow_add-places
overflow_add-places c =
    let d = c.args.pair.now in
    let ws = take d.plot.size c.args.words.now in
    record { fits = omega (arith, c.in_ok-place.ensures, passing_le (coarsest ws (length ws) c.candidates-among.result) 0 (length ws), words_taken d c.args.words.now c.requires, d.plot.formed.few) }

pub loop-t-preserved : goal.loop-t-preserved
loop-t-preserved c =
    let d = c.args.pair.now in
    let t = c.loop-t.t in
    let xs = map (stratum d.plot.plots (members d.plot)) (treatments d) in
    let few : d.treatment.size ≤ 32 = d.treatment.formed.few in
    let some : suc c.in_ok-place.place ≡ stratum_of d t = c.in_ok-place.ensures ∙ found_place d c.args.words.now c.requires t (omega arith) c.candidates-among.result c.candidates-among.ensures in
    let e : c.in_ok-place.place + 1 ≡ get_or xs t 0 = omega (arith, some, stratum_is d t (omega arith)) in (
      rw (c.loop-t.invariant.0, e) (places_step 0 xs t (omega arith)),
      every_on (λ k. not (eqb (stratum_of d k) 0)) t c.loop-t.invariant.1 (ap not (ne_eqb (stratum_of d t) 0 (λ z. omega (arith, some, z)))),
    )

pub returns : goal.returns
returns c =
    let d = c.args.pair.now in
    let f = stratum d.plot.plots (members d.plot) in
    let e : c.loop-t.t ≡ d.treatment.size = omega arith in
    let all = rw e at c.loop-t.invariant.1 in
    (all_placed_is d ∙ all, c.loop-t.invariant.0 ∙ places_end 0 (map f (treatments d)) c.loop-t.t (omega (arith, length_map f (treatments d), length_treatments d)))
