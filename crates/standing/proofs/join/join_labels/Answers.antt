use mathlib.Core.Path.{◌≡◌, refl, sym, ap, ◌∙◌, subst}
use mathlib.Core.List.{List, ◌++◌}
use Prim.Native.Nat.{ℕ, ◌+◌, ◌<◌, ◌≤◌}
use native.Mathlib.Omega.{arith}
use lib.ListN.{length, get_or, take, drop, length-set}
use lib.Seq.{length-take-le, take_at}
use Rattle.std.proofs.Common.{Option, None, Some}
use Rattle.rules.specs.Factor.{Column, at}
use Rattle.rules.proofs.Supremum.{length_relabel}
use Rattle.standing.specs.Joining.{OneEntry, relabelled}
use Rattle.standing.proofs.Joining.{length_relabelled, relabelled_same, relabelled_byte, relabelled_part, one_value, or_none, Sound, sound_own, Linked, linked_none, linked_new, Met, met, linked_old, sound_old, joined_all, joined_one}
use Rattle.standing.proofs.join.join_labels.Goals as goal
use Rattle.standing.proofs.join.join_labels.Goals.{In-loop-u, Then-one, in-None, in-Some+then-a-b+else-one, in-Some+else-a-b}

-- what is known in a turn
module _ (c : In-loop-u) where
  abbrev f : Column
  f = c.args.f.now

  abbrev g : Column
  g = c.args.g.now

  abbrev wide : ℕ
  wide = c.next_multiple_of-wide.result

  abbrev u : ℕ
  u = c.loop-u.u

  abbrev first : List (Option ℕ)
  first = c.loop-u.first

  abbrev entries : List ℕ
  entries = c.loop-u.entries

  room : wide ≤ length entries
  room = omega (arith, c.loop-u.invariant.0, c.next_multiple_of-wide.ensures.multiple, c.next_multiple_of-wide.ensures.upper_bound, c.requires.few)

  below : (v : ℕ) → v < length f → at f v < wide
  below v h = omega (arith, c.requires.below v h, c.next_multiple_of-wide.ensures.lower_bound)

  -- a plot of the same class in g was met before, of the label w: the labels are joined
  module _ (w : ℕ) (held : get_or first (at g u) None ≡ Some w) (t : List ℕ) (e : t ≡ relabelled wide (at entries (at f u)) (at entries w) entries) where
    abbrev earlier : Met f g u first entries
    earlier = met f g u first entries c.loop-u.invariant.3 w held

    label_is : w ≡ at f earlier.plot
    label_is = ap or_none (sym held ∙ earlier.holds)

    here : u < length f
    here = omega arith

    merged_is : t ≡ relabelled wide (at entries (at f u)) (at entries (at f earlier.plot)) entries
    merged_is = e ∙ ap (λ (x : ℕ). relabelled wide (at entries (at f u)) (at entries x) entries) label_is

    long : length t ≡ 256
    long = ap length e ∙ length_relabelled wide entries room (at entries (at f u)) (at entries w) ∙ c.loop-u.invariant.0

    inside : w < wide
    inside = rw label_is (below earlier.plot (omega (arith, earlier.less, here)))

    bytes : (x : ℕ) → x < wide → at t x < 256
    bytes x h = rw e (relabelled_byte wide entries room (at entries (at f u)) (at entries w) x h (c.loop-u.invariant.2 w inside) (c.loop-u.invariant.2 x h))

    linked_next : Linked f g (u + 1) first t
    linked_next = rw merged_is (linked_old f g c.requires.even u first entries c.loop-u.invariant.3 c.loop-u.invariant.4 earlier here wide room below)

    sound_next : Sound f g t
    sound_next = rw merged_is (sound_old f g c.requires.even u first entries c.loop-u.invariant.3 c.loop-u.invariant.4 earlier here wide room below)

pub loop-u-init : goal.loop-u-init
loop-u-init c =
    let f = c.args.f.now in
    let own = c.apart-entries.ensures in (
      own.long,
      refl,
      λ x h. own.bytes x (omega (arith, c.next_multiple_of-wide.ensures.multiple, c.next_multiple_of-wide.ensures.upper_bound, c.requires.few)),
      linked_none f c.args.g.now c.apart-entries.result,
      sound_own f c.args.g.now c.requires.even c.apart-entries.result (λ u h. own.own (at f u) (c.least_label.ensures u h) (c.requires.below u h)),
    )

pub loop-u-preserved : goal.loop-u-preserved
loop-u-preserved c =
    let k = (goal.at.loop-u-preserved c).In-loop-u in
    let i = k.loop-u.invariant in
    elim c.match-first-y.branch [
      | in-None w ↦ (
        ap length w.entries-is ∙ i.0,
        ap length w.first-is ∙ simp length-set i.1,
        λ x h. rw w.entries-is (i.2 x h),
        rw (w.entries-is, w.first-is) (linked_new (f k) (g k) (u k) (first k) (entries k) i.3 w.in-None.is (omega (arith, i.1))),
        rw w.entries-is i.4,
      )
      | in-Some+then-a-b+else-one w ↦ let e = w.entries-is ∙ relabelled_part (wide k) _ _ (entries k) _ w.relabel-one.ensures.entries in
          let held = w.in-Some.is in (
            long k w.in-Some.w held _ e,
            ap length w.first-is ∙ i.1,
            bytes k w.in-Some.w held _ e,
            rw w.first-is (linked_next k w.in-Some.w held _ e),
            sound_next k w.in-Some.w held _ e,
          )
      | in-Some+else-a-b w ↦ let same = ap (λ (b : ℕ). relabelled (wide k) (at (entries k) (at (f k) (u k))) b (entries k)) (sym w.if-a-b.false) ∙ relabelled_same (wide k) (entries k) (room k) (at (entries k) (at (f k) (u k))) in
          let e = w.entries-is ∙ sym same in
          let held = w.in-Some.is in (
            long k w.in-Some.w held _ e,
            ap length w.first-is ∙ i.1,
            bytes k w.in-Some.w held _ e,
            rw w.first-is (linked_next k w.in-Some.w held _ e),
            sound_next k w.in-Some.w held _ e,
          )
    ]

-- the walk ends early: all entries have come to be one
module _ (c : Then-one) where
  abbrev k : In-loop-u
  k = (goal.at.Then-one c).In-loop-u

  abbrev ended : List ℕ
  ended = c.relabel-one.new.entries ++ drop (wide k) (entries k)

  ended_is : ended ≡ relabelled (wide k) (at (entries k) (at (f k) (u k))) (at (entries k) c.in-Some.w) (entries k)
  ended_is = relabelled_part (wide k) _ _ (entries k) _ c.relabel-one.ensures.entries

  part : length c.relabel-one.new.entries ≡ wide k
  part = ap length c.relabel-one.ensures.entries ∙ length_relabel (at (entries k) (at (f k) (u k))) (at (entries k) c.in-Some.w) (take (wide k) (entries k)) ∙ length-take-le (wide k) (entries k) (room k)

  one : OneEntry (wide k) ended
  one =
      let first : take (wide k) ended ≡ c.relabel-one.new.entries = take_at c.relabel-one.new.entries (drop (wide k) (entries k)) (wide k) part in
      one_value (wide k) (at (entries k) c.in-Some.w) ended (omega (arith, room k, long k c.in-Some.w c.in-Some.is _ ended_is, k.loop-u.invariant.0)) (rw first (c.relabel-one.ensures.all.0 c.if-one.true))

pub invariant_of-result-clause-bytes : goal.invariant_of-result-clause-bytes
invariant_of-result-clause-bytes c = λ x h. bytes (k c) c.in-Some.w c.in-Some.is _ (ended_is c) x (omega (arith, c.next_multiple_of-wide.ensures.lower_bound))

pub invariant_of-result-clause-joined : goal.invariant_of-result-clause-joined
invariant_of-result-clause-joined c = λ e x y hx hy. one c x y (omega (arith, c.next_multiple_of-wide.ensures.lower_bound)) (omega (arith, c.next_multiple_of-wide.ensures.lower_bound))

pub returns-then-one-clause-entries : goal.returns-then-one-clause-entries
returns-then-one-clause-entries c =
    let t = (goal.at.returns-then-one-clause-entries c).Then-one in
    let i = k t in
    joined_one (f i) (g i) c.requires.even (wide i) (ended t) (below i) (one t) (sound_next i c.in-Some.w c.in-Some.is _ (ended_is t))

pub returns-clause-entries : goal.returns-clause-entries
returns-clause-entries c =
    let f = c.args.f.now in
    let g = c.args.g.now in
    let i = c.loop-u.invariant in
    let e : c.loop-u.u ≡ length f = omega arith in
    joined_all f g c.requires.even c.loop-u.first c.loop-u.entries (subst (λ (n : ℕ). Linked f g n c.loop-u.first c.loop-u.entries) e i.3) i.4
