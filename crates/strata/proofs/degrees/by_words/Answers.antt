use mathlib.Core.Path.{◌≡◌, ap, ◌∙◌}
use Prim.Native.Nat.{ℕ, ◌≤◌, ◌<◌}
use native.Mathlib.Omega.{arith}
use lib.IntN.{ℤ, pos}
use lib.ListN.{length, get_or}
use mir.Syntax.{w64}
use mir.Val.{of_z, to_z}
use mir.ValLaws.{to_z-of_z}
use Rattle.rules.specs.Factor.{classes}
use Rattle.rules.specs.Degrees.{degrees}
use Rattle.rules.proofs.Places.{places_start, places_step, places_end}
use Rattle.rules.proofs.DegreesLaws.{length_degrees}
use Rattle.strata.specs.Family.{members, column}
use Rattle.strata.proofs.Lent.{size_members}
use Rattle.strata.proofs.Slices.{taken_length}
use Rattle.strata.proofs.Sums.{small_fits}
use Rattle.strata.proofs.DegreeTurns.{small_degrees, counted_fits, counted_small, known_length, known_small, number_turn}
use Rattle.strata.proofs.degrees.by_words.Goals as goal

pub loop-i-init : goal.loop-i-init
loop-i-init c =
    let f = c.args.family.now in
    places_start (pos 0) (degrees f.plots (members f))

pub overflow_cast-own : goal.overflow_cast-own
overflow_cast-own c =
    let is = c.counted-own.ensures.member in
    counted_fits c.args.family.now c.counted-own.result.place is.within c.counted-own.result.classes is.counted

pub less-number-requires : goal.less-number-requires
less-number-requires c =
    let f = c.args.family.now in
    let i = c.loop-i.i in
    let m = c.counted-own.result in
    let own = c.counted-own.ensures.member.counted ∙ ap (λ (k : ℕ). classes (column f k)) c.counted-own.ensures.place in
    let h : i < f.size = omega (arith, c.counted-own.ensures.member.within, c.counted-own.ensures.place) in
    let few : f.size ≤ 32 = f.formed.few in (
      omega (arith, known_length f i h m.classes own c.args.words.now c.loop-i.numbers c.requires c.loop-i.invariant),
      counted_small f i h m.classes own,
      known_small f i h m.classes own c.args.words.now c.loop-i.numbers c.requires c.loop-i.invariant,
    )

pub loop-i-preserved : goal.loop-i-preserved
loop-i-preserved c =
    let f = c.args.family.now in
    let i = c.loop-i.i in
    let xs = degrees f.plots (members f) in
    let own = c.counted-own.ensures.member.counted ∙ ap (λ (k : ℕ). classes (column f k)) c.counted-own.ensures.place in
    let h : i < f.size = omega (arith, c.counted-own.ensures.member.within, c.counted-own.ensures.place) in
    let few : f.size ≤ 32 = f.formed.few in
    let e : c.less-number.result ≡ get_or xs i (pos 0) = c.less-number.ensures ∙ number_turn f i h c.counted-own.result.classes own c.args.words.now c.loop-i.numbers c.requires c.loop-i.invariant in
    let v : to_z w64 (of_z w64 c.less-number.result) ≡ get_or xs i (pos 0) =
    ap (λ (z : ℤ). to_z w64 (of_z w64 z)) e ∙ to_z-of_z w64 (get_or xs i (pos 0)) (small_fits (get_or xs i (pos 0)) (small_degrees f.formed i)) in
    rw (c.loop-i.invariant, v) (places_step (pos 0) xs i (omega arith))

pub returns : goal.returns
returns c =
    let f = c.args.family.now in
    let l : length (degrees f.plots (members f)) ≡ f.size = length_degrees f.plots (members f) ∙ size_members f.formed in
    let few : f.size ≤ 32 = f.formed.few in
    c.loop-i.invariant ∙ places_end (pos 0) (degrees f.plots (members f)) c.loop-i.i (omega (arith, taken_length c.args.words.now f.size (omega arith)))
