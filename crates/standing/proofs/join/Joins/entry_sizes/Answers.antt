use mathlib.Core.Path.{◌≡◌, refl, sym, ◌∙◌}
use mathlib.Core.List.{List}
use Prim.Native.Nat.{ℕ, ◌+◌, ◌<◌}
use native.Mathlib.Omega.{arith}
use lib.ListN.{length, take, replicate, length-set, get_or-replicate}
use lib.Seq.{get_or-take, length-take-le}
use Rattle.rules.specs.Factor.{Column, at}
use Rattle.factor.specs.Sizes.{labelled}
use Rattle.factor.proofs.Table.{get_d_zeros}
use Rattle.standing.proofs.Joining.{one_entry}
use Rattle.standing.proofs.CellTable.{entry_sizes_one, entry_sizes_all, entered, entered_le, entered_none, entered_all, entered_here, entered_step}
use Rattle.standing.proofs.join.Joins.entry_sizes.Goals as goal
use Rattle.standing.proofs.join.Joins.entry_sizes.Goals.{In-loop-x}

-- what is known in a turn
module _ (c : In-loop-x) where
  abbrev f : Column
  f = c.args.f.now

  abbrev table : List ℕ
  table = c.args.self.now.entries

  abbrev x : ℕ
  x = c.loop-x.x

  long : length (take c.args.self.now.top table) ≡ c.args.self.now.top
  long = length-take-le c.args.self.now.top table (omega (arith, c.args.self.now.within))

  inside : x < c.args.self.now.top
  inside = omega (arith, long)

  entry : at (take c.args.self.now.top table) x ≡ at table x
  entry = get_or-take c.args.self.now.top table x 0 inside

  byte : at table x < 256
  byte = c.args.self.now.bytes x inside

  size : at c.args.in_f.now x ≡ labelled (length f) f x
  size = c.requires.sizes x (omega (arith, inside, c.args.self.now.within))

pub loop-x-init : goal.loop-x-init
loop-x-init c = (refl, λ y h. get_d_zeros 256 y ∙ sym (entered_none c.args.self.now.entries c.args.f.now y))

pub overflow_add-sizes : goal.overflow_add-sizes
overflow_add-sizes c =
    let k = (goal.at.overflow_add-sizes c).In-loop-x in
    rw (entry k) (omega (arith, c.loop-x.invariant.1 (at (table k) (x k)) (byte k), size k, entered_here (table k) (f k) (x k), entered_le (table k) (f k) (x k + 1) (at (table k) (x k)), c.requires.few))

pub loop-x-preserved : goal.loop-x-preserved
loop-x-preserved c =
    let k = (goal.at.loop-x-preserved c).In-loop-x in
    (simp length-set c.loop-x.invariant.0, rw (entry k) (entered_step (table k) (f k) c.loop-x.sizes (x k) (at c.args.in_f.now (x k)) c.loop-x.invariant.0 (byte k) (size k) c.loop-x.invariant.1))

pub returns-then-self : goal.returns-then-self
returns-then-self c =
    let f = c.args.f.now in
    let s = c.args.self.now in
    entry_sizes_one s.entries f (one_entry f s.top s.entries c.requires.below (s.joined c.if-self.true)) (replicate 256 (length f))
    (λ u h. get_or-replicate 256 (at s.entries (at f u)) (length f) 0 (s.bytes (at f u) (c.requires.below u h)))

pub returns : goal.returns
returns c =
    let f = c.args.f.now in
    let s = c.args.self.now in
    let long = length-take-le s.top s.entries (omega (arith, s.within)) in
    let e : c.loop-x.x ≡ s.top = omega (arith, long) in
    let counts : (y : ℕ) → y < 256 → at c.loop-x.sizes y ≡ entered s.entries f s.top y = rw e at c.loop-x.invariant.1 in
    entry_sizes_all s.entries f c.loop-x.sizes (λ y h. counts y h ∙ entered_all s.entries f s.top c.requires.below y)
    (λ u h. s.bytes (at f u) (c.requires.below u h))
