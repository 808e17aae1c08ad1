-- `add_infimum` meets its contract: what is put is the infimum.
use mathlib.Core.Path.{◌≡◌, sym, ap, ap₂, ◌∙◌}
use mathlib.Core.List.{List}
use Prim.Native.Nat.{ℕ, ◌+◌, ◌*◌, ◌≤◌}
use native.Mathlib.Omega.{arith}
use lib.ListN.{length, take, replicate}
use lib.Seq.{paste}
use Rattle.rules.specs.Factor.{Column, infimum}
use Rattle.design.specs.State.{column_at}
use Rattle.design.proofs.Choosing.{length_met, take_met, long_met}
use Rattle.design.proofs.treatments.add_infimum.Goals as goal
use Rattle.design.proofs.treatments.add_infimum.Goals.{After-infimum, After-put}

-- the infimum
abbrev met : After-infimum → Column
met c = infimum c.args.column.now (column_at (length c.args.column.now) c.args.infima.now c.args.e)

-- the part lies in the buffer
fits : (c : After-infimum) → 240 * c.args.e + 240 ≤ length c.args.infima.now
fits c = c.requires.3

-- what is put is the infimum
taken : (c : After-infimum) → take (length c.args.column.now) c.infimum.new.out ≡ met c
taken c =
    let s = c in
    let zeros : List ℕ = replicate 240 0 in
    take_met s.args.column.now s.args.infima.now s.args.e s.requires.1 (fits c) zeros c.infimum.new.out c.infimum.ensures.numbers

-- the array is long enough
long : (c : After-infimum) → length c.args.column.now ≤ length c.infimum.new.out
long c =
    let s = c in
    let zeros : List ℕ = replicate 240 0 in
    long_met s.args.column.now s.args.infima.now s.args.e s.requires.1 (fits c) zeros c.infimum.new.out c.infimum.ensures.numbers

-- the infimum is on as many plots
length-is : (c : After-infimum) → length (met c) ≡ length c.args.column.now
length-is c =
    let s = c in
    length_met s.args.column.now s.args.infima.now s.args.e s.requires.1 (fits c)

-- what is left in the buffer
left : (c : After-put) → c.put.new.store ≡ paste c.args.infima.now (240 * c.args.total) (met (goal.at.After-put c).After-infimum) (length c.args.column.now)
left c =
    let w = (goal.at.After-put c).After-infimum in
    c.put.ensures ∙ ap₂ (λ (X : Column) (n : ℕ). paste w.args.infima.now (240 * w.args.total) X n) (taken w) (ap length (taken w) ∙ length-is w)

pub slice_bounds-made-end : goal.slice_bounds-made-end
slice_bounds-made-end c = long (goal.at.slice_bounds-made-end c).After-infimum

pub slice_bounds-put-end : goal.slice_bounds-put-end
slice_bounds-put-end c = sym (ap length (taken (goal.at.slice_bounds-put-end c).After-infimum) ∙ length-is (goal.at.slice_bounds-put-end c).After-infimum)

pub put-requires : goal.put-requires
put-requires c =
    let w = (goal.at.put-requires c).After-infimum in
    let l : length (take (length w.args.column.now) w.infimum.new.out) ≡ length w.args.column.now = ap length (taken w) ∙ length-is w in
    (omega arith, omega arith)

pub returns : goal.returns
returns c = left (goal.at.returns c).After-put
