-- `label_sizes` meets its contract.
use mathlib.Core.Path.{◌≡◌}
use native.Mathlib.Omega.{arith}
use lib.ListN.{take, length-take}
use Rattle.factor.proofs.Fill.{take_min}
use Rattle.factor.proofs.sizes.label_sizes.Goals as goal

pub slice_bounds-sizes-end : goal.slice_bounds-sizes-end
slice_bounds-sizes-end c = simp length-take (omega arith)

pub sizes-requires : goal.sizes-requires
sizes-requires c = simp length-take (omega arith)

pub returns : goal.returns
returns c =
    let b = c in
    let f = b.args.f.now in
    let e : take b.numbered_plots-n.result f ≡ take 240 f = rw b.numbered_plots-n.ensures (take_min 240 f) in
    rw e at c.sizes.ensures
