-- `finer` meets its contract.
use mathlib.Core.Path.{◌≡◌, ◌∙◌}
use native.Mathlib.Omega.{arith}
use lib.ListN.{length, take, length-take}
use Rattle.factor.proofs.nesting.finer.Goals as goal

pub slice_bounds-agrees-end : goal.slice_bounds-agrees-end
slice_bounds-agrees-end c = simp length-take (omega arith)

pub slice_bounds-agrees-end-2 : goal.slice_bounds-agrees-end-2
slice_bounds-agrees-end-2 c = simp length-take (omega arith)

pub agrees-requires : goal.agrees-requires
agrees-requires c = simp length-take (omega arith)

pub returns : goal.returns
returns c =
    let b = c in
    let f = b.args.f.now in
    let n = b.common_plots-n.result in
    let l : length (take n f) ≡ n = simp length-take (omega arith) in
    rw l at c.agrees.ensures ∙ rw b.common_plots-n.ensures
