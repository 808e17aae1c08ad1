-- `infimum_listed` meets its contract: few cells are listed as they are numbered, and many by the infimum, which stands at the start of its array.
use mathlib.Core.Path.{sym, ap, ◌∙◌}
use native.Mathlib.Nat.{mul-le-mul}
use native.Mathlib.Omega.{arith}
use lib.ListN.{length, take}
use Rattle.rules.specs.Factor.{infimum}
use Rattle.rules.proofs.Numbering.{length_infimum}
use Rattle.factor.proofs.Lent.{take_overlay}
use Rattle.standing.proofs.Listing.{cover_none}
use Rattle.standing.proofs.meet.infimum_listed.Goals as goal

pub overflow_mul-most : goal.overflow_mul-most
overflow_mul-most c = let r = c.args.columns.in_ranges in omega (arith, mul-le-mul r.few_f r.few_g)

pub list_cells-requires : goal.list_cells-requires
list_cells-requires c =
    let F = c.args.columns.f.now in
    let G = c.args.columns.g.now in
    ap (take (length F)) c.number_infimum.ensures.numbers ∙ take_overlay c.args.out.now (infimum F G) (length F) (length_infimum F G (sym c.args.columns.in_ranges.even))

pub number_listed-requires-clause-none : goal.number_listed-requires-clause-none
number_listed-requires-clause-none c = let e = c.new-cells.ensures in rw (e.first, e.second, e.none) (cover_none c.args.columns.f.now c.args.columns.g.now)

pub number_listed-requires-then-most-le-CELLS-clause-none : goal.number_listed-requires-then-most-le-CELLS-clause-none
number_listed-requires-then-most-le-CELLS-clause-none c =
    let e = c.new-cells.ensures in
    rw (e.first, e.second, e.none) (cover_none c.args.columns.f.now c.args.columns.g.now)
