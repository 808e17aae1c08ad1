-- `crossing_cells` meets its contract: the cells are listed, and the sizes of the infimum's classes are theirs.
use mathlib.Core.Path.{◌≡◌, sym, ap, ◌∙◌}
use mathlib.Core.List.{List}
use Prim.Native.Nat.{ℕ}
use native.Mathlib.Omega.{arith}
use lib.ListN.{length, take, replicate}
use Rattle.rules.specs.Factor.{infimum}
use Rattle.rules.proofs.Numbering.{length_infimum}
use Rattle.factor.specs.Lent.{plots_of}
use Rattle.factor.specs.Sizes.{sizes}
use Rattle.factor.proofs.Lent.{take_overlay}
use Rattle.standing.proofs.CellTable.{label_sizes}
use Rattle.standing.proofs.pair.crossing_cells.Goals as goal

pub crossing_listed-requires : goal.crossing_listed-requires
crossing_listed-requires c =
    let F = c.args.columns.f.now in
    let G = c.args.columns.g.now in
    let r = c.args.columns.in_ranges in
    let I = infimum F G in
    let long : length I ≡ length F = length_infimum F G (sym r.even) in
    let whole = ap (take (length F)) c.infimum_listed-cells.ensures.numbers ∙ take_overlay (replicate 240 0) I (length F) long in
    record {
      sizes = label_sizes I (omega (arith, long, r.few)) c.label_sizes-sizes.result (c.label_sizes-sizes.ensures ∙ ap (λ (b : List ℕ). sizes (plots_of b)) whole);
      listed = c.infimum_listed-cells.ensures.list;
    }
