-- `crossing_whole` meets its contract: the supremum of nested factors is the coarser one.
use mathlib.Core.Path.{◌≡◌, refl, sym, ap, ◌∙◌}
use mathlib.Core.Bool.{true}
use lib.ListN.{length}
use Rattle.rules.specs.Factor.{finer, classes}
use Rattle.rules.proofs.Bounds.{infimum_self}
use Rattle.rules.proofs.Columns.{classes_number}
use Rattle.factor.specs.Lent.{overlay}
use Rattle.factor.proofs.Lent.{finer_common}
use Rattle.standing.proofs.Nesting.{nested_supremum, supremum_classes, nested_true}
use Rattle.standing.proofs.pair.crossing_whole.Goals as goal

pub returns-then-finer : goal.returns-then-finer
returns-then-finer c =
    let f = c.args.columns.f.now in
    let g = c.args.columns.g.now in
    let r = c.args.columns.in_ranges in
    let self = infimum_self (length f) f refl in
    let nested : finer (length f) g f ≡ true = sym (finer_common (length f) g f r.few r.even refl) ∙ sym c.finer.ensures ∙ c.if-finer.true in record {
      supremum = c.infimum_many-supremum.ensures.answer ∙ ap classes self ∙ classes_number f ∙ supremum_classes f g r.even nested;
      orthogonal = nested_true f g r.even nested;
      above = c.infimum_many-supremum.ensures.numbers ∙ ap (overlay c.args.above.now) (self ∙ sym (nested_supremum f g r.even nested));
    }
