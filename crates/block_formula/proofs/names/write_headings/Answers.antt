use Prim.Native.Nat.{◌+◌}
use mathlib.Core.Path.{refl, sym, ap, ◌∙◌}
use mathlib.Core.Bool.{Bool, false}
use mathlib.Core.List.{[], ◌∷◌}
use native.Mathlib.Omega.{arith}
use lib.ListN.{get_or, drop}
use Rattle.decimal.proofs.Writing.{rest_then, rest_as, rest_end, wrote_then, wrote_length}
use Rattle.block_formula.specs.Text.{in_count, heading_part, headings_from}
use Rattle.block_formula.proofs.NameLaws.{headings_step, headings_end}
use Rattle.block_formula.proofs.names.write_headings.Goals as goal

pub loop-x-init : goal.loop-x-init
loop-x-init c = (refl, (refl, refl))

pub loop-x-preserved : goal.loop-x-preserved
loop-x-preserved c =
    let a = c.args in
    let t = a.text.now in
    let i = c.loop-x.x-index in
    let x = get_or t i 0 in
    let part = heading_part c.loop-x.counting x in
    let first = c.write_bytes-next in (
      wrote_length c.loop-x.out c.loop-x.next part c.write_part-next.ensures ∙ c.loop-x.invariant.0,
      rest_as first.new.out first.result (headings_from false t) c.write_part-next.new.out c.write_part-next.result (ap (λ (y : Bool). headings_from y (drop (i + 1) t)) (sym c.in_count-counting.ensures))
          (rest_then first.new.out first.result (headings_from false t) c.loop-x.out c.loop-x.next part (headings_from (in_count c.loop-x.counting x) (drop (i + 1) t)) (headings_step t i c.loop-x.counting (omega arith)) c.write_part-next.ensures c.loop-x.invariant.1),
    )

pub shape_of-out : goal.shape_of-out
shape_of-out c =
    let a = c.args in
    c.loop-x.invariant.0 ∙ wrote_length a.out.now 0 (112 ∷ 58 ∷ []) (c.write_bytes-next.ensures.answer, c.write_bytes-next.ensures.bytes)

pub returns : goal.returns
returns c =
    let a = c.args in
    let t = a.text.now in
    let first = c.write_bytes-next in
    wrote_then a.out.now 0 (112 ∷ 58 ∷ []) (headings_from false t) (first.ensures.answer, first.ensures.bytes) (rest_end first.new.out first.result (headings_from false t) c.loop-x.out c.loop-x.next (headings_end t c.loop-x.x-index c.loop-x.counting (omega arith)) c.loop-x.invariant.1)
