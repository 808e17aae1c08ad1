-- `pair_orthogonal` meets its contract: the table, the pair or numbers of classes tell it, or a walk.
use mathlib.Core.Path.{◌≡◌, sym, ◌∙◌}
use mathlib.Core.Bool.{true}
use Rattle.standing.proofs.Nesting.{orthogonal_parts}
use Rattle.design.specs.Sides.{test_of}
use Rattle.design.proofs.Sides.{plot_member, treatment_member, plot_room, treatment_room}
use Rattle.design.proofs.Suprema.{treatment_coarser, plot_coarser}
use Rattle.design.proofs.apart.pair_orthogonal.Goals as goal
use Rattle.design.proofs.apart.pair_orthogonal.Goals.{then-known_finer, else-known_finer}

pub returns-then-known_finer-2 : goal.returns-then-known_finer-2
returns-then-known_finer-2 c =
    let a = c.args in
    let s = a.sides.now in
    let m = s.plot.ordered in
    let p = plot_member s c.requires.0 in
    let q = treatment_member s c.requires.1 in
    let t : true ≡ test_of s a.i a.j = elim c.if-known_finer.branch [
      | then-known_finer w ↦ (treatment_coarser s.plot.plots a.i a.j _ _ s.plot.bytes.now s.treatment.bytes.now m.some m.most p q (sym c.known_finer.ensures ∙ w.if-known_finer.true)).0
      | else-known_finer w ↦ (plot_coarser s.plot.plots a.i a.j _ _ s.plot.bytes.now s.treatment.bytes.now m.some m.most p q (sym w.known_finer-else-known_finer.ensures ∙ sym w.value-is ∙ c.if-known_finer-2.true)).0
    ] in
    c.if-known_finer-2.true ∙ t

pub returns-else-known_finer-2 : goal.returns-else-known_finer-2
returns-else-known_finer-2 c =
    let a = c.args in
    let s = a.sides.now in
    c.crossing_of.ensures.orthogonal
    ∙ orthogonal_parts s.plot.plots s.plot.bytes.now s.treatment.bytes.now a.i a.j s.plot.ordered.most (plot_room s c.requires.0 c.requires.1) (treatment_room s c.requires.0 c.requires.1) _ _ c.member.ensures c.member-else-known_finer-2.ensures
