use Rattle.std.proofs.Common.{List, ℕ, Bool, ◌≡◌, ◌≤◌, ◌+◌, ◌*◌, ◌-◌, length, arith, refl, ap, ◌∙◌}
use Rattle.std.proofs.Math.Seq.{length-paste}
use Rattle.std.proofs.lemmas.Slice.{put_mid-paste}
use Rattle.rules.specs.Limits.{most_plots}
use Rattle.rules.specs.Family.{columns_from, members_of}
use Rattle.block_formula.specs.Text.{seen_text}
use Rattle.block_formula.specs.Plots.{levels_by}
use Rattle.block_formula.proofs.PlotLaws.{length_levels, columns_all, columns_turn}
use Rattle.block_formula.proofs.plots.Plots.write_columns.Goals as goal

pub loop-i-init : goal.loop-i-init
unfolding members_of columns_from
loop-i-init c = (refl, refl)

pub loop-i-preserved : goal.loop-i-preserved
loop-i-preserved c =
    let a = c.args in
    let p = a.self.now.counted in
    let i = c.loop-i.i in
    let U = c.loop-i.levels in
    let cs = a.self.now.counts.now in
    let n = a.self.now.plots in
    let F = levels_by cs (seen_text a.text.now i) n in
    let k : 240 * i + n - 240 * i ≡ n = omega arith in
    let column = c.write_column.ensures ∙ ap (λ (m : List Bool). levels_by cs m n) c.seen_names-seen.ensures in
    let long = length_levels cs (seen_text a.text.now i) n in
    let room : most_plots * i + most_plots ≤ length U = omega (arith, p.names, c.requires.room) in
    let e = put_mid-paste (240 * i) (240 * i + n - 240 * i) U c.write_column.new.column F n column (omega arith) (omega (arith, long)) in (
      ap length e ∙ length-paste U (most_plots * i) F n (omega (arith, p.few)) (omega arith) ∙ c.loop-i.invariant.0,
      ap (λ (l : List ℕ). members_of n l (i + 1)) e ∙ columns_turn a.text.now cs n U i p.few room (omega arith) c.loop-i.invariant.1,
    )

pub returns : goal.returns
returns c =
    let a = c.args in
    let z : c.loop-i.i ≡ length a.self.now.counts.now = omega arith in
    rw z at c.loop-i.invariant.1 ∙ columns_all a.text.now a.self.now.counts.now a.self.now.plots
