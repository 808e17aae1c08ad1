use Rattle.std.proofs.Common.{ℕ, ◌*◌, ◌<◌, ◌≡◌, List, ◌++◌, length, get_or, take, drop_of_length-le, append-nil, refl, ap, ap₂, ◌∙◌, arith}
use Rattle.std.proofs.Math.Seq.{paste, take_all}
use Rattle.rules.specs.Factor.{Column, infimum}
use Rattle.factor.specs.Lent.{column_at}
use Rattle.writer.specs.Rows.{columns_at}
use Rattle.conversion.specs.Table.{within_column}
use Rattle.conversion.proofs.TableLaws.{length_Cs, turn_length, turn_copied, turn_within}
use Rattle.conversion.proofs.columns.convert_columns.Goals as goal
use Rattle.conversion.proofs.columns.convert_columns.Goals.{in-Some, in_default}

pub within_parent-requires : goal.within_parent-requires
within_parent-requires c =
    let l = c.loop-i in
    let p = c.requires in
    let j = c.in-Some.parent in
    let left = p.left l.i j (omega arith) c.in-Some.is in
    let above : c.from-in-Some-2.result ≡ get_or c.args.columns.now j 0 = c.from-in-Some-2.ensures ∙ ap (λ (m : ℕ). get_or c.args.columns.now m 0) c.from-in-Some.ensures in
    record {
      few = p.few;
      own = omega (arith, c.from.ensures, p.inside l.i (omega arith), l.invariant.0);
      other = omega (arith, above, p.inside j (omega (arith, left)), l.invariant.0);
    }

pub loop-i-preserved : goal.loop-i-preserved
unfolding within_column
loop-i-preserved c =
    let a = c.args in
    let i = c.loop-i.i in
    let n = length a.parents.now in
    let h : i < n = omega arith in
    let cs = a.columns.now in
    let ps = a.parents.now in
    let T = a.levels.now in
    let U = c.loop-i.levels in
    let p = c.requires in
    elim c.match-parent.branch [
      | in-Some t ↦ let j = t.in-Some.parent in
          let left = p.left i j h t.in-Some.is in
          let W : ℕ → ℕ → List ℕ = λ x y. paste U (240 * x) (infimum (column_at a.plots U x) (column_at a.plots U y)) a.plots in
          let e : c.match-parent.levels ≡ W (get_or cs i 0) (get_or cs j 0) = t.levels-is ∙ t.within_parent.ensures ∙ ap₂ W t.from.ensures (t.from-in-Some-2.ensures ∙ ap (λ (m : ℕ). get_or cs m 0) t.from-in-Some.ensures) in
          (ap length e ∙ turn_length cs ps n a.plots T p U c.loop-i.invariant.0 i h j (omega (arith, left)), λ Ds w. ap (λ (r : List ℕ). columns_at a.plots r (take n cs)) e ∙ turn_within cs ps n a.plots T p U c.loop-i.invariant.0 i h Ds w (c.loop-i.invariant.1 Ds w) j t.in-Some.is)
      | in_default t ↦ (ap length t.levels-is ∙ c.loop-i.invariant.0, λ Ds w. ap (λ (r : List ℕ). columns_at a.plots r (take n cs)) t.levels-is ∙ turn_copied cs ps n a.plots T p U c.loop-i.invariant.0 i h Ds w (c.loop-i.invariant.1 Ds w) t.in_default.is)
    ]

pub loop-i-init : goal.loop-i-init
loop-i-init c = (refl, λ Ds w. refl)

pub returns : goal.returns
returns c =
    let a = c.args in
    let n = length a.parents.now in
    λ Ds w.
    let z : c.loop-i.i ≡ n = omega arith in
    let long = length_Cs a.columns.now a.parents.now n a.plots a.levels.now c.requires in
    let Cs = columns_at a.plots a.levels.now (take n a.columns.now) in
    c.loop-i.invariant.1 Ds w ∙ ap₂ (λ (x y : List Column). x ++ y) (take_all c.loop-i.i Ds (omega (arith, w.size))) (drop_of_length-le Cs {i = c.loop-i.i} (omega arith)) ∙ append-nil Ds
