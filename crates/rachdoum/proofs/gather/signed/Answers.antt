use mathlib.Core.Path.{◌≡◌, refl, sym, ap, ◌∙◌}
use mathlib.Core.List.{List, map}
use Prim.Native.Nat.{ℕ, ◌+◌, ◌<◌}
use native.Mathlib.Omega.{arith}
use native.Mathlib.Nat.{zero-add}
use native.Mathlib.Numerals.{add-one}
use lib.IntN.{ℤ, pos}
use lib.ListN.{length, get_or, set, replicate, length-set, length-map}
use lib.Seq.{paste, paste-zero, paste-suc}
use mir.Syntax.{w64}
use mir.Val.{to_z}
use mir.ValLaws.{to_z_pos}
use Rattle.design.proofs.Judge.{get_d_map}
use Rattle.rachdoum.proofs.Pasting.{one}
use Rattle.rachdoum.proofs.gather.signed.Goals as goal

pub loop-i-init : goal.loop-i-init
loop-i-init c = (omega arith, refl, paste-zero (replicate 32 (pos 0)) 0 (map pos c.args.places))

pub overflow_cast-all : goal.overflow_cast-all
overflow_cast-all c = record { sfits = omega (arith, c.requires c.loop-i.i) }

pub loop-i-preserved : goal.loop-i-preserved
loop-i-preserved c =
    let places = c.args.places in
    let i = c.loop-i.i in
    let few = c.requires i in
    let l : i < length places = omega arith in
    let k : i < length (map pos places) = rw (length-map places pos) l in
    let zeros : List ℤ = replicate 32 (pos 0) in
    let h : 0 + i < length zeros = omega arith in
    let v : to_z w64 (get_or places i 0) ≡ get_or (map pos places) i (pos 0) = to_z_pos w64 (get_or places i 0) (omega arith) ∙ sym (get_d_map pos places (pos 0) i l) in
    (omega arith, simp length-set c.loop-i.invariant.1, rw (c.loop-i.invariant.2, v, add-one) (ap (λ (x : ℕ). set (paste zeros 0 (map pos places) i) x (get_or (map pos places) i (pos 0))) (sym (zero-add i)) ∙ paste-suc zeros 0 (map pos places) i (pos 0) h k))

pub returns : goal.returns
returns c =
    let places = c.args.places in
    let l : length places ≡ 32 = omega arith in
    let e : c.loop-i.i ≡ 32 = omega arith in
    c.loop-i.invariant.2 ∙ ap (paste (replicate 32 (pos 0)) 0 (map pos places)) e ∙ one (map pos places) (length-map places pos ∙ l)
