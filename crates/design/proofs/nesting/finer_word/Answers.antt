use mathlib.Core.Path.{sym, subst}
use Prim.Native.Nat.{ℕ}
use native.Mathlib.Omega.{arith}
use lib.ListN.{get_or}
use Rattle.design.specs.State.{column_at}
use Rattle.design.specs.Crossing.{FinerBits}
use Rattle.factor.proofs.Lent.{length_part}
use Rattle.design.proofs.FinerWords.{below_none, below_more, finer_lent, order_asked}
use Rattle.design.proofs.Suprema.{member_in_buffer}
use Rattle.design.proofs.nesting.finer_word.Goals as goal
use Rattle.design.proofs.nesting.finer_word.Goals.{then-word-k-eq0+then-found_finer, else-word-k-eq0}

pub loop-k-init : goal.loop-k-init
loop-k-init c = below_none c.args.n c.args.family.now c.args.i

pub found_finer-requires : goal.found_finer-requires
found_finer-requires c =
    let a = c.args in
    let n = a.n in
    let family = a.family.now in
    let k = c.requires.4 c.loop-k.k (omega arith) in
    let i = c.requires.4 a.i c.requires.3 in
    order_asked c.member.ensures c.member-column.ensures
    (length_part n c.loop-k.k family (member_in_buffer n c.loop-k.k _ family c.requires.1 k))
    (length_part n a.i family (member_in_buffer n a.i _ family c.requires.1 i))
    c.requires.0 c.requires.1 k.count i.count

pub loop-k-preserved : goal.loop-k-preserved
loop-k-preserved c =
    let a = c.args in
    let n = a.n in
    let family = a.family.now in
    let k = c.loop-k.k in
    let old = c.loop-k.invariant in
    elim c.if-word-k-eq0.branch [
      | then-word-k-eq0+then-found_finer w ↦
          let m = c.requires.4 k (omega arith) in
          let f = finer_lent n (column_at n family k) (column_at n family a.i) _ _ w.member.ensures c.member-column.ensures (length_part n k family (member_in_buffer n k _ family c.requires.1 m)) (w.found_finer.ensures w.if-found_finer.true) in
          subst (λ (x : ℕ). FinerBits n family x a.i) (sym w.word-is) (below_more n family a.i k c.loop-k.word (get_or a.words.now k 0) m.place f (c.requires.5 k) old)
      | else-word-k-eq0 w ↦ subst (λ (x : ℕ). FinerBits n family x a.i) (sym w.word-is) old
    ]
