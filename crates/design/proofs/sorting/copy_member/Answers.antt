-- `copy_member` meets its contract: what is put is the member.
use mathlib.Core.Path.{◌≡◌, ap, ◌∙◌}
use mathlib.Core.List.{List}
use Prim.Native.Nat.{ℕ, ◌*◌}
use native.Mathlib.Omega.{arith}
use lib.ListN.{length}
use lib.Seq.{paste}
use Rattle.factor.proofs.Lent.{length_part}
use Rattle.design.proofs.sorting.copy_member.Goals as goal
use Rattle.design.proofs.sorting.copy_member.Goals.{After-member}

-- the member that is lent is on n plots
long : (c : After-member) → length c.member.result.now ≡ c.args.n
long c = ap length c.member.ensures ∙ length_part c.args.n c.args.i c.args.store.now (omega arith)

pub put-requires : goal.put-requires
put-requires c = (omega (arith, long (goal.at.put-requires c).After-member), omega arith)

pub returns : goal.returns
returns c =
    let s = c.args in
    let at : ℕ = 240 * s.p in
    c.put.ensures ∙ ap (λ (k : ℕ). paste s.family.now at c.member.result.now k) (long (goal.at.returns c).After-member) ∙ ap (λ (x : List ℕ). paste s.family.now at x s.n) c.member.ensures
