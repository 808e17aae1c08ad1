use mathlib.Core.Path.{◌≡◌, sym, ◌∙◌, subst}
use mathlib.Core.List.Memᴰ
use mathlib.Core.List.{List, ◌∷◌, ◌++◌}
use Prim.Native.Nat.{ℕ, ◌-◌, ◌<◌}
use native.Mathlib.Omega.{arith}
use Rattle.rules.specs.Factor.{Column}
use Rattle.rules.specs.Family.{columns_from, members_of}
use Rattle.design.specs.State.{column_at, Begun}
use Rattle.design.proofs.Choosing.{beside, members_late, members_before, column_member, begun_before, begun_over}
use Rattle.design.proofs.treatments.place_all.Goals as goal

pub loop-e-init : goal.loop-e-init
unfolding columns_from
loop-e-init c =
    let n = c.args.n in
    let store = c.args.store.now in
    let none : c.args.total - c.args.total ≡ 0 = omega arith in
    (omega arith, subst (λ (k : ℕ). Begun n (columns_from n c.args.infima.now c.args.total k ++ members_of n store c.args.size) store c.args.counts.now c.args.size) (sym none) c.requires.0)

pub place_one-requires : goal.place_one-requires
place_one-requires c =
    let e = c.loop-e.e in
    let less : e - 1 < c.args.total = omega arith in
    let held = c.loop-e.invariant.1.held in
    (held, omega arith, omega arith, c.requires.3 (column_at c.args.n c.args.infima.now (e - 1)) (column_member c.args.n held.most c.args.infima.now (e - 1) c.args.total less))

pub returns-in_err-p : goal.returns-in_err-p
returns-in_err-p c =
    let n = c.args.n in
    let infima = c.args.infima.now in
    let e = c.loop-e.e in
    let total = c.args.total in
    let S = members_of n c.args.store.now c.args.size in
    let less : e - 1 < total = omega arith in
    rw c.from_residual.ensures (begun_over n (columns_from n infima e (total - e) ++ S) c.loop-e.store c.loop-e.counts c.loop-e.now c.loop-e.invariant.1 (column_at n infima (e - 1)) c.in_err-p.ensures
    (members_of n infima total ++ S) (beside (members_late n infima e total c.loop-e.invariant.0) S) (Memᴰ.append_left S (column_member n c.loop-e.invariant.1.held.most infima (e - 1) total less)))

pub grown-now-requires : goal.grown-now-requires
grown-now-requires c = c.loop-e.invariant.1.held.few

pub loop-e-preserved : goal.loop-e-preserved
loop-e-preserved c =
    let n = c.args.n in
    let infima = c.args.infima.now in
    let e = c.loop-e.e in
    let total = c.args.total in
    let S = members_of n c.args.store.now c.args.size in
    let less : e - 1 < total = omega arith in
    let after = c.place_one.new.store in
    let counts = c.place_one.new.counts in
    let next = begun_before n (columns_from n infima e (total - e) ++ S) c.loop-e.store c.loop-e.counts c.loop-e.now c.loop-e.invariant.1 (column_at n infima (e - 1)) c.in_ok-p.p after counts c.in_ok-p.ensures
    (c.requires.3 (column_at n infima (e - 1)) (column_member n c.loop-e.invariant.1.held.most infima (e - 1) total less)) in (
      omega arith,
      subst (λ (As : List Column). Begun n (As ++ S) after counts c.grown-now.result) (sym (members_before n infima e total (omega arith) c.loop-e.invariant.0))
          (subst (λ (k : ℕ). Begun n (column_at n infima (e - 1) ∷ columns_from n infima e (total - e) ++ S) after counts k) (sym c.grown-now.ensures) next),
    )

pub shape_of-store : goal.shape_of-store
shape_of-store c = c.loop-e.invariant.1.held.room ∙ sym c.requires.0.held.room

pub returns : goal.returns
unfolding members_of
returns c =
    let n = c.args.n in
    let infima = c.args.infima.now in
    let S = members_of n c.args.store.now c.args.size in
    let e : c.loop-e.e ≡ 0 = omega arith in
    let z : c.args.total - c.loop-e.e ≡ c.args.total = omega arith in
    (subst (λ (k : ℕ). Begun n (columns_from n infima 0 k ++ S) c.loop-e.store c.loop-e.counts c.loop-e.now) z
    (subst (λ (e : ℕ). Begun n (columns_from n infima e (c.args.total - c.loop-e.e) ++ S) c.loop-e.store c.loop-e.counts c.loop-e.now) e c.loop-e.invariant.1))
