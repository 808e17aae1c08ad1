-- `is_below` meets its contract.
use Rattle.std.proofs.Common.{◌≡◌, true, false, eqb, sym, ⊎_elim, ◌∙◌}
use borrow.Author.Tests.{eq-eqb, ne_eqb}
use Rattle.rules.specs.Lists.{bit_at}
use Rattle.strata.specs.Words.{below}
use Rattle.strata.proofs.stratum.is_below.Goals as goal
use Rattle.strata.proofs.stratum.is_below.Goals.{then-not-has, else-not-has}

pub returns-then-q-p : goal.returns-then-q-p
unfolding below
returns-then-q-p c =
    let s = c.args in
    elim c.if-not-has.branch [
      | then-not-has w ↦ let e : bit_at s.among s.q ≡ false = sym c.has.ensures ∙ w.if-not-has.true in w.t-6-is ∙ rw (c.has.ensures, e)
      | else-not-has w ↦
          let e : bit_at s.among s.q ≡ true = sym c.has.ensures ∙ w.if-not-has.false in
          let f : eqb s.q s.p ≡ true = ⊎_elim (λ z. cc) (λ z. eq-eqb s.q s.p z.1) c.if-q-p.either in
          w.t-6-is ∙ rw (e, f)
    ]

pub returns-else-q-p : goal.returns-else-q-p
unfolding below
returns-else-q-p c =
    let s = c.args in
    let e : bit_at s.among s.q ≡ true = sym c.has.ensures ∙ c.if-q-p.false.0 in
    let f : eqb s.q s.p ≡ false = ne_eqb s.q s.p c.if-q-p.false.1 in
    rw (c.has-else-q-p.ensures, e, f)
