use Rattle.std.proofs.Common.{◌≡◌, ℕ, ◌+◌, ◌-◌, subst, ◌∙◌, arith}
use Rattle.strata.specs.Family.{IsCounted}
use Rattle.strata.specs.Words.{FinerFrom}
use Rattle.strata.proofs.Implied.{from_start, from_end}
use Rattle.strata.proofs.order.coarser_word.Goals as goal

pub loop-j-init : goal.loop-j-init
loop-j-init c = let a = c.args in from_start a.family.now.plots a.family.now.bytes.now a.member.place

pub with_member-word-requires : goal.with_member-word-requires
with_member-word-requires c =
    let a = c.args in
    let f = a.family.now in
    let j = c.loop-j.j in
    let back : j ≡ j - 1 + 1 = omega arith in
    let known = subst (λ (k : ℕ). FinerFrom f.plots f.bytes.now a.member.place k c.loop-j.word) back c.loop-j.invariant in
    let before : IsCounted f (record { place = j - 1; classes = c.from.result }) = record { within = omega (arith, c.requires.0.within); counted = c.from.ensures ∙ c.requires.2 (j - 1) (omega arith) } in
    (c.requires.0, before, omega arith, known, c.requires.1 (j - 1) (omega arith))

pub returns : goal.returns
returns c =
    let a = c.args in
    let z : c.loop-j.j ≡ 0 = omega arith in
    from_end a.family.now.plots a.family.now.bytes.now a.member.place c.loop-j.word (rw z at c.loop-j.invariant)
