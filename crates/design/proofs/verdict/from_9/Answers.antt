-- `verdict::from_9` meets its contract: questions 9 and 10 of the family that is written.
use mathlib.Core.Path.{◌≡◌, sym, ap, ap₂, ◌∙◌}
use Prim.Native.Nat.{ℕ}
use lib.ListN.{length}
use Rattle.rules.specs.Family.{members_of}
use Rattle.rules.specs.Design.{Places, first_pair, first_failing}
use Rattle.rules.specs.Factor.{uniform, orthogonal}
use Rattle.rules.proofs.Buffer.{length_members}
use Rattle.design.specs.Answers.{plot_numbers, plot_numbers_of}
use Rattle.design.specs.declared.questions.Places as found
use Rattle.design.specs.Judging.{apart_at}
use Rattle.design.proofs.Answered.{refusing, refusing_is, accepting, numbers_9, numbers_10, numbers_0, nine_passed}
use Rattle.design.proofs.Search.{told_place, told_none}
use Rattle.design.proofs.verdict.from_9.Goals as goal

pub returns-in-Some : goal.returns-in-Some
unfolding plot_numbers
returns-in-Some c =
    let n = c.args.n in
    let P = members_of n c.args.family.now c.args.size in
    let len : length P ≡ c.args.size = length_members n c.requires.most c.args.family.now c.args.size in
    let t = told_place (first_failing (uniform n) 1 P) c.in-Some.unequal c.in-Some.ensures in
    ap₂ (λ (i k : ℕ). refusing 9 i 0 k) (sym t.0) (sym len) ∙ sym (numbers_9 n P (first_failing (uniform n) 1 P) t.1)

pub returns-then-first-ne0 : goal.returns-then-first-ne0
unfolding plot_numbers apart_at
returns-then-first-ne0 c =
    let n = c.args.n in
    let P = members_of n c.args.family.now c.args.size in
    let p : Places = first_pair (orthogonal n) 1 P in
    let len : length P ≡ c.args.size = length_members n c.requires.most c.args.family.now c.args.size in
    let even : first_failing (uniform n) 1 P ≡ 0 = told_none _ c.in_default.ensures in
    let i : c.first_apart-apart.result.first ≡ p.first = ap (λ (q : found.Places). q.first) c.first_apart-apart.ensures ∙ (c.requires.tells even).first in
    let j : c.first_apart-apart.result.second ≡ p.second = ap (λ (q : found.Places). q.second) c.first_apart-apart.ensures ∙ (c.requires.tells even).second in
    refusing_is 10 i j (sym len) ∙ sym (numbers_10 P p (λ z. c.if-first-ne0.true (i ∙ z))) ∙ sym (ap plot_numbers_of (nine_passed n P (first_failing (uniform n) 1 P) even))

pub returns : goal.returns
unfolding plot_numbers apart_at
returns c =
    let n = c.args.n in
    let P = members_of n c.args.family.now c.args.size in
    let p : Places = first_pair (orthogonal n) 1 P in
    let len : length P ≡ c.args.size = length_members n c.requires.most c.args.family.now c.args.size in
    let even : first_failing (uniform n) 1 P ≡ 0 = told_none _ c.in_default.ensures in
    let i : c.first_apart-apart.result.first ≡ p.first = ap (λ (q : found.Places). q.first) c.first_apart-apart.ensures ∙ (c.requires.tells even).first in
    ap accepting (sym len) ∙ sym (numbers_0 P p (sym i ∙ c.if-first-ne0.false)) ∙ sym (ap plot_numbers_of (nine_passed n P (first_failing (uniform n) 1 P) even))
