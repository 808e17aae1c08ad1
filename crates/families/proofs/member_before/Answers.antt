-- `member_before` meets its contract: the counts decide, and at a tie the columns.
use mathlib.Core.Path.{◌≡◌, sym, ap₂, ◌∙◌}
use lib.Dec.{ltb}
use Rattle.rules.specs.Factor.{classes}
use Rattle.rules.proofs.Columns.{tie_smaller, count_decides}
use Rattle.families.proofs.member_before.Goals as goal

pub returns-then-k-m : goal.returns-then-k-m
returns-then-k-m c =
    let F = c.args.f.now in
    let G = c.args.g.now in
    let ek = c.requires.0 in
    let em = c.requires.1 in
    ap₂ ltb ek em ∙ sym (count_decides F G (λ e. c.if-k-m.true (ek ∙ e ∙ sym em)))

pub returns : goal.returns
returns c =
    let F = c.args.f.now in
    let G = c.args.g.now in
    let e : classes F ≡ classes G = sym c.requires.0 ∙ c.if-k-m.false ∙ c.requires.1 in
    c.smaller.ensures ∙ sym (tie_smaller F G e)
