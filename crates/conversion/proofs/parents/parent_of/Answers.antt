-- `parents::parent_of`: the plot column that the slash part names, further left.
use Rattle.std.proofs.Common.{List, ℕ, sym, ap, ◌∙◌, arith, refl, Some}
use Rattle.rules.specs.Factor.{index_of}
use Rattle.rules.specs.Sheet.{same_bytes, header}
use Rattle.rules.specs.SheetText.{plot_heading}
use Rattle.rules.specs.Parents.{parent_place}
use Rattle.conversion.proofs.Slashes.{told_slash, told_no_slash}
use Rattle.conversion.proofs.Headings.{told_found, told_missing}
use Rattle.conversion.proofs.FirstLine.{parent_none, parent_some}
use Rattle.conversion.proofs.parents.parent_of.Goals as goal

pub returns-in_default : goal.returns-in_default
returns-in_default c = (sym (parent_none (header c.args.plain.now) c.args.field.now (told_no_slash c.args.field.now c.in_default.ensures)), tt)

pub returns-in-Some-heading_place : goal.returns-in-Some-heading_place
unfolding parent_place
returns-in-Some-heading_place c =
    let ps = header c.args.plain.now in
    let f = c.args.field.now in
    let told = told_slash f c.in-Some.name.now c.in-Some.ensures in
    let place = told_found ps c.in-Some.name.now c.in-Some-heading_place.place c.in-Some-heading_place.ensures ∙ ap (λ (x : List ℕ). index_of same_bytes ps (plot_heading x)) told.1 in
    (ap Some place ∙ sym (parent_some ps f told.0), c.if-place-i.true)

pub returns-in_default-heading_place : goal.returns-in_default-heading_place
unfolding parent_place
returns-in_default-heading_place c =
    let ps = header c.args.plain.now in
    let f = c.args.field.now in
    let told = told_slash f c.in-Some.name.now c.in-Some.ensures in
    let place = told_found ps c.in-Some.name.now c.in-Some-heading_place.place c.in-Some-heading_place.ensures ∙ ap (λ (x : List ℕ). index_of same_bytes ps (plot_heading x)) told.1 in
    (refl, told.0, omega (arith, place, c.if-place-i.false))

pub returns-in_default-heading_place-2 : goal.returns-in_default-heading_place-2
unfolding parent_place
returns-in_default-heading_place-2 c =
    let ps = header c.args.plain.now in
    let f = c.args.field.now in
    let told = told_slash f c.in-Some.name.now c.in-Some.ensures in
    let none = told_missing ps c.in-Some.name.now c.in_default-heading_place.ensures in
    let same = ap (λ (x : List ℕ). index_of same_bytes ps (plot_heading x)) told.1 in
    (refl, told.0, omega (arith, none, same, c.requires.2))
