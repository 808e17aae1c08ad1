-- `print_accepted`: the names are those of the families in the buffers, and the numbers that are found are those of the table.
use mathlib.Core.Path.{sym, ap, ap₂, ◌∙◌}
use Prim.Native.Nat.{ℕ}
use lib.ListN.{take}
use Rattle.std.specs.Prelude.{Ok}
use Rattle.std.proofs.Common.{rules}
use Rattle.rules.specs.Table.{rows_bytes, strata_rows}
use Rattle.decimal.proofs.Writing.{wrote_as}
use Rattle.strata.specs.Answers.{analysis_in}
use Rattle.table.specs.Names.{table_of}
use Rattle.table.specs.Skeletons.{names_of}
use Rattle.table.proofs.TableLaws.{answered_found, answered_rows, accepted_from}
use Rattle.table.proofs.print_accepted.Goals as goal

pub of_family-strata-requires : goal.of_family-strata-requires
of_family-strata-requires c =
    let d = c.requires.2 in
    ((record { form = c.requires.0; some = d.some; few = d.few; table = c.requires.1; long = d.plot_room }, c.requires.3), d.plot_few)

pub of_family-sources-requires : goal.of_family-sources-requires
of_family-sources-requires c =
    let d = c.requires.2 in
    ((record { form = c.requires.0; some = d.some; few = d.few; table = c.requires.1; long = d.treatment_room }, c.requires.3), d.treatment_few)

pub unwrap-found-requires : goal.unwrap-found-requires
unwrap-found-requires c =
    let a = c.args in
    let z = answered_found a.source.counts.plots a.plot_family.now a.sizes.plot a.treatment_family.now a.sizes.treatment c.requires.2 c.analysis.result c.analysis.ensures in
    rw z.1 (search rules)

pub returns : goal.returns
returns c =
    let a = c.args in
    let n = a.source.counts.plots in
    let b = a.plot_family.now in
    let p = a.sizes.plot in
    let t = a.treatment_family.now in
    let r = a.sizes.treatment in
    let S = c.of_family-strata in
    let T = c.of_family-sources in
    let x = c.unwrap-found.result in
    let e = ap analysis_in (sym c.unwrap-found.ensures) ∙ c.analysis.ensures in
    let sized = ap₂ (λ (k m : ℕ). rows_bytes (table_of n (strata_rows 1 (names_of S.result) (take k x.totals) (take k x.strata.residuals) (names_of T.result) (take m x.strata.places) (take m x.degrees)))) S.ensures.size T.ensures.size in
    wrote_as a.out.now 0
    (sized ∙ ap rows_bytes
    (answered_rows n b p t r c.requires.2 (analysis_in (Ok x)) e (names_of S.result) (names_of T.result)
    ∙ accepted_from a.source.text.now n c.requires.2.few a.source.levels.now b p t r _ _ S.ensures.names T.ensures.names))
    c.put_table.ensures
