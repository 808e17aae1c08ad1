-- `of_family` meets its contract.
use Rattle.std.proofs.Common.{rules, sym, get_or, subst}
use lib.Count.{ones}
use Rattle.strata.specs.Family.{members}
use Rattle.strata.specs.Words.{AllWords}
use Rattle.strata.proofs.Lent.{accepted_members, size_members, on_plots_lem}
use Rattle.strata.proofs.RelationWords.{words_fit, relation_is}
use Rattle.strata.proofs.Fill.{tabulated}
use Rattle.strata.proofs.order.of_family.Goals as goal

pub direct_words-direct-requires : goal.direct_words-direct-requires
direct_words-direct-requires c =
    let f = c.args.family.now in
    subst AllWords (sym c.coarser_words-coarser.ensures) (words_fit f.plots (members f) (accepted_members f.formed) (on_plots_lem f.formed))

pub returns : goal.returns
returns c =
    let f = c.args.family.now in
    let items = c.map-counts.ensures.items in
    let counts = tabulated (λ i. ones (get_or c.direct_words-direct.result i 0)) c.map-counts.result 32 0 items.long (λ k h. let e = (items.at k 0 0 h).2 in search rules) in
    relation_is f.plots (members f) (accepted_members f.formed) (on_plots_lem f.formed) f.size _ _ _
    (sym (size_members f.formed)) c.coarser_words-coarser.ensures c.direct_words-direct.ensures counts
