-- `direct_words` meets its contract: each place of the array is a call.
use Rattle.std.proofs.Common.{rules}
use Rattle.strata.specs.Words.{direct_word}
use Rattle.strata.proofs.Fill.{tabulated}
use Rattle.strata.proofs.order.direct_words.Goals as goal

pub returns : goal.returns
returns c =
    let items = c.from_fn.ensures.items in
    tabulated (direct_word c.args.words.now) c.from_fn.result 32 0 items.long (λ k h. let e = (items.at k 0 h).2 in search rules)
