-- `Numbers::new` meets its contract: a table of no numbers tells those of no plot.
use Rattle.standing.proofs.NumberTable.{numbered_none}
use Rattle.standing.proofs.numbers.Numbers.new.Goals as goal

pub returns : goal.returns
returns g c = λ F. numbered_none g.row.N F
