-- `add` enters a label in its bucket.
use Rattle.numbering.proofs.Chain.{bucket_less}
use Rattle.numbering.proofs.Classes.add.Goals as goal

pub bounds-self-b : goal.bounds-self-b
bounds-self-b c = rw c.bucket-b.ensures (bucket_less _)

pub bounds-self-b-2 : goal.bounds-self-b-2
bounds-self-b-2 c = rw c.bucket-b.ensures (bucket_less _)
