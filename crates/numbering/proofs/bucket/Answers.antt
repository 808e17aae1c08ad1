-- `bucket` meets its contract.
use mathlib.Core.Path.{refl}
use Rattle.numbering.specs.Seen.{bucket_of}
use Rattle.numbering.proofs.bucket.Goals as goal

pub returns : goal.returns
unfolding bucket_of
returns c = refl
