-- No second outcome: each public function's own contract has one.
use mathlib.Core.Path.{refl}
use Rattle.rules.specs.OneOutcome.{OneOutcome, OnePart}
use Rattle.rules.proofs.Numbered.{numbered_tells}
use Rattle.rules.proofs.Unique.{only}
use Rattle.descriptors.proofs.look as Look
use Rattle.descriptors.proofs.find as Find

pub look : OneOutcome Look.Kinds.ps Look.Kinds.r Look.Reads.Post
look κs a r r' left left' p q = (numbered_tells r r' (only p q), refl)

pub find : OnePart Find.Kinds.ps Find.Kinds.r (λ κs r. r) Find.Reads.Post
find κs a r r' left left' p q = (only p.points q.points, only p.bytes q.bytes, refl)
