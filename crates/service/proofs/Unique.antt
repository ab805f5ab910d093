-- No second outcome: each public function's own contract has one.
use mathlib.Core.Path.{ap}
use Rattle.rules.specs.OneOutcome.{OneOutcome}
use Rattle.rules.proofs.Unique.{only}
use Rattle.service.specs.Calls.{Readout, Result, Repair}
use Rattle.service.proofs.service_read as Read
use Rattle.service.proofs.service_write as Write
use Rattle.service.proofs.service_mend as Mend

pub service_read : OneOutcome Read.Kinds.ps Read.Kinds.r Read.Reads.Post
service_read κs a r r' left left' p q = (
  ap (λ (c : Readout). c.returned) (only p q),
  ap (λ (c : Readout). (tt, (c.bytes, (c.page, tt)))) (only p q),
)

pub service_write : OneOutcome Write.Kinds.ps Write.Kinds.r Write.Reads.Post
service_write κs a r r' left left' p q = (ap (λ (c : Result). c.returned) (only p q), ap (λ (c : Result). (tt, (tt, (c.room, tt)))) (only p q))

pub service_mend : OneOutcome Mend.Kinds.ps Mend.Kinds.r Mend.Reads.Post
service_mend κs a r r' left left' p q = (ap (λ (c : Repair). c.returned) (only p q), ap (λ (c : Repair). (c.image, (c.list, tt))) (only p q))
