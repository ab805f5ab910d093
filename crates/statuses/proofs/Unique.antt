-- No second outcome: each public function's own contract has one.
use mathlib.Core.Path.{ap}
use mathlib.Core.List.{[]}
use Rattle.rules.specs.Promise.{Left}
use Rattle.rules.specs.OneOutcome.{OneOutcome}
use Rattle.rules.proofs.Unique.{only}
use Rattle.outcomes.proofs.Unique.{tells}
use Rattle.statuses.proofs.status as Status

pub status : OneOutcome Status.Kinds.ps Status.Kinds.r Status.Reads.Post
status κs a r r' left left' p q = let same = only (p [] []) (q [] []) in (tells r r' same, ap (λ (l : Left). (tt, (l.room, tt))) same)
