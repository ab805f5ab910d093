-- No second outcome: each public function's own contract has one.
use mathlib.Core.Path.{refl}
use Rattle.rules.specs.OneOutcome.{OneOutcome}
use Rattle.rules.proofs.Numbered.{numbered_tells}
use Rattle.rules.proofs.Unique.{only}
use Rattle.requests.proofs.judge as Judge

pub judge : OneOutcome Judge.Kinds.ps Judge.Kinds.r Judge.Reads.Post
judge κs a r r' left left' p q = (numbered_tells r r' (only p q), refl)
