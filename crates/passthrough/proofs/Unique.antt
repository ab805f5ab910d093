-- No second outcome: each public function's own contract has one.
use mathlib.Core.Path.{ap}
use Rattle.rules.specs.OneOutcome.{OneOutcome}
use Rattle.rules.proofs.Unique.{only}
use Rattle.passthrough.specs.Judgements.{Judged}
use Rattle.passthrough.proofs.judge as Judge

pub judge : OneOutcome Judge.Kinds.ps Judge.Kinds.r Judge.Reads.Post
judge κs a r r' left left' p q = (ap (λ (x : Judged). x.says) (only p q), ap (λ (x : Judged). (tt, (tt, (tt, (tt, (tt, (tt, (x.row, tt)))))))) (only p q))
