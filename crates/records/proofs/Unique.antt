-- No second outcome: each public function's own contract has one.
use mathlib.Core.Path.{ap}
use Rattle.rules.specs.OneOutcome.{OneOutcome}
use Rattle.rules.proofs.Unique.{only}
use Rattle.records.specs.declared.Ran.{Ran}
use Rattle.records.specs.Runs.{RunLeft}
use Rattle.records.proofs.run as Run

abbrev ran_of : RunLeft → Ran
ran_of l = record { bridge = l.world.bridge; used = l.used; written = l.written; torn = l.torn }

pub run : OneOutcome Run.Kinds.ps Run.Kinds.r Run.Reads.Post
run κs a r r' left left' p q =
    let same = only p.0 q.0 in
    (ap ran_of same, ap (λ (l : RunLeft). (tt, (l.world.bytes, (tt, (tt, (l.world.memory, (l.output, tt))))))) same)
