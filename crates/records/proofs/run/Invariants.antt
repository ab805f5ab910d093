-- What was taken so far, and what the rest of the block leaves, is the whole run.
use Rattle.std.proofs.Common.{◌-◌, length}
use Rattle.records.proofs.Running.{So}
use Rattle.records.proofs.run.Given as goal

abbrev pub invariant-loop-n : goal.invariant-loop-n
invariant-loop-n l = So l.last l.input l.initial.bench l.initial.printer l.bench l.printer l.used

abbrev pub decreases-loop-n : goal.decreases-loop-n
decreases-loop-n l = length l.input - l.used
