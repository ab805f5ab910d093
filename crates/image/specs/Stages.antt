-- What the phase's byte says.
use Rattle.std.specs.Prelude.{ℕ, cond, eqb}
use Rattle.image.specs.declared.Stage.{Stage}
use Rattle.image.specs.declared.Stage.TheVariants.{Awaiting, Busy, StatusWaiting, Stopped}

abbrev pub stage_number : Stage → ℕ
stage_number Awaiting = 0
stage_number Busy = 1
stage_number StatusWaiting = 2
stage_number Stopped = 3

abbrev pub stage_from : ℕ → Stage
stage_from byte = cond (eqb byte 0) Awaiting (cond (eqb byte 1) Busy (cond (eqb byte 2) StatusWaiting Stopped))
