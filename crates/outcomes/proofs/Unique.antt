-- No second outcome: each public function's own contract has one.
use mathlib.Core.Path.{◌≡◌, refl, ap}
use mathlib.Core.Bool.{false}
use mathlib.Core.List.{List, []}
use denote.RattleType.{RattleType}
use denote.Param.Laws.{Laws}
use Rattle.rules.specs.declared.Bridge.{Bridge}
use Rattle.rules.specs.declared.Drives.TheVariants.{One}
use Rattle.rules.specs.declared.PageSize.TheVariants.{Of256}
use Rattle.rules.specs.declared.refusals.Refusal.{Refusal}
use Rattle.rules.specs.Held.{docked, power_on}
use Rattle.std.specs.Prelude.{ℕ}
use Rattle.rules.proofs.Numbered.{answer_tells}
use Rattle.rules.specs.OneOutcome.{OneOutcome}
use Rattle.rules.proofs.Unique.{only}
use Rattle.outcomes.specs.declared.Outcome.{Outcome}
use Rattle.outcomes.specs.Outcomes.{outcome, left_by}
use Rattle.outcomes.proofs.bus_reset as BusReset
use Rattle.outcomes.proofs.OutcomeRefusalFromRefusal.from as OutcomeRefusalFromRefusal
use Rattle.outcomes.proofs.refused as Refused
use Rattle.outcomes.proofs.done as Done
use Rattle.outcomes.proofs.is_stopped as IsStopped
use Rattle.outcomes.proofs.changed as Changed

-- an outcome is known by what a call leaves
pub tells : (o o' : Outcome Refusal) {bytes memory room bytes' memory' room' : List ℕ} → left_by o bytes memory room ≡ left_by o' bytes' memory' room' → o ≡ o'
tells o o' same =
    rw (answer_tells o.answer o'.answer (ap (λ l. l.answer) same) (ap (λ l. l.count) same)) (ap (outcome o'.answer) (ap (λ l. l.change) same))

pub bus_reset : OneOutcome BusReset.Kinds.ps BusReset.Kinds.r BusReset.Reads.Post
bus_reset κs a r r' left left' p q =
    let any : Bridge = power_on (docked false Of256 One) in
    (tells r r' (only (p any [] []) (q any [] [])), refl)

pub refused : (R : RattleType) (laws : Laws R) → OneOutcome (Refused.Kinds.ps R laws) (Refused.Kinds.r R laws) (Refused.Reads.Post R laws)
refused R laws κs a r r' left left' p q = (only p q, refl)

pub «OutcomeRefusalFromRefusal::from» : OneOutcome OutcomeRefusalFromRefusal.Kinds.ps OutcomeRefusalFromRefusal.Kinds.r OutcomeRefusalFromRefusal.Reads.Post
«OutcomeRefusalFromRefusal::from» κs a r r' left left' p q = (only p q, refl)

pub done : OneOutcome Done.Kinds.ps Done.Kinds.r Done.Reads.Post
done κs a r r' left left' p q = (only p q, refl)

pub is_stopped : OneOutcome IsStopped.Kinds.ps IsStopped.Kinds.r IsStopped.Reads.Post
is_stopped κs a r r' left left' p q = (only p q, refl)

pub changed : OneOutcome Changed.Kinds.ps Changed.Kinds.r Changed.Reads.Post
changed κs a r r' left left' p q = (only p q, refl)
