-- No second outcome: each public function's own contract has one.
use mathlib.Core.Path.{refl}
use mathlib.Core.List.{[]}
use Rattle.rules.specs.OneOutcome.{OneOutcome}
use Rattle.rules.proofs.Unique.{only}
use Rattle.outcomes.proofs.Unique.{tells}
use Rattle.reports.proofs.report as Report

pub report : OneOutcome Report.Kinds.ps Report.Kinds.r Report.Reads.Post
report κs a r r' left left' p q = (tells r r' (only (p [] []) (q [] [])), refl)
