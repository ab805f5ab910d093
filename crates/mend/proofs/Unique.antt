-- No second outcome: each public function's own contract has one.
use mathlib.Core.Path.{ap}
use Rattle.rules.specs.OneOutcome.{OneOutcome}
use Rattle.rules.proofs.Numbered.{answer_tells}
use Rattle.rules.proofs.Unique.{only}
use Rattle.mend.specs.Mend.{Left}
use Rattle.mend.proofs.mend as Mend

pub mend : OneOutcome Mend.Kinds.ps Mend.Kinds.r Mend.Reads.Post
mend κs a r r' left left' p q = (
  answer_tells r r' (ap (λ (l : Left). l.comes_to.answer) (only p q)) (ap (λ (l : Left). l.comes_to.changes) (only p q)),
  ap (λ (l : Left). (l.image, (l.list, tt))) (only p q),
)
