-- No second outcome: each public function's own contract has one.
use mathlib.Core.Path.{◌≡◌, ap}
use Rattle.rules.specs.Promise.{Left, left}
use Rattle.rules.specs.OneOutcome.{OneOutcome}
use Rattle.rules.proofs.Unique.{only}
use Rattle.outcomes.proofs.Unique.{tells}
use Rattle.control.specs.Standing.{left_where}
use Rattle.control.proofs.serve as Serve
use Rattle.control.proofs.control as Control

pub serve : OneOutcome Serve.Kinds.ps Serve.Kinds.r Serve.Reads.Post
serve κs a r r' left left' p q = (tells r r' (only p q), ap (λ (l : Left). (tt, (tt, (tt, (l.bytes, (tt, (l.memory, (l.room, tt)))))))) (only p q))

pub control : OneOutcome Control.Kinds.ps Control.Kinds.r Control.Reads.Post
control κs a r r' left' left'' p q =
    let same : left_where r _ _ _ ≡ left_where r' _ _ _ = only p q in
    let outcome : r.outcome ≡ r'.outcome = tells r.outcome r'.outcome (ap (λ (l : Left). left l.answer l.count l.change l.bytes l.memory l.room) same) in
    (rw (outcome, ap (λ (l : Left). l.stands) same), ap (λ (l : Left). (tt, (l.bytes, (tt, (tt, (l.memory, (l.room, tt))))))) same)
