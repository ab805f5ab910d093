-- No second outcome: each public function's own contract has one.
use mathlib.Core.Path.{refl, ap}
use mathlib.Core.List.{List}
use Prim.Native.Nat.{ℕ}
use Rattle.rules.specs.OneOutcome.{OneOutcome, OnePart}
use Rattle.rules.proofs.Unique.{only}
use Rattle.image.proofs.power_on as PowerOn
use Rattle.image.proofs.power_on_with as PowerOnWith
use Rattle.image.proofs.signature_of as SignatureOf
use Rattle.image.proofs.drives_of as DrivesOf
use Rattle.image.proofs.seen as Seen
use Rattle.image.proofs.load as Load
use Rattle.image.proofs.Fragments.bytes as FragmentsBytes
use Rattle.image.proofs.held as Held
use Rattle.image.proofs.hold as Hold
use Rattle.image.proofs.make as Make

pub power_on : OneOutcome PowerOn.Kinds.ps PowerOn.Kinds.r PowerOn.Reads.Post
power_on κs a r r' left left' p q = (refl, ap (λ (now : List ℕ). (now, (tt, tt))) (only p q))

pub power_on_with : OneOutcome PowerOnWith.Kinds.ps PowerOnWith.Kinds.r PowerOnWith.Reads.Post
power_on_with κs a r r' left left' p q = (refl, ap (λ (now : List ℕ). (now, (tt, (tt, tt)))) (only p q))

pub signature_of : OneOutcome SignatureOf.Kinds.ps SignatureOf.Kinds.r SignatureOf.Reads.Post
signature_of κs a r r' left left' p q = (only p q, refl)

pub drives_of : OneOutcome DrivesOf.Kinds.ps DrivesOf.Kinds.r DrivesOf.Reads.Post
drives_of κs a r r' left left' p q = (only p q, refl)

pub seen : OneOutcome Seen.Kinds.ps Seen.Kinds.r Seen.Reads.Post
seen κs a r r' left left' p q = (only p q, refl)

pub load : OneOutcome Load.Kinds.ps Load.Kinds.r Load.Reads.Post
load κs a r r' left left' p q = (only p q, refl)

pub make : OneOutcome Make.Kinds.ps Make.Kinds.r Make.Reads.Post
make κs a r r' left left' p q = (refl, ap (λ (now : List ℕ). (now, (tt, tt))) (only p q))

pub Fragments::bytes : OnePart FragmentsBytes.Kinds.ps FragmentsBytes.Kinds.r (λ κs r. r) FragmentsBytes.Reads.Post
Fragments::bytes κs a r r' left left' p q = (only p.1 q.1, only p.0 q.0, refl)

pub held : OneOutcome Held.Kinds.ps Held.Kinds.r Held.Reads.Post
held κs a r r' left left' p q = (only p q, refl)

pub hold : OneOutcome Hold.Kinds.ps Hold.Kinds.r Hold.Reads.Post
hold κs a r r' left left' p q = (refl, ap (λ (now : List ℕ). (now, (tt, tt))) (only p q))
