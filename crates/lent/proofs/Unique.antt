-- No second outcome: each public function's own contract has one.
use mathlib.Core.Path.{refl, ap}
use mathlib.Core.List.{List}
use Prim.Native.Nat.{ℕ}
use Rattle.rules.specs.OneOutcome.{OneOutcome, OnePart}
use Rattle.rules.proofs.Unique.{only}
use Rattle.lent.proofs.word as Word
use Rattle.lent.proofs.long as Long
use Rattle.lent.proofs.bytes_of as BytesOf
use Rattle.lent.proofs.copy as Copy
use Rattle.lent.proofs.part as Part
use Rattle.lent.proofs.clear as Clear

pub word : OneOutcome Word.Kinds.ps Word.Kinds.r Word.Reads.Post
word κs a r r' left left' p q = (only p q, refl)

pub long : OneOutcome Long.Kinds.ps Long.Kinds.r Long.Reads.Post
long κs a r r' left left' p q = (only p q, refl)

pub bytes_of : OneOutcome BytesOf.Kinds.ps BytesOf.Kinds.r BytesOf.Reads.Post
bytes_of κs a r r' left left' p q = (only p q, refl)

pub copy : OneOutcome Copy.Kinds.ps Copy.Kinds.r Copy.Reads.Post
copy κs a r r' left left' p q = (refl, ap (λ (now : List ℕ). (now, (tt, (tt, tt)))) (only p q))

pub part : OnePart Part.Kinds.ps Part.Kinds.r (λ κs r. r) Part.Reads.Post
part κs a r r' left left' p q = (only p.points q.points, only p.bytes q.bytes, refl)

pub clear : OneOutcome Clear.Kinds.ps Clear.Kinds.r Clear.Reads.Post
clear κs a r r' left left' p q = (refl, ap (λ (now : List ℕ). (now, (tt, tt))) (only p q))
