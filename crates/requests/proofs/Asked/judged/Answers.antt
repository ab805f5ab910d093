-- A descriptor is sent to the host, and needs no room.
-- Tried with `using` of `sent_back`: the proof did not close.
use Rattle.std.proofs.Common.{rules, arith, ◌≡◌, refl, Bool, true, false, not, ltb}
use mathlib.Core.Bool.{false≢true}
use borrow.Author.Tests.{le-ltb}
use Rattle.rules.specs.declared.Setup.{Setup}
use Rattle.rules.specs.Requests.{Describes, describes, request_of}
use Rattle.rules.proofs.Checks.{request_has}
use Rattle.requests.proofs.Asked.judged.Goals as goal

sent_back : (s : Setup) → request_of s ≡ Describes → ltb s.kind 0x80 ≡ false
sent_back s e = go (ltb s.kind 0x80) refl
  where
    go : (t : Bool) → ltb s.kind 0x80 ≡ t → t ≡ false
    go true h = absurd (false≢true (rw e at (request_has (λ kind code. ltb kind 0x80) (λ q. not (describes q)) s h refl)))
    go false h = refl

pub returns-in-Descriptor : goal.returns-in-Descriptor
returns-in-Descriptor c =
    let a = c.args.self.now in
    let found : request_of a.setup ≡ Describes = search rules in
    rw (found, sent_back a.setup found, le-ltb a.room 0 (omega arith)) c.described.ensures
