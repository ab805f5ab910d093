-- No second outcome: each public function's own contract has one.
use mathlib.Core.Path.{refl, ap}
use mathlib.Core.Bool.{true, false}
use mathlib.Core.List.{List, [], ◌∷◌}
use Prim.Native.Nat.{ℕ}
use Rattle.rules.specs.declared.Bridge.{Bridge}
use Rattle.rules.specs.declared.PageSize.TheVariants.{Of256}
use Rattle.rules.specs.Held.{docked, power_on, configuring}
use Rattle.rules.specs.Promise.{Left}
use Rattle.rules.specs.OneOutcome.{OneOutcome}
use Rattle.rules.proofs.Numbered.{numbered_tells}
use Rattle.rules.proofs.Unique.{only}
use Rattle.outcomes.proofs.Unique.{tells}
use Rattle.packets.specs.Awaited.{Awaits}
use Rattle.packets.proofs.awaited as Awaited
use Rattle.packets.proofs.packet as Packet
use Rattle.packets.proofs.unawaited as Unawaited

pub unawaited : OneOutcome Unawaited.Kinds.ps Unawaited.Kinds.r Unawaited.Reads.Post
unawaited κs a r r' left left' p q = (numbered_tells r r' (only p q), refl)

-- of a bridge that awaits a packet, bytes that hold the signature and no memory
pub awaited : OneOutcome Awaited.Kinds.ps Awaited.Kinds.r Awaited.Reads.Post
awaited κs a r r' left left' p q =
    let b : Bridge = configuring true (power_on (docked false Of256 a.0)) in
    let awaits : Awaits a.0 b = record { holds = refl; configured = refl; runs = refl; awaits = refl } in
    let held : List ℕ = 0 ∷ 0 ∷ 0 ∷ 0 ∷ a.1.0 ∷ [] in
    let same = only (p b awaits held [] refl) (q b awaits held [] refl) in
    (tells r r' same, ap (λ (l : Left). (tt, (tt, (tt, (l.room, tt))))) same)

pub packet : OneOutcome Packet.Kinds.ps Packet.Kinds.r Packet.Reads.Post
packet κs a r r' left left' p q =
    let held : List ℕ = 0 ∷ 0 ∷ 0 ∷ 0 ∷ a.1.0 ∷ [] in
    let same = only (p held [] refl) (q held [] refl) in
    (tells r r' same, ap (λ (l : Left). (tt, (tt, (tt, (l.room, tt))))) same)
