-- Tag, L and residue are numbers of 32 bits, after any history whose packets are bytes, whole or in bursts.
use Rattle.std.specs.Prelude.{List, [], ◌∷◌, ℕ, ◌^◌, ◌<◌}
use Rattle.rules.specs.declared.Change.{Change}
use Rattle.rules.specs.declared.Change.TheVariants.{Nothing, Sets, Awaits, Resets, Drops, Begins, Finishes, Stops, Notes, Clears, Ends}
use Rattle.rules.specs.declared.Phase.{Phase}
use Rattle.rules.specs.declared.Phase.TheVariants.{Awaiting, Busy, StatusWaiting, Stopped}
use Rattle.rules.specs.Held.{Start}
use Rattle.rules.specs.Step.{Event, BusReset, Control, Packet, Report, StatusRequest, Burst, EndMark, Machine, reached}
use Rattle.rules.specs.Demands.WellFormed.{Bytes}

-- a packet and a burst are bytes
abbrev pub OfBytes : Event → Type 0
OfBytes BusReset = Unit {0}
OfBytes (Control setup host room) = Unit {0}
OfBytes (Packet p room) = Bytes p
OfBytes (Report direction failed amount) = Unit {0}
OfBytes (StatusRequest room) = Unit {0}
OfBytes (Burst bytes) = Bytes bytes
OfBytes (EndMark room) = Unit {0}

abbrev pub AllOfBytes : List Event → Type 0
AllOfBytes [] = Unit {0}
AllOfBytes (e ∷ es) = OfBytes e × AllOfBytes es

-- two numbers of 32 bits: of a phase, and of a change
abbrev pub Both : ℕ → ℕ → Type 0
Both tag amount = (tag < 2 ^ 32) × (amount < 2 ^ 32)

abbrev pub Numbers : Phase → Type 0
Numbers Awaiting = Unit {0}
Numbers (Busy direction lun tag l) = Both tag l
Numbers (StatusWaiting tag residue status) = Both tag residue
Numbers (Stopped reset) = Unit {0}

abbrev pub Sized : Change → Type 0
Sized Nothing = Unit {0}
Sized (Sets c) = Unit {0}
Sized Awaits = Unit {0}
Sized Resets = Unit {0}
Sized Drops = Unit {0}
Sized (Begins direction lun tag l) = Both tag l
Sized (Finishes direction halts status tag residue) = Both tag residue
Sized Stops = Unit {0}
Sized Notes = Unit {0}
Sized (Clears direction) = Unit {0}
Sized Ends = Unit {0}

abbrev pub StaysSized : Machine → Type 0
StaysSized m =
    (start : Start) (memory : List ℕ) (history : List Event) → AllOfBytes history → Numbers (m.shows (reached m start memory history)).bridge.phase
