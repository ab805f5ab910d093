-- Every change of an event whose packet is bytes has numbers of 32 bits; so has the bridge after any history of them, and what it holds is bytes.
use mathlib.Core.Path.{refl}
use mathlib.Core.Bool.{Bool, true, false, cond}
use mathlib.Core.List.{List, [], ◌∷◌, ◌++◌}
use Prim.Native.Nat.{ℕ, ◌+◌, ◌^◌, ◌<◌}
use native.Mathlib.Omega.{arith}
use Rattle.rules.specs.declared.Bridge.{Bridge}
use Rattle.rules.specs.declared.Change.{Change}
use Rattle.rules.specs.declared.Change.TheVariants.{Nothing, Sets, Awaits, Resets, Drops, Begins, Finishes, Stops, Notes, Clears, Ends}
use Rattle.rules.specs.declared.Direction.TheVariants.{Out, In}
use Rattle.rules.specs.declared.Phase.{Phase}
use Rattle.rules.specs.declared.Phase.TheVariants.{Awaiting, Busy, StatusWaiting, Stopped}
use Rattle.rules.specs.declared.Request.TheVariants.{SetConfiguration, GetConfiguration, ClearFeature, GetStatus, GetMaxLun, MassStorageReset, LoadConfigData, ReadConfigData, SoftReset, BogusRead}
use Rattle.rules.specs.declared.Setup.{Setup}
use Rattle.rules.specs.Words.{long}
use Rattle.rules.specs.Held.{World, Start, powered, is_stopped}
use Rattle.rules.specs.Bursts.{too_long}
use Rattle.rules.specs.Changes.{made, drops}
use Rattle.rules.specs.Requests.{Named, Unknown, Known, Describes, setup_of, request_of, change_by}
use Rattle.rules.specs.Packets.{command_of, signature_of, recognises, command_taken}
use Rattle.rules.specs.Reports.{mismatch, residue_of, report_taken}
use Rattle.rules.specs.Step.{Event, BusReset, Control, Packet, Report, StatusRequest, Burst, EndMark, answer, done, damaged, change_done, change, held_after, step, rules, after}
use Rattle.rules.specs.Demands.WellFormed.{Bytes}
use Rattle.rules.specs.Demands.Sizes.{OfBytes, AllOfBytes, Numbers, Sized, StaysSized}
use Rattle.rules.proofs.Bursts.{held_has}
use Rattle.rules.proofs.Changes.{either, feature}
use Rattle.rules.proofs.Demands.WellFormed.{bytes_append, bytes_tested}

-- four bytes are a number of 32 bits
long_sized : (p : List ℕ) → Bytes p → (k : ℕ) → long k p < 2 ^ 32
long_sized p h k = omega (arith, h k, h (k + 1), h (k + 2), h (k + 2 + 1))

command : (t : Bool) (p : List ℕ) → Bytes p → Sized (command_taken t (command_of p))
command true p h = (long_sized p h 4, long_sized p h 8)
command false p h = (long_sized p h 4, long_sized p h 8)

residue_sized : (wrong : Bool) (l amount : ℕ) → l < 2 ^ 32 → residue_of wrong l amount < 2 ^ 32
residue_sized true l amount h = h
residue_sized false l amount h = omega (arith, h)

report : (direction failed amount : ℕ) (p : Phase) → Numbers p → Sized (report_taken direction failed amount p)
report direction failed amount Awaiting n = tt
report direction failed amount (Busy host lun tag l) n = (n.0, residue_sized (mismatch l host direction amount) l amount n.1)
report direction failed amount (StatusWaiting tag residue status) n = tt
report direction failed amount (Stopped reset) n = tt

request : (r : Named) (s : Setup) (b : Bridge) → Sized (change_by r s b)
request (Known SetConfiguration) s b = tt
request (Known GetConfiguration) s b = tt
request (Known ClearFeature) s b = feature Sized tt (λ d. tt) tt s.index b
request (Known GetStatus) s b = tt
request (Known GetMaxLun) s b = tt
request (Known MassStorageReset) s b = either Sized (is_stopped b.phase) Notes Resets tt tt
request (Known LoadConfigData) s b = tt
request (Known ReadConfigData) s b = tt
request (Known SoftReset) s b = either Sized (is_stopped b.phase) Drops Resets tt tt
request (Known BogusRead) s b = tt
request Describes s b = tt
request Unknown s b = tt

-- of a world, with what is held
abbrev pub Measured : World → Type 0
Measured w = Numbers w.bridge.phase × Bytes w.held

taken : (w : World) (e : Event) → Measured w → OfBytes e → Sized (change_done w e)
taken w BusReset n h = tt
taken w (Control setup host room) n h = request (request_of (setup_of setup)) (setup_of setup) w.bridge
taken w (Packet p room) n h = command (recognises (signature_of w.bytes) p) p h
taken w (Report direction failed amount) n h = report direction failed amount w.bridge.phase n.0
taken w (StatusRequest room) n h = tt
taken w (Burst bytes) n h = tt
taken w (EndMark room) n h = command (recognises (signature_of w.bytes) w.held) w.held n.1

pub sized : (w : World) (e : Event) → Measured w → OfBytes e → Sized (change w e)
unfolding change
sized w e n h = either Sized (done (answer w e)) (change_done w e) _ (taken w e n h) (either Sized (damaged (answer w e)) Stops Nothing tt tt)

-- ---- what a change leaves

leaves : (c : Change) (b : Bridge) → Sized c → Numbers b.phase → Numbers (made c b).phase
leaves Nothing b z n = n
leaves (Sets c) b z n = tt
leaves Awaits b z n = tt
leaves Resets b z n = tt
leaves Drops b z n = n
leaves (Begins direction lun tag l) b z n = z
leaves (Finishes Out halts status tag residue) b z n = z
leaves (Finishes In halts status tag residue) b z n = z
leaves Stops b z n = tt
leaves Notes b z n = tt
leaves (Clears Out) b z n = n
leaves (Clears In) b z n = n
leaves Ends b z n = tt

-- nothing is bytes, and so is too much
none : Bytes []
none = bytes_tested [] refl

holds : (w : World) (e : Event) → Bytes w.held → OfBytes e → Bytes (held_after w e)
holds w BusReset b h = none
holds w (Control setup host room) b h = go (drops (change w (Control setup host room)))
  where
    go : (t : Bool) → Bytes (cond t [] w.held)
    go true = none
    go false = b
holds w (Packet p room) b h = none
holds w (Report direction failed amount) b h = b
holds w (StatusRequest room) b h = b
holds w (Burst bytes) b h = held_has Bytes (w.held ++ bytes) (bytes_append w.held bytes b h) (bytes_tested too_long refl)
holds w (EndMark room) b h = none

pub stepped : (w : World) (e : Event) → Measured w → OfBytes e → Measured (step w e).next
unfolding step
stepped w e n h = (leaves (change w e) w.bridge (sized w e n h) n.0, holds w e n.1 h)

pub measured : (w : World) (history : List Event) → Measured w → AllOfBytes history → Measured (after rules w history)
measured w [] n h = n
measured w (e ∷ es) n h = measured (step w e).next es (stepped w e n h.0) h.1

pub measured_on : (start : Start) (memory : List ℕ) → Measured (powered start memory)
measured_on start memory = (tt, none)

pub stays_sized : StaysSized rules
stays_sized start memory history h = (measured (powered start memory) history (measured_on start memory) h).0
