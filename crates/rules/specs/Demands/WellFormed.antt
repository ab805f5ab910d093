-- What is true of the bridge after any history.
use Rattle.std.specs.Prelude.{◌≡◌, Bool, true, false, ◌&&◌, ◌||◌, List, [], ◌∷◌, ℕ, ◌<◌, ◌≤◌, length, leb, ltb}
use Rattle.rules.specs.declared.Direction.TheVariants.{Out, In}
use Rattle.rules.specs.declared.Drives.{Drives}
use Rattle.rules.specs.declared.Halts.{Halts}
use Rattle.rules.specs.declared.Phase.{Phase}
use Rattle.rules.specs.declared.Phase.TheVariants.{Awaiting, Busy, StatusWaiting, Stopped}
use Rattle.rules.specs.Words.{byte}
use Rattle.rules.specs.Held.{World, Start, drive_count, lun_number}
use Rattle.rules.specs.Step.{Event, BusReset, Control, Packet, Report, StatusRequest, Burst, EndMark, Machine, reached}

abbrev pub Bytes : List ℕ → Type 0
Bytes s = (k : ℕ) → byte k s < 256

-- the host's data are bytes
abbrev pub Proper : Event → Type 0
Proper BusReset = Unit {0}
Proper (Control setup host room) = Bytes host
Proper (Packet p room) = Unit {0}
Proper (Report direction failed amount) = Unit {0}
Proper (StatusRequest room) = Unit {0}
Proper (Burst bytes) = Unit {0}
Proper (EndMark room) = Unit {0}

abbrev pub ProperAll : List Event → Type 0
ProperAll [] = Unit {0}
ProperAll (e ∷ es) = Proper e × ProperAll es

-- with L = 0 a busy bridge has no direction, for which Out stands, and its LUN is that of a drive that the dock holds; a status is 0, 1 or 2; a stop
-- without a reset has both pipes halted, and one with a reset at least one
abbrev pub sound : Drives → Phase → Halts → Bool
sound drives Awaiting h = true
sound drives (Busy Out lun tag l) h = ltb (lun_number lun) (drive_count drives)
sound drives (Busy In lun tag l) h = ltb (lun_number lun) (drive_count drives) && ltb 0 l
sound drives (StatusWaiting tag residue status) h = leb status 2
sound drives (Stopped false) h = h.outward && h.inward
sound drives (Stopped true) h = h.outward || h.inward

pub record WellFormed (w : World) : Type 0 where
  pub sixteen : length w.bytes ≡ 16
  pub bytes : Bytes w.bytes
  pub memory : Bytes w.memory
  pub phase : sound w.bridge.dock.drives w.bridge.phase w.bridge.halts ≡ true
  -- no more is held than it takes to see that a packet is too long
  pub held : length w.held ≤ 32

abbrev pub StaysWellFormed : Machine → Type 0
StaysWellFormed m =
    (start : Start) (memory : List ℕ) (history : List Event) → Bytes start.settings → Bytes memory → ProperAll history
    → WellFormed (m.shows (reached m start memory history))
