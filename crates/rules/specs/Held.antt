-- What the bridge holds.
use Rattle.std.specs.Prelude.{ℕ, min, Bool, true, false, cond, ◌||◌, List, [], ◌∷◌, length, take, drop, eqb}
use Rattle.rules.specs.declared.Bridge.{Bridge}
use Rattle.rules.specs.declared.Direction.{Direction}
use Rattle.rules.specs.declared.Dock.{Dock}
use Rattle.rules.specs.declared.Drives.{Drives}
use Rattle.rules.specs.declared.Drives.TheVariants.{One, Two}
use Rattle.rules.specs.declared.Direction.TheVariants.{Out, In}
use Rattle.rules.specs.declared.Halts.{Halts}
use Rattle.rules.specs.declared.Lun.{Lun}
use Rattle.rules.specs.declared.Lun.TheVariants.{Lun0, Lun1}
use Rattle.rules.specs.declared.PageSize.{PageSize}
use Rattle.rules.specs.declared.PageSize.TheVariants.{Of32, Of64, Of128, Of256}
use Rattle.rules.specs.declared.Phase.{Phase}
use Rattle.rules.specs.declared.Phase.TheVariants.{Awaiting, Busy, StatusWaiting, Stopped}
use Rattle.rules.specs.Words.{over}

-- The bridge with the sixteen configuration bytes, the memory part and what is held of a packet in bursts beside it.
pub record World : Type 0 where
  pub bridge : Bridge
  pub bytes : List ℕ
  pub memory : List ℕ
  pub held : List ℕ

-- with nothing held
abbrev pub world : Bridge → List ℕ → List ℕ → World
world b bytes memory = record { bridge = b; bytes = bytes; memory = memory; held = [] }

-- with this held
abbrev pub holding : List ℕ → World → World
holding held w = record { bridge = w.bridge; bytes = w.bytes; memory = w.memory; held = held }

-- "USB configuration: 0 or 2."
abbrev pub configuration : Bridge → ℕ
configuration b = cond b.configured 2 0

-- "Its size M is its length or 2,048, whichever is smaller. M = 0 means none fitted."
abbrev pub size_for : ℕ → ℕ
size_for n = min n 2048

abbrev pub size_of : List ℕ → ℕ
size_of memory = size_for (length memory)

-- the M bytes of it that count
abbrev pub fitted : List ℕ → List ℕ
fitted memory = take (size_of memory) memory

-- "parts with pages of 32, 64, 128 or 256 bytes"
abbrev pub page_bytes : PageSize → ℕ
page_bytes Of32 = 32
page_bytes Of64 = 64
page_bytes Of128 = 128
page_bytes Of256 = 256

-- "It is set at power-on; another number is taken as 32, the safe one."
unfoldable pub page_of : ℕ → PageSize
page_of n = cond (eqb n 64) Of64 (cond (eqb n 128) Of128 (cond (eqb n 256) Of256 Of32))

-- "The desk dock holds two", "when the dock says, at power-on, two drives": the number 2 says two, every other number says one
unfoldable pub drives_of : ℕ → Drives
drives_of n = cond (eqb n 2) Two One

abbrev pub drive_count : Drives → ℕ
drive_count One = 1
drive_count Two = 2

-- Get Max LUN: "byte 0"; with two drives it "answers 1"
abbrev pub max_lun : Drives → ℕ
max_lun One = 0
max_lun Two = 1

abbrev pub lun_number : Lun → ℕ
lun_number Lun0 = 0
lun_number Lun1 = 1

-- "A halt mark for bulk out (0x01) and one for bulk in (0x82)."
abbrev pub bulk_out : ℕ
bulk_out = 0x01

abbrev pub bulk_in : ℕ
bulk_in = 0x82

abbrev pub marks : Bool → Bool → Halts
marks out back = record { outward = out; inward = back }

-- What is fixed at power-on, told of the dock: whether it is bus powered, its page size, and its drives.
abbrev pub docked : Bool → PageSize → Drives → Dock
docked powered page drives = record { bus_powered = powered; page = page; drives = drives }

-- "At power-on: configuration 0, awaiting, no halts."
abbrev pub power_on : Dock → Bridge
power_on dock = record { dock = dock; configured = false; phase = Awaiting; halts = marks false false }

-- "At power-on all are 0, but 0x04 is 0x24, the command signature."
abbrev pub power_on_bytes : List ℕ
power_on_bytes = 0 ∷ 0 ∷ 0 ∷ 0 ∷ 0x24 ∷ 0 ∷ 0 ∷ 0 ∷ 0 ∷ 0 ∷ 0 ∷ 0 ∷ 0 ∷ 0 ∷ 0 ∷ 0 ∷ []

-- What power-on is told: the dock, and the settings' "fourteen bytes for addresses 2 to F".
pub record Start : Type 0 where
  pub dock : Dock
  pub settings : List ℕ

abbrev pub starting : Dock → List ℕ → Start
starting dock settings = record { dock = dock; settings = settings }

-- "a refused store leaves the defaults", and so does none
abbrev pub defaults : List ℕ
defaults = drop 2 power_on_bytes

abbrev pub by_default : Dock → Start
by_default dock = starting dock defaults

-- "They reach the bridge at power-on only."
abbrev pub start_bytes : Start → List ℕ
start_bytes start = over power_on_bytes 2 start.settings

abbrev pub powered : Start → List ℕ → World
powered start memory = world (power_on start.dock) (start_bytes start) memory

-- ---- the bridge, changed in one respect

abbrev pub configuring : Bool → Bridge → Bridge
configuring c b = record { dock = b.dock; configured = c; phase = b.phase; halts = b.halts }

abbrev pub in_phase : Phase → Bridge → Bridge
in_phase p b = record { dock = b.dock; configured = b.configured; phase = p; halts = b.halts }

abbrev pub halted : Bool → Bool → Bridge → Bridge
halted out back b = record { dock = b.dock; configured = b.configured; phase = b.phase; halts = marks out back }

-- the pipe of a direction is halted, if told so
abbrev pub halting : Bool → Direction → Bridge → Bridge
halting t Out b = halted (t || b.halts.outward) b.halts.inward b
halting t In b = halted b.halts.outward (t || b.halts.inward) b

-- the halt of a direction's pipe is cleared
abbrev pub clearing : Direction → Bridge → Bridge
clearing Out b = halted false b.halts.inward b
clearing In b = halted b.halts.outward false b

-- ---- which phase

abbrev pub is_awaiting : Phase → Bool
is_awaiting Awaiting = true
is_awaiting (Busy direction lun tag l) = false
is_awaiting (StatusWaiting tag residue status) = false
is_awaiting (Stopped reset) = false

abbrev pub is_busy : Phase → Bool
is_busy Awaiting = false
is_busy (Busy direction lun tag l) = true
is_busy (StatusWaiting tag residue status) = false
is_busy (Stopped reset) = false

abbrev pub is_status_waiting : Phase → Bool
is_status_waiting Awaiting = false
is_status_waiting (Busy direction lun tag l) = false
is_status_waiting (StatusWaiting tag residue status) = true
is_status_waiting (Stopped reset) = false

abbrev pub is_stopped : Phase → Bool
is_stopped Awaiting = false
is_stopped (Busy direction lun tag l) = false
is_stopped (StatusWaiting tag residue status) = false
is_stopped (Stopped reset) = true
