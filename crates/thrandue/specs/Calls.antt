-- What an exported call leaves and returns, as one equation with the rules.
use Rattle.std.specs.Prelude.{ℕ, ◌+◌, ◌*◌, ◌≡◌, List, [], ◌++◌, length, drop}
use Rattle.rules.specs.declared.Bridge.{Bridge}
use Rattle.rules.specs.declared.Dock.{Dock}
use Rattle.rules.specs.declared.Phase.{Phase}
use Rattle.rules.specs.declared.Phase.TheVariants.{Awaiting, Busy, StatusWaiting, Stopped}
use Rattle.rules.specs.declared.Stands.{Stands}
use Rattle.rules.specs.declared.Stands.TheVariants.{InRoom, InMemory}
use Rattle.rules.specs.declared.refusals.Refusal.{Refusal}
use Rattle.rules.specs.Words.{one}
use Rattle.rules.specs.Numbered.{answer_of, count_of}
use Rattle.rules.specs.declared.Change.TheVariants.{Drops}
use Rattle.rules.specs.Descriptors.{number_of as start_of}
use Rattle.rules.specs.Step.{Event, BusReset, Control, Packet, Report, StatusRequest, Burst, EndMark}
use Rattle.rules.specs.Held.{lun_number, docked, starting}
use Rattle.rules.specs.Promise.{Left, leaves}
use Rattle.outcomes.specs.declared.Outcome.{Outcome}
use Rattle.settings.specs.Store.{Reading, in_force}
use Rattle.image.specs.Image.{world_of, powered, put, added}

-- the number that a call returns, the image, the memory, and the lent room
pub record Called : Type 0 where
  pub returned : ℕ
  pub image : List ℕ
  pub memory : List ℕ
  pub room : List ℕ

abbrev pub called : ℕ → List ℕ → List ℕ → List ℕ → Called
called returned image memory room = record { returned = returned; image = image; memory = memory; room = room }

-- the answer in the low byte, the count of what was handed out above it; and where a reply stands in the memory, bit 48 and its start from bit 32 on
abbrev pub returns : ℕ → ℕ → Stands → ℕ
returns answer count InRoom = answer + 256 * count
returns answer count (InMemory at) = answer + 256 * count + 0x100000000 * (0x10000 + start_of at)

-- what an outcome returns, and leaves in an image
abbrev pub LeftInImage : Outcome Refusal → List ℕ → ℕ → List ℕ → Type 0
LeftInImage o image returned image' = (returned ≡ returns (answer_of o.answer) (count_of o.answer) InRoom) × (image' ≡ put o.change image)

-- what an event makes of what is held, in an image, beside what its change does
abbrev pub holds : Event → List ℕ → List ℕ
holds BusReset image = image
holds (Control setup host room) image = image
holds (Packet p room) image = put Drops image
holds (Report direction failed amount) image = image
holds (StatusRequest room) image = image
holds (Burst bytes) image = added bytes image
holds (EndMark room) image = put Drops image

-- what an event leaves, in an image: the configuration bytes are written and the change is made, so that a refused call, which writes and changes
-- nothing, leaves it byte for byte, but for what a packet and an end mark drop
abbrev pub in_image : Event → List ℕ → Left → Called
in_image e image l = called (returns l.answer l.count l.stands) (put l.change (holds e (l.bytes ++ drop 16 image))) l.memory l.room

-- what a call makes of an image, a memory, an event and the room that is lent to it
abbrev pub calls : List ℕ → List ℕ → (ℕ → Event) → List ℕ → Called
calls image memory event room = in_image (event (length room)) image (leaves (world_of image memory) event room)

-- a call that is lent no memory: with every memory, and it leaves it as it is
abbrev pub CallTold : List ℕ → (ℕ → Event) → List ℕ → ℕ → List ℕ → List ℕ → Type 0
CallTold image event room returned image' room' = (memory : List ℕ) → called returned image' memory room' ≡ calls image memory event room

-- power-on with what is read of a store: its number is returned, its fourteen bytes stand at their addresses, which are the defaults where it is refused, and
-- its page size is in force, which is the given one where it is refused
abbrev pub powered_by : Dock → Reading → Called
powered_by given r =
    let dock : Dock = docked given.bus_powered (in_force given.page r) given.drives in
    called r.answer (powered (starting dock r.settings.bytes)) [] []

-- ---- readers of the image

-- 0 awaiting, 1 busy, 2 status waiting, 3 stopped, 4 stopped and a Mass Storage Reset has come
abbrev pub number_of : Phase → ℕ
number_of Awaiting = 0
number_of (Busy direction lun tag l) = 1
number_of (StatusWaiting tag residue status) = 2
number_of (Stopped reset) = 3 + one reset

abbrev pub phase_number : Bridge → ℕ
phase_number b = number_of b.phase

-- "A reader for C of the LUN that the bridge is busy with": 0 or 1, and 0xFF where it is not busy
abbrev pub busy_lun : Phase → ℕ
busy_lun Awaiting = 0xFF
busy_lun (Busy direction lun tag l) = lun_number lun
busy_lun (StatusWaiting tag residue status) = 0xFF
busy_lun (Stopped reset) = 0xFF

-- 1 for bulk out, and 2 for bulk in
abbrev pub halt_number : Bridge → ℕ
halt_number b = one b.halts.outward + 2 * one b.halts.inward
