-- The host's side: how it makes a command packet, a pass-through block and a setup, and takes a status packet apart, by the layouts of the standards
-- and the data sheet. What was made is read back and accepted, and what is accepted was made so.
use Rattle.std.specs.Prelude.{◌≡◌, ◌⊎◌, Bool, true, false, cond, List, [], ◌∷◌, ◌++◌, ℕ, ◌+◌, ◌*◌, ◌/◌, ◌%◌, ◌^◌, ◌<◌, ◌≤◌, length, ltb}
use Rattle.rules.specs.declared.CommandPacket.{CommandPacket}
use Rattle.rules.specs.declared.Direction.{Direction}
use Rattle.rules.specs.declared.Direction.TheVariants.{Out, In}
use Rattle.rules.specs.declared.Lun.{Lun}
use Rattle.rules.specs.declared.Phase.TheVariants.{Awaiting, Busy}
use Rattle.rules.specs.declared.Request.TheVariants.{SetConfiguration, GetConfiguration, ClearFeature, GetStatus, GetMaxLun, MassStorageReset, LoadConfigData, ReadConfigData, SoftReset, BogusRead}
use Rattle.rules.specs.Words.{byte, bit, one}
use Rattle.rules.specs.Held.{World, drive_count, lun_number, world, in_phase}
use Rattle.rules.specs.Requests.{Named, Known, Describes}
use Rattle.rules.specs.Step.{Control, Packet, Machine}
use Rattle.rules.specs.Demands.Requests.{wire}
use Rattle.rules.specs.Demands.WellFormed.{Bytes}

-- ---- the makers

-- a number of 32 bits: "ordered with the LSB (byte 0) first"
abbrev pub four : ℕ → List ℕ
four n = n % 256 ∷ n / 256 % 256 ∷ n / 256 / 256 % 256 ∷ n / 256 / 256 / 256 ∷ []

-- bmCBWFlags: "Bit 7 Direction", 0 for Data-Out, 1 for Data-In
abbrev pub flags_for : Direction → ℕ
flags_for Out = 0x00
flags_for In = 0x80

-- the command block wrapper (BOT 5.1): "the value 43425355h (little endian)", tag, length, flags, LUN, size of the block, and its field
abbrev pub wrapper : ℕ → ℕ → ℕ → ℕ → ℕ → List ℕ → List ℕ
wrapper tag l flags lun size field = four 0x43425355 ++ four tag ++ four l ++ flags ∷ lun ∷ size ∷ field

-- .. for a drive, with a block and what fills its field behind it
abbrev pub packet : Lun → ℕ → ℕ → Direction → List ℕ → List ℕ → List ℕ
packet lun tag l d block filling = wrapper tag l (flags_for d) (lun_number lun) (length block) (block ++ filling)

-- "The only legal values are 1 through 16", of a field of sixteen bytes
pub record Fills (block filling : List ℕ) : Type 0 where
  pub some : 1 ≤ length block
  pub sixteen : length block + length filling ≡ 16

-- a byte from its bits, bit 0 first
abbrev pub eight : (ℕ → Bool) → ℕ
eight bits =
    one (bits 0) + 2 * one (bits 1) + 4 * one (bits 2) + 8 * one (bits 3) + 16 * one (bits 4) + 32 * one (bits 5) + 64 * one (bits 6) + 128 * one (bits 7)

-- the pass-through block (source 001, Table 7-1): signature, 0x24, action, registers, the block count that the bridge ignores, eight contents, zeros
abbrev pub pass_through : ℕ → (ℕ → Bool) → (ℕ → Bool) → ℕ → List ℕ → List ℕ
pass_through signature action registers count contents =
    signature ∷ 0x24 ∷ eight action ∷ eight registers ∷ count ∷ contents ++ 0 ∷ 0 ∷ 0 ∷ []

-- what a block that reads registers, action bit 0, may have beside it
abbrev pub Askable : (ℕ → Bool) → ℕ → Direction → Type 0
Askable action l d = action 0 ≡ true → (action 3 ≡ false) × (action 4 ≡ false) × (l ≡ 8) × (d ≡ In)

-- the command status wrapper (BOT 5.2), taken apart
pub record TakenApart : Type 0 where
  pub size : ℕ
  pub signature : ℕ
  pub tag : ℕ
  pub residue : ℕ
  pub status : ℕ

abbrev pub joined : List ℕ → ℕ → ℕ
joined p k = byte k p + 256 * (byte (k + 1) p + 256 * (byte (k + 2) p + 256 * byte (k + 3) p))

abbrev pub taken_apart : List ℕ → TakenApart
taken_apart p = record { size = length p; signature = joined p 0; tag = joined p 4; residue = joined p 8; status = byte 12 p }

-- "indicating CSW": thirteen bytes that begin with "the value 53425355h (little endian)"
abbrev pub telling : ℕ → ℕ → ℕ → TakenApart
telling tag residue status = record { size = 13; signature = 0x53425355; tag = tag; residue = residue; status = status }

-- ---- what was made is read back

-- A command packet says its tag, L, direction, LUN and block; with L = 0 both directions say the same.
abbrev pub PacketReadBack : (List ℕ → CommandPacket) → (CommandPacket → Direction) → (List ℕ → List ℕ) → Type 0
PacketReadBack command way part =
    (lun : Lun) (tag l : ℕ) (d : Direction) (block filling : List ℕ)
    → (let p = packet lun tag l d block filling in
    (command p ≡ record { tag = tag; length = l; flags = flags_for d; lun = lun_number lun; block_length = length block })
    × (0 < l → way (command p) ≡ d)
    × (l ≡ 0 → way (command p) ≡ Out)
    × (part p ≡ block ++ filling))

-- A pass-through block says each bit of its action, each register that it selects, and the contents of each.
abbrev pub BlockReadBack : (List ℕ → ℕ) → (List ℕ → ℕ → Bool) → (List ℕ → ℕ → ℕ) → Type 0
BlockReadBack act selects content =
    (signature count : ℕ) (action registers : ℕ → Bool) (contents : List ℕ) (k : ℕ) → length contents ≡ 8 → k < 8
    → (let block = pass_through signature action registers count contents in
    (bit k (act block) ≡ action k) × (selects block k ≡ registers k) × (content block k ≡ byte k contents))

-- A status packet tells its tag, residue and status.
abbrev pub StatusReadBack : (ℕ → ℕ → ℕ → List ℕ) → Type 0
StatusReadBack make =
    (tag residue status : ℕ) → tag < 2 ^ 32 → residue < 2 ^ 32 → taken_apart (make tag residue status) ≡ telling tag residue status

-- ---- what was made is accepted

-- configured, awaiting a command, with bulk out not halted
pub record Free (w : World) : Type 0 where
  pub configured : w.bridge.configured ≡ true
  pub awaits : w.bridge.phase ≡ Awaiting
  pub runs : w.bridge.halts.outward ≡ false

-- the dock holds this drive
abbrev pub Has : World → Lun → Type 0
Has w lun = lun_number lun < drive_count w.bridge.dock.drives

-- A made packet is answered 0 where there is room for eleven operations.
abbrev pub MadeIsAccepted : Machine → Type 0
MadeIsAccepted m =
    (s : m.State) (lun : Lun) (tag l : ℕ) (d : Direction) (block filling : List ℕ) (room : ℕ)
    → Free (m.shows s) → Has (m.shows s) lun → Fills block filling → 11 ≤ room
    → (m.takes s (Packet (packet lun tag l d block filling) room)).answer ≡ 0

-- A made pass-through block with the bridge's signature is begun, with the packet's LUN, tag and length, and in its direction if there is one; nothing
-- else changes.
abbrev pub MadeIsBegun : Machine → Type 0
MadeIsBegun m =
    (s : m.State) (lun : Lun) (tag l : ℕ) (d : Direction) (action registers : ℕ → Bool) (count : ℕ) (contents : List ℕ) (room : ℕ)
    → Free (m.shows s) → Has (m.shows s) lun → Askable action l d → length contents ≡ 8 → 11 ≤ room
    → (let p = packet lun tag l d (pass_through (byte 0x04 (m.shows s).bytes) action registers count contents) [] in
    m.shows (m.takes s (Packet p room)).next
    ≡ world (in_phase (Busy (cond (ltb 0 l) d Out) lun tag l) (m.shows s).bridge) (m.shows s).bytes (m.shows s).memory)

-- ---- what is accepted was made so

-- An accepted packet was made: it has a drive that the dock holds, a tag, an L, a direction, a block and a filling.
abbrev pub AcceptedWasMade : Machine → Type 0
AcceptedWasMade m =
    (s : m.State) (p : List ℕ) (room : ℕ) → Bytes p → (m.takes s (Packet p room)).answer ≡ 0
    → (lun : Lun) × (tag : ℕ) × (l : ℕ) × (d : Direction) × (block : List ℕ) × (filling : List ℕ)
    × Has (m.shows s) lun × Fills block filling × (p ≡ packet lun tag l d block filling)

-- 14 is for what has the layout of a command packet, and 13 for what has not.
abbrev pub LaidOut : List ℕ → Type 0
LaidOut p =
    (tag : ℕ) × (l : ℕ) × (flags : ℕ) × (lun : ℕ) × (size : ℕ) × (field : List ℕ) × (length field ≡ 16) × (p ≡ wrapper tag l flags lun size field)

abbrev pub DamageIsTold : Machine → Type 0
DamageIsTold m =
    (s : m.State) (p : List ℕ) (room : ℕ) → Bytes p
    → ((m.takes s (Packet p room)).answer ≡ 14 → LaidOut p) × ((m.takes s (Packet p room)).answer ≡ 13 → LaidOut p → ⊥)

-- A packet that makes operations has a pass-through block that was made with the bridge's signature.
abbrev pub BegunWasMade : Machine → Type 0
BegunWasMade m =
    (s : m.State) (p : List ℕ) (room : ℕ) → Bytes p → ((m.takes s (Packet p room)).operations ≡ [] → ⊥)
    → (lun : Lun) × (tag : ℕ) × (l : ℕ) × (d : Direction) × (action : (ℕ → Bool)) × (registers : (ℕ → Bool)) × (count : ℕ) × (contents : List ℕ)
    × Has (m.shows s) lun × Askable action l d × (length contents ≡ 8)
    × (p ≡ packet lun tag l d (pass_through (byte 0x04 (m.shows s).bytes) action registers count contents) [])

-- ---- setups

-- a pipe by its endpoint address
abbrev pub Pipe : ℕ → Type 0
Pipe index = (index ≡ 0x01) ⊎ (index ≡ 0x82)

-- how a host makes each request of the table
pub data Asks : List ℕ → Named → Type 0 where
  set_configuration : (value : ℕ) → (value ≡ 0) ⊎ (value ≡ 2) → Asks (wire 0x00 0x09 value 0 0) (Known SetConfiguration)
  get_configuration : Asks (wire 0x80 0x08 0 0 1) (Known GetConfiguration)
  clear_feature : (index : ℕ) → Pipe index → Asks (wire 0x02 0x01 0 index 0) (Known ClearFeature)
  get_status : (index : ℕ) → Pipe index → Asks (wire 0x82 0x00 0 index 2) (Known GetStatus)
  get_max_lun : Asks (wire 0xA1 0xFE 0 0 1) (Known GetMaxLun)
  mass_storage_reset : Asks (wire 0x21 0xFF 0 0 0) (Known MassStorageReset)
  load_config_data : (place start n : ℕ) → Asks (wire 0x40 0x01 place start n) (Known LoadConfigData)
  read_config_data : (place start n : ℕ) → Asks (wire 0xC0 0x02 place start n) (Known ReadConfigData)
  soft_reset : Asks (wire 0x40 0x03 0 0 0) (Known SoftReset)
  bogus_read : (value index n : ℕ) → Asks (wire 0xC0 0x01 value index n) (Known BogusRead)
  get_descriptor : (value index n : ℕ) → Asks (wire 0x80 0x06 value index n) Describes

-- A setup so made is taken for that request.
abbrev pub AskedIsFound : (List ℕ → Named) → Type 0
AskedIsFound find = (setup : List ℕ) (q : Named) → Asks setup q → find setup ≡ q

-- An accepted request was made so.
abbrev pub AcceptedWasAsked : Machine → Type 0
AcceptedWasAsked m =
    (s : m.State) (setup host : List ℕ) (room : ℕ) → Bytes setup → (m.takes s (Control setup host room)).answer ≡ 0
    → (q : Named) × Asks setup q
