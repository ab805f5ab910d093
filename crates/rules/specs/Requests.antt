-- Control requests: the fields of a setup, the table, places and addresses, and what each request does. Descriptors has what is found of the one that
-- asks for a descriptor.
use Rattle.std.specs.Prelude.{ℕ, ◌+◌, ◌-◌, ◌/◌, ◌%◌, Bool, true, false, cond, not, ◌&&◌, ◌||◌, List, [], ◌∷◌, take, drop, replicate, eqb, leb, ltb}
use Rattle.rules.specs.declared.Bridge.{Bridge}
use Rattle.rules.specs.declared.Change.{Change}
use Rattle.rules.specs.declared.Change.TheVariants.{Nothing, Sets}
use Rattle.rules.specs.declared.Request.{Request}
use Rattle.rules.specs.declared.Request.TheVariants.{SetConfiguration, GetConfiguration, ClearFeature, GetStatus, GetMaxLun, MassStorageReset, LoadConfigData, ReadConfigData, SoftReset, BogusRead}
use Rattle.rules.specs.declared.Setup.{Setup}
use Rattle.rules.specs.declared.Stands.{Stands}
use Rattle.rules.specs.declared.Stands.TheVariants.{InRoom, InMemory}
use Rattle.rules.specs.Words.{byte, word, one, over}
use Rattle.rules.specs.Held.{World, configuration, fitted, max_lun, bulk_out, bulk_in}
use Rattle.rules.specs.Descriptors.{first_string, place_in, told}
use Rattle.rules.specs.Stopping.{clear_feature, mass_storage_reset, soft_reset}

-- "Fields are the whole 16-bit numbers, low byte first."
abbrev pub setup_of : List ℕ → Setup
setup_of s = record { kind = byte 0 s; code = byte 1 s; value = word 2 s; index = word 4 s; length = word 6 s }

-- ---- the table: type, code, and the tests that wValue, wIndex and wLength must pass

-- what a setup makes: a request of the table to be done, a descriptor to be found, or none, where "the pair, or a field fixed above, isn't in the table"
pub data Named : Type 0 where
  Unknown : Named
  Known : (request : Request) → Named
  Describes : Named

pub record Row : Type 0 where
  pub names : Named
  pub kind : ℕ
  pub code : ℕ
  pub value : ℕ → Bool
  pub index : ℕ → Bool
  pub length : ℕ → Bool

abbrev pub row : Named → ℕ → ℕ → (ℕ → Bool) → (ℕ → Bool) → (ℕ → Bool) → Row
row q k c v i n = record { names = q; kind = k; code = c; value = v; index = i; length = n }

abbrev pub is : ℕ → ℕ → Bool
is n x = eqb x n

abbrev pub or : ℕ → ℕ → ℕ → Bool
or m n x = eqb x m || eqb x n

abbrev pub any : ℕ → Bool
any x = true

abbrev pub table : List Row
table =
    row (Known SetConfiguration) 0x00 0x09 (or 0 2) (is 0) (is 0) ∷
    row (Known GetConfiguration) 0x80 0x08 (is 0) (is 0) (is 1) ∷
    row (Known ClearFeature) 0x02 0x01 (is 0) (or bulk_out bulk_in) (is 0) ∷
    row (Known GetStatus) 0x82 0x00 (is 0) (or bulk_out bulk_in) (is 2) ∷
    row (Known GetMaxLun) 0xA1 0xFE (is 0) (is 0) (is 1) ∷
    row (Known MassStorageReset) 0x21 0xFF (is 0) (is 0) (is 0) ∷
    row (Known LoadConfigData) 0x40 0x01 any any any ∷
    row (Known ReadConfigData) 0xC0 0x02 any any any ∷
    row (Known SoftReset) 0x40 0x03 (is 0) (is 0) (is 0) ∷
    row (Known BogusRead) 0xC0 0x01 any any any ∷
    -- "Get Descriptor (80, 06) .. wIndex is free."
    row Describes 0x80 0x06 any any any ∷
    []

abbrev pub fits : Row → Setup → Bool
fits r s =
    eqb s.kind r.kind && eqb s.code r.code && r.value s.value && r.index s.index && r.length s.length

abbrev pub lookup : List Row → Setup → Named
lookup [] s = Unknown
lookup (r ∷ rs) s = cond (fits r s) r.names (lookup rs s)

unfoldable pub request_of : Setup → Named
request_of s = lookup table s

-- a request's place in the table, to test for one
abbrev pub rank : Request → ℕ
rank SetConfiguration = 0
rank GetConfiguration = 1
rank ClearFeature = 2
rank GetStatus = 3
rank GetMaxLun = 4
rank MassStorageReset = 5
rank LoadConfigData = 6
rank ReadConfigData = 7
rank SoftReset = 8
rank BogusRead = 9

abbrev pub is_a : Request → Named → Bool
is_a q Unknown = false
is_a q (Known r) = eqb (rank r) (rank q)
is_a q Describes = false

abbrev pub is_unknown : Named → Bool
is_unknown Unknown = true
is_unknown (Known r) = false
is_unknown Describes = false

abbrev pub describes : Named → Bool
describes Unknown = false
describes (Known r) = false
describes Describes = true

-- LOAD_CONFIG_DATA and READ_CONFIG_DATA, the two with a place
abbrev pub has_place : Named → Bool
has_place r = is_a LoadConfigData r || is_a ReadConfigData r

-- ---- "a request whose type field says class or vendor or whose recipient is an endpoint" (USB 2.0, 9.3)

abbrev pub needs_configuration : ℕ → Bool
needs_configuration kind = eqb (kind / 32 % 4) 1 || eqb (kind / 32 % 4) 2 || eqb (kind % 32) 2

-- ---- "Place 0x0000 is the configuration bytes, 0x0002 the memory."

abbrev pub in_bytes : ℕ → Bool
in_bytes place = eqb place 0x0000

abbrev pub in_memory : ℕ → Bool
in_memory place = eqb place 0x0002

-- "Writable configuration addresses: 2 ≤ start ≤ 15 and start + n ≤ 16. Readable: start ≤ 15 and start + n ≤ 16. Memory, read or
-- written: start < M and start + n ≤ M."
unfoldable pub address : Bool → ℕ → ℕ → ℕ → ℕ → Bool
address writes m place start n =
    cond (in_memory place)
    (ltb start m && leb (start + n) m)
    (leb (cond writes 2 0) start && leb start 15 && leb (start + n) 16)

-- "A memory write also starts at a multiple of eight"
abbrev pub at_eight : ℕ → Bool
at_eight start = eqb (start % 8) 0

-- "and its first and last byte lie in the same page: equal quotients by" its size. "The page rule takes the page size as a number." "With n = 0 .. no page
-- is crossed."
unfoldable pub one_page : ℕ → ℕ → ℕ → Bool
one_page page start n = eqb n 0 || eqb (start / page) ((start + n - 1) / page)

-- ---- data and reply

-- how many bytes the host sends, and how many it is sent from the lent room: wLength, one way or the other; of a descriptor none
abbrev pub sent : Setup → ℕ
sent s = cond (ltb s.kind 0x80) s.length 0

abbrev pub returned : Bool → Setup → ℕ
returned found s = cond (found || ltb s.kind 0x80) 0 s.length

-- ---- done

abbrev pub halt_of : ℕ → Bridge → Bool
halt_of pipe b = cond (eqb pipe bulk_out) b.halts.outward b.halts.inward

abbrev pub store_of : ℕ → World → List ℕ
store_of place w = cond (in_memory place) w.memory w.bytes

abbrev pub reply_to : Named → Setup → World → List ℕ
reply_to (Known SetConfiguration) s w = []
reply_to (Known GetConfiguration) s w = configuration w.bridge ∷ []
reply_to (Known ClearFeature) s w = []
reply_to (Known GetStatus) s w = one (halt_of s.index w.bridge) ∷ 0 ∷ []
reply_to (Known GetMaxLun) s w = max_lun w.bridge.dock.drives ∷ []
reply_to (Known MassStorageReset) s w = []
reply_to (Known LoadConfigData) s w = []
reply_to (Known ReadConfigData) s w = take s.length (drop s.index (store_of s.value w))
reply_to (Known SoftReset) s w = []
reply_to (Known BogusRead) s w = replicate s.length 0
reply_to Describes s w = told w.bridge.dock.bus_powered (first_string w.bytes) (fitted w.memory) s.value s.length
reply_to Unknown s w = []

-- .. where it stands: a descriptor "is a part of the lent memory itself, not a copy"
abbrev pub standing : Named → Setup → World → Stands
standing (Known r) s w = InRoom
standing Describes s w = InMemory (place_in w.bridge.dock.bus_powered (first_string w.bytes) s.value)
standing Unknown s w = InRoom

-- .. and, of a request that is done, how many bytes it is
abbrev pub replies : Request → Setup → ℕ
replies SetConfiguration s = 0
replies GetConfiguration s = 1
replies ClearFeature s = 0
replies GetStatus s = 2
replies GetMaxLun s = 1
replies MassStorageReset s = 0
replies LoadConfigData s = 0
replies ReadConfigData s = s.length
replies SoftReset s = 0
replies BogusRead s = s.length

abbrev pub change_by : Named → Setup → Bridge → Change
change_by (Known SetConfiguration) s b = Sets (eqb s.value 2)
change_by (Known GetConfiguration) s b = Nothing
change_by (Known ClearFeature) s b = clear_feature s.index b
change_by (Known GetStatus) s b = Nothing
change_by (Known GetMaxLun) s b = Nothing
change_by (Known MassStorageReset) s b = mass_storage_reset b.phase
change_by (Known LoadConfigData) s b = Nothing
change_by (Known ReadConfigData) s b = Nothing
change_by (Known SoftReset) s b = soft_reset b.phase
change_by (Known BogusRead) s b = Nothing
change_by Describes s b = Nothing
change_by Unknown s b = Nothing

-- LOAD_CONFIG_DATA "writes n bytes", the host's, from start on: of the memory or of the configuration bytes
abbrev pub bytes_after : Named → Setup → List ℕ → List ℕ → List ℕ
bytes_after r s host bytes = cond (is_a LoadConfigData r && not (in_memory s.value)) (over bytes s.index host) bytes

abbrev pub memory_after : Named → Setup → List ℕ → List ℕ → List ℕ
memory_after r s host m = cond (is_a LoadConfigData r && in_memory s.value) (over m s.index host) m
