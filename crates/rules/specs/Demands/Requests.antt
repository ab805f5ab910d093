-- Demand 2, requests: whole fields, nothing before configuration, exact writes and exact reads.
use Rattle.std.specs.Prelude.{◌≡◌, ◌⊎◌, Bool, true, false, cond, ◌&&◌, List, [], ◌∷◌, ℕ, ◌+◌, ◌-◌, ◌/◌, ◌%◌, ◌<◌, length, eqb, leb, ltb}
use Rattle.rules.specs.declared.Setup.{Setup}
use Rattle.rules.specs.Words.{byte, word}
use Rattle.rules.specs.Step.{Event, BusReset, Control, Packet, Report, StatusRequest, Burst, EndMark, Machine}

-- "Fields are the whole 16-bit numbers, low byte first": how a host puts them on the wire, and what must be read from it
abbrev pub wire : ℕ → ℕ → ℕ → ℕ → ℕ → List ℕ
wire kind code value index n = kind ∷ code ∷ value % 256 ∷ value / 256 ∷ index % 256 ∷ index / 256 ∷ n % 256 ∷ n / 256 ∷ []

abbrev pub WholeFields : (List ℕ → Setup) → Type 0
WholeFields read =
    (kind code value index n : ℕ) → value < 65536 → index < 65536 → n < 65536
    → read (wire kind code value index n) ≡ record { kind = kind; code = code; value = value; index = index; length = n }

-- a request that asks for n bytes and is lent room for them, and one that moves none
abbrev pub asking : ℕ → ℕ → ℕ → ℕ → ℕ → Event
asking kind code value index n = Control (wire kind code value index n) [] n

abbrev pub ordering : ℕ → ℕ → ℕ → ℕ → Event
ordering kind code value index = Control (wire kind code value index 0) [] 0

-- "4: configuration is 0 and the event is a command packet, report or status request, or a request whose type field says class or vendor or
-- whose recipient is an endpoint", and no earlier check applies
abbrev pub Guarded : Event → Type 0
Guarded BusReset = ⊥
Guarded (Control setup host room) =
    (length setup ≡ 8) × ((byte 0 setup / 32 % 4 ≡ 1) ⊎ ((byte 0 setup / 32 % 4 ≡ 2) ⊎ (byte 0 setup % 32 ≡ 2)))
Guarded (Packet p room) = Unit {0}
Guarded (Report direction failed amount) = Unit {0}
Guarded (StatusRequest room) = Unit {0}
Guarded (Burst bytes) = ⊥
Guarded (EndMark room) = Unit {0}

abbrev pub Unconfigured : Machine → Type 0
Unconfigured m = (s : m.State) (e : Event) → (m.shows s).bridge.configured ≡ false → Guarded e → (m.takes s e).answer ≡ 4

-- LOAD_CONFIG_DATA by its pair
abbrev pub is_write : Event → Bool
is_write BusReset = false
is_write (Control setup host room) = eqb (byte 0 setup) 0x40 && eqb (byte 1 setup) 0x01
is_write (Packet p room) = false
is_write (Report direction failed amount) = false
is_write (StatusRequest room) = false
is_write (Burst bytes) = false
is_write (EndMark room) = false

-- n bytes from start on are the host's where `hit` says so, and every other byte is as before
abbrev pub Holds : Bool → ℕ → ℕ → List ℕ → List ℕ → List ℕ → Type 0
Holds hit start n host before now =
    (length now ≡ length before)
    × ((k : ℕ) → byte k now ≡ cond (hit && leb start k && ltb k (start + n)) (byte (k - start) host) (byte k before))

-- "A legal vendor write changes exactly its addressed bytes."
abbrev pub ExactWrites : Machine → Type 0
ExactWrites m =
    (s : m.State) (setup host : List ℕ) (room : ℕ) → length (m.shows s).bytes ≡ 16
    → is_write (Control setup host room) ≡ true → (m.takes s (Control setup host room)).answer ≡ 0
    → (let next = m.shows (m.takes s (Control setup host room)).next in
    Holds (eqb (word 2 setup) 0x0000) (word 4 setup) (word 6 setup) host (m.shows s).bytes next.bytes
    × Holds (eqb (word 2 setup) 0x0002) (word 4 setup) (word 6 setup) host (m.shows s).memory next.memory)

-- .. and nothing else changes a byte of either place.
abbrev pub NoOtherWrites : Machine → Type 0
NoOtherWrites m =
    (s : m.State) (e : Event) → is_write e ≡ false
    → (let next = m.shows (m.takes s e).next in
    (next.bytes ≡ (m.shows s).bytes) × (next.memory ≡ (m.shows s).memory))

-- READ_CONFIG_DATA gives "n bytes": those that stand at the addresses from start on.
abbrev pub ExactReads : Machine → Type 0
ExactReads m =
    (s : m.State) (setup host : List ℕ) (room : ℕ) → length (m.shows s).bytes ≡ 16
    → byte 0 setup ≡ 0xC0 → byte 1 setup ≡ 0x02 → (m.takes s (Control setup host room)).answer ≡ 0
    → (let reply = (m.takes s (Control setup host room)).reply in
    (length reply ≡ word 6 setup)
    × ((k : ℕ) → k < word 6 setup
    → byte k reply ≡ byte (word 4 setup + k) (cond (eqb (word 2 setup) 0x0002) (m.shows s).memory (m.shows s).bytes)))
