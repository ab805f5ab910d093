-- Request 1 of document 02, as a host sees it: what a search for a descriptor comes to, what is told of one that is there, and what enters into it.
use Rattle.std.specs.Prelude.{◌≡◌, Bool, true, false, cond, ◌&&◌, List, [], ℕ, ◌+◌, ◌*◌, ◌<◌, ◌≤◌, min, length, take, drop, eqb}
use Rattle.rules.specs.declared.Stands.TheVariants.{InRoom, InMemory}
use Rattle.rules.specs.Words.{byte, word}
use Rattle.rules.specs.Held.{World}
use Rattle.rules.specs.Descriptors.{at}
use Rattle.rules.specs.Step.{Event, BusReset, Control, Packet, Report, StatusRequest, Burst, EndMark, Outcome, Machine, done}
use Rattle.rules.specs.Demands.Requests.{wire}

-- Get Descriptor as a host makes it: type and index in wValue, a language or anything else in wIndex, and what it sends with it
abbrev pub wanting : ℕ → ℕ → ℕ → ℕ → List ℕ → ℕ → Event
wanting type index language n host room = Control (wire 0x80 0x06 (256 * type + index) language n) host room

-- the memory that is there: "its length or 2,048, whichever is smaller"
abbrev pub part : World → List ℕ
part w = take (min (length w.memory) 2048) w.memory

-- "device at 0x10, qualifier at 0x22, configuration at 0x2C when bus powered and 0x80 otherwise, strings at twice their index (source 000). By our own
-- rule string index 0 uses configuration byte 0x0E as its index."
pub data Place (w : World) : ℕ → ℕ → ℕ → Type 0 where
  device : Place w 1 0 0x10
  qualifier : Place w 6 0 0x22
  bus_powered : w.bridge.dock.bus_powered ≡ true → Place w 2 0 0x2C
  self_powered : w.bridge.dock.bus_powered ≡ false → Place w 2 0 0x80
  string : (index : ℕ) → 0 < index → Place w 3 index (index + index)
  string_zero : Place w 3 0 (byte 0x0E w.bytes + byte 0x0E w.bytes)

-- how long a head is, and how long the descriptor says to be in it: bLength, or wTotalLength (USB 2.0, tables 9-8 to 9-16)
abbrev pub head : ℕ → ℕ
head type = cond (eqb type 2) 4 2

abbrev pub says : ℕ → List ℕ → ℕ → ℕ
says type memory start = cond (eqb type 2) (word (start + 2) memory) (byte start memory)

-- what stands at a place says that it is of this type, and no less long than its head
pub record Headed (type : ℕ) (memory : List ℕ) (start : ℕ) : Type 0 where
  pub whole : start + head type ≤ length memory
  pub typed : byte (start + 1) memory ≡ type
  pub enough : head type ≤ says type memory start

-- what the search for a descriptor comes to
pub data Search (w : World) (type index : ℕ) : ℕ → Type 0 where
  no_memory : length (part w) ≡ 0 → Search w type index 7
  no_place : 0 < length (part w) → ((start : ℕ) → Place w type index start → ⊥) → Search w type index 18
  head_cut : (start : ℕ) → Place w type index start → 0 < length (part w) → length (part w) < start + head type → Search w type index 19
  no_head : (start : ℕ) → Place w type index start → start + head type ≤ length (part w) → (Headed type (part w) start → ⊥) → Search w type index 18
  cut : (start : ℕ) → Place w type index start → Headed type (part w) start → length (part w) < start + says type (part w) start
      → Search w type index 19
  there : (start : ℕ) → Place w type index start → Headed type (part w) start → start + says type (part w) start ≤ length (part w)
      → Search w type index 0

-- "Refusals, after 5 and 7: 18 .. 19 .. 18 .. 19 ..; then 2. 3 isn't given here." Whatever the room; and with data from the host, 2 where it were done.
abbrev pub DescriptorIsSought : Machine → Type 0
DescriptorIsSought m =
    (s : m.State) (type index language n : ℕ) (host : List ℕ) (room : ℕ) → index < 256
    → (let found : ℕ = (m.takes s (wanting type index language n [] room)).answer in
    Search (m.shows s) type index found
    × (0 < length host → (m.takes s (wanting type index language n host room)).answer ≡ cond (done found) 2 found))

-- An accepted Get Descriptor changes nothing at all, and replies k bytes of memory from its place on, k the smaller of its length and wLength; they stand
-- there, and the whole of it is inside M.
abbrev pub DescriptorIsTold : Machine → Type 0
DescriptorIsTold m =
    (s : m.State) (type index language n : ℕ) (host : List ℕ) (room : ℕ) → index < 256
    → (let o : Outcome m.State = m.takes s (wanting type index language n host room) in
    let w : World = m.shows s in
    o.answer ≡ 0
    → (m.shows o.next ≡ w)
    × ((start : ℕ) × Place w type index start × (o.stands ≡ InMemory (at start))
    × (start + says type (part w) start ≤ length (part w))
    × (o.reply ≡ take (min (says type (part w) start) n) (drop start w.memory))))

-- String index 0 and the index in byte 0x0E get the same, when that byte is not 0.
abbrev pub FirstStringIsNamed : Machine → Type 0
FirstStringIsNamed m =
    (s : m.State) (language n : ℕ) (host : List ℕ) (room : ℕ)
    → (let named : ℕ = byte 0x0E (m.shows s).bytes in
    0 < named → named < 256 → m.takes s (wanting 3 0 language n host room) ≡ m.takes s (wanting 3 named language n host room))

-- Nothing of the configuration, the phase or the halts enters its answer, nor the page size, wIndex or the room; of the configuration bytes 0x0E alone.
abbrev pub NothingElseEnters : Machine → Type 0
NothingElseEnters m =
    (s t : m.State) (type index language language' n : ℕ) (host : List ℕ) (room room' : ℕ)
    → (let o : Outcome m.State = m.takes s (wanting type index language n host room) in
    let p : Outcome m.State = m.takes t (wanting type index language' n host room') in
    (m.shows s).bridge.dock.bus_powered ≡ (m.shows t).bridge.dock.bus_powered → byte 0x0E (m.shows s).bytes ≡ byte 0x0E (m.shows t).bytes
    → (m.shows s).memory ≡ (m.shows t).memory
    → (o.answer ≡ p.answer) × (o.reply ≡ p.reply) × (o.stands ≡ p.stands))

-- Everything else that is handed out stands in the lent room.
abbrev pub wants : Event → Bool
wants BusReset = false
wants (Control setup host room) = eqb (byte 0 setup) 0x80 && eqb (byte 1 setup) 0x06
wants (Packet p room) = false
wants (Report direction failed amount) = false
wants (StatusRequest room) = false
wants (Burst bytes) = false
wants (EndMark room) = false

abbrev pub OnlyDescriptorsStand : Machine → Type 0
OnlyDescriptorsStand m = (s : m.State) (e : Event) → wants e ≡ false → (m.takes s e).stands ≡ InRoom

-- .. and what is said to stand in the memory is there, whatever the event: inside M, and as it is replied.
abbrev pub WhatStandsIsThere : Machine → Type 0
WhatStandsIsThere m =
    (s : m.State) (e : Event) (start : ℕ)
    → (let o : Outcome m.State = m.takes s e in
    let w : World = m.shows o.next in
    o.stands ≡ InMemory (at start)
    → (start + length o.reply ≤ length (part w)) × (o.reply ≡ take (length o.reply) (drop start w.memory)))
