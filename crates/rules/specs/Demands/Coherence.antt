-- What a host sees holds together: one event tells what another left, done or refused.
use Rattle.std.specs.Prelude.{◌≡◌, ◌⊎◌, Bool, true, false, cond, ◌&&◌, ◌||◌, List, [], ◌∷◌, ℕ, ◌+◌, ◌-◌, ◌*◌, ◌^◌, ◌<◌, ◌≤◌, min, length, take, drop, replicate, eqb, ltb}
use Rattle.rules.specs.declared.Direction.{Direction}
use Rattle.rules.specs.declared.Direction.TheVariants.{Out, In}
use Rattle.rules.specs.declared.Dock.{Dock}
use Rattle.rules.specs.declared.Lun.{Lun}
use Rattle.rules.specs.declared.Phase.TheVariants.{Awaiting}
use Rattle.rules.specs.Words.{byte, word, one}
use Rattle.rules.specs.Held.{World, Start, page_bytes, world, starting, by_default, is_stopped}
use Rattle.rules.specs.Step.{Event, BusReset, Control, Packet, Report, StatusRequest, Burst, EndMark, Outcome, Machine, after, reached, done}
use Rattle.rules.specs.Demands.Refusals.{damages}
use Rattle.rules.specs.Demands.Requests.{wire, asking, ordering}
use Rattle.rules.specs.Demands.Makers.{flags_for, packet, Fills, pass_through, Askable, taken_apart, telling, Free, Has}

-- an event is answered 0 with these bytes
abbrev pub Replies : {State : Type 0} → Outcome State → List ℕ → Type 0
Replies o bytes = (o.answer ≡ 0) × (o.reply ≡ bytes)

-- ---- the configuration

-- Set Configuration by its pair, and its wValue
abbrev pub sets_to : Event → ℕ → ℕ
sets_to BusReset c = 0
sets_to (Control setup host room) c = cond (eqb (byte 0 setup) 0x00 && eqb (byte 1 setup) 0x09) (word 2 setup) c
sets_to (Packet p room) c = c
sets_to (Report direction failed amount) c = c
sets_to (StatusRequest room) c = c
sets_to (Burst bytes) c = c
sets_to (EndMark room) c = c

-- what the accepted events from s on make of a configuration
abbrev pub configured : (m : Machine) → m.State → List Event → ℕ → ℕ
configured m s [] c = c
configured m s (e ∷ es) c = configured m (m.takes s e).next es (cond (done (m.takes s e).answer) (sets_to e c) c)

-- After any history Get Configuration replies what the last bus reset or accepted Set Configuration left, at power-on 0, as one byte.
abbrev pub ConfigurationIsTold : Machine → Type 0
ConfigurationIsTold m =
    (start : Start) (memory : List ℕ) (history : List Event)
    → Replies (m.takes (reached m start memory history) (asking 0x80 0x08 0 0 1)) (configured m (m.on start memory) history 0 ∷ [])

-- "A bus reset restores those three; configuration bytes and memory stay": the bridge is that of the dock's power-on.
abbrev pub BusResetIsPowerOn : Machine → Type 0
BusResetIsPowerOn m =
    (s : m.State) (settings memory : List ℕ)
    → (let w : World = m.shows s in
    m.shows (m.takes s BusReset).next ≡ world (m.shows (m.on (starting w.bridge.dock settings) memory)).bridge w.bytes w.memory)

-- What is fixed at power-on stays so.
abbrev pub DockIsFixed : Machine → Type 0
DockIsFixed m = (start : Start) (memory : List ℕ) (history : List Event) → (m.shows (reached m start memory history)).bridge.dock ≡ start.dock

-- Set Configuration, of any bridge, leaves what a bus reset and then it leave; of 0, what a bus reset leaves.
abbrev pub ConfigurationRestarts : Machine → Type 0
ConfigurationRestarts m =
    (s : m.State)
    → (let fresh : m.State = (m.takes s BusReset).next in
    let set : ℕ → m.State → Outcome m.State = λ v s. m.takes s (ordering 0x00 0x09 v 0) in
    ((set 0 s).answer ≡ 0) × ((set 2 s).answer ≡ 0)
    × (m.shows (set 0 s).next ≡ m.shows fresh)
    × (m.shows (set 2 s).next ≡ m.shows (set 2 fresh).next))

-- "At power-on all are 0, but 0x04 is 0x24", as a host reads it once it has configured the bridge
abbrev pub PowerOnIsRead : Machine → Type 0
PowerOnIsRead m =
    (dock : Dock) (memory : List ℕ)
    → Replies (m.takes (reached m (by_default dock) memory (ordering 0x00 0x09 2 0 ∷ [])) (asking 0xC0 0x02 0 0 16))
    (0 ∷ 0 ∷ 0 ∷ 0 ∷ 0x24 ∷ 0 ∷ 0 ∷ 0 ∷ 0 ∷ 0 ∷ 0 ∷ 0 ∷ 0 ∷ 0 ∷ 0 ∷ 0 ∷ [])

-- ---- pipes

-- configured and not stopped
pub record Running (w : World) : Type 0 where
  pub configured : w.bridge.configured ≡ true
  pub runs : is_stopped w.bridge.phase ≡ false

-- Outside a stop Get Status calls a pipe halted where that pipe's event is refused with 11, and only there.
abbrev pub HaltsAreTold : Machine → Type 0
HaltsAreTold m =
    (s : m.State) (p : List ℕ) (room : ℕ) → Running (m.shows s)
    → Replies (m.takes s (asking 0x82 0x00 0 0x01 2)) (one (eqb (m.takes s (Packet p room)).answer 11) ∷ 0 ∷ [])
    × Replies (m.takes s (asking 0x82 0x00 0 0x82 2)) (one (eqb (m.takes s (StatusRequest room)).answer 11) ∷ 0 ∷ [])

-- A damaged packet leaves both pipes halted, and both refuse; no report is awaited.
abbrev pub DamageHalts : Machine → Type 0
DamageHalts m =
    (s : m.State) (damaged p : List ℕ) (room : ℕ) → damages (m.takes s (Packet damaged room)).answer ≡ true
    → (let stopped : m.State = (m.takes s (Packet damaged room)).next in
    ((m.takes stopped (Packet p room)).answer ≡ 11) × ((m.takes stopped (StatusRequest room)).answer ≡ 11)
    × Replies (m.takes stopped (asking 0x82 0x00 0 0x01 2)) (1 ∷ 0 ∷ [])
    × Replies (m.takes stopped (asking 0x82 0x00 0 0x82 2)) (1 ∷ 0 ∷ [])
    × ((direction failed amount : ℕ) → (m.takes stopped (Report direction failed amount)).answer ≡ 16))

-- all but the phase and the halts, and all but the halts, are as before
abbrev pub Keeps : World → World → Type 0
Keeps w next = (next.bridge.configured ≡ w.bridge.configured) × (next.bytes ≡ w.bytes) × (next.memory ≡ w.memory)

abbrev pub KeepsPhase : World → World → Type 0
KeepsPhase w next = Keeps w next × (next.bridge.phase ≡ w.bridge.phase)

-- Outside a stop Clear Feature clears the halt of the pipe that it names, and changes nothing else.
abbrev pub ClearClears : Machine → Type 0
ClearClears m =
    (s : m.State) → Running (m.shows s)
    → (let w : World = m.shows s in
    let clear : ℕ → Outcome m.State = λ pipe. m.takes s (ordering 0x02 0x01 0 pipe) in
    let left : ℕ → World = λ pipe. m.shows (clear pipe).next in
    ((clear 0x01).answer ≡ 0) × KeepsPhase w (left 0x01)
    × ((left 0x01).bridge.halts.outward ≡ false) × ((left 0x01).bridge.halts.inward ≡ w.bridge.halts.inward)
    × ((clear 0x82).answer ≡ 0) × KeepsPhase w (left 0x82)
    × ((left 0x82).bridge.halts.outward ≡ w.bridge.halts.outward) × ((left 0x82).bridge.halts.inward ≡ false))

-- Outside a stop SOFT_RESET and Mass Storage Reset leave the same: the bridge awaits, "halts stay", and nothing else changes.
abbrev pub ResetsAgree : Machine → Type 0
ResetsAgree m =
    (s : m.State) → Running (m.shows s)
    → (let w : World = m.shows s in
    let soft : Outcome m.State = m.takes s (ordering 0x40 0x03 0 0) in
    let hard : Outcome m.State = m.takes s (ordering 0x21 0xFF 0 0) in
    (soft.answer ≡ 0) × (hard.answer ≡ 0) × (m.shows soft.next ≡ m.shows hard.next)
    × Keeps w (m.shows hard.next)
    × ((m.shows hard.next).bridge.phase ≡ Awaiting) × ((m.shows hard.next).bridge.halts ≡ w.bridge.halts))

-- ---- replies

-- Only a packet and an end mark hand out operations, and only a control request and a status request a reply.
abbrev pub HandsOnly : {State : Type 0} → Event → Outcome State → Type 0
HandsOnly BusReset o = (o.reply ≡ []) × (o.operations ≡ [])
HandsOnly (Control setup host room) o = o.operations ≡ []
HandsOnly (Packet p room) o = o.reply ≡ []
HandsOnly (Report direction failed amount) o = (o.reply ≡ []) × (o.operations ≡ [])
HandsOnly (StatusRequest room) o = o.operations ≡ []
HandsOnly (Burst bytes) o = (o.reply ≡ []) × (o.operations ≡ [])
HandsOnly (EndMark room) o = o.reply ≡ []

abbrev pub HandsOutItsOwn : Machine → Type 0
HandsOutItsOwn m = (s : m.State) (e : Event) → HandsOnly e (m.takes s e)

-- A request that asks changes nothing.
abbrev pub AskingChangesNothing : Machine → Type 0
AskingChangesNothing m =
    (s : m.State) (setup host : List ℕ) (room : ℕ) → 0x80 ≤ byte 0 setup
    → m.shows (m.takes s (Control setup host room)).next ≡ m.shows s

-- A vendor write changes nothing of the bridge.
abbrev pub WritingKeepsBridge : Machine → Type 0
WritingKeepsBridge m =
    (s : m.State) (place start n : ℕ) (host : List ℕ) (room : ℕ)
    → (m.shows (m.takes s (Control (wire 0x40 0x01 place start n) host room)).next).bridge ≡ (m.shows s).bridge

-- A status packet that is handed out leaves the bridge awaiting, and changes nothing else.
abbrev pub StatusKeeps : Machine → Type 0
StatusKeeps m =
    (s : m.State) (room : ℕ) → (m.takes s (StatusRequest room)).answer ≡ 0
    → (let next = m.shows (m.takes s (StatusRequest room)).next in
    Keeps (m.shows s) next × (next.bridge.phase ≡ Awaiting) × (next.bridge.halts ≡ (m.shows s).bridge.halts))

-- BOGUS_READ replies wLength zeros.
abbrev pub ZerosAreTold : Machine → Type 0
ZerosAreTold m =
    (s : m.State) (value index n : ℕ) → (m.shows s).bridge.configured ≡ true
    → Replies (m.takes s (asking 0xC0 0x01 value index n)) (replicate n 0)

-- ---- bytes

-- Bytes that are there are read: of the sixteen, and of the first 2,048 of the memory.
abbrev pub ThereIsRead : Machine → Type 0
ThereIsRead m =
    (s : m.State) (start n : ℕ) → (m.shows s).bridge.configured ≡ true
    → (let size : ℕ = min (length (m.shows s).memory) 2048 in
    (start < 16 → start + n ≤ 16 → Replies (m.takes s (asking 0xC0 0x02 0x0000 start n)) (take n (drop start (m.shows s).bytes)))
    × (start < size → start + n ≤ size → Replies (m.takes s (asking 0xC0 0x02 0x0002 start n)) (take n (drop start (m.shows s).memory))))

-- .. and what is read is there, though it be none.
abbrev pub ReadWasThere : Machine → Type 0
ReadWasThere m =
    (s : m.State) (place start n : ℕ) (host : List ℕ) (room : ℕ) → (m.takes s (Control (wire 0xC0 0x02 place start n) host room)).answer ≡ 0
    → (let size : ℕ = min (length (m.shows s).memory) 2048 in
    ((place ≡ 0x0000) × (start < 16) × (start + n ≤ 16)) ⊎ ((place ≡ 0x0002) × (start < size) × (start + n ≤ size)))

-- Bytes that were written are the bytes that are read.
abbrev pub WrittenIsRead : Machine → Type 0
WrittenIsRead m =
    (s : m.State) (place start : ℕ) (host : List ℕ) (room : ℕ) → length (m.shows s).bytes ≡ 16
    → (let write : Outcome m.State = m.takes s (Control (wire 0x40 0x01 place start (length host)) host room) in
    write.answer ≡ 0 → Replies (m.takes write.next (asking 0xC0 0x02 place start (length host))) host)

-- the page size in force
abbrev pub page_in : World → ℕ
page_in w = page_bytes w.bridge.dock.page

-- A write of one byte or more is accepted from address 2 on among the sixteen, and within a page of the memory from a multiple of eight on.
abbrev pub row_of : ℕ → ℕ → ℕ → ℕ
row_of size page row = size * page + 8 * row

abbrev pub WritableIsWritten : Machine → Type 0
WritableIsWritten m =
    (s : m.State) (host : List ℕ) (start page row : ℕ) → (m.shows s).bridge.configured ≡ true → 0 < length host
    → (let write : ℕ → ℕ → ℕ = λ place start. (m.takes s (Control (wire 0x40 0x01 place start (length host)) host 0)).answer in
    let at : ℕ = row_of (page_in (m.shows s)) page row in
    (2 ≤ start → start + length host ≤ 16 → write 0x0000 start ≡ 0)
    × (8 * row + length host ≤ page_in (m.shows s) → at + length host ≤ min (length (m.shows s).memory) 2048 → write 0x0002 at ≡ 0))

-- .. and none is accepted that is not so.
abbrev pub WrittenWasWritable : Machine → Type 0
WrittenWasWritable m =
    (s : m.State) (place start : ℕ) (host : List ℕ) (room : ℕ) → 0 < length host
    → (m.takes s (Control (wire 0x40 0x01 place start (length host)) host room)).answer ≡ 0
    → (let size : ℕ = page_in (m.shows s) in
    ((place ≡ 0x0000) × (2 ≤ start) × (start + length host ≤ 16))
    ⊎ ((place ≡ 0x0002)
    × ((page : ℕ) × (row : ℕ) × (start ≡ row_of size page row) × (8 * row + length host ≤ size) × (start + length host ≤ min (length (m.shows s).memory) 2048))))

-- ---- a command, from its packet to its status packet

-- the number that a report gives a direction
abbrev pub reported : Direction → ℕ
reported Out = 2
reported In = 1

-- Clear Feature of bulk in and a status request: how a host takes the status of a command, whether its data ended short or not
abbrev pub status_taken : (m : Machine) → m.State → List Event → Outcome m.State
status_taken m s es = m.takes (m.takes (after m s es) (ordering 0x02 0x01 0 0x82)).next (StatusRequest 13)

-- The status packet of a pass-through command tells its tag, what is left of L, and whether the drive failed.
abbrev pub StatusIsTold : Machine → Type 0
StatusIsTold m =
    (s : m.State) (lun : Lun) (tag l : ℕ) (d : Direction) (action registers : ℕ → Bool) (count : ℕ) (contents : List ℕ) (failed amount : ℕ)
    → Free (m.shows s) → Has (m.shows s) lun → tag < 2 ^ 32 → l < 2 ^ 32 → Askable action l d → length contents ≡ 8 → failed ≤ 1 → amount ≤ l
    → (let p = packet lun tag l d (pass_through (byte 0x04 (m.shows s).bytes) action registers count contents) [] in
    let status = status_taken m s (Packet p 11 ∷ Report (reported d) failed amount ∷ []) in
    (status.answer ≡ 0) × (taken_apart status.reply ≡ telling tag (l - amount) failed))

-- a block that is not sixteen bytes, or has another first or second byte
abbrev pub Other : ℕ → List ℕ → Type 0
Other signature block = (length block ≡ 16 → ⊥) ⊎ ((byte 0 block ≡ signature → ⊥) ⊎ (byte 1 block ≡ 0x24 → ⊥))

-- That of any other command tells its tag, all of L, and that it failed.
abbrev pub OtherIsFailed : Machine → Type 0
OtherIsFailed m =
    (s : m.State) (lun : Lun) (tag l : ℕ) (d : Direction) (block filling : List ℕ)
    → Free (m.shows s) → Has (m.shows s) lun → tag < 2 ^ 32 → l < 2 ^ 32 → Fills block filling → Other (byte 0x04 (m.shows s).bytes) block
    → (let status = status_taken m s (Packet (packet lun tag l d block filling) 11 ∷ []) in
    (status.answer ≡ 0) × (taken_apart status.reply ≡ telling tag l 1))

-- .. and halts the pipe of its direction, if it has one; the other stays.
abbrev pub OtherHalts : Machine → Type 0
OtherHalts m =
    (s : m.State) (lun : Lun) (tag l : ℕ) (d : Direction) (block filling : List ℕ)
    → Free (m.shows s) → Has (m.shows s) lun → Fills block filling → Other (byte 0x04 (m.shows s).bytes) block
    → (let left = (m.shows (m.takes s (Packet (packet lun tag l d block filling) 11)).next).bridge.halts in
    (left.outward ≡ (ltb 0 l && eqb (flags_for d) 0x00))
    × (left.inward ≡ ((ltb 0 l && eqb (flags_for d) 0x80) || (m.shows s).bridge.halts.inward)))

-- ---- turns

-- none of these is accepted
abbrev pub NoPacket : (m : Machine) → m.State → Type 0
NoPacket m s = (p : List ℕ) (room : ℕ) → (m.takes s (Packet p room)).answer ≡ 0 → ⊥

abbrev pub NoReport : (m : Machine) → m.State → Type 0
NoReport m s = (direction failed amount : ℕ) → (m.takes s (Report direction failed amount)).answer ≡ 0 → ⊥

abbrev pub NoStatus : (m : Machine) → m.State → Type 0
NoStatus m s = (room : ℕ) → (m.takes s (StatusRequest room)).answer ≡ 0 → ⊥

-- Packet, report and status request take turns: behind a packet with operations comes a report, behind one without and behind a report a status
-- request, behind that a packet.
abbrev pub TakesTurns : Machine → Type 0
TakesTurns m =
    (s : m.State)
    → ((p : List ℕ) (room : ℕ) → (let o : Outcome m.State = m.takes s (Packet p room) in
    o.answer ≡ 0
    → NoPacket m o.next × (o.operations ≡ [] → NoReport m o.next) × ((o.operations ≡ [] → ⊥) → NoStatus m o.next)))
    × ((direction failed amount : ℕ) → (let o : Outcome m.State = m.takes s (Report direction failed amount) in
    o.answer ≡ 0 → NoPacket m o.next × NoReport m o.next))
    × ((room : ℕ) → (let o : Outcome m.State = m.takes s (StatusRequest room) in
    o.answer ≡ 0 → NoReport m o.next × NoStatus m o.next))
