-- Request 7 of document 02: two drives in one dock; and one drive, as before.
use Rattle.std.specs.Prelude.{◌≡◌, ◌⊎◌, Bool, false, cond, not, ◌&&◌, ◌||◌, List, [], ◌∷◌, ◌++◌, ℕ, ◌+◌, ◌≤◌, length, eqb, leb, ltb}
use Rattle.rules.specs.declared.Change.{Change}
use Rattle.rules.specs.declared.CommandPacket.{CommandPacket}
use Rattle.rules.specs.declared.Drives.{Drives}
use Rattle.rules.specs.declared.Drives.TheVariants.{One}
use Rattle.rules.specs.declared.Lun.TheVariants.{Lun0}
use Rattle.rules.specs.declared.Phase.{Phase}
use Rattle.rules.specs.declared.Phase.TheVariants.{Awaiting, Busy, StatusWaiting, Stopped}
use Rattle.rules.specs.declared.Request.TheVariants.{GetMaxLun}
use Rattle.rules.specs.declared.Stands.TheVariants.{InRoom}
use Rattle.rules.specs.Words.{◌if◌, first, byte}
use Rattle.rules.specs.Held.{World, Start, world, powered, drive_count, lun_number}
use Rattle.rules.specs.Changes.{made}
use Rattle.rules.specs.Requests.{setup_of, request_of, is_a}
use Rattle.rules.specs.Packets.{command_of, block_of, direction_of, signature_of, valid, recognises, begins, command_taken}
use Rattle.rules.specs.Operations.{codes, operations_of}
use Rattle.rules.specs.Answers.{unawaited_checks}
use Rattle.rules.specs.Step.{Event, BusReset, Control, Packet, Report, StatusRequest, Burst, EndMark, Outcome, Machine, reached, rules, given, changing, step}
use Rattle.rules.specs.Demands.Refusals.{damages}
use Rattle.rules.specs.Demands.Requests.{asking}
use Rattle.rules.specs.Demands.Boundary.{Ready}
use Rattle.rules.specs.Demands.Coherence.{Replies}
use Rattle.rules.specs.Demands.Makers.{wrapper}

-- The number 2 says two drives, every other number says one.
abbrev pub NumbersSayDrives : (ℕ → Drives) → Type 0
NumbersSayDrives of = (drive_count (of 2) ≡ 2) × ((n : ℕ) → (n ≡ 2 → ⊥) → drive_count (of n) ≡ 1)

-- a packet's flags and block length are meaningful: flags 0x00 or 0x80, block length 1 to 16
abbrev pub Sensible : ℕ → ℕ → Type 0
Sensible flags size = ((flags ≡ 0x00) ⊎ (flags ≡ 0x80)) × (1 ≤ size) × (size ≤ 16)

-- Get Max LUN and packets agree: it replies a number, and a packet whose LUN byte is `lun`, otherwise meaningful, is damaged exactly when that is above it.
-- With one drive the number is 0, with two 1: "a packet for LUN 1 on a one-drive dock is damaged, on a two-drive dock it isn't".
abbrev pub LunsAgree : Machine → Type 0
LunsAgree m =
    (s : m.State) (tag l flags lun size : ℕ) (field : List ℕ) (room : ℕ) → Ready (m.shows s) → Sensible flags size → length field ≡ 16
    → (let answer = (m.takes s (Packet (wrapper tag l flags lun size field) room)).answer in
    (most : ℕ) × (1 + most ≡ drive_count (m.shows s).bridge.dock.drives) × Replies (m.takes s (asking 0xA1 0xFE 0 0 1)) (most ∷ [])
    × (damages answer ≡ ltb most lun) × (eqb answer 14 ≡ ltb most lun))

-- the LUN of a busy bridge
abbrev pub luns_in : Phase → List ℕ
luns_in Awaiting = []
luns_in (Busy direction lun tag l) = lun_number lun ∷ []
luns_in (StatusWaiting tag residue status) = []
luns_in (Stopped reset) = []

-- "The busy record keeps the LUN": it is the LUN byte of the packet whose operations were handed out.
abbrev pub BusyKeepsLun : Machine → Type 0
BusyKeepsLun m =
    (s : m.State) (p : List ℕ) (room : ℕ)
    → (let o : Outcome m.State = m.takes s (Packet p room) in
    (o.operations ≡ [] → ⊥) → luns_in (m.shows o.next).bridge.phase ≡ byte 13 p ∷ [])

-- ---- "Single-drive docks answer as before": the bridge of document 01, where more than one drive is "not included"

-- "Meaningful: flags 0x00 or 0x80, LUN byte 0, block length 1 to 16."
abbrev pub meaningful_before : CommandPacket → Bool
meaningful_before c = (eqb c.flags 0x00 || eqb c.flags 0x80) && eqb c.lun 0 && leb 1 c.block_length && leb c.block_length 16

-- a packet, by the rules at LUN 0
abbrev pub packet_before : World → List ℕ → ℕ → Outcome World
packet_before w p room =
    let c : CommandPacket = command_of p in
    let known : Bool = recognises (signature_of w.bytes) p in
    let operations : List ℕ = cond known (codes (operations_of Lun0 (block_of p) c.length (direction_of c))) [] in
    let checks = 13 if not (valid p) ∷ 14 if not (meaningful_before c) ∷ 15 if ltb room (length operations) ∷ [] in
    let answer : ℕ = first (unawaited_checks w.bridge ++ checks) in
    let change : Change = changing answer (cond known (begins Lun0 c) (command_taken false c)) in
    record {
      answer = answer;
      reply = [];
      stands = InRoom;
      operations = given answer operations;
      next = world (made change w.bridge) w.bytes w.memory;
    }

-- Get Max LUN: "byte 0"
abbrev pub control_before : List ℕ → Outcome World → Outcome World
control_before setup o =
    let reply : List ℕ = cond (is_a GetMaxLun (request_of (setup_of setup))) (given o.answer (0 ∷ [])) o.reply in
    record { answer = o.answer; reply = reply; stands = o.stands; operations = o.operations; next = o.next }

abbrev pub step_before : World → Event → Outcome World
step_before w BusReset = step w BusReset
step_before w (Control setup host room) = control_before setup (step w (Control setup host room))
step_before w (Packet p room) = packet_before w p room
step_before w (Report direction failed amount) = step w (Report direction failed amount)
step_before w (StatusRequest room) = step w (StatusRequest room)
step_before w (Burst bytes) = step w (Burst bytes)
step_before w (EndMark room) = packet_before w w.held room

abbrev pub as_before : Machine
as_before = record { State = World; on = powered; shows = λ w. w; takes = step_before }

-- A one-drive dock is the dock of before: after any history each event has the same outcome, answer, operations and state.
abbrev pub OneDriveIsBefore : Type 0
OneDriveIsBefore =
    (start : Start) (memory : List ℕ) (history : List Event) (e : Event) → start.dock.drives ≡ One
    → step (reached rules start memory history) e ≡ step_before (reached as_before start memory history) e
