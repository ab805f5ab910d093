-- The examples of document 01 that are marked P, as one table; and the story of one stop.
use Rattle.std.specs.Prelude.{◌≡◌, Bool, true, false, not, ◌&&◌, List, [], ◌∷◌, ℕ, ◌-◌, length, replicate, eqb}
use Rattle.rules.specs.declared.Dock.{Dock}
use Rattle.rules.specs.declared.Phase.{Phase}
use Rattle.rules.specs.declared.Phase.TheVariants.{Awaiting, Busy, StatusWaiting, Stopped}
use Rattle.rules.specs.Held.{World, page_bytes, by_default, bulk_out, bulk_in}
use Rattle.rules.specs.Step.{Event, Control, Packet, Report, StatusRequest, Outcome, Machine, after, reached}
use Rattle.rules.specs.Demands.Requests.{wire, ordering}
use Rattle.rules.specs.Demands.Boundary.{unbroken, boundary, kept_writes}

-- ---- how the events of the examples are written

abbrev pub configure : Event
configure = ordering 0x00 0x09 2 0

-- LOAD_CONFIG_DATA of n bytes
abbrev pub write : ℕ → ℕ → ℕ → Event
write place start n = Control (wire 0x40 0x01 place start n) (replicate n 0x5A) 0

-- "block 24 24 80 C0 01, zeros, byte 11 E0, byte 12 EC, L 512 in", with the action as told
abbrev pub identifying : ℕ → List ℕ
identifying action =
    0x55 ∷ 0x53 ∷ 0x42 ∷ 0x43 ∷ 1 ∷ 2 ∷ 3 ∷ 4 ∷ 0 ∷ 2 ∷ 0 ∷ 0 ∷ 0x80 ∷ 0 ∷ 16
    ∷ 0x24 ∷ 0x24 ∷ action ∷ 0xC0 ∷ 0x01 ∷ 0 ∷ 0 ∷ 0 ∷ 0 ∷ 0 ∷ 0 ∷ 0xE0 ∷ 0xEC ∷ 0 ∷ 0 ∷ 0 ∷ []

abbrev pub identify : ℕ → Event
identify action = Packet (identifying action) 11

-- "Configured, M = 2,048 unless told."
abbrev pub ready : (m : Machine) → Dock → m.State
ready m dock = reached m (by_default dock) (replicate 2048 0xFF) (configure ∷ [])

-- ---- what is right of an outcome, with what shows of the state that it leaves

abbrev pub shown : (m : Machine) → Outcome m.State → Outcome World
shown m o = record { answer = o.answer; reply = o.reply; stands = o.stands; operations = o.operations; next = m.shows o.next }

abbrev pub same_bytes : List ℕ → List ℕ → Bool
same_bytes [] [] = true
same_bytes [] (y ∷ ys) = false
same_bytes (x ∷ xs) [] = false
same_bytes (x ∷ xs) (y ∷ ys) = eqb x y && same_bytes xs ys

abbrev pub answers : ℕ → Outcome World → Bool
answers n o = eqb o.answer n

abbrev pub makes : List ℕ → Outcome World → Bool
makes ops o = answers 0 o && same_bytes o.operations ops

abbrev pub waits_with : ℕ → ℕ → Phase → Bool
waits_with residue status Awaiting = false
waits_with residue status (Busy direction lun tag l) = false
waits_with residue status (StatusWaiting tag r s) = eqb r residue && eqb s status
waits_with residue status (Stopped reset) = false

abbrev pub reports : ℕ → ℕ → Outcome World → Bool
reports residue status o =
    answers 0 o && waits_with residue status o.next.bridge.phase && o.next.bridge.halts.inward && not o.next.bridge.halts.outward

-- ---- the table: the events before, the event, and what is right of its outcome

pub record Example : Type 0 where
  pub before : List Event
  pub event : Event
  pub wants : Outcome World → Bool

abbrev pub example : List Event → Event → (Outcome World → Bool) → Example
example es e f = record { before = es; event = e; wants = f }

-- "Answer 10 and its example table use the size in force": with pages of 256 its two writes start at 248, as document 01 has them
abbrev pub table : ℕ → List Example
table page =
    example [] (write 0 2 14) (answers 0) ∷
    example [] (write 0 2 15) (answers 8) ∷
    example [] (write 0 0x0102 1) (answers 8) ∷
    example [] (write 2 (page - 8) 8) (answers 0) ∷
    example [] (write 2 (page - 8) 9) (answers 10) ∷
    example [] (write 2 4 1) (answers 9) ∷
    example [] (write 2 2048 0) (answers 8) ∷
    example [] (write 2 2040 8) (answers 0) ∷
    example [] (identify 0x80) (makes (0x0100 ∷ 0x02E0 ∷ 0x17EC ∷ 0x0311 ∷ 0x2700 ∷ [])) ∷
    example [] (identify 0x82) (makes (0x0100 ∷ 0x17EC ∷ 0x02E0 ∷ 0x0311 ∷ 0x2700 ∷ [])) ∷
    example (identify 0x80 ∷ []) (Report 1 0 500) (reports 12 0) ∷
    example (identify 0x80 ∷ []) (Report 2 0 1) (reports 512 2) ∷
    []

abbrev pub right : Machine → Dock → List Example → Bool
right m dock [] = true
right m dock (x ∷ xs) = x.wants (shown m (m.takes (after m (ready m dock) x.before) x.event)) && right m dock xs

abbrev pub Examples : Machine → Type 0
Examples m = (dock : Dock) → right m dock (table (page_bytes dock.page)) ≡ true

-- ---- Demand 3 is not empty: a damaged packet, then a status request, a vendor write, Clear Feature too early, a packet, a Mass Storage Reset,
-- one pipe, a second reset, the same pipe again, none of them the boundary; then the other pipe, which is; and the next command is done.

abbrev pub clear : ℕ → Event
clear pipe = ordering 0x02 0x01 0 pipe

abbrev pub reset : Event
reset = ordering 0x21 0xFF 0 0

abbrev pub since : List Event
since =
    StatusRequest 13 ∷ write 2 248 8 ∷ clear bulk_out ∷ clear bulk_in ∷ identify 0x80 ∷ reset ∷ clear bulk_in ∷ reset ∷ clear bulk_in ∷ []

abbrev pub story : Machine → Dock → Bool
story m dock =
    let d : Outcome m.State = m.takes (ready m dock) (Packet [] 11) in
    let s : m.State = after m d.next since in
    answers 13 (shown m d)
    && unbroken m d.next since
    && eqb (length (kept_writes m d.next since)) 1
    && boundary m s (clear bulk_out)
    && makes (0x0100 ∷ 0x02E0 ∷ 0x17EC ∷ 0x0311 ∷ 0x2700 ∷ []) (shown m (m.takes (m.takes s (clear bulk_out)).next (identify 0x80)))

abbrev pub Story : Machine → Type 0
Story m = (dock : Dock) → story m dock ≡ true
