-- The kinds of event, what each answers, hands out, changes and leaves; machines, and runs of events.
use Rattle.std.specs.Prelude.{ℕ, List, [], ◌∷◌, ◌++◌, Bool, false, cond, ◌||◌, length, eqb}
use Rattle.rules.specs.declared.Change.{Change}
use Rattle.rules.specs.declared.Change.TheVariants.{Nothing, Sets, Awaits, Stops}
use Rattle.rules.specs.declared.CommandPacket.{CommandPacket}
use Rattle.rules.specs.declared.Phase.{Phase}
use Rattle.rules.specs.declared.Phase.TheVariants.{Awaiting, Busy, StatusWaiting, Stopped}
use Rattle.rules.specs.declared.Stands.{Stands}
use Rattle.rules.specs.declared.Stands.TheVariants.{InRoom}
use Rattle.rules.specs.Held.{World, Start, world, holding, powered}
use Rattle.rules.specs.Changes.{made, drops}
use Rattle.rules.specs.Requests.{setup_of, request_of, reply_to, standing, change_by, bytes_after, memory_after}
use Rattle.rules.specs.Packets.{command_of, block_of, direction_of, lun_of, signature_of, recognises, command_taken, status_packet}
use Rattle.rules.specs.Bursts.{kept}
use Rattle.rules.specs.Operations.{codes, operations_of}
use Rattle.rules.specs.Reports.{report_taken}
use Rattle.rules.specs.Answers.{seen_of, request_answer, packet_answer, report_answer, status_answer}

-- "The bridge is told of five kinds of event", and of a packet "in bursts .. then an end mark": a lent room enters by its length.
pub data Event : Type 0 where
  BusReset : Event
  Control : (setup host : List ℕ) (room : ℕ) → Event
  Packet : (bytes : List ℕ) (room : ℕ) → Event
  Report : (direction failed amount : ℕ) → Event
  StatusRequest : (room : ℕ) → Event
  Burst : (bytes : List ℕ) → Event
  EndMark : (room : ℕ) → Event

-- what an event answers and hands out, where its reply stands, and the state that it leaves
pub record Outcome (State : Type 0) : Type 0 where
  pub answer : ℕ
  pub reply : List ℕ
  pub stands : Stands
  pub operations : List ℕ
  pub next : State

-- "An unrecognised block makes no operations."
abbrev pub operations_for : ℕ → List ℕ → List ℕ
operations_for signature p =
    let c : CommandPacket = command_of p in
    cond (recognises signature p) (codes (operations_of (lun_of c) (block_of p) c.length (direction_of c))) []

-- "A status request hands it out and the bridge then awaits."
abbrev pub status_reply : Phase → List ℕ
status_reply Awaiting = []
status_reply (Busy direction lun tag l) = []
status_reply (StatusWaiting tag residue status) = status_packet tag residue status
status_reply (Stopped reset) = []

-- ---- a command packet: one that came whole, and at the end mark what is held

abbrev pub packet_makes : World → List ℕ → List ℕ
packet_makes w p = operations_for (signature_of w.bytes) p

abbrev pub packet_answers : World → List ℕ → ℕ → ℕ
packet_answers w p room = packet_answer w.bridge p (length (packet_makes w p)) room

abbrev pub packet_changes : World → List ℕ → Change
packet_changes w p = command_taken (recognises (signature_of w.bytes) p) (command_of p)

-- ---- the answer, and what an event does where the answer is 0

abbrev pub answer : World → Event → ℕ
answer w BusReset = 0
answer w (Control setup host room) = request_answer (seen_of w) w.memory setup (length host) room
answer w (Packet p room) = packet_answers w p room
answer w (Report direction failed amount) = report_answer w.bridge direction failed amount
answer w (StatusRequest room) = status_answer w.bridge room
-- "A burst always answers 0; the checks for 4, 11 and 16 are made at the end mark."
answer w (Burst bytes) = 0
answer w (EndMark room) = packet_answers w w.held room

abbrev pub reply : World → Event → List ℕ
reply w BusReset = []
reply w (Control setup host room) = reply_to (request_of (setup_of setup)) (setup_of setup) w
reply w (Packet p room) = []
reply w (Report direction failed amount) = []
reply w (StatusRequest room) = status_reply w.bridge.phase
reply w (Burst bytes) = []
reply w (EndMark room) = []

abbrev pub stands : World → Event → Stands
stands w BusReset = InRoom
stands w (Control setup host room) = cond (eqb (answer w (Control setup host room)) 0) (standing (request_of (setup_of setup)) (setup_of setup) w) InRoom
stands w (Packet p room) = InRoom
stands w (Report direction failed amount) = InRoom
stands w (StatusRequest room) = InRoom
stands w (Burst bytes) = InRoom
stands w (EndMark room) = InRoom

abbrev pub operations : World → Event → List ℕ
operations w BusReset = []
operations w (Control setup host room) = []
operations w (Packet p room) = packet_makes w p
operations w (Report direction failed amount) = []
operations w (StatusRequest room) = []
operations w (Burst bytes) = []
operations w (EndMark room) = packet_makes w w.held

abbrev pub change_done : World → Event → Change
change_done w BusReset = Sets false
change_done w (Control setup host room) = change_by (request_of (setup_of setup)) (setup_of setup) w.bridge
change_done w (Packet p room) = packet_changes w p
change_done w (Report direction failed amount) = report_taken direction failed amount w.bridge.phase
change_done w (StatusRequest room) = Awaits
change_done w (Burst bytes) = Nothing
change_done w (EndMark room) = packet_changes w w.held

abbrev pub bytes_done : List ℕ → Event → List ℕ
bytes_done bytes BusReset = bytes
bytes_done bytes (Control setup host room) = bytes_after (request_of (setup_of setup)) (setup_of setup) host bytes
bytes_done bytes (Packet p room) = bytes
bytes_done bytes (Report direction failed amount) = bytes
bytes_done bytes (StatusRequest room) = bytes
bytes_done bytes (Burst b) = bytes
bytes_done bytes (EndMark room) = bytes

abbrev pub memory_done : List ℕ → Event → List ℕ
memory_done m BusReset = m
memory_done m (Control setup host room) = memory_after (request_of (setup_of setup)) (setup_of setup) host m
memory_done m (Packet p room) = m
memory_done m (Report direction failed amount) = m
memory_done m (StatusRequest room) = m
memory_done m (Burst bytes) = m
memory_done m (EndMark room) = m

-- ---- "Every number but 0 returns no reply and no operations and changes nothing, except that 13 and 14 stop the bridge."

abbrev pub done : ℕ → Bool
done n = eqb n 0

abbrev pub damaged : ℕ → Bool
damaged n = eqb n 13 || eqb n 14

abbrev pub given : ℕ → List ℕ → List ℕ
given n out = cond (done n) out []

abbrev pub changing : ℕ → Change → Change
changing n c = cond (done n) c (cond (damaged n) Stops Nothing)

unfoldable pub change : World → Event → Change
change w e = changing (answer w e) (change_done w e)

-- ---- "What was held is dropped by every end mark, whatever its answer, and by a whole packet, bus reset, accepted Mass Storage Reset, SOFT_RESET or Set
-- Configuration, or the Clear Feature that ends a stop."

abbrev pub held_after : World → Event → List ℕ
held_after w BusReset = []
held_after w (Control setup host room) = cond (drops (change w (Control setup host room))) [] w.held
held_after w (Packet p room) = []
held_after w (Report direction failed amount) = w.held
held_after w (StatusRequest room) = w.held
held_after w (Burst bytes) = kept (w.held ++ bytes)
held_after w (EndMark room) = []

unfoldable pub step : World → Event → Outcome World
step w e =
    record {
      answer = answer w e;
      reply = given (answer w e) (reply w e);
      stands = stands w e;
      operations = given (answer w e) (operations w e);
      next =
          holding (held_after w e)
          (world (made (change w e) w.bridge)
          (cond (done (answer w e)) (bytes_done w.bytes e) w.bytes)
          (cond (done (answer w e)) (memory_done w.memory e) w.memory));
    }

-- ---- A machine is anything that answers events as a bridge does. It has a state of its own, and what a bridge holds is what shows of it.

pub record Machine : Type 1 where
  pub State : Type 0
  pub on : Start → List ℕ → State
  pub shows : State → World
  pub takes : State → Event → Outcome State

-- the rules, as a machine
abbrev pub rules : Machine
rules = record { State = World; on = powered; shows = λ w. w; takes = step }

abbrev pub after : (m : Machine) → m.State → List Event → m.State
after m s [] = s
after m s (e ∷ es) = after m (m.takes s e).next es

-- after a history from power-on, of this start with this memory fitted
abbrev pub reached : (m : Machine) → Start → List ℕ → List Event → m.State
reached m start memory history = after m (m.on start memory) history
