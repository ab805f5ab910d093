-- Answer numbers: each event's checks, in the paper's order. The first that applies gives its number; where none does, 0.
use Rattle.std.specs.Prelude.{ℕ, Bool, not, ◌&&◌, ◌||◌, List, [], ◌∷◌, ◌++◌, length, eqb, ltb}
use Rattle.rules.specs.declared.Bridge.{Bridge}
use Rattle.rules.specs.declared.Drives.{Drives}
use Rattle.rules.specs.declared.Request.TheVariants.{LoadConfigData}
use Rattle.rules.specs.declared.Seen.{Seen}
use Rattle.rules.specs.declared.Setup.{Setup}
use Rattle.rules.specs.Words.{Check, ◌if◌, first}
use Rattle.rules.specs.Held.{World, page_bytes, size_of, fitted, is_awaiting, is_busy, is_status_waiting, is_stopped}
use Rattle.rules.specs.Descriptors.{first_string, descriptor_checks}
use Rattle.rules.specs.Requests.{Named, setup_of, request_of, is_a, is_unknown, describes, has_place, needs_configuration, in_bytes, in_memory, address, at_eight, one_page, sent, returned}
use Rattle.rules.specs.Packets.{status_layout, command_of, valid, meaningful}
use Rattle.rules.specs.Reports.{malformed}

-- those of a memory write. "Answer 10 and its example table use the size in force."
abbrev pub program_checks : ℕ → Bool → ℕ → ℕ → List Check
program_checks page programs start n =
    9 if (programs && not (at_eight start)) ∷
    10 if (programs && not (one_page page start n)) ∷
    []

-- those of the two requests that have a place, of which one writes; 7 is that of a request for a descriptor too
abbrev pub place_checks : ℕ → Bool → Bool → Bool → ℕ → ℕ → ℕ → ℕ → List Check
place_checks page finds moves writes m place start n =
    6 if (moves && not (in_bytes place || in_memory place)) ∷
    7 if ((finds || moves && in_memory place) && eqb m 0) ∷
    8 if (moves && not (address writes m place start n)) ∷
    program_checks page (writes && in_memory place) start n

-- those that go by the request
abbrev pub table_checks : ℕ → ℕ → Setup → Named → List Check
table_checks page m s r =
    5 if is_unknown r ∷
    place_checks page (describes r) (has_place r) (is_a LoadConfigData r) m s.value s.index s.length

-- those of the data; of a descriptor "3 isn't given"
abbrev pub data_checks : Bool → Setup → ℕ → ℕ → List Check
data_checks found s host room =
    2 if not (eqb host (sent s)) ∷
    3 if ltb room (returned found s) ∷
    []

-- those that go by the request, and those of the data behind them
abbrev pub named_checks : Seen → List ℕ → Setup → Named → ℕ → ℕ → List Check
named_checks seen memory s r host room =
    table_checks (page_bytes seen.page) (size_of memory) s r
    ++ descriptor_checks (describes r) seen.bus_powered seen.first_string (fitted memory) s.value
    ++ data_checks (describes r) s host room

-- "Order for requests: 1, 4, 5, 6, 7, 8, 9, 10, 2, 3." For descriptors 18, 19, 18, 19 "after 5 and 7 .. then 2".
abbrev pub request_checks : Seen → List ℕ → ℕ → Setup → Named → ℕ → ℕ → List Check
request_checks seen memory bytes s r host room =
    1 if not (eqb bytes 8) ∷
    4 if (not seen.configured && needs_configuration s.kind) ∷
    named_checks seen memory s r host room

-- The answer to a request comes from what is seen of the bridge, the memory, the setup, and how many bytes the host sent and there is room for.
unfoldable pub request_answer : Seen → List ℕ → List ℕ → ℕ → ℕ → ℕ
request_answer seen memory setup host room =
    first (request_checks seen memory (length setup) (setup_of setup) (request_of (setup_of setup)) host room)

abbrev pub seen_of : World → Seen
seen_of w =
    record {
      configured = w.bridge.configured;
      bus_powered = w.bridge.dock.bus_powered;
      page = w.bridge.dock.page;
      first_string = first_string w.bytes;
    }

-- "For packets: 4, 11, 16, 13, 14, 15." Those of a bridge that awaits none, whatever the packet is;
abbrev pub unawaited_checks : Bridge → List Check
unawaited_checks b =
    4 if not b.configured ∷
    11 if (is_stopped b.phase || b.halts.outward) ∷
    16 if not (is_awaiting b.phase) ∷
    []

-- .. and those of a packet that is awaited, where `needed` is how many operations it makes.
abbrev pub awaited_checks : Drives → List ℕ → ℕ → ℕ → List Check
awaited_checks drives p needed room =
    13 if not (valid p) ∷
    14 if not (meaningful drives (command_of p)) ∷
    15 if ltb room needed ∷
    []

abbrev pub packet_checks : Bridge → List ℕ → ℕ → ℕ → List Check
packet_checks b p needed room = unawaited_checks b ++ awaited_checks b.dock.drives p needed room

unfoldable pub packet_answer : Bridge → List ℕ → ℕ → ℕ → ℕ
packet_answer b p needed room = first (packet_checks b p needed room)

-- "For reports: 4, 16, 17."
abbrev pub report_checks : Bridge → ℕ → ℕ → ℕ → List Check
report_checks b direction failed amount =
    4 if not b.configured ∷
    16 if not (is_busy b.phase) ∷
    17 if malformed direction failed amount ∷
    []

unfoldable pub report_answer : Bridge → ℕ → ℕ → ℕ → ℕ
report_answer b direction failed amount = first (report_checks b direction failed amount)

-- "For status: 4, 11, 16, 3."
abbrev pub status_checks : Bridge → ℕ → List Check
status_checks b room =
    4 if not b.configured ∷
    11 if (is_stopped b.phase || b.halts.inward) ∷
    16 if not (is_status_waiting b.phase) ∷
    3 if ltb room status_layout.length ∷
    []

unfoldable pub status_answer : Bridge → ℕ → ℕ
status_answer b room = first (status_checks b room)
