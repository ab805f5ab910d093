-- A refusal names what is to be mended: with that mended, the same event is done. So each check stands where the paper's order has it.
use Rattle.std.specs.Prelude.{◌≡◌, ◌⊎◌, true, List, [], ℕ, ◌<◌, ◌≤◌, length}
use Rattle.rules.specs.declared.Stands.{Stands}
use Rattle.rules.specs.declared.Stands.TheVariants.{InRoom, InMemory}
use Rattle.rules.specs.declared.addresses.Address.{Address}
use Rattle.rules.specs.Words.{byte, word}
use Rattle.rules.specs.Step.{Control, Packet, Report, StatusRequest, Machine}
use Rattle.rules.specs.Demands.Refusals.{damages}
use Rattle.rules.specs.Demands.Requests.{wire}
use Rattle.rules.specs.Demands.Makers.{Free}

-- 3 and 15: room for the reply, for a status packet, for eleven operations.
abbrev pub RoomMends : Machine → Type 0
RoomMends m =
    (s : m.State) (setup host p : List ℕ) (room : ℕ)
    → ((m.takes s (Control setup host room)).answer ≡ 3 → (m.takes s (Control setup host (word 6 setup))).answer ≡ 0)
    × ((m.takes s (StatusRequest room)).answer ≡ 3 → (m.takes s (StatusRequest 13)).answer ≡ 0)
    × ((m.takes s (Packet p room)).answer ≡ 15 → (m.takes s (Packet p 11)).answer ≡ 0)

-- Room for what is handed out is enough.
abbrev pub RoomIsEnough : Machine → Type 0
RoomIsEnough m =
    (s : m.State) (p : List ℕ) (room : ℕ)
    → (let o = m.takes s (Packet p room) in o.answer ≡ 0 → (m.takes s (Packet p (length o.operations))).answer ≡ 0)

-- .. and it is needed, of what is to stand there.
abbrev pub RoomSuffices : Machine → Type 0
RoomSuffices m =
    (s : m.State) (setup host p : List ℕ) (room : ℕ) → length (m.shows s).bytes ≡ 16
    → (let o = m.takes s (Control setup host room) in o.answer ≡ 0 → o.stands ≡ InRoom → length o.reply ≤ room)
    × ((m.takes s (StatusRequest room)).answer ≡ 0 → length (m.takes s (StatusRequest room)).reply ≤ room)
    × ((m.takes s (Packet p room)).answer ≡ 0 → length (m.takes s (Packet p room)).operations ≤ room)

-- "On 0, reply or operations stand at the front of the lent room and the rest is unchanged." Of a part of the memory "the reply buffer is then
-- unchanged".
abbrev pub FrontOfRoom : (Stands → List ℕ → List ℕ → List ℕ) → Type 0
FrontOfRoom lay =
    (out room : List ℕ) (k : ℕ) → length out ≤ length room
    → (length (lay InRoom out room) ≡ length room)
    × (k < length out → byte k (lay InRoom out room) ≡ byte k out)
    × (length out ≤ k → byte k (lay InRoom out room) ≡ byte k room)
    × ((at : Address) → lay (InMemory at) out room ≡ room)

-- 2: wLength bytes from a host that sends, none from one that asks; in either case with room.
abbrev pub DataMends : Machine → Type 0
DataMends m =
    (s : m.State) (setup host whole : List ℕ) (room : ℕ) → (m.takes s (Control setup host room)).answer ≡ 2
    → (byte 0 setup < 0x80 → length whole ≡ word 6 setup → (m.takes s (Control setup whole 0)).answer ≡ 0)
    × (0x80 ≤ byte 0 setup → (m.takes s (Control setup [] (word 6 setup))).answer ≡ 0)

-- 10: a write of no bytes. 9: a read, which may start anywhere.
abbrev pub WriteMends : Machine → Type 0
WriteMends m =
    (s : m.State) (place start n : ℕ) (host : List ℕ) (room : ℕ)
    → ((m.takes s (Control (wire 0x40 0x01 place start n) host room)).answer ≡ 10
    → (m.takes s (Control (wire 0x40 0x01 place start 0) [] 0)).answer ≡ 0)
    × ((m.takes s (Control (wire 0x40 0x01 place start n) host room)).answer ≡ 9
    → (m.takes s (Control (wire 0xC0 0x02 place start n) [] n)).answer ≡ 0)

-- 8: a byte at the start of that place. 7: there is no memory.
abbrev pub PlaceMends : Machine → Type 0
PlaceMends m =
    (s : m.State) (kind code place start n : ℕ) (host : List ℕ) (room : ℕ) → ((kind ≡ 0x40) × (code ≡ 0x01)) ⊎ ((kind ≡ 0xC0) × (code ≡ 0x02))
    → ((m.takes s (Control (wire kind code place start n) host room)).answer ≡ 8
    → (m.takes s (Control (wire 0xC0 0x02 place 0 1) [] 1)).answer ≡ 0)
    × ((m.takes s (Control (wire kind code place start n) host room)).answer ≡ 7 → length (m.shows s).memory ≡ 0)

-- 17: a report of nothing; and an accepted one says none, in or out, good or failed, and none with no amount.
abbrev pub ReportMends : Machine → Type 0
ReportMends m =
    (s : m.State) (direction failed amount : ℕ) → (m.takes s (Report direction failed amount)).answer ≡ 17 → (m.takes s (Report 0 0 0)).answer ≡ 0

abbrev pub ReportWasLegal : Machine → Type 0
ReportWasLegal m =
    (s : m.State) (direction failed amount : ℕ) → (m.takes s (Report direction failed amount)).answer ≡ 0
    → (direction ≤ 2) × (failed ≤ 1) × (direction ≡ 0 → amount ≡ 0)

-- 13 and 14: only of a bridge that would have taken a better packet.
abbrev pub DamageMeetsFree : Machine → Type 0
DamageMeetsFree m =
    (s : m.State) (p : List ℕ) (room : ℕ) → damages (m.takes s (Packet p room)).answer ≡ true → Free (m.shows s)
