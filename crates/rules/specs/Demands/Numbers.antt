-- What a host may conclude from the number of a refusal.
use Rattle.std.specs.Prelude.{◌≡◌, List, [], false, ℕ, ◌<◌, ◌≤◌, length}
use Rattle.rules.specs.Words.{byte, word}
use Rattle.rules.specs.Requests.{Named}
use Rattle.rules.specs.Step.{Event, Control, Packet, Report, StatusRequest, Machine}
use Rattle.rules.specs.Demands.Makers.{Asks}
use Rattle.rules.specs.Demands.Coherence.{NoPacket, NoReport, NoStatus}

-- 1: the setup is torn. 4: it is whole. 5: it is whole and asks for nothing that there is. 6: its place is no place. 2: there is too much data or too
-- little.
abbrev pub RequestNumbers : Machine → Type 0
RequestNumbers m =
    (s : m.State) (setup host : List ℕ) (room : ℕ)
    → (let n = (m.takes s (Control setup host room)).answer in
    (n ≡ 1 → length setup ≡ 8 → ⊥)
    × (n ≡ 4 → length setup ≡ 8)
    × (n ≡ 5 → (length setup ≡ 8) × ((q : Named) → Asks setup q → ⊥))
    × (n ≡ 6 → (word 2 setup ≡ 0x0000 → ⊥) × (word 2 setup ≡ 0x0002 → ⊥))
    × (n ≡ 2 → (byte 0 setup < 0x80 → length host ≡ word 6 setup → ⊥) × (0x80 ≤ byte 0 setup → host ≡ [] → ⊥)))

-- 4: the bridge is not configured.
abbrev pub FourIsUnconfigured : Machine → Type 0
FourIsUnconfigured m = (s : m.State) (e : Event) → (m.takes s e).answer ≡ 4 → (m.shows s).bridge.configured ≡ false

-- 16: no such event is accepted, whatever it says.
abbrev pub SixteenIsNoTurn : Machine → Type 0
SixteenIsNoTurn m =
    (s : m.State)
    → ((p : List ℕ) (room : ℕ) → (m.takes s (Packet p room)).answer ≡ 16 → NoPacket m s)
    × ((direction failed amount : ℕ) → (m.takes s (Report direction failed amount)).answer ≡ 16 → NoReport m s)
    × ((room : ℕ) → (m.takes s (StatusRequest room)).answer ≡ 16 → NoStatus m s)
