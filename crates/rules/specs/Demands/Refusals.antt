-- Demand 1: what a refusal is.
use Rattle.std.specs.Prelude.{◌≡◌, Bool, true, false, cond, ◌||◌, List, [], ◌∷◌, ℕ, eqb}
use Rattle.rules.specs.declared.Change.TheVariants.{Nothing, Stops}
use Rattle.rules.specs.declared.Stands.TheVariants.{InRoom}
use Rattle.rules.specs.Held.{World, world, holding}
use Rattle.rules.specs.Changes.{made}
use Rattle.rules.specs.Step.{Event, BusReset, Control, Packet, Report, StatusRequest, Burst, EndMark, Machine}

-- the numbers of a damaged command packet: "answer 13 or 14"
abbrev pub damages : ℕ → Bool
damages n = eqb n 13 || eqb n 14

-- what is held is dropped "by every end mark, whatever its answer, and by a whole packet"
abbrev pub judges_packet : Event → Bool
judges_packet BusReset = false
judges_packet (Control setup host room) = false
judges_packet (Packet p room) = true
judges_packet (Report direction failed amount) = false
judges_packet (StatusRequest room) = false
judges_packet (Burst bytes) = false
judges_packet (EndMark room) = true

-- "A refused call changes no memory byte, configuration byte or lent buffer; only a damaged command packet changes the bridge's state, by
-- stopping it." "Demand 1 excepts this dropping."
abbrev pub Refusals : Machine → Type 0
Refusals m =
    (s : m.State) (e : Event) → ((m.takes s e).answer ≡ 0 → ⊥)
    → (let w : World = m.shows s in
    ((m.takes s e).reply ≡ [])
    × ((m.takes s e).stands ≡ InRoom)
    × ((m.takes s e).operations ≡ [])
    × (m.shows (m.takes s e).next
    ≡ holding (cond (judges_packet e) [] w.held)
    (world (made (cond (damages (m.takes s e).answer) Stops Nothing) w.bridge) w.bytes w.memory)))

-- "Each refusal has its number in document 01", and in 02 what its requests add.
abbrev pub numbers : Event → List ℕ
numbers BusReset = 0 ∷ []
numbers (Control setup host room) = 0 ∷ 1 ∷ 4 ∷ 5 ∷ 6 ∷ 7 ∷ 8 ∷ 9 ∷ 10 ∷ 18 ∷ 19 ∷ 2 ∷ 3 ∷ []
numbers (Packet p room) = 0 ∷ 4 ∷ 11 ∷ 16 ∷ 13 ∷ 14 ∷ 15 ∷ []
numbers (Report direction failed amount) = 0 ∷ 4 ∷ 16 ∷ 17 ∷ []
numbers (StatusRequest room) = 0 ∷ 4 ∷ 11 ∷ 16 ∷ 3 ∷ []
numbers (Burst bytes) = 0 ∷ []
numbers (EndMark room) = 0 ∷ 4 ∷ 11 ∷ 16 ∷ 13 ∷ 14 ∷ 15 ∷ []

abbrev pub among : ℕ → List ℕ → Bool
among n [] = false
among n (k ∷ ks) = eqb n k || among n ks

abbrev pub Numbered : Machine → Type 0
Numbered m = (s : m.State) (e : Event) → among (m.takes s e).answer (numbers e) ≡ true
