-- Request 3 of document 02, as a port sees it: however a packet is cut into bursts it is that packet, and what each event makes of what is held.
use Rattle.std.specs.Prelude.{◌≡◌, Bool, true, false, cond, not, ◌&&◌, ◌||◌, List, [], ◌∷◌, ◌++◌, ℕ, ◌<◌, ◌≤◌, length, eqb}
use Rattle.rules.specs.Words.{byte}
use Rattle.rules.specs.Held.{World, holding, is_stopped}
use Rattle.rules.specs.Step.{Event, BusReset, Control, Packet, Report, StatusRequest, Burst, EndMark, Outcome, Machine, after, done}

-- ---- cutting

-- bytes in so many bursts, and in a row
abbrev pub bursts : List (List ℕ) → List Event
bursts [] = []
bursts (b ∷ bs) = Burst b ∷ bursts bs

abbrev pub in_row : List (List ℕ) → List ℕ
in_row [] = []
in_row (b ∷ bs) = b ++ in_row bs

-- "Any cutting of the same bytes, with no other event between, gives the answer, operations and state of the whole packet": of what was held before, and
-- all that came, in a row.
abbrev pub Cutting : Machine → Type 0
Cutting m =
    (s : m.State) (cut : List (List ℕ)) (room : ℕ)
    → (let ended : Outcome m.State = m.takes (after m s (bursts cut)) (EndMark room) in
    let whole : Outcome m.State = m.takes s (Packet ((m.shows s).held ++ in_row cut) room) in
    (ended.answer ≡ whole.answer) × (ended.operations ≡ whole.operations) × (m.shows ended.next ≡ m.shows whole.next))

-- ---- what is held

-- "A burst always answers 0", and changes nothing else: what came is held, and of more than 31 bytes that it is more, in every phase.
abbrev pub BurstIsHeld : Machine → Type 0
BurstIsHeld m =
    (s : m.State) (bytes : List ℕ)
    → (let o : Outcome m.State = m.takes s (Burst bytes) in
    let w : World = m.shows s in
    let all : List ℕ = w.held ++ bytes in
    (o.answer ≡ 0)
    × ((held : List ℕ) × (m.shows o.next ≡ holding held w) × (length all ≤ 31 → held ≡ all) × (31 < length all → length held ≡ 32)))

-- a request by its pair
abbrev pub is_pair : ℕ → ℕ → List ℕ → Bool
is_pair kind code setup = eqb (byte 0 setup) kind && eqb (byte 1 setup) code

-- the bridge was stopped, and is no longer
abbrev pub ends_stop : World → World → Bool
ends_stop w next = is_stopped w.bridge.phase && not (is_stopped next.bridge.phase)

-- "What was held is dropped by every end mark, whatever its answer, and by a whole packet, bus reset, accepted Mass Storage Reset, SOFT_RESET or Set
-- Configuration, or the Clear Feature that ends a stop."
abbrev pub forgets : (m : Machine) → m.State → Event → Bool
forgets m s BusReset = true
forgets m s (Control setup host room) =
    let o : Outcome m.State = m.takes s (Control setup host room) in
    done o.answer
    && (is_pair 0x21 0xFF setup || is_pair 0x40 0x03 setup || is_pair 0x00 0x09 setup
    || (is_pair 0x02 0x01 setup && ends_stop (m.shows s) (m.shows o.next)))
forgets m s (Packet p room) = true
forgets m s (Report direction failed amount) = false
forgets m s (StatusRequest room) = false
forgets m s (Burst bytes) = false
forgets m s (EndMark room) = true

abbrev pub is_burst : Event → Bool
is_burst BusReset = false
is_burst (Control setup host room) = false
is_burst (Packet p room) = false
is_burst (Report direction failed amount) = false
is_burst (StatusRequest room) = false
is_burst (Burst bytes) = true
is_burst (EndMark room) = false

-- .. and by nothing else.
abbrev pub HeldIsDropped : Machine → Type 0
HeldIsDropped m =
    (s : m.State) (e : Event) → is_burst e ≡ false
    → (m.shows (m.takes s e).next).held ≡ cond (forgets m s e) [] (m.shows s).held

abbrev pub is_end_mark : Event → Bool
is_end_mark BusReset = false
is_end_mark (Control setup host room) = false
is_end_mark (Packet p room) = false
is_end_mark (Report direction failed amount) = false
is_end_mark (StatusRequest room) = false
is_end_mark (Burst bytes) = false
is_end_mark (EndMark room) = true

-- Nothing of what is held enters an event but an end mark: two bridges that differ there alone answer, hand out and are left the same, but for that.
abbrev pub HeldEntersNothing : Machine → Type 0
HeldEntersNothing m =
    (s t : m.State) (held : List ℕ) (e : Event) → is_end_mark e ≡ false → m.shows t ≡ holding held (m.shows s)
    → (let o : Outcome m.State = m.takes s e in
    let p : Outcome m.State = m.takes t e in
    (o.answer ≡ p.answer) × (o.reply ≡ p.reply) × (o.stands ≡ p.stands) × (o.operations ≡ p.operations)
    × (holding [] (m.shows o.next) ≡ holding [] (m.shows p.next)))
