-- Demand 3: the words it is said with, and what it says; and what stands in a stop.
use Rattle.std.specs.Prelude.{◌≡◌, Bool, true, false, cond, not, ◌&&◌, ◌||◌, List, [], ◌∷◌, ◌++◌, ℕ, ◌/◌, ◌%◌}
use Rattle.rules.specs.declared.Request.{Request}
use Rattle.rules.specs.declared.Request.TheVariants.{SetConfiguration, ClearFeature, MassStorageReset, LoadConfigData}
use Rattle.rules.specs.declared.Phase.TheVariants.{Awaiting, Stopped}
use Rattle.rules.specs.Words.{byte}
use Rattle.rules.specs.Held.{World, Start, world, holding, bulk_out, bulk_in, in_phase, halted}
use Rattle.rules.specs.Requests.{Named, Unknown, setup_of, request_of, is_a}
use Rattle.rules.specs.Demands.Refusals.{damages as is_damage}
use Rattle.rules.specs.Demands.Requests.{ordering}
use Rattle.rules.specs.Step.{Event, BusReset, Control, Packet, Report, StatusRequest, Burst, EndMark, Outcome, Machine, after, reached, done}

-- "the bridge is configured and awaits a command, with neither bulk pipe halted"
pub record Ready (w : World) : Type 0 where
  pub configured : w.bridge.configured ≡ true
  pub awaits : w.bridge.phase ≡ Awaiting
  pub out_runs : w.bridge.halts.outward ≡ false
  pub in_runs : w.bridge.halts.inward ≡ false

-- the request that an event makes; an event that is no control request makes none
abbrev pub request_in : Event → Named
request_in BusReset = Unknown
request_in (Control setup host room) = request_of (setup_of setup)
request_in (Packet p room) = Unknown
request_in (Report direction failed amount) = Unknown
request_in (StatusRequest room) = Unknown
request_in (Burst bytes) = Unknown
request_in (EndMark room) = Unknown

abbrev pub is_bus_reset : Event → Bool
is_bus_reset BusReset = true
is_bus_reset (Control setup host room) = false
is_bus_reset (Packet p room) = false
is_bus_reset (Report direction failed amount) = false
is_bus_reset (StatusRequest room) = false
is_bus_reset (Burst bytes) = false
is_bus_reset (EndMark room) = false

-- an accepted request of one kind
abbrev pub accepts : (m : Machine) → Request → m.State → Event → Bool
accepts m q s e = is_a q (request_in e) && done (m.takes s e).answer

abbrev pub some_halt : World → Bool
some_halt w = w.bridge.halts.outward || w.bridge.halts.inward

-- "the second pipe cleared": an accepted Clear Feature that leaves neither pipe halted, where one was
abbrev pub clears_second : (m : Machine) → m.State → Event → Bool
clears_second m s e = accepts m ClearFeature s e && some_halt (m.shows s) && not (some_halt (m.shows (m.takes s e).next))

-- "The boundary is the first of: the second pipe cleared, an accepted Set Configuration, a bus reset."
abbrev pub boundary : (m : Machine) → m.State → Event → Bool
boundary m s e = clears_second m s e || accepts m SetConfiguration s e || is_bus_reset e

-- none of the events, from s on, is the boundary
abbrev pub unbroken : (m : Machine) → m.State → List Event → Bool
unbroken m s [] = true
unbroken m s (e ∷ es) = not (boundary m s e) && unbroken m (m.takes s e).next es

-- of the events, from s on, the accepted vendor writes
abbrev pub kept_writes : (m : Machine) → m.State → List Event → List Event
kept_writes m s [] = []
kept_writes m s (e ∷ es) =
    let kept = kept_writes m (m.takes s e).next es in
    cond (accepts m LoadConfigData s e) (e ∷ kept) kept

-- of the boundary: "the bus reset or configuration change, if one was the boundary"
abbrev pub kept_boundary : (m : Machine) → m.State → Event → List Event
kept_boundary m s e = cond (accepts m SetConfiguration s e || is_bus_reset e) (e ∷ []) []

-- the status packet that an event hands out
abbrev pub status_in : {State : Type 0} → Event → Outcome State → List ℕ
status_in BusReset o = []
status_in (Control setup host room) o = []
status_in (Packet p room) o = []
status_in (Report direction failed amount) o = []
status_in (StatusRequest room) o = o.reply
status_in (Burst bytes) o = []
status_in (EndMark room) o = []

-- "no register operation and no status packet is handed out", at any of the events from s on
abbrev pub Silent : (m : Machine) → m.State → List Event → Type 0
Silent m s [] = Unit {0}
Silent m s (e ∷ es) = ((m.takes s e).operations ≡ []) × (status_in e (m.takes s e) ≡ []) × Silent m (m.takes s e).next es

-- a stop, after any history from power-on: the damaged packet d, and the events since, none of them the boundary
pub record Stop (m : Machine) (start : Start) (memory : List ℕ) (history : List Event) (d : Event) (since : List Event) : Type 0 where
  pub ready : Ready (m.shows (reached m start memory history))
  pub damages : is_damage (m.takes (reached m start memory history) d).answer ≡ true
  pub lasts : unbroken m (m.takes (reached m start memory history) d).next since ≡ true

-- "Until the boundary named in document 01, no register operation and no status packet is handed out."
abbrev pub Silence : Machine → Type 0
Silence m =
    (start : Start) (memory : List ℕ) (history : List Event) (d : Event) (since : List Event) → Stop m start memory history d since
    → Silent m (reached m start memory history) (d ∷ since)

-- "After it, the bridge is in the state of one that never received the damaged packet nor anything since, save accepted vendor writes and the
-- bus reset or configuration change, if one was the boundary." "The bridge compared with holds no fragments."
abbrev pub Resumption : Machine → Type 0
Resumption m =
    (start : Start) (memory : List ℕ) (history : List Event) (d : Event) (since : List Event) (b : Event) → Stop m start memory history d since
    → (let s : m.State = reached m start memory history in
    let stopped : m.State = (m.takes s d).next in
    boundary m (after m stopped since) b ≡ true
    → m.shows (after m s (d ∷ since ++ b ∷ []))
    ≡ holding [] (m.shows (after m s (kept_writes m stopped since ++ kept_boundary m (after m stopped since) b))))

-- an accepted Mass Storage Reset is among the events from s on
abbrev pub reset_among : (m : Machine) → m.State → List Event → Bool
reset_among m s [] = false
reset_among m s (e ∷ es) = accepts m MassStorageReset s e || reset_among m (m.takes s e).next es

-- "Before a Mass Storage Reset, Clear Feature answers 0 and clears nothing": Clear Feature alone never ends a stop.
abbrev pub NoEndWithoutReset : Machine → Type 0
NoEndWithoutReset m =
    (start : Start) (memory : List ℕ) (history : List Event) (d : Event) (since : List Event) (b : Event) → Stop m start memory history d since
    → (let stopped : m.State = (m.takes (reached m start memory history) d).next in
    clears_second m (after m stopped since) b ≡ true → reset_among m stopped since ≡ true)

-- ---- BOT's reset recovery ends every stop, whichever pipe is cleared first.

abbrev pub recovery : ℕ → ℕ → List Event
recovery first second = ordering 0x21 0xFF 0 0 ∷ ordering 0x02 0x01 0 first ∷ ordering 0x02 0x01 0 second ∷ []

abbrev pub Recovery : Machine → Type 0
Recovery m =
    (start : Start) (memory : List ℕ) (history : List Event) (d : Event) (since : List Event) → Stop m start memory history d since
    → (let s : m.State = reached m start memory history in
    let end : World = holding [] (m.shows (after m s (kept_writes m (m.takes s d).next since))) in
    (m.shows (after m s (d ∷ since ++ recovery bulk_out bulk_in)) ≡ end)
    × (m.shows (after m s (d ∷ since ++ recovery bulk_in bulk_out)) ≡ end))

-- "Vendor requests work throughout and read and write as if no stop stood": answer, reply, every byte of either place and what is held are those of the
-- same bridge had it not stopped, and the stop stands.
abbrev pub VendorInStop : Machine → Type 0
VendorInStop m =
    (s t : m.State) (reset out back : Bool) (setup host : List ℕ) (room : ℕ)
    → (let stop = in_phase (Stopped reset) (halted out back (m.shows s).bridge) in
    let running = m.takes s (Control setup host room) in
    let stopped = m.takes t (Control setup host room) in
    let stopped_as : World → World = λ w. holding w.held (world stop w.bytes w.memory) in
    m.shows t ≡ stopped_as (m.shows s) → byte 0 setup / 32 % 4 ≡ 2
    → (stopped.answer ≡ running.answer)
    × (stopped.reply ≡ running.reply)
    × (m.shows stopped.next ≡ stopped_as (m.shows running.next)))
