-- Exported calls, one after the other from power-on: the image stands for the state that the rules' run leaves, and demand 3 holds of the calls.
use Rattle.std.specs.Prelude.{ℕ, ◌≡◌, true, List, [], ◌∷◌, ◌++◌, length, drop}
use Rattle.rules.specs.declared.Dock.{Dock}
use Rattle.rules.specs.declared.PageSize.{PageSize}
use Rattle.rules.specs.declared.Stands.TheVariants.{InRoom}
use Rattle.rules.specs.Held.{World, Start, holding, docked, by_default}
use Rattle.rules.specs.Held.{powered as at_power_on}
use Rattle.rules.specs.Step.{Event, BusReset, Control, Packet, Report, StatusRequest, Burst, EndMark, change, step, rules, after, reached}
use Rattle.rules.specs.Promise.{Left, leaves}
use Rattle.rules.specs.Demands.Boundary.{Stop, boundary, kept_writes, kept_boundary}
use Rattle.rules.specs.Demands.Sizes.{AllOfBytes, Sized}
use Rattle.settings.specs.Store.{settings_from, read_by, newest, written}
use Rattle.image.specs.Image.{world_of, powered}
use Rattle.thrandue.specs.Calls.{Called, returns, calls, powered_by}

-- ---- one call, on any image: what it leaves stands for the world that the rules leave, if the numbers of the change have 32 bits

abbrev pub StandsForIt : Type 0
StandsForIt =
    (image memory : List ℕ) (event : ℕ → Event) (room : List ℕ) → length image ≡ 62
    → (let w : World = world_of image memory in
    let e : Event = event (length room) in
    let c : Called = calls image memory event room in
    Sized (change w e) → world_of c.image c.memory ≡ (step w e).next)

-- ---- calls, each on the image and the memory that the one before it left

-- a call after power-on: the event that it tells of, and the room that is lent to it
pub record Call : Type 0 where
  pub event : ℕ → Event
  pub room : List ℕ

abbrev pub event_of : Call → Event
event_of c = c.event (length c.room)

abbrev pub events_of : List Call → List Event
events_of [] = []
events_of (c ∷ cs) = event_of c ∷ events_of cs

-- what a caller learns from a call: the number that it returned, and what is in the room
pub record Learnt : Type 0 where
  pub returned : ℕ
  pub room : List ℕ

abbrev pub learnt : ℕ → List ℕ → Learnt
learnt returned room = record { returned = returned; room = room }

-- an image and a memory
abbrev pub Parts : Type 0
Parts = List ℕ × List ℕ

abbrev pub calling : Parts → Call → Called
calling s c = calls s.0 s.1 c.event c.room

abbrev pub parts_after : Parts → List Call → Parts
parts_after s [] = s
parts_after s (c ∷ cs) = parts_after ((calling s c).image, (calling s c).memory) cs

abbrev pub learns : Parts → List Call → List Learnt
learns s [] = []
learns s (c ∷ cs) = learnt (calling s c).returned (calling s c).room ∷ learns ((calling s c).image, (calling s c).memory) cs

-- from power-on on, with a store or without
abbrev pub parts_since : Start → List ℕ → List Call → Parts
parts_since start memory cs = parts_after (powered start, memory) cs

-- the world that they stand for
abbrev pub stands_for : Parts → World
stands_for s = world_of s.0 s.1

-- ---- the same by the rules

abbrev pub ruled : World → List Call → List Learnt
ruled w [] = []
ruled w (c ∷ cs) =
    let l : Left = leaves w c.event c.room in
    learnt (returns l.answer l.count l.stands) l.room ∷ ruled (step w (event_of c)).next cs

-- After any calls from power-on, whatever their lengths and contents, the caller has learnt what the rules say, and the image and the memory stand for
-- the world that they leave. That a packet and a burst are bytes is what their type says.
abbrev pub FromPowerOn : Type 0
FromPowerOn =
    (start : Start) (memory : List ℕ) (cs : List Call) → AllOfBytes (events_of cs)
    → (learns (powered start, memory) cs ≡ ruled (at_power_on start memory) cs)
    × (stands_for (parts_since start memory cs) ≡ reached rules start memory (events_of cs))

-- ---- demand 3, of calls

-- a packet, an end mark or a status request is answered, nothing is handed out, and the room is as it was
abbrev pub Hushed : Event → List ℕ → Learnt → Type 0
Hushed BusReset room l = Unit {0}
Hushed (Control setup host n) room l = Unit {0}
Hushed (Packet p n) room l = (answer : ℕ) × (l ≡ learnt (returns answer 0 InRoom) room)
Hushed (Report direction failed amount) room l = Unit {0}
Hushed (StatusRequest n) room l = (answer : ℕ) × (l ≡ learnt (returns answer 0 InRoom) room)
Hushed (Burst bytes) room l = Unit {0}
Hushed (EndMark n) room l = (answer : ℕ) × (l ≡ learnt (returns answer 0 InRoom) room)

abbrev pub AllHushed : List Call → List Learnt → Type 0
AllHushed [] ls = Unit {0}
AllHushed (c ∷ cs) [] = ⊥
AllHushed (c ∷ cs) (l ∷ ls) = Hushed (event_of c) c.room l × AllHushed cs ls

-- "Until the boundary named in document 01, no register operation and no status packet is handed out."
abbrev pub CallsAreSilent : Type 0
CallsAreSilent =
    (start : Start) (memory : List ℕ) (history : List Call) (d : Call) (since : List Call) → AllOfBytes (events_of (history ++ d ∷ since))
    → Stop rules start memory (events_of history) (event_of d) (events_of since)
    → AllHushed (d ∷ since) (learns (parts_since start memory history) (d ∷ since))

-- "After it, the bridge is in the state of one that never received the damaged packet nor anything since, save accepted vendor writes and the
-- bus reset or configuration change, if one was the boundary": `kept` are the calls of these. "The bridge compared with holds no fragments."
abbrev pub CallsResume : Type 0
CallsResume =
    (start : Start) (memory : List ℕ) (history : List Call) (d : Call) (since : List Call) (b : Call) (kept : List Call)
    → AllOfBytes (events_of (history ++ (d ∷ since ++ b ∷ []))) → AllOfBytes (events_of (history ++ kept))
    → Stop rules start memory (events_of history) (event_of d) (events_of since)
    → (let stopped : World = (step (reached rules start memory (events_of history)) (event_of d)).next in
    let last : World = after rules stopped (events_of since) in
    boundary rules last (event_of b) ≡ true
    → events_of kept ≡ kept_writes rules stopped (events_of since) ++ kept_boundary rules last (event_of b)
    → stands_for (parts_since start memory (history ++ (d ∷ since ++ b ∷ []))) ≡ holding [] (stands_for (parts_since start memory (history ++ kept))))

-- ---- a store at power-on

-- "an accepted store's size replaces the number given at power-on", whatever that was; of the dock's facts no other
abbrev pub StoredSizeReplaces : Type 0
StoredSizeReplaces =
    (given : Dock) (store memory : List ℕ) → (read_by newest store).answer ≡ 0
    → (world_of (powered_by given (read_by newest store)).image memory).bridge.dock
    ≡ docked given.bus_powered (read_by newest store).settings.page given.drives

-- "a refused store leaves the defaults": the image is that of a power-on without a store, byte for byte
abbrev pub RefusedLeavesDefaults : Type 0
RefusedLeavesDefaults =
    (dock : Dock) (store : List ℕ) → ((read_by newest store).answer ≡ 0 → ⊥) → (powered_by dock (read_by newest store)).image ≡ powered (by_default dock)

-- Field service keeps settings and puts them back: after any calls, the fourteen bytes and the page size that a dock holds are written to a store. A dock that
-- is powered on with it, whatever page size it is given, answers 0 and has the same sixteen bytes and the same page size.
abbrev pub StoredIsRestored : Type 0
StoredIsRestored =
    (start : Start) (memory : List ℕ) (cs : List Call) (given : PageSize) → AllOfBytes (events_of cs)
    → (let w : World = stands_for (parts_since start memory cs) in
    let dock : Dock = w.bridge.dock in
    let c : Called = powered_by (docked dock.bus_powered given dock.drives) (read_by newest (written (settings_from (drop 2 w.bytes) dock.page))) in
    let v : World = world_of c.image memory in
    (c.returned ≡ 0) × (v.bytes ≡ w.bytes) × (v.bridge.dock ≡ dock))
