-- Demand 3: what each event does to a stop, the events of a stop until its boundary, and the promises that follow.
use mathlib.Core.Path.{◌≡◌, refl, sym, ap, ◌∙◌}
use mathlib.Core.Bool.{Bool, true, false, cond, not, ◌&&◌, ◌||◌, true≢false, false≢true, and-eq-true_iff, and-false, or_comm, or_assoc, or-false}
use mathlib.Core.List.{List, [], ◌∷◌, ◌++◌}
use Prim.Native.Nat.{ℕ}
use lib.Dec.{eqb}
use lib.ListN.{length}
use borrow.Author.Tests.{eqb-true, not-true}
use Rattle.rules.specs.declared.Bridge.{Bridge}
use Rattle.rules.specs.declared.Change.TheVariants.{Nothing, Stops}
use Rattle.rules.specs.declared.Direction.TheVariants.{Out, In}
use Rattle.rules.specs.declared.Phase.TheVariants.{Awaiting, Stopped}
use Rattle.rules.specs.declared.Request.{Request}
use Rattle.rules.specs.declared.Request.TheVariants.{SetConfiguration, GetConfiguration, ClearFeature, GetStatus, GetMaxLun, MassStorageReset, LoadConfigData, ReadConfigData, SoftReset, BogusRead}
use Rattle.rules.specs.declared.Setup.{Setup}
use Rattle.rules.specs.Held.{World, Start, world, holding, powered, bulk_out, bulk_in, configuring, in_phase, halted}
use Rattle.rules.specs.Changes.{made, drops}
use Rattle.rules.specs.Stopping.{clears_pipe}
use Rattle.rules.specs.Requests.{Named, Unknown, Known, Describes, setup_of, request_of, is_a, change_by, bytes_after, memory_after}
use Rattle.rules.specs.Answers.{seen_of, request_answer, packet_answer, report_checks, report_answer, status_checks, status_answer}
use Rattle.rules.specs.Step.{Event, BusReset, Control, Packet, Report, StatusRequest, Burst, EndMark, answer, change, held_after, step, rules, after, done, damaged}
use Rattle.rules.specs.Demands.Boundary.{Ready, is_bus_reset, accepts, some_halt, clears_second, boundary, unbroken, kept_writes, status_in, Silent, Stop, Silence, Resumption, reset_among, NoEndWithoutReset, recovery, Recovery}
use Rattle.rules.proofs.Checks.{answer_has, both_same, request_undamaged}

-- a configured bridge in a stop that has noted a reset or not, with some pipe halted, whatever it holds
data Stands (r : Bool) : World → Type 0 where
  stands : (b : Bridge) (bytes memory held : List ℕ) → (b.halts.outward || b.halts.inward) ≡ true
      → Stands r (holding held (world (configuring true (in_phase (Stopped r) b)) bytes memory))

-- the same bridge had it not stopped, holding nothing
abbrev calmed : World → World
calmed w = world (in_phase Awaiting (halted false false w.bridge)) w.bytes w.memory

-- What an event does to a stop. Where it is not the boundary, the stop stands, and the calmed bridge has made at most the write. Where it is,
-- the calmed bridge is left, changed at most by a new configuration; and the second pipe is cleared only after a reset.
data Course (r : Bool) (w next running : World) (second ends sets resets writes : Bool) : Type 0 where
  goes_on : ends ≡ false → Stands (resets || r) next → calmed next ≡ cond writes running (calmed w)
      → Course r w next running second ends sets resets writes
  ended : ends ≡ true → next ≡ cond sets running (calmed w) → (second ≡ true → r ≡ true)
      → Course r w next running second ends sets resets writes

-- what a request leaves, accepted or not
abbrev requested : Named → Setup → List ℕ → Bool → World → World
requested q s host t w =
    holding (cond (drops (cond t (change_by q s w.bridge) Nothing)) [] w.held)
    (world (made (cond t (change_by q s w.bridge) Nothing) w.bridge)
    (cond t (bytes_after q s host w.bytes) w.bytes)
    (cond t (memory_after q s host w.memory) w.memory))

module _ (b : Bridge) (bytes memory held : List ℕ) where
  -- the bridge in a stop with these halts
  abbrev halting : Bool → Bool → Bool → World
  halting r o i = holding held (world (configuring true (in_phase (Stopped r) (halted o i b))) bytes memory)

  -- Clear Feature of one pipe, the other halted or not: before a reset nothing; after it that pipe, and with the other clear the stop ends
  abbrev ClearCourse : Bool → World → World → World → Type 0
  ClearCourse r w next running =
      let second = some_halt w && not (some_halt next) in
      Course r w next running second (second || false || false) false false false

  clear_course : (r x o i : Bool) (running : World) → (o || i) ≡ true
      → (let change = cond x (clears_pipe (Stopped r) Out i) (clears_pipe (Stopped r) In o) in
      ClearCourse r (halting r o i) (holding (cond (drops change) [] held) (world (made change (halting r o i).bridge) bytes memory)) running)
  clear_course false true o i running h = rw h (goes_on refl (stands (halted o i b) bytes memory _ h) refl)
  clear_course false false o i running h = rw h (goes_on refl (stands (halted o i b) bytes memory _ h) refl)
  clear_course true true o true running h = rw h (goes_on refl (stands (halted false true b) bytes memory _ refl) refl)
  clear_course true true o false running h = rw h (ended refl refl (λ x. refl))
  clear_course true false true i running h = goes_on refl (stands (halted true false b) bytes memory _ refl) refl
  clear_course true false false i running h = rw h (ended refl refl (λ x. refl))

module _ (r : Bool) (b : Bridge) (bytes memory held : List ℕ) (h : (b.halts.outward || b.halts.inward) ≡ true) (s : Setup) (host : List ℕ) where
  abbrev standing : World
  standing = holding held (world (configuring true (in_phase (Stopped r) b)) bytes memory)

  -- the course of a request, by whether it is accepted
  abbrev RequestCourse : Named → Bool → Type 0
  RequestCourse q t =
      let next = requested q s host t standing in
      let second = is_a ClearFeature q && t && some_halt standing && not (some_halt next) in
      let sets = is_a SetConfiguration q && t in
      Course r standing next (requested q s host t (calmed standing)) second (second || sets || false) (sets || false)
      (is_a MassStorageReset q && t) (is_a LoadConfigData q && t)

  request_course : (q : Named) (t : Bool) → RequestCourse q t
  request_course q false = simp and-false (goes_on refl (stands b bytes memory _ h) refl)
  request_course (Known SetConfiguration) true = ended refl refl (λ x. absurd (false≢true x))
  request_course (Known GetConfiguration) true = goes_on refl (stands b bytes memory _ h) refl
  request_course (Known ClearFeature) true =
      clear_course b bytes memory held r (eqb s.index bulk_out) b.halts.outward b.halts.inward _ h
  request_course (Known GetStatus) true = goes_on refl (stands b bytes memory _ h) refl
  request_course (Known GetMaxLun) true = goes_on refl (stands b bytes memory _ h) refl
  request_course (Known MassStorageReset) true = goes_on refl (stands b bytes memory _ h) refl
  request_course (Known LoadConfigData) true = goes_on refl (stands b _ _ _ h) refl
  request_course (Known ReadConfigData) true = goes_on refl (stands b bytes memory _ h) refl
  request_course (Known SoftReset) true = goes_on refl (stands b bytes memory _ h) refl
  request_course (Known BogusRead) true = goes_on refl (stands b bytes memory _ h) refl
  request_course Describes true = goes_on refl (stands b bytes memory _ h) refl
  request_course Unknown true = goes_on refl (stands b bytes memory _ h) refl

-- the course of every event at a stop
course : {r : Bool} {w : World} → Stands r w → (e : Event)
    → Course r w (step w e).next (step (calmed w) e).next (clears_second rules w e) (boundary rules w e)
    (accepts rules SetConfiguration w e || is_bus_reset e) (accepts rules MassStorageReset w e) (accepts rules LoadConfigData w e)
unfolding step change packet_answer report_answer status_answer
course (stands b bytes memory held h) BusReset = ended refl refl (λ x. absurd (false≢true x))
course {r} (stands b bytes memory held h) (Control setup host room) =
    rw request_undamaged
    (request_course r b bytes memory held h (setup_of setup) host (request_of (setup_of setup))
    (done (request_answer (seen_of (world (configuring true b) bytes memory)) memory setup (length host) room)))
course (stands b bytes memory held h) (Packet p room) = goes_on refl (stands b bytes memory _ h) refl
course (stands b bytes memory held h) (Report direction failed amount) = goes_on refl (stands b bytes memory _ h) refl
course (stands b bytes memory held h) (StatusRequest room) = goes_on refl (stands b bytes memory _ h) refl
course (stands b bytes memory held h) (Burst burst) = goes_on refl (stands b bytes memory _ h) refl
course (stands b bytes memory held h) (EndMark room) = goes_on refl (stands b bytes memory _ h) refl

-- an event at a stop that is not the boundary
lasting : {r : Bool} {w next running : World} {second ends sets resets writes : Bool} → Course r w next running second ends sets resets writes
    → ends ≡ false → Stands (resets || r) next × (calmed next ≡ cond writes running (calmed w))
lasting (goes_on n k c) h = (k, c)
lasting (ended n c f) h = absurd (true≢false (sym n ∙ h))

-- the boundary
ending : {r : Bool} {w next running : World} {second ends sets resets writes : Bool} → Course r w next running second ends sets resets writes
    → ends ≡ true → (next ≡ cond sets running (calmed w)) × (second ≡ true → r ≡ true)
ending (goes_on n k c) h = absurd (true≢false (sym h ∙ n))
ending (ended n c f) h = (c, f)

-- ---- the events of a stop

-- nothing to hand out
pub none_given : (t : Bool) → ◌≡◌ {A = List ℕ} (cond t [] []) []
none_given t = both_same t []

-- a stop hands out no operation and no status packet
quiet : {r : Bool} {w : World} → Stands r w → (e : Event) → ((step w e).operations ≡ []) × (status_in e (step w e) ≡ [])
unfolding step change packet_answer report_answer status_answer
quiet (stands b bytes memory held h) BusReset = (refl, refl)
quiet (stands b bytes memory held h) (Control setup host room) = (rw none_given, refl)
quiet (stands b bytes memory held h) (Packet p room) = (refl, refl)
quiet (stands b bytes memory held h) (Report direction failed amount) = (refl, refl)
quiet (stands b bytes memory held h) (StatusRequest room) = (refl, refl)
quiet (stands b bytes memory held h) (Burst burst) = (refl, refl)
quiet (stands b bytes memory held h) (EndMark room) = (refl, refl)

-- a run that starts with an event that is kept or not, and a run in two parts
after_kept : (t : Bool) (w : World) (e : Event) (es : List Event)
    → after rules w (cond t (e ∷ es) es) ≡ after rules (cond t (step w e).next w) es
after_kept true w e es = refl
after_kept false w e es = refl

pub after_append : (w : World) (es fs : List Event) → after rules w (es ++ fs) ≡ after rules (after rules w es) fs
after_append w [] fs = refl
after_append w (e ∷ es) fs = after_append (step w e).next es fs

-- what holds of events that are not the boundary
record Until (r : Bool) (w : World) (es : List Event) : Type 0 where
  silent : Silent rules w es
  lasts : Stands (reset_among rules w es || r) (after rules w es)
  calm : calmed (after rules w es) ≡ after rules (calmed w) (kept_writes rules w es)

until : {r : Bool} {w : World} → Stands r w → (es : List Event) → unbroken rules w es ≡ true → Until r w es
until h [] u = record { silent = tt; lasts = h; calm = refl }
until {r} {w} h (e ∷ es) u =
    let n = (and-eq-true_iff (not (boundary rules w e)) (unbroken rules (step w e).next es)).0 u in
    let k = lasting (course h e) (not-true _ n.0) in
    let rest = until {r = accepts rules MassStorageReset w e || r} {w = (step w e).next} k.0 es n.1 in
    record {
      silent = ((quiet h e).0, (quiet h e).1, rest.silent);
      lasts = rw (or_comm (accepts rules MassStorageReset w e) (reset_among rules (step w e).next es), or_assoc) rest.lasts;
      calm = rw (after_kept, ← k.1) rest.calm;
    }

-- ---- the damaged packet

-- such an answer is not 0, stops a ready bridge, and hands out nothing
undone : (n : ℕ) → damaged n ≡ true → done n ≡ false
undone n h = go (done n) refl
  where
    go : (t : Bool) → done n ≡ t → t ≡ false
    go true e = absurd (false≢true (rw (eqb-true n 0 e) at h))
    go false e = refl

-- .. and drops what is held: no other event is so answered
damage_drops : (w : World) (d : Event) → damaged (answer w d) ≡ true → held_after w d ≡ []
unfolding report_answer status_answer
damage_drops w BusReset h = refl
damage_drops w (Control setup host room) h = absurd (false≢true (sym (request_undamaged (seen_of w) w.memory setup (length host) room) ∙ h))
damage_drops w (Packet p room) h = refl
damage_drops w (Report direction failed amount) h =
    absurd (true≢false (sym h ∙ not-true _ (answer_has (λ n. not (damaged n)) (report_checks w.bridge direction failed amount) refl)))
damage_drops w (StatusRequest room) h =
    absurd (true≢false (sym h ∙ not-true _ (answer_has (λ n. not (damaged n)) (status_checks w.bridge room) refl)))
damage_drops w (Burst burst) h = absurd (false≢true h)
damage_drops w (EndMark room) h = refl

damage_stops : (w : World) (d : Event) → Ready w → damaged (step w d).answer ≡ true
    → (step w d).next ≡ world (configuring true (made Stops w.bridge)) w.bytes w.memory
unfolding step change
damage_stops w d g h =
    rw (damage_drops w d h, undone (step w d).answer h, h)
    (λ j. world (configuring (g.configured j) (made Stops w.bridge)) w.bytes w.memory)

damage_silent : (w : World) (d : Event) → damaged (step w d).answer ≡ true → ((step w d).operations ≡ []) × (status_in d (step w d) ≡ [])
unfolding step change
damage_silent w BusReset h = (refl, refl)
damage_silent w (Control setup host room) h = (rw none_given, refl)
damage_silent w (Packet p room) h = (rw (undone _ h), refl)
damage_silent w (Report direction failed amount) h = (rw none_given, refl)
damage_silent w (StatusRequest room) h = (rw none_given, rw (undone _ h))
damage_silent w (Burst burst) h = (refl, refl)
damage_silent w (EndMark room) h = (rw (undone _ h), refl)

-- a ready bridge that holds nothing is calm
ready_calm : (w : World) → Ready w → calmed (world (configuring true w.bridge) w.bytes w.memory) ≡ holding [] w
ready_calm w g =
    sym
    (λ j.
    world (configuring (g.configured j) (in_phase (g.awaits j) (halted (g.out_runs j) (g.in_runs j) w.bridge))) w.bytes w.memory)

-- ---- a bridge that holds nothing, beside one that holds something: what is kept of a stop does the same to both

request_unheld : (w : World) (setup host : List ℕ) (room : ℕ)
    → (step (holding [] w) (Control setup host room)).next ≡ holding [] (step w (Control setup host room)).next
unfolding step change
request_unheld w setup host room = rw none_given

accepted_unheld : (q : Request) (v w : World) (e : Event)
    → cond (accepts rules q w e) (step (holding [] v) e).next (holding [] v) ≡ holding [] (cond (accepts rules q w e) (step v e).next v)
accepted_unheld q v w BusReset = refl
accepted_unheld q v w (Control setup host room) = go (accepts rules q w (Control setup host room))
  where
    go : (t : Bool)
        → cond t (step (holding [] v) (Control setup host room)).next (holding [] v) ≡ holding [] (cond t (step v (Control setup host room)).next v)
    go true = request_unheld v setup host room
    go false = refl
accepted_unheld q v w (Packet p room) = refl
accepted_unheld q v w (Report direction failed amount) = refl
accepted_unheld q v w (StatusRequest room) = refl
accepted_unheld q v w (Burst burst) = refl
accepted_unheld q v w (EndMark room) = refl

writes_unheld : (v w : World) (es : List Event)
    → after rules (holding [] v) (kept_writes rules w es) ≡ holding [] (after rules v (kept_writes rules w es))
writes_unheld v w [] = refl
writes_unheld v w (e ∷ es) =
    let t : Bool = accepts rules LoadConfigData w e in
    let rest : List Event = kept_writes rules (step w e).next es in
    rw (after_kept t (holding [] v) e rest, after_kept t v e rest, accepted_unheld LoadConfigData v w e)
    (writes_unheld (cond t (step v e).next v) (step w e).next es)

boundary_unheld : (v w : World) (b : Event)
    → (let sets = accepts rules SetConfiguration w b || is_bus_reset b in
    cond sets (step (holding [] v) b).next (holding [] v) ≡ holding [] (cond sets (step v b).next v))
unfolding step change
boundary_unheld v w BusReset = refl
boundary_unheld v w (Control setup host room) = rw or-false (accepted_unheld SetConfiguration v w (Control setup host room))
boundary_unheld v w (Packet p room) = refl
boundary_unheld v w (Report direction failed amount) = refl
boundary_unheld v w (StatusRequest room) = refl
boundary_unheld v w (Burst burst) = refl
boundary_unheld v w (EndMark room) = refl

-- ---- demand 3: the stop that a damaged packet makes of the bridge before it, how it lasts, and how the bridge is when it ends

module _ {start : Start} {memory : List ℕ} {history : List Event} {d : Event} {since : List Event} (s : Stop rules start memory history d since) where
  abbrev before : World
  before = after rules (powered start memory) history

  stopped : (step before d).next ≡ world (configuring true (made Stops before.bridge)) before.bytes before.memory
  stopped = damage_stops before d s.ready s.damages

  lasted : Until false (step before d).next since
  lasted = until (rw stopped (stands (made Stops before.bridge) before.bytes before.memory [] refl)) since s.lasts

  resumed : calmed (after rules (step before d).next since) ≡ holding [] (after rules before (kept_writes rules (step before d).next since))
  resumed =
      lasted.calm
      ∙ ap (λ w. after rules w (kept_writes rules (step before d).next since)) (ap calmed stopped ∙ ready_calm before s.ready)
      ∙ writes_unheld before (step before d).next since

pub silence : Silence rules
silence start memory history d since s =
    let q = damage_silent (before s) d s.damages in (q.0, q.1, (lasted s).silent)

pub resumption : Resumption rules
resumption start memory history d since b s f =
    let stop : World = after rules (step (before s) d).next since in
    let left : World = after rules (before s) (kept_writes rules (step (before s) d).next since) in
    let sets : Bool = accepts rules SetConfiguration stop b || is_bus_reset b in
    rw (after_append, after_append, after_kept)
    ((ending (course (lasted s).lasts b) f).0
    ∙ ap (λ (w : World). cond sets (step w b).next w) (resumed s)
    ∙ boundary_unheld left stop b)

pub no_end_without_reset : NoEndWithoutReset rules
no_end_without_reset start memory history d since b s f = rw or-false at ((ending (course (lasted s).lasts b) (rw f)).1 f)

-- reset recovery calms every stop
recovered : {r : Bool} {w : World} → Stands r w
    → (after rules w (recovery bulk_out bulk_in) ≡ calmed w) × (after rules w (recovery bulk_in bulk_out) ≡ calmed w)
unfolding step change request_of request_answer
recovered {r = r} (stands b bytes memory held h) = go b.halts.outward b.halts.inward h
  where
    go : (o i : Bool) → (o || i) ≡ true
        → (let v = halting b bytes memory held r o i in
        (after rules v (recovery bulk_out bulk_in) ≡ calmed v) × (after rules v (recovery bulk_in bulk_out) ≡ calmed v))
    go true true h = (refl, refl)
    go true false h = (refl, refl)
    go false true h = (refl, refl)
    go false false h = absurd (false≢true h)

pub recovers : Recovery rules
recovers start memory history d since s =
    let q = recovered (lasted s).lasts in
    (rw after_append (q.0 ∙ resumed s), rw after_append (q.1 ∙ resumed s))
