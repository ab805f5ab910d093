-- What calls leave stands for what the rules leave, from power-on to the last of them; and demand 3 is of the calls.
use mathlib.Core.Path.{◌≡◌, refl, sym, ap, subst, ◌∙◌}
use mathlib.Core.Bool.{false}
use mathlib.Core.List.{List, [], ◌∷◌, ◌++◌}
use Prim.Native.Nat.{ℕ}
use native.Mathlib.Omega.{arith}
use lib.ListN.{length, drop, length-set, length-append, length-drop, take-append-drop}
use borrow.Author.Tests.{ne_eqb}
use Rattle.rules.specs.declared.Dock.{Dock}
use Rattle.rules.specs.Words.{over}
use Rattle.rules.specs.Held.{World, Start, holding, docked, power_on_bytes, starting}
use Rattle.rules.specs.Held.{powered as at_power_on}
use Rattle.rules.specs.Step.{Event, BusReset, Control, Packet, Report, StatusRequest, Burst, EndMark, Outcome, change, held_after, step, rules, after, reached}
use Rattle.rules.specs.Promise.{handed_out, room_with}
use Rattle.rules.specs.Demands.Boundary.{status_in, Silent}
use Rattle.rules.specs.Demands.Refusals.{judges_packet}
use Rattle.rules.specs.Demands.Bursts.{is_burst}
use Rattle.rules.specs.Demands.Sizes.{AllOfBytes, Sized}
use Rattle.rules.proofs.Demands.Boundary.{after_append, silence, resumption}
use Rattle.rules.proofs.Bursts.{held_by_change}
use Rattle.rules.proofs.Demands.Settings.{keeps_count, saved_is_restored}
use Rattle.rules.proofs.Demands.Sizes.{Measured, sized, stepped, measured, measured_on}
use Rattle.settings.specs.declared.Settings.{Settings}
use Rattle.settings.specs.Store.{Reading, settings_from, read_by, newest, in_force}
use Rattle.settings.specs.Stores.{accepted}
use Rattle.settings.proofs.Stores.{settings_come_back, refused_shows_nothing}
use Rattle.image.specs.Image.{powered, world_of, dropped, put, added}
use Rattle.image.proofs.Holding.{added-length, burst_in_step}
use Rattle.image.proofs.InStep.{powers_on, powered-length, in_step, dropped_in_step, put_length}
use Rattle.thrandue.specs.Calls.{returns, holds, powered_by}
use Rattle.thrandue.specs.Sequences.{StandsForIt, Call, event_of, events_of, Learnt, learnt, Parts, calling, parts_after, learns, parts_since, stands_for, ruled, FromPowerOn, Hushed, AllHushed, CallsAreSilent, CallsResume, RefusedLeavesDefaults, StoredSizeReplaces, StoredIsRestored}
use Rattle.thrandue.proofs.Laws.{sixteen}

-- ---- one call. The configuration bytes stay sixteen.

sixteen_left : (image memory : List ℕ) (e : Event) → length image ≡ 62 → length (step (world_of image memory) e).next.bytes ≡ 16
sixteen_left image memory e h = keeps_count (world_of image memory) e ∙ sixteen image (omega arith)

module _ (image memory : List ℕ) (h : length image ≡ 62) where
  abbrev w : World
  w = world_of image memory

  -- an image with the event's bytes written, with what is held changed, and with its change put stands for what the rules leave
  abbrev Stands : (List ℕ → List ℕ) → Event → Type 0
  Stands hold e =
      let next : World = (step w e).next in
      Sized (change w e) → world_of (put (change w e) (hold (next.bytes ++ drop 16 image))) next.memory ≡ next

  by_change : (e : Event) → is_burst e ≡ false → judges_packet e ≡ false → Stands (λ i. i) e
  unfolding step
  by_change e b p z =
      in_step (change w e) (step w e).next.bytes image (step w e).next.memory (sixteen_left image memory e h) h z
      ∙ ap (λ (held : List ℕ). holding held (step w e).next) (sym (held_by_change w e b p))

  by_drop : (e : Event) → held_after w e ≡ [] → Stands dropped e
  unfolding step
  by_drop e d z =
      dropped_in_step (change w e) (step w e).next.bytes image (step w e).next.memory (sixteen_left image memory e h) h z
      ∙ ap (λ (held : List ℕ). holding held (step w e).next) (sym d)

  by_burst : (burst : List ℕ) → Stands (added burst) (Burst burst)
  unfolding step change
  by_burst burst z =
      ap (λ (i : List ℕ). world_of (added burst i) memory) (take-append-drop 16 image) ∙ burst_in_step burst image memory h

  stands : (e : Event) → Stands (holds e) e
  stands BusReset = by_change BusReset refl refl
  stands (Control setup host room) = by_change (Control setup host room) refl refl
  stands (Packet p room) = by_drop (Packet p room) refl
  stands (Report direction failed amount) = by_change (Report direction failed amount) refl refl
  stands (StatusRequest room) = by_change (StatusRequest room) refl refl
  stands (Burst burst) = by_burst burst
  stands (EndMark room) = by_drop (EndMark room) refl

pub stands_for_it : StandsForIt
unfolding step
stands_for_it image memory event room h z = stands image memory h (event (length room)) z

-- ---- calls, one after the other

holds-length : (e : Event) (image : List ℕ) → length (holds e image) ≡ length image
holds-length BusReset image = refl
holds-length (Control setup host room) image = refl
holds-length (Packet p room) image = length-set image 61 0
holds-length (Report direction failed amount) image = refl
holds-length (StatusRequest room) image = refl
holds-length (Burst burst) image = added-length burst image
holds-length (EndMark room) image = length-set image 61 0

module _ (s : Parts) (c : Call) (h : length s.0 ≡ 62) where
  abbrev next : Parts
  next = ((calling s c).image, (calling s c).memory)

  image_left : length next.0 ≡ 62
  image_left =
      let bytes : List ℕ = (step (stands_for s) (event_of c)).next.bytes in
      put_length (change (stands_for s) (event_of c)) (holds (event_of c) (bytes ++ drop 16 s.0))
      (holds-length (event_of c) (bytes ++ drop 16 s.0)
      ∙ omega (arith, length-append bytes (drop 16 s.0), length-drop 16 s.0, sixteen_left s.0 s.1 (event_of c) h))

-- what is left of parts that stand for a world whose numbers have 32 bits
record Runs (s : Parts) (w : World) (cs : List Call) : Type 0 where
  image : length (parts_after s cs).0 ≡ 62
  learnt_so : learns s cs ≡ ruled w cs
  stands_so : stands_for (parts_after s cs) ≡ after rules w (events_of cs)

runs : (s : Parts) (cs : List Call) → length s.0 ≡ 62 → Measured (stands_for s) → AllOfBytes (events_of cs) → Runs s (stands_for s) cs
runs s [] h n b = record { image = h; learnt_so = refl; stands_so = refl }
runs s (c ∷ cs) h n b =
    let w : World = stands_for s in
    let e : Event = event_of c in
    let now : stands_for (next s c h) ≡ (step w e).next = stands_for_it s.0 s.1 c.event c.room h (sized w e n b.0) in
    let rest = runs (next s c h) cs (image_left s c h) (subst Measured (sym now) (stepped w e n b.0)) b.1 in
    record {
      image = rest.image;
      learnt_so =
          ap (λ (ls : List Learnt). learnt (calling s c).returned (calling s c).room ∷ ls)
          (rest.learnt_so ∙ ap (λ (v : World). ruled v cs) now);
      stands_so = rest.stands_so ∙ ap (λ (v : World). after rules v (events_of cs)) now;
    }

since_on : (start : Start) (memory : List ℕ) (cs : List Call) → AllOfBytes (events_of cs) → Runs (powered start, memory) (at_power_on start memory) cs
since_on start memory cs b =
    subst (λ (w : World). Runs (powered start, memory) w cs) (powers_on start memory)
    (runs (powered start, memory) cs (powered-length start) (subst Measured (sym (powers_on start memory)) (measured_on start memory)) b)

pub from_power_on : FromPowerOn
from_power_on start memory cs b = ((since_on start memory cs b).learnt_so, (since_on start memory cs b).stands_so)

-- ---- calls in two parts

events_append : (cs ds : List Call) → events_of (cs ++ ds) ≡ events_of cs ++ events_of ds
events_append [] ds = refl
events_append (c ∷ cs) ds = ap (λ (es : List Event). event_of c ∷ es) (events_append cs ds)

bytes_split : (cs ds : List Call) → AllOfBytes (events_of (cs ++ ds)) → AllOfBytes (events_of cs) × AllOfBytes (events_of ds)
bytes_split [] ds b = (tt, b)
bytes_split (c ∷ cs) ds b = let rest = bytes_split cs ds b.1 in ((b.0, rest.0), rest.1)

-- the world after a history and what follows it
after_both : (start : Start) (memory : List ℕ) (history more : List Call) → AllOfBytes (events_of (history ++ more))
    → stands_for (parts_since start memory (history ++ more)) ≡ after rules (reached rules start memory (events_of history)) (events_of more)
after_both start memory history more b =
    (since_on start memory (history ++ more) b).stands_so ∙ ap (reached rules start memory) (events_append history more)
    ∙ after_append _ (events_of history) (events_of more)

-- ---- demand 3

hushed : (w : World) (e : Event) (room : List ℕ) → (step w e).operations ≡ [] → status_in e (step w e) ≡ []
    → (let o : Outcome World = step w e in
    Hushed e room (learnt (returns o.answer (length (handed_out e o)) o.stands) (room_with o.stands (handed_out e o) room)))
unfolding step
hushed w BusReset room o s = tt
hushed w (Control setup host n) room o s = tt
hushed w (Packet p n) room o s = ((step w (Packet p n)).answer, rw o)
hushed w (Report direction failed amount) room o s = tt
hushed w (StatusRequest n) room o s = ((step w (StatusRequest n)).answer, rw s)
hushed w (Burst burst) room o s = tt
hushed w (EndMark n) room o s = ((step w (EndMark n)).answer, rw o)

all_hushed : (w : World) (cs : List Call) → Silent rules w (events_of cs) → AllHushed cs (ruled w cs)
all_hushed w [] s = tt
all_hushed w (c ∷ cs) s = (hushed w (event_of c) c.room s.0 s.1, all_hushed (step w (event_of c)).next cs s.2)

pub calls_are_silent : CallsAreSilent
calls_are_silent start memory history d since b stop =
    let parts = bytes_split history (d ∷ since) b in
    let before = since_on start memory history parts.0 in
    let numbers = subst Measured (sym before.stands_so) (measured (at_power_on start memory) (events_of history) (measured_on start memory) parts.0) in
    let here = runs (parts_since start memory history) (d ∷ since) before.image numbers parts.1 in
    let same = here.learnt_so ∙ ap (λ (w : World). ruled w (d ∷ since)) before.stands_so in
    subst (AllHushed (d ∷ since)) (sym same)
    (all_hushed (reached rules start memory (events_of history)) (d ∷ since) (silence start memory (events_of history) (event_of d) (events_of since) stop))

pub calls_resume : CallsResume
calls_resume start memory history d since b kept all all' stop ends same =
    after_both start memory history (d ∷ since ++ b ∷ []) all
    ∙ ap (λ (es : List Event). after rules (reached rules start memory (events_of history)) (event_of d ∷ es)) (events_append since (b ∷ []))
    ∙ resumption start memory (events_of history) (event_of d) (events_of since) (event_of b) stop ends
    ∙ ap (λ (es : List Event). holding [] (after rules (reached rules start memory (events_of history)) es)) (sym same)
    ∙ ap (holding []) (sym (after_both start memory history kept all'))

-- ---- a store at power-on

-- the dock of a power-on with a good reading has its page size
replaced : (given : Dock) (r : Reading) (memory : List ℕ) → r.answer ≡ 0
    → (world_of (powered_by given r).image memory).bridge.dock ≡ docked given.bus_powered r.settings.page given.drives
replaced given r memory z =
    ap (λ (v : World). v.bridge.dock) (powers_on (starting (docked given.bus_powered (in_force given.page r) given.drives) r.settings.bytes) memory)
    ∙ rw z refl

pub stored_size_replaces : StoredSizeReplaces
stored_size_replaces given store memory z = replaced given (read_by newest store) memory z

pub refused_leaves_defaults : RefusedLeavesDefaults
refused_leaves_defaults dock store bad =
    rw (ne_eqb (read_by newest store).answer 0 bad) (ap (λ (s : Settings). powered (starting dock s.bytes)) (refused_shows_nothing newest store bad))

pub stored_is_restored : StoredIsRestored
stored_is_restored start memory cs given b =
    let run = since_on start memory cs b in
    let w : World = stands_for (parts_since start memory cs) in
    let n : length (drop 2 w.bytes) ≡ 14 = length-drop 2 w.bytes ∙ omega (arith, sixteen (parts_since start memory cs).0 (omega (arith, run.image))) in
    let dock : Dock = docked w.bridge.dock.bus_powered given w.bridge.dock.drives in
    let read = (settings_come_back (settings_from (drop 2 w.bytes) w.bridge.dock.page) n).0 in (
      ap (λ (r : Reading). r.answer) read,
      ap (λ (r : Reading). (world_of (powered_by dock r).image memory).bytes) read
          ∙ ap (λ (v : World). v.bytes) (powers_on (starting w.bridge.dock (drop 2 w.bytes)) memory)
          ∙ subst (λ (v : World). over power_on_bytes 2 (drop 2 v.bytes) ≡ v.bytes) (sym run.stands_so) (saved_is_restored start memory (events_of cs)),
      ap (λ (r : Reading). (world_of (powered_by dock r).image memory).bridge.dock) read ∙ replaced dock (accepted (settings_from (drop 2 w.bytes) w.bridge.dock.page)) memory refl,
    )
