-- A refusal names what is to be mended, and with that mended the event is done.
use mathlib.Core.Path.{◌≡◌, refl, sym, ap, ◌∙◌}
use mathlib.Core.Logic.{◌⊎◌, inl, inr}
use mathlib.Core.Bool.{Bool, true, false, cond, not, ◌&&◌, ◌||◌, true≢false, false≢true, and-eq-true_iff, and-false, or-true}
use mathlib.Core.List.{List, [], ◌∷◌, ◌++◌}
use Prim.Native.Nat.{ℕ, ◌+◌, ◌-◌, ◌≤◌}
use native.Mathlib.Omega.{arith}
use lib.ListN.{length, take, drop, length-append, length-drop, get_or-append}
use lib.Seq.{get_or-append-add, get_or-drop}
use lib.Dec.{eqb, leb, ltb}
use borrow.Author.Tests.{eqb-true, eqb-false, leb-true, ltb-true, le-leb, eq-eqb, lt-ltb, le-ltb, ltb-false, not-false}
use Rattle.rules.specs.declared.Phase.{Phase}
use Rattle.rules.specs.declared.Phase.TheVariants.{Awaiting, Busy, StatusWaiting, Stopped}
use Rattle.rules.specs.declared.Setup.{Setup}
use Rattle.rules.specs.declared.Stands.TheVariants.{InRoom}
use Rattle.rules.specs.Words.{laid, Check, byte, word, first}
use Rattle.rules.specs.Promise.{room_with}
use Rattle.rules.specs.Held.{World, size_of, is_awaiting, is_status_waiting, is_stopped}
use Rattle.rules.specs.Packets.{status_layout, signature_of}
use Rattle.rules.specs.Reports.{malformed}
use Rattle.rules.specs.Requests.{Named, Unknown, Known, Describes, setup_of, request_of, describes, reply_to, standing, in_bytes, in_memory, address, one_page, returned, sent}
use Rattle.rules.specs.Answers.{seen_of, data_checks, request_checks, request_answer, packet_checks, packet_answer, report_checks, report_answer, status_checks, status_answer}
use Rattle.rules.specs.Step.{Control, Packet, StatusRequest, operations_for, status_reply, step, rules}
use Rattle.rules.specs.Demands.Requests.{wire}
use Rattle.rules.specs.Demands.Makers.{Free}
use Rattle.rules.specs.Demands.Mends.{FrontOfRoom, RoomIsEnough, ReportWasLegal, PlaceMends, RoomMends, RoomSuffices, DataMends, WriteMends, ReportMends, DamageMeetsFree}
use Rattle.rules.proofs.Checks.{all_numbers, answer_has, first_append, Passed, passed, decides, sole}
use Rattle.rules.proofs.Replies.{reply_fits}
use Rattle.rules.proofs.Demands.Makers.{needed_most}
use Rattle.rules.proofs.Demands.Requests.{whole}
use Rattle.rules.proofs.Demands.Setups.{one_of}
use Rattle.rules.proofs.Demands.Stored.{needed, reads, readable, writes}

-- where no check applies, the answer is 0
all_passed : (cs : List Check) → Passed cs → first cs ≡ 0
all_passed [] h = refl
all_passed (c ∷ cs) h = rw h.0 (all_passed cs h.1)

-- ---- requests

module _ (w : World) (setup : List ℕ) where
  abbrev s : Setup
  s = setup_of setup

  abbrev found : Bool
  found = describes (request_of s)

  -- the checks before those of the data, which depend on neither what the host sends nor the room
  abbrev front : List Check
  front = take 12 (request_checks (seen_of w) w.memory (length setup) s (request_of s) 0 0)

  -- where the answer is none of their numbers, those of the data decide
  data_decide : (host room n : ℕ) → request_answer (seen_of w) w.memory setup host room ≡ n
      → all_numbers (λ k. not (eqb k n)) front ≡ true
      → (first (data_checks found s host room) ≡ n)
      × ((host' room' : ℕ) → request_answer (seen_of w) w.memory setup host' room' ≡ first (data_checks found s host' room'))
  unfolding request_answer
  data_decide host room n a h = go (eqb (first front) 0) refl
    where
      go : (t : Bool) → eqb (first front) 0 ≡ t
          → (first (data_checks found s host room) ≡ n) × ((host' room' : ℕ) → first (front ++ data_checks found s host' room') ≡ first (data_checks found s host' room'))
      go true e =
          let by : (host' room' : ℕ) → first (front ++ data_checks found s host' room') ≡ first (data_checks found s host' room') =
          λ host' room'. first_append front (data_checks found s host' room') refl ∙ rw e in
          (sym (by host room) ∙ a, by)
      go false e =
          let f : first front ≡ n = sym (first_append front (data_checks found s host room) refl ∙ rw e) ∙ a in
          absurd (false≢true (rw (eq-eqb (first front) n f) at (answer_has (λ k. not (eqb k n)) front h)))

  returned_most : returned found s ≤ word 6 setup
  returned_most = go (found || ltb s.kind 0x80)
    where
      go : (t : Bool) → cond t 0 s.length ≤ word 6 setup
      go true = omega arith
      go false = omega arith

  control_room : (host : List ℕ) (room : ℕ) → (step w (Control setup host room)).answer ≡ 3 → (step w (Control setup host (word 6 setup))).answer ≡ 0
  unfolding step
  control_room host room a =
      let d = data_decide (length host) room 3 a refl in
      let h = (decides 3 (data_checks found s (length host) room) d.0).0 in
      d.1 (length host) (word 6 setup)
      ∙ all_passed (data_checks found s (length host) (word 6 setup)) (h, (le-ltb (word 6 setup) (returned found s) returned_most, tt))

  -- data of the right length, with room
  control_data : (host room host' room' : ℕ) → request_answer (seen_of w) w.memory setup host room ≡ 2
      → host' ≡ sent s → returned found s ≤ room' → request_answer (seen_of w) w.memory setup host' room' ≡ 0
  control_data host room host' room' a h r =
      (data_decide host room 2 a refl).1 host' room'
      ∙ all_passed (data_checks found s host' room') (ap not (eq-eqb host' (sent s) h), (le-ltb room' (returned found s) r, tt))

pub data_mends : DataMends rules
unfolding step
data_mends w setup host sends room a = (
  λ k h.
      control_data w setup (length host) room (length sends) 0 a (rw (lt-ltb (byte 0 setup) 0x80 k) h) (rw (lt-ltb (byte 0 setup) 0x80 k, or-true) (omega arith)),
  λ k. control_data w setup (length host) room 0 (word 6 setup) a (rw (le-ltb (byte 0 setup) 0x80 k)) (returned_most w setup),
)

pub write_mends : WriteMends rules
unfolding step request_of request_answer address one_page
write_mends w place start n host room = (
  λ a.
      let d = rw (whole place, whole start, whole n) at (decides 10 (checks n) a) in
      writes w place start [] (needed w.bridge.configured d.1.0) (not-false _ d.1.1.1.0) d.1.1.1.1.0
      (nothing (in_memory place) (not-false _ d.1.1.1.1.1.0)) d.1.1.1.1.1.1.0 (and-false (in_memory place)),
  λ a.
      let d = rw (whole place, whole start, whole n) at (decides 9 (checks n) a) in
      (reads w place start n (needed w.bridge.configured d.1.0) (not-false _ d.1.1.1.0) d.1.1.1.1.0
      (readable (size_of w.memory) place start n (not-false _ d.1.1.1.1.1.0))).0,
)
  where
    m : ℕ
    m = size_of w.memory

    checks : ℕ → List Check
    checks n =
        let s = setup_of (wire 0x40 0x01 place start n) in
        request_checks (seen_of w) w.memory 8 s (request_of s) (length host) room

    nothing : (t : Bool) → cond t (ltb start m && leb (start + n) m) (leb 2 start && leb start 15 && leb (start + n) 16) ≡ true
        → cond t (ltb start m && leb (start + 0) m) (leb 2 start && leb start 15 && leb (start + 0) 16) ≡ true
    nothing true h =
        let k = ltb-true start m ((and-eq-true_iff (ltb start m) (leb (start + n) m)).0 h).0 in
        rw (lt-ltb start m k, le-leb (start + 0) m (omega arith))
    nothing false h =
        let k = ((and-eq-true_iff (leb 2 start && leb start 15) (leb (start + n) 16)).0 h).0 in
        let l = leb-true start 15 ((and-eq-true_iff (leb 2 start) (leb start 15)).0 k).1 in
        rw (k, le-leb (start + 0) 16 (omega arith))

-- a place that is there can be read at its start
at_start : (w : World) (place : ℕ) → w.bridge.configured ≡ true → (in_bytes place || in_memory place) ≡ true
    → (in_memory place && eqb (size_of w.memory) 0) ≡ false → (step w (Control (wire 0xC0 0x02 place 0 1) [] 1)).answer ≡ 0
unfolding address
at_start w place c p f = (reads w place 0 1 c p f (go (in_memory place) f)).0
  where
    m : ℕ
    m = size_of w.memory

    go : (t : Bool) → (t && eqb m 0) ≡ false → cond t (ltb 0 m && leb (0 + 1) m) (leb 0 0 && leb 0 15 && leb (0 + 1) 16) ≡ true
    go true z =
        let some = eqb-false m 0 z in
        rw (lt-ltb 0 m (omega arith))
    go false z = refl

module _ (w : World) (place start n : ℕ) (host : List ℕ) (room : ℕ) where
  -- the checks of a request with a place, by its pair
  abbrev moving : ℕ → ℕ → List Check
  moving kind code =
      let s = setup_of (wire kind code place start n) in
      request_checks (seen_of w) w.memory 8 s (request_of s) (length host) room

  none_fitted : (t : Bool) (behind : List Check) → all_numbers (λ k. not (eqb k 7)) behind ≡ true
      → ((t && eqb (size_of w.memory) 0) ≡ true) ⊎ (first behind ≡ 7) → length w.memory ≡ 0
  none_fitted t behind h e =
      let f = (and-eq-true_iff t (eqb (size_of w.memory) 0)).0 (sole 7 (t && eqb (size_of w.memory) 0) behind h e) in
      let z = eqb-true (size_of w.memory) 0 f.1 in
      omega arith

  write_place : ((step w (Control (wire 0x40 0x01 place start n) host room)).answer ≡ 8 → (step w (Control (wire 0xC0 0x02 place 0 1) [] 1)).answer ≡ 0)
      × ((step w (Control (wire 0x40 0x01 place start n) host room)).answer ≡ 7 → length w.memory ≡ 0)
  unfolding step request_of request_answer
  write_place = (
    λ a.
        let d = rw (whole place) at (decides 8 (moving 0x40 0x01) a) in
        at_start w place (needed w.bridge.configured d.1.0) (not-false _ d.1.1.1.0) d.1.1.1.1.0,
    λ a. none_fitted (in_memory (setup_of (wire 0x40 0x01 place start n)).value) (drop 5 (moving 0x40 0x01)) refl (decides 7 (moving 0x40 0x01) a).1.1.1.1,
  )

  read_place : ((step w (Control (wire 0xC0 0x02 place start n) host room)).answer ≡ 8 → (step w (Control (wire 0xC0 0x02 place 0 1) [] 1)).answer ≡ 0)
      × ((step w (Control (wire 0xC0 0x02 place start n) host room)).answer ≡ 7 → length w.memory ≡ 0)
  unfolding step request_of request_answer
  read_place = (
    λ a.
        let d = rw (whole place) at (decides 8 (moving 0xC0 0x02) a) in
        at_start w place (needed w.bridge.configured d.1.0) (not-false _ d.1.1.1.0) d.1.1.1.1.0,
    λ a. none_fitted (in_memory (setup_of (wire 0xC0 0x02 place start n)).value) (drop 5 (moving 0xC0 0x02)) refl (decides 7 (moving 0xC0 0x02) a).1.1.1.1,
  )

pub place_mends : PlaceMends rules
place_mends w kind code place start n host room (inl (k, c)) = rw (k, c) (write_place w place start n host room)
place_mends w kind code place start n host room (inr (k, c)) = rw (k, c) (read_place w place start n host room)

-- ---- the other events

status_room : (w : World) (room : ℕ) → (step w (StatusRequest room)).answer ≡ 3 → (step w (StatusRequest 13)).answer ≡ 0
unfolding step status_answer
status_room w room a =
    let d = decides 3 (status_checks w.bridge room) a in
    all_passed (status_checks w.bridge 13) (d.0, (d.1.0, (d.1.1.0, (refl, tt))))

-- how many operations a packet makes
abbrev pub needs : World → List ℕ → ℕ
needs w p = length (operations_for (signature_of w.bytes) p)

packet_room : (w : World) (p : List ℕ) (room : ℕ) → (step w (Packet p room)).answer ≡ 15 → (step w (Packet p 11)).answer ≡ 0
unfolding step packet_answer
packet_room w p room a =
    let d = decides 15 (packet_checks w.bridge p (needs w p) room) a in
    let e = d.1.1.1 in
    all_passed (packet_checks w.bridge p (needs w p) 11)
    (d.0, (d.1.0, (d.1.1.0, (e.0, (e.1.0, (le-ltb 11 (needs w p) (needed_most (signature_of w.bytes) p), tt))))))

pub room_mends : RoomMends rules
room_mends w setup host p room = (control_room w setup host room, status_room w room, packet_room w p room)

pub room_suffices : RoomSuffices rules
unfolding step packet_answer status_answer
room_suffices w setup host p room sixteen = (
  λ a. rw a (λ k. requested a (request_of (setup_of setup)) refl k),
  λ a.
      let k = passed (status_checks w.bridge room) refl a in
      rw a (waiting w.bridge.phase (not-false (is_status_waiting w.bridge.phase) k.1.1.0) (ltb-false room _ k.1.1.1.0)),
  λ a.
      let k = passed (packet_checks w.bridge p (needs w p) room) refl a in
      rw a (ltb-false room (needs w p) k.1.1.1.1.1.0),
)
  where
    requested : (step w (Control setup host room)).answer ≡ 0 → (q : Named) → request_of (setup_of setup) ≡ q → standing q (setup_of setup) w ≡ InRoom
        → length (reply_to q (setup_of setup) w) ≤ room
    requested a (Known r) e k = reply_fits w setup (length host) room sixteen a r e
    requested a Describes e k = absurd (let z : ◌≡◌ {A = ℕ} 0 1 = cc in omega arith)
    requested a Unknown e k = omega arith

    waiting : (p : Phase) → is_status_waiting p ≡ true → status_layout.length ≤ room → length (status_reply p) ≤ room
    waiting Awaiting h r = absurd (false≢true h)
    waiting (Busy direction lun tag l) h r = absurd (false≢true h)
    waiting (StatusWaiting tag residue status) h r = r
    waiting (Stopped reset) h r = absurd (false≢true h)

pub front_of_room : FrontOfRoom room_with
front_of_room out room k fits = (
  rw (length-append out (drop (length out) room), length-drop) (omega arith),
  λ l. get_or-append out (drop (length out) room) 0 k l,
  λ l.
      let e : k ≡ length out + (k - length out) = omega arith in
      ap (λ (j : ℕ). byte j (laid out room)) e
      ∙ get_or-append-add out (drop (length out) room) (k - length out) 0
      ∙ get_or-drop (length out) room (k - length out) 0
      ∙ ap (λ (j : ℕ). byte j room) (sym e),
  λ at. refl,
)

pub room_is_enough : RoomIsEnough rules
unfolding step packet_answer
room_is_enough w p room a =
    let k = passed (packet_checks w.bridge p (needs w p) room) refl a in
    let e = k.1.1.1 in
    rw a
    (all_passed (packet_checks w.bridge p (needs w p) (needs w p))
    (k.0, (k.1.0, (k.1.1.0, (e.0, (e.1.0, (le-ltb (needs w p) (needs w p) (omega arith), tt)))))))

pub report_was_legal : ReportWasLegal rules
unfolding step report_answer malformed
report_was_legal w direction failed amount a =
    let k = passed (report_checks w.bridge direction failed amount) refl a in
    go (ltb 2 direction) refl (ltb 1 failed) refl (eqb direction 0) refl (ltb 0 amount) refl k.1.1.0
  where
    go : (x : Bool) → ltb 2 direction ≡ x → (y : Bool) → ltb 1 failed ≡ y → (z : Bool) → eqb direction 0 ≡ z → (t : Bool) → ltb 0 amount ≡ t
        → (x || y || (z && t)) ≡ false → (direction ≤ 2) × (failed ≤ 1) × (direction ≡ 0 → amount ≡ 0)
    go true d y f z e t m h = absurd (true≢false h)
    go false d true f z e t m h = absurd (true≢false h)
    go false d false f true e true m h = absurd (true≢false h)
    go false d false f true e false m h = (ltb-false 2 direction d, ltb-false 1 failed f, λ n. let l = ltb-false 0 amount m in omega arith)
    go false d false f false e t m h = (ltb-false 2 direction d, ltb-false 1 failed f, λ n. absurd (eqb-false direction 0 e n))

pub report_mends : ReportMends rules
unfolding step report_answer malformed
report_mends w direction failed amount a =
    let d = decides 17 (report_checks w.bridge direction failed amount) a in
    all_passed (report_checks w.bridge 0 0 0) (d.0, (d.1.0, (refl, tt)))

-- what a packet that is judged has met
pub met : (w : World) → not w.bridge.configured ≡ false → (is_stopped w.bridge.phase || w.bridge.halts.outward) ≡ false
    → not (is_awaiting w.bridge.phase) ≡ false → Free w
met w c r a =
    record {
      configured = not-false w.bridge.configured c;
      awaits = awaiting w.bridge.phase (not-false (is_awaiting w.bridge.phase) a);
      runs = second (is_stopped w.bridge.phase) w.bridge.halts.outward r;
    }
  where
    awaiting : (p : Phase) → is_awaiting p ≡ true → p ≡ Awaiting
    awaiting Awaiting h = refl
    awaiting (Busy direction lun tag l) h = absurd (false≢true h)
    awaiting (StatusWaiting tag residue status) h = absurd (false≢true h)
    awaiting (Stopped reset) h = absurd (false≢true h)

    second : (x y : Bool) → (x || y) ≡ false → y ≡ false
    second true y h = absurd (true≢false h)
    second false y h = h

pub damage_meets_free : DamageMeetsFree rules
unfolding step packet_answer
damage_meets_free w p room d = go (one_of _ 13 14 d)
  where
    checks : List Check
    checks = packet_checks w.bridge p (needs w p) room

    go : (first checks ≡ 13) ⊎ (first checks ≡ 14) → Free w
    go (inl a) = let k = decides 13 checks a in met w k.0 k.1.0 k.1.1.0
    go (inr a) = let k = decides 14 checks a in met w k.0 k.1.0 k.1.1.0
