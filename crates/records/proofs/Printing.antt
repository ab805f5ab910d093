-- From an event's promise and the line of its outcome to what the event prints.
use mathlib.Core.Path.{◌≡◌, refl, sym, ap, ◌∙◌}
use mathlib.Core.Bool.{Bool, true, false, not, ◌||◌, true≢false}
use mathlib.Core.List.{List, []}
use Prim.Native.Nat.{ℕ, ◌+◌, ◌≤◌, min}
use native.Mathlib.Omega.{arith}
use lib.Dec.{eqb, ltb}
use lib.ListN.{length, take, drop, length-append, length-drop, drop_of_length-le}
use lib.Seq.{take_all, take-length, take-append_seam, drop-length, length-take-le}
use borrow.Author.Tests.{eqb-true, ltb-true, ltb-false}
use borrow.Rule.Reborrow.{re_v}
use Rattle.std.proofs.lemmas.List.{nil_from_length}
use Rattle.rules.specs.declared.refusals.Refusal.{Refusal}
use Rattle.rules.specs.declared.Stands.{Stands}
use Rattle.rules.specs.declared.Stands.TheVariants.{InRoom, InMemory}
use Rattle.rules.specs.Words.{laid}
use Rattle.rules.specs.Numbered.{answer_of, count_of}
use Rattle.rules.specs.Held.{World, world, holding, size_of, fitted}
use Rattle.rules.specs.Descriptors.{number_of}
use Rattle.rules.specs.Changes.{made}
use Rattle.rules.specs.Step.{Event, Control, held_after, step}
use Rattle.rules.specs.Promise.{Left, left_at, handed_out, room_with, leaves}
use Rattle.rules.proofs.Demands.Boundary.{none_given}
use Rattle.rules.proofs.Demands.Descriptors.{what_stands_is_there}
use Rattle.outcomes.specs.declared.Outcome.{Outcome}
use Rattle.outcomes.specs.Outcomes.{left_by}
use Rattle.records.specs.declared.events.Bench.{Bench}
use Rattle.records.specs.declared.events.Handed.{Handed}
use Rattle.records.specs.declared.events.Handed.TheVariants.{Reply, Operations}
use Rattle.records.specs.Records.{torn, event_of}
use Rattle.records.specs.Lines.{hex_byte, hex_word, hex_of}
use Rattle.records.specs.Puts.{line_of}
use Rattle.records.specs.Printed.{world_of, changed_by, there_at, line_at, Does}

-- no more is handed out than fits a line
pub few : (memory : List ℕ) (count : ℕ) (handed : Handed) → there_at memory count handed → count ≤ 4096
few memory count (Reply InRoom) there = there
few memory count (Reply (InMemory start)) there = there.1
few memory count Operations there = omega arith

-- the bench, with other bytes behind its references and in its rooms
abbrev pub left_with : Bench → (bytes memory reply operations : List ℕ) → Bench
left_with b bytes memory reply operations = record { bridge = b.bridge; bytes = re_v bytes b.bytes; memory = re_v memory b.memory; reply = reply; operations = operations }

module _ (before : Bench) (event : ℕ → Event) (room : List ℕ) (stands : Stands) (o : Outcome Refusal) {bytes memory now : List ℕ}
    (h : left_at stands (answer_of o.answer) (count_of o.answer) o.change bytes memory now ≡ leaves (world_of before) event room) where
  abbrev w : World
  w = world_of before

  abbrev e : Event
  e = event (length room)

  abbrev out : List ℕ
  out = handed_out e (step w e)

  count_is : count_of o.answer ≡ length out
  count_is = ap (λ (l : Left). l.count) h

  stands_is : stands ≡ (step w e).stands
  stands_is = ap (λ (l : Left). l.stands) h

  -- where nothing is held
  world_is : held_after w e ≡ [] → world (made o.change before.bridge) bytes memory ≡ (step w e).next
  unfolding step
  world_is none =
      ap (λ (l : Left). world (made l.change before.bridge) l.bytes l.memory) h ∙ ap (λ (held : List ℕ). holding held (step w e).next) (sym none)

  -- where what was handed out stands at the front of what is shown
  does : (f : ℕ → List ℕ) → hex_of e ≡ f → held_after w e ≡ [] → (shown : List ℕ) → take (count_of o.answer) shown ≡ out → (handed : Handed) {reply operations : List ℕ}
      → line_at memory reply operations o.answer handed ≡ line_of f o.answer shown → there_at memory (count_of o.answer) handed
      → Does before e (record { answer = o.answer; handed = handed }) (changed_by o (left_with before bytes memory reply operations))
  does f hex none shown front handed is there = record {
    next = world_is none;
    line = is ∙ rw (front, hex, ap (λ (l : Left). l.answer) h) refl;
    there = there;
    lent = record { bytes = refl; memory = refl };
  }

-- ---- what stands in the lent room

module _ (before : Bench) (event : ℕ → Event) (room : List ℕ) (o : Outcome Refusal) {bytes memory now : List ℕ} (h : left_by o bytes memory now ≡ leaves (world_of before) event room) where
  abbrev handed : List ℕ
  handed = out before event room InRoom o h

  count : count_of o.answer ≡ length handed
  count = count_is before event room InRoom o h

  now_is : now ≡ laid handed room
  now_is =
      ap (λ (l : Left). l.room) h
      ∙ ap (λ (s : Stands). room_with s handed room) (sym (stands_is before event room InRoom o h))

  -- no more was handed out than there was room for
  pub count_fits : length now ≡ length room → count_of o.answer ≤ length room
  count_fits l =
      let both : length now ≡ length handed + length (drop (length handed) room) = ap length now_is ∙ length-append handed (drop (length handed) room) in
      omega (arith, l, count, both, length-drop (length handed) room)

  front_of_room : take (count_of o.answer) now ≡ handed
  front_of_room = rw (count, now_is) (take-append_seam handed (drop (length handed) room))

  -- a reply, or the operations
  pub reply_does : hex_of (event (length room)) ≡ hex_byte → held_after (world_of before) (event (length room)) ≡ [] → length room ≤ 4096 → length now ≡ length room → {operations : List ℕ}
      → Does before (event (length room)) (record { answer = o.answer; handed = Reply InRoom }) (changed_by o (left_with before bytes memory now operations))
  reply_does hex none most same =
      does before event room InRoom o h hex_byte hex none now front_of_room (Reply InRoom) refl (omega (arith, count_fits same))

  pub operations_do : hex_of (event (length room)) ≡ hex_word → held_after (world_of before) (event (length room)) ≡ [] → length room ≤ 11 → length now ≡ length room → {reply : List ℕ}
      → Does before (event (length room)) (record { answer = o.answer; handed = Operations }) (changed_by o (left_with before bytes memory reply now))
  operations_do hex none most same =
      does before event room InRoom o h hex_word hex none now front_of_room Operations refl (omega (arith, count_fits same))

-- where there is no room, nothing is handed out
pub none_does : (before : Bench) (event : ℕ → Event) (o : Outcome Refusal) → left_by o before.bytes.now before.memory.now [] ≡ leaves (world_of before) event []
    → hex_of (event 0) ≡ hex_byte → held_after (world_of before) (event 0) ≡ []
    → Does before (event 0) (record { answer = o.answer; handed = Reply InRoom }) (changed_by o before)
none_does before event o h hex none =
    let many : count_of o.answer ≡ 0 = omega (arith, count_fits before event [] o h refl) in
    does before event [] InRoom o h hex_byte hex none before.reply (rw many (sym (nil_from_length _ (omega (arith, many, count before event [] o h))))) (Reply InRoom) {operations = before.operations} refl (omega (arith, many))

-- ---- what a control request hands out, wherever it stands

module _ (before : Bench) (setup host room : List ℕ) (o : Outcome Refusal) where
  abbrev asked : Event
  asked = Control setup host (length room)

  pub control_does : (stands : Stands) {bytes memory now : List ℕ}
      → left_at stands (answer_of o.answer) (count_of o.answer) o.change bytes memory now ≡ leaves (world_of before) (Control setup host) room
      → length now ≡ length room → length room ≡ 4096 → {operations : List ℕ}
      → Does before asked (record { answer = o.answer; handed = Reply stands }) (changed_by o (left_with before bytes memory now operations))
  control_does InRoom h same long = reply_does before (Control setup host) room o h refl (rw none_given) (omega arith) same
  control_does (InMemory start) {memory = memory} h same long =
      let k = what_stands_is_there (world_of before) asked (number_of start) (sym (stands_is before (Control setup host) room (InMemory start) o h)) in
      let count = count_is before (Control setup host) room (InMemory start) o h in
      let m : memory ≡ (step (world_of before) asked).next.memory = ap (λ (l : Left). l.memory) h in
      let inside : number_of start + count_of o.answer ≤ length (fitted memory) = rw (m, count) k.0 in
      let most : length (fitted memory) ≡ size_of memory = length-take-le (size_of memory) memory (omega arith) in
      does before (Control setup host) room (InMemory start) o h hex_byte refl (rw none_given) (drop (number_of start) memory) (rw (m, count) (sym k.1)) (Reply (InMemory start)) refl
      (omega (arith, most, inside, length-drop (number_of start) memory), omega (arith, most, inside))

-- "a setup record holds 8 bytes (all there are, if fewer), then host data"
pub control_event : (p : List ℕ) {n : ℕ} → n ≡ min (length p) 8 → Control (take n p) (drop n p) 4096 ≡ event_of 2 p
unfolding event_of
control_event p {n} is = rw is (go (ltb (length p) 8) refl)
  where
    go : (t : Bool) → ltb (length p) 8 ≡ t → Control (take (min (length p) 8) p) (drop (min (length p) 8) p) 4096 ≡ Control (take 8 p) (drop 8 p) 4096
    go true e =
        let m : min (length p) 8 ≡ length p = omega (arith, ltb-true (length p) 8 e) in
        let short : length p ≤ 8 = omega (arith, ltb-true (length p) 8 e) in
        rw (m, take-length p, drop-length p, take_all 8 p short, drop_of_length-le p {i = 8} short)
    go false e = let m : min (length p) 8 ≡ 8 = omega (arith, ltb-false (length p) 8 e) in rw m

-- "a report payload that isn't 6 bytes" is torn
pub report_six : {n : ℕ} → torn 4 n ≡ false → n ≡ 6
unfolding torn
report_six {n} h = go (ltb 520 n) (eqb n 6) refl h
  where
    go : (long six : Bool) → eqb n 6 ≡ six → (long || false || not six || false) ≡ false → n ≡ 6
    go true six e f = absurd (true≢false f)
    go false true e f = eqb-true n 6 e
    go false false e f = absurd (true≢false f)
