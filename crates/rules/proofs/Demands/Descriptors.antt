-- A search for a descriptor comes to what stands in the memory, and what is there is told.
use mathlib.Core.Path.{◌≡◌, refl, sym, ap, subst, ◌∙◌}
use mathlib.Core.Bool.{Bool, true, false, cond, not, ◌&&◌, ◌||◌, true≢false, false≢true, and-false}
use mathlib.Core.List.{List, []}
use Prim.Native.Nat.{ℕ, ◌+◌, ◌*◌, ◌/◌, ◌%◌, ◌<◌, ◌≤◌, min}
use native.Mathlib.Omega.{arith}
use lib.ListN.{length, take, drop, length-drop}
use lib.Seq.{length-take-le}
use lib.Dec.{eqb, ltb}
use borrow.Author.Tests.{eqb-true, eqb-false, ne_eqb, ltb-true, ltb-false, le-ltb, not-true, not-false}
use Rattle.rules.specs.declared.Setup.{Setup}
use Rattle.rules.specs.declared.Stands.TheVariants.{InRoom, InMemory}
use Rattle.rules.specs.declared.addresses.StringIndex.{StringIndex}
use Rattle.rules.specs.Words.{Check, byte, word}
use Rattle.rules.specs.Words.{first as foremost}
use Rattle.rules.specs.Held.{World, size_of, fitted}
use Rattle.rules.specs.Descriptors.{address_of, number_of, first_string, answered, place_of, length_at, find_checks, place_in, descriptor_checks, length_in, told}
use Rattle.rules.specs.Descriptors.{index as numbered, at}
use Rattle.rules.specs.Requests.{Named, Unknown, Known, Describes, setup_of, request_of, describes, reply_to, standing, memory_after}
use Rattle.rules.specs.Answers.{seen_of, data_checks, request_answer}
use Rattle.rules.specs.Step.{BusReset, Control, Packet, Report, StatusRequest, Burst, EndMark, Outcome, done, given, step, rules}
use Rattle.rules.specs.Demands.Requests.{wire}
use Rattle.rules.specs.Demands.Descriptors.{wanting, part, Place, device, qualifier, bus_powered, self_powered, string, string_zero, head, says, Search, no_memory, no_place, head_cut, no_head, cut, there, DescriptorIsSought, DescriptorIsTold, FirstStringIsNamed, NothingElseEnters, OnlyDescriptorsStand, WhatStandsIsThere}
use Rattle.rules.proofs.Checks.{first_append, passed, request_has, request_passed}
use Rattle.rules.proofs.Demands.Coherence.{asking_changes_nothing}
use Rattle.rules.proofs.Demands.Requests.{whole}
use Rattle.rules.proofs.Rows.{part_of_front}

-- ---- the answer to Get Descriptor: 7, what the search comes to, and 2

abbrev answer_by : Bool → StringIndex → List ℕ → ℕ → ℕ → ℕ
answer_by powered first memory value host =
    let f : ℕ = foremost (descriptor_checks true powered first (fitted memory) value) in
    cond (eqb (size_of memory) 0) 7 (cond (eqb f 0) (cond (not (eqb host 0)) 2 0) f)

sought : (w : World) (value language n host room : ℕ)
    → request_answer (seen_of w) w.memory (wire 0x80 0x06 value language n) host room ≡ answer_by w.bridge.dock.bus_powered (first_string w.bytes) w.memory value host
unfolding request_of request_answer
sought w value language n host room =
    let checks : List Check = descriptor_checks true w.bridge.dock.bus_powered (first_string w.bytes) (fitted w.memory) value in
    let end : List Check = data_checks true (setup_of (wire 0x80 0x06 value language n)) host room in
    simp and-false
    (rw whole (ap (λ (x : ℕ). cond (eqb (size_of w.memory) 0) 7 x) (first_append checks end refl ∙ rw (le-ltb room 0 (omega arith)))))

-- ---- places

module _ (w : World) where
  -- the place that the rules give a type and an index
  abbrev start : ℕ → ℕ → ℕ
  start type index = number_of (place_of w.bridge.dock.bus_powered (first_string w.bytes) type index)

  string_placed : (index : ℕ) → Place w 3 index (start 3 index)
  unfolding place_of
  string_placed index = go (eqb index 0) refl
    where
      twice : (k : ℕ) → k + k ≡ 2 * k
      twice k = omega arith

      go : (z : Bool) → eqb index 0 ≡ z → Place w 3 index (number_of (address_of (cond z (first_string w.bytes) (numbered index))))
      go true e = rw (eqb-true index 0 e) (subst (λ (k : ℕ). Place w 3 0 k) (twice (byte 0x0E w.bytes)) string_zero)
      go false e =
          let some = eqb-false index 0 e in
          subst (λ (k : ℕ). Place w 3 index k) (twice index) (string index (omega arith))

  configuration_placed : Place w 2 0 (start 2 0)
  unfolding place_of
  configuration_placed = go w.bridge.dock.bus_powered refl
    where
      go : (b : Bool) → w.bridge.dock.bus_powered ≡ b → Place w 2 0 (number_of (cond b (at 0x2C) (at 0x80)))
      go true e = bus_powered e
      go false e = self_powered e

  -- a type and an index that are answered stand there, and others nowhere
  placed : (type index : ℕ) → answered type index ≡ true → Place w type index (start type index)
  unfolding answered place_of
  placed type index h = go (eqb type 3) refl (eqb index 0) refl (eqb type 1) refl (eqb type 2) refl (eqb type 6) refl h
    where
      go : (a : Bool) → eqb type 3 ≡ a → (z : Bool) → eqb index 0 ≡ z → (b : Bool) → eqb type 1 ≡ b → (c : Bool) → eqb type 2 ≡ c
          → (d : Bool) → eqb type 6 ≡ d → (a || (z && (b || c || d))) ≡ true → Place w type index (start type index)
      go true e z f b g c i d j h = rw (eqb-true type 3 e) (string_placed index)
      go false e true f true g c i d j h = rw (eqb-true type 1 g, eqb-true index 0 f) device
      go false e true f false g true i d j h = rw (eqb-true type 2 i, eqb-true index 0 f) configuration_placed
      go false e true f false g false i true j h = rw (eqb-true type 6 j, eqb-true index 0 f) qualifier
      go false e true f false g false i false j h = absurd (false≢true h)
      go false e false f b g c i d j h = absurd (false≢true h)

  nowhere : (type index : ℕ) → answered type index ≡ false → (k : ℕ) → Place w type index k → ⊥
  unfolding answered
  nowhere type index h k device = true≢false h
  nowhere type index h k qualifier = true≢false h
  nowhere type index h k (bus_powered e) = true≢false h
  nowhere type index h k (self_powered e) = true≢false h
  nowhere type index h k (string i e) = true≢false h
  nowhere type index h k string_zero = true≢false h

-- ---- what the search comes to

module _ (w : World) (type index : ℕ) where
  abbrev from : ℕ
  from = start w type index

  abbrev search : List Check
  search = find_checks true type index from (part w)

  searched : Search w type index (cond (eqb (length (part w)) 0) 7 (foremost search))
  unfolding length_at
  searched =
      go (eqb (length (part w)) 0) refl (answered type index) refl (ltb (length (part w)) (from + head type)) refl (eqb (byte (from + 1) (part w)) type) refl
      (ltb (says type (part w) from) (head type)) refl (ltb (length (part w)) (from + says type (part w) from)) refl
    where
      some : eqb (length (part w)) 0 ≡ false → 0 < length (part w)
      some e = let n = eqb-false (length (part w)) 0 e in omega arith

      go : (z : Bool) → eqb (length (part w)) 0 ≡ z → (a : Bool) → answered type index ≡ a → (p : Bool) → ltb (length (part w)) (from + head type) ≡ p
          → (t : Bool) → eqb (byte (from + 1) (part w)) type ≡ t → (s : Bool) → ltb (says type (part w) from) (head type) ≡ s
          → (q : Bool) → ltb (length (part w)) (from + says type (part w) from) ≡ q
          → Search w type index (cond z 7 (cond (not a) 18 (cond p 19 (cond (not t || s) 18 (cond q 19 0)))))
      go true e a f p g t h s i q j = no_memory (eqb-true _ 0 e)
      go false e false f p g t h s i q j = no_place (some e) (nowhere w type index f)
      go false e true f true g t h s i q j = head_cut from (placed w type index f) (some e) (ltb-true _ _ g)
      go false e true f false g false h s i q j = no_head from (placed w type index f) (ltb-false _ _ g) (λ k. eqb-false _ type h k.typed)
      go false e true f false g true h true i q j =
          no_head from (placed w type index f) (ltb-false _ _ g) (λ k. let l = ltb-true (says type (part w) from) (head type) i in omega arith)
      go false e true f false g true h false i true j =
          cut from (placed w type index f) (record { whole = ltb-false _ _ g; typed = eqb-true _ type h; enough = ltb-false _ _ i }) (ltb-true _ _ j)
      go false e true f false g true h false i false j =
          there from (placed w type index f) (record { whole = ltb-false _ _ g; typed = eqb-true _ type h; enough = ltb-false _ _ i }) (ltb-false _ _ j)

part_length : (memory : List ℕ) → length (fitted memory) ≡ size_of memory
part_length memory = length-take-le (size_of memory) memory (omega arith)

-- without data from the host, and with some
none_sent : (z : Bool) (f : ℕ) → cond z 7 (cond (eqb f 0) 0 f) ≡ cond z 7 f
none_sent true f = refl
none_sent false f = go (eqb f 0) refl
  where
    go : (t : Bool) → eqb f 0 ≡ t → cond t 0 f ≡ f
    go true e = sym (eqb-true f 0 e)
    go false e = refl

some_sent : (z : Bool) (f : ℕ) → cond z 7 (cond (eqb f 0) 2 f) ≡ cond (done (cond z 7 f)) 2 (cond z 7 f)
some_sent true f = refl
some_sent false f = refl

-- the bytes of wValue
high : (type index : ℕ) → index < 256 → (256 * type + index) / 256 ≡ type
high type index small = omega arith

low : (type index : ℕ) → index < 256 → (256 * type + index) % 256 ≡ index
low type index small = omega arith

-- the answer, by type and index
module _ (w : World) (type index language n : ℕ) (small : index < 256) where
  comes_to : (host : List ℕ) (room : ℕ)
      → (let f : ℕ = foremost (search w type index) in
      (step w (wanting type index language n host room)).answer
      ≡ cond (eqb (length (part w)) 0) 7 (cond (eqb f 0) (cond (not (eqb (length host) 0)) 2 0) f))
  unfolding step
  comes_to host room = sought w (256 * type + index) language n (length host) room ∙ rw (high type index small, low type index small, part_length w.memory)

pub descriptor_is_sought : DescriptorIsSought rules
descriptor_is_sought w type index language n host room small =
    let f : ℕ = foremost (search w type index) in
    let z : Bool = eqb (length (part w)) 0 in
    let found = comes_to w type index language n small [] room ∙ none_sent z f in (
      subst (Search w type index) (sym found) (searched w type index),
      λ some. comes_to w type index language n small host room ∙ rw (ne_eqb (length host) 0 (λ e. omega arith)) (some_sent z f ∙ rw found),
    )

-- ---- what is told

-- an answer of 0 is one of the search
settled : (z t : Bool) (f : ℕ) → cond z 7 (cond (eqb f 0) (cond t 2 0) f) ≡ 0 → f ≡ 0
settled true t f h = absurd (omega arith)
settled false t f h = go (eqb f 0) refl h
  where
    go : (u : Bool) → eqb f 0 ≡ u → cond u (cond t 2 0) f ≡ 0 → f ≡ 0
    go true e h = eqb-true f 0 e
    go false e h = h

pub descriptor_is_told : DescriptorIsTold rules
unfolding step request_of length_at
descriptor_is_told w type index language n host room small a =
    let value : ℕ = 256 * type + index in
    let f : ℕ = foremost (search w type index) in
    let none = settled (eqb (length (part w)) 0) (not (eqb (length host) 0)) f (sym (comes_to w type index language n small host room) ∙ a) in
    let k = passed (search w type index) refl none in
    let l = part_length w.memory in
    let inside : from w type index + says type (part w) (from w type index) ≤ length (part w) = ltb-false _ _ k.1.1.1.0 in (
      asking_changes_nothing w (wire 0x80 0x06 value language n) host room (omega arith),
      (
        from w type index,
        placed w type index (not-false (answered type index) k.0),
        rw (a, whole value, high type index small, low type index small),
        inside,
        rw (a, whole value, whole n, high type index small, low type index small)
            (part_of_front (size_of w.memory) (from w type index) (min (says type (part w) (from w type index)) n) w.memory (omega arith) (omega arith)),
      ),
    )

-- ---- what enters into it

-- the same outcome, part by part
same : {o p : Outcome World} → o.answer ≡ p.answer → o.reply ≡ p.reply → o.stands ≡ p.stands → o.operations ≡ p.operations → o.next ≡ p.next → o ≡ p
same a r s p n = λ j. record { answer = a j; reply = r j; stands = s j; operations = p j; next = n j }

-- what is told, by type and index
module _ (w : World) (type index language n : ℕ) (small : index < 256) (host : List ℕ) (room : ℕ) where
  abbrev outcome : Outcome World
  outcome = step w (wanting type index language n host room)

  reply_by : outcome.reply
      ≡ given outcome.answer (take (min (length_at type (part w) (start w type index)) n) (drop (start w type index) (part w)))
  unfolding step request_of
  reply_by = rw (whole (256 * type + index), whole n, high type index small, low type index small)

  stands_by : outcome.stands ≡ cond (done outcome.answer) (InMemory (place_of w.bridge.dock.bus_powered (first_string w.bytes) type index)) InRoom
  unfolding step request_of
  stands_by = rw (whole (256 * type + index), high type index small, low type index small)

  operations_by : outcome.operations ≡ given outcome.answer []
  unfolding step
  operations_by = refl

pub first_string_is_named : FirstStringIsNamed rules
unfolding answered place_of
first_string_is_named w language n host room some small =
    let b : ℕ = byte 0x0E w.bytes in
    let zero : 0 < 256 = omega arith in
    let at : start w 3 0 ≡ start w 3 b = rw (ne_eqb b 0 (λ z. omega arith)) in
    let known : ℕ → ℕ = λ f. cond (eqb (length (part w)) 0) 7 (cond (eqb f 0) (cond (not (eqb (length host) 0)) 2 0) f) in
    let answers = comes_to w 3 0 language n zero host room ∙ (λ j. known (foremost (find_checks true 3 0 (at j) (part w))))
    ∙ sym (comes_to w 3 b language n small host room) in
    same answers
    (reply_by w 3 0 language n zero host room
    ∙ (λ j. given (answers j) (take (min (length_at 3 (part w) (at j)) n) (drop (at j) (part w))))
    ∙ sym (reply_by w 3 b language n small host room))
    (stands_by w 3 0 language n zero host room
    ∙ (λ j. cond (done (answers j)) (InMemory (record { 0 = at j })) InRoom)
    ∙ sym (stands_by w 3 b language n small host room))
    (operations_by w 3 0 language n zero host room
    ∙ (λ j. given (answers j) [])
    ∙ sym (operations_by w 3 b language n small host room))
    (asking_changes_nothing w (wire 0x80 0x06 (256 * 3 + 0) language n) host room (omega arith)
    ∙ sym (asking_changes_nothing w (wire 0x80 0x06 (256 * 3 + b) language n) host room (omega arith)))

pub nothing_else_enters : NothingElseEnters rules
unfolding step request_of
nothing_else_enters w v type index language language' n host room room' d b m =
    let value : ℕ = 256 * type + index in
    let a = sought w value language n (length host) room ∙ (λ j. answer_by (d j) (numbered (b j)) (m j) value (length host))
    ∙ sym (sought v value language' n (length host) room') in (
      a,
      λ j. given (a j) (told (d j) (numbered (b j)) (fitted (m j)) (word 2 (wire 0x80 0x06 value language n)) (word 6 (wire 0x80 0x06 value language n))),
      λ j. cond (eqb (a j) 0) (InMemory (place_in (d j) (numbered (b j)) (word 2 (wire 0x80 0x06 value language n)))) InRoom,
    )

-- what does not ask for a descriptor has its reply in the room
undescribed : (w : World) (s : Setup) (q : Named) → describes q ≡ false → standing q s w ≡ InRoom
undescribed w s Unknown h = refl
undescribed w s (Known r) h = refl
undescribed w s Describes h = absurd (true≢false h)

pub only_descriptors_stand : OnlyDescriptorsStand rules
unfolding step
only_descriptors_stand w BusReset h = refl
only_descriptors_stand w (Control setup host room) h =
    let s : Setup = setup_of setup in
    let q = request_has (λ kind code. not (eqb kind 0x80 && eqb code 0x06)) (λ q. not (describes q)) s (rw h) refl in
    rw (undescribed w s (request_of s) (not-true _ q)) (go (eqb (request_answer (seen_of w) w.memory setup (length host) room) 0))
  where
    go : (t : Bool) → cond t InRoom InRoom ≡ InRoom
    go true = refl
    go false = refl
only_descriptors_stand w (Packet p room) h = refl
only_descriptors_stand w (Report direction failed amount) h = refl
only_descriptors_stand w (StatusRequest room) h = refl
only_descriptors_stand w (Burst bytes) h = refl
only_descriptors_stand w (EndMark room) h = refl

-- a reply that stands in a memory from a place on
abbrev There : ℕ → List ℕ → List ℕ → Type 0
There k reply memory = (k + length reply ≤ length (fitted memory)) × (reply ≡ take (length reply) (drop k memory))

lies_there : (k n : ℕ) (memory : List ℕ) → k + n ≤ length (fitted memory) → There k (take n (drop k (fitted memory))) memory
lies_there k n memory h =
    let l = part_length memory in
    let long : length (take n (drop k (fitted memory))) ≡ n = length-take-le n (drop k (fitted memory)) (rw length-drop (omega arith)) in
    (omega arith, rw long (part_of_front (size_of memory) k n memory (omega arith) (omega arith)))

stands_in_room : {A : Type 0} {start : ℕ} → InRoom ≡ InMemory (at start) → A
stands_in_room h = absurd (let z : ◌≡◌ {A = ℕ} 0 1 = cc in omega arith)

pub what_stands_is_there : WhatStandsIsThere rules
unfolding step
what_stands_is_there w BusReset place h = stands_in_room h
what_stands_is_there w (Control setup host room) place h = go (done n) refl (request_of s) refl h
  where
    s : Setup
    s = setup_of setup

    n : ℕ
    n = request_answer (seen_of w) w.memory setup (length host) room

    k : ℕ
    k = number_of (place_in w.bridge.dock.bus_powered (first_string w.bytes) s.value)

    long : ℕ
    long = length_in w.bridge.dock.bus_powered (first_string w.bytes) (fitted w.memory) s.value

    go : (t : Bool) → done n ≡ t → (q : Named) → request_of s ≡ q → cond t (standing q s w) InRoom ≡ InMemory (at place)
        → There place (cond t (reply_to q s w) []) (cond t (memory_after q s host w.memory) w.memory)
    go false d q e h = stands_in_room h
    go true d Unknown e h = stands_in_room h
    go true d (Known r) e h = stands_in_room h
    go true d Describes e h =
        let same : k ≡ place = cc in
        let p = request_passed (seen_of w) w.memory setup (length host) room (eqb-true n 0 d) in
        let whole : k + long ≤ length (fitted w.memory) = ltb-false _ _ (rw e at p.1.1.1.1.1.1.1.1.1.1.1.0) in
        rw (← same) (lies_there k (min long s.length) w.memory (omega arith))
what_stands_is_there w (Packet p room) place h = stands_in_room h
what_stands_is_there w (Report direction failed amount) place h = stands_in_room h
what_stands_is_there w (StatusRequest room) place h = stands_in_room h
what_stands_is_there w (Burst bytes) place h = stands_in_room h
what_stands_is_there w (EndMark room) place h = stands_in_room h
