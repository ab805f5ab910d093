-- Request 7, proved: the busy record keeps the LUN; and at LUN 0 the test, the operations and what begins are those of before.
use mathlib.Core.Path.{◌≡◌, refl, sym, ap, ◌∙◌}
use mathlib.Core.Bool.{Bool, true, false, cond, ◌&&◌, ◌||◌}
use mathlib.Core.List.{List, [], ◌∷◌}
use Prim.Native.Nat.{ℕ, ◌<◌}
use native.Mathlib.Omega.{arith}
use lib.Dec.{eqb, leb, ltb}
use lib.ListN.{length}
use borrow.Author.Tests.{eqb-true, eqb-false, le-ltb}
use Rattle.rules.specs.declared.Change.{Change}
use Rattle.rules.specs.declared.Change.TheVariants.{Nothing, Stops}
use Rattle.rules.specs.declared.CommandPacket.{CommandPacket}
use Rattle.rules.specs.declared.Direction.{Direction}
use Rattle.rules.specs.declared.Drives.TheVariants.{One}
use Rattle.rules.specs.declared.Dock.{Dock}
use Rattle.rules.specs.declared.Lun.{Lun}
use Rattle.rules.specs.declared.Lun.TheVariants.{Lun0, Lun1}
use Rattle.rules.specs.declared.Request.TheVariants.{SetConfiguration, GetConfiguration, ClearFeature, GetStatus, GetMaxLun, MassStorageReset, LoadConfigData, ReadConfigData, SoftReset, BogusRead}
use Rattle.rules.specs.declared.Setup.{Setup}
use Rattle.rules.specs.declared.Stands.TheVariants.{InRoom}
use Rattle.rules.specs.Words.{byte, bit, bit_of}
use Rattle.rules.specs.Held.{World, world, powered, lun_number}
use Rattle.rules.specs.Changes.{made}
use Rattle.rules.specs.Requests.{Named, Unknown, Known, Describes, setup_of, request_of, is_a, reply_to}
use Rattle.rules.specs.Packets.{command_of, block_of, direction_of, lun_of, signature_of, sensible, meaningful, recognises, begins, command_taken}
use Rattle.rules.specs.Operations.{codes, action, operations_of}
use Rattle.rules.specs.Answers.{packet_answer}
use Rattle.rules.specs.Step.{Event, BusReset, Control, Packet, Report, StatusRequest, Burst, EndMark, Outcome, packet_makes, packet_answers, packet_changes, done, damaged, given, changing, change, step, rules, after, reached}
use Rattle.rules.specs.Demands.Drives.{BusyKeepsLun, meaningful_before, packet_before, step_before, as_before, OneDriveIsBefore}
use Rattle.rules.proofs.Checks.{both_same}
use Rattle.rules.proofs.Demands.Operations.{counted}
use Rattle.rules.proofs.Demands.Makers.{codes-length, packet_leaves}
use Rattle.rules.proofs.Demands.Packets.{begun, drive_held}
use Rattle.rules.proofs.Demands.Coherence.{run_fixed}

-- ---- the busy record

lun_read : (w : World) (p : List ℕ) (room : ℕ) → (step w (Packet p room)).answer ≡ 0 → lun_number (lun_of (command_of p)) ≡ byte 13 p
unfolding step
lun_read w p room a = sym (drive_held w p room a).0

pub busy_keeps_lun : BusyKeepsLun rules
busy_keeps_lun w p room o =
    let k = begun w p room o in
    rw (packet_leaves w p room k.0, k.1) (ap (λ (n : ℕ). n ∷ []) (lun_read w p room k.0))

-- ---- one drive

below_one : (lun : ℕ) → ltb lun 1 ≡ eqb lun 0
below_one lun = go (eqb lun 0) refl
  where
    go : (t : Bool) → eqb lun 0 ≡ t → ltb lun 1 ≡ t
    go true e = rw (eqb-true lun 0 e)
    go false e = le-ltb lun 1 (let h = eqb-false lun 0 e in omega arith)

meaning_before : (c : CommandPacket) → meaningful One c ≡ meaningful_before c
unfolding meaningful sensible
meaning_before c =
    rw (below_one c.lun) (go (eqb c.flags 0x00 || eqb c.flags 0x80) (leb 1 c.block_length) (leb c.block_length 16) (eqb c.lun 0))
  where
    go : (f s m z : Bool) → (f && s && m && z) ≡ (f && z && s && m)
    go true true true true = refl
    go true true true false = refl
    go true true false true = refl
    go true true false false = refl
    go true false m true = refl
    go true false m false = refl
    go false s m z = refl

-- the LUN makes a block's list no longer
length_alike : (lun : Lun) (block : List ℕ) (l : ℕ) (d : Direction)
    → length (codes (operations_of lun block l d)) ≡ length (codes (operations_of Lun0 block l d))
length_alike lun block l d = rw (codes-length (operations_of lun block l d), codes-length (operations_of Lun0 block l d)) (go (bit 0 (action block)) refl)
  where
    go : (t : Bool) → bit 0 (action block) ≡ t → length (operations_of lun block l d) ≡ length (operations_of Lun0 block l d)
    go true e = let r = eqb-true _ 1 e in ((counted lun block l d).0 r).0 ∙ sym ((counted Lun0 block l d).0 r).0
    go false e =
        let r : bit_of 0 (action block) ≡ 0 = omega (arith, eqb-false (bit_of 0 (action block)) 1 e) in
        ((counted lun block l d).1 r).0 ∙ sym ((counted Lun0 block l d).1 r).0

-- what is given and changed, where the answers are the same, and what is done is
given_alike : (n : ℕ) (x y : List ℕ) → (n ≡ 0 → x ≡ y) → given n x ≡ given n y
given_alike n x y h = go (done n) refl
  where
    go : (t : Bool) → done n ≡ t → cond t x [] ≡ cond t y []
    go true e = h (eqb-true n 0 e)
    go false e = refl

changing_alike : (n : ℕ) (x y : Change) → (n ≡ 0 → x ≡ y) → changing n x ≡ changing n y
changing_alike n x y h = go (done n) refl
  where
    go : (t : Bool) → done n ≡ t → cond t x (cond (damaged n) Stops Nothing) ≡ cond t y (cond (damaged n) Stops Nothing)
    go true e = h (eqb-true n 0 e)
    go false e = refl

module _ (w : World) (p : List ℕ) (room : ℕ) (single : w.bridge.dock.drives ≡ One) where
  abbrev c : CommandPacket
  c = command_of p

  abbrev known : Bool
  known = recognises (signature_of w.bytes) p

  abbrev made0 : List ℕ
  made0 = codes (operations_of Lun0 (block_of p) c.length (direction_of c))

  abbrev packet_outcome : Outcome World
  packet_outcome =
      let n : ℕ = packet_answers w p room in
      record {
        answer = n;
        reply = given n [];
        stands = InRoom;
        operations = given n (packet_makes w p);
        next = world (made (changing n (packet_changes w p)) w.bridge) (cond (done n) w.bytes w.bytes) (cond (done n) w.memory w.memory);
      }

  needed_before : length (packet_makes w p) ≡ length (cond known made0 [])
  needed_before = go known
    where
      go : (t : Bool) → length (cond t (codes (operations_of (lun_of c) (block_of p) c.length (direction_of c))) []) ≡ length (cond t made0 [])
      go true = length_alike (lun_of c) (block_of p) c.length (direction_of c)
      go false = refl

  answer_before : packet_answers w p room ≡ (packet_before w p room).answer
  unfolding packet_answer
  answer_before = rw (single, meaning_before c, needed_before)

  -- an accepted packet is for LUN 0
  lun_before : packet_answers w p room ≡ 0 → lun_of c ≡ Lun0
  lun_before a = go (lun_of c) (rw single at (drive_held w p room a).1)
    where
      go : (u : Lun) → lun_number u < 1 → u ≡ Lun0
      go Lun0 h = refl
      go Lun1 h = absurd (omega arith)

  operations_before : given (packet_answers w p room) (packet_makes w p) ≡ given (packet_answers w p room) (cond known made0 [])
  operations_before = given_alike (packet_answers w p room) _ _ (λ a. rw (lun_before a))

  change_before : changing (packet_answers w p room) (packet_changes w p) ≡ changing (packet_answers w p room) (cond known (begins Lun0 c) (command_taken false c))
  change_before = changing_alike (packet_answers w p room) _ _ (λ a. go known (lun_before a))
    where
      go : (t : Bool) → lun_of c ≡ Lun0 → command_taken t c ≡ cond t (begins Lun0 c) (command_taken false c)
      go true e = ap (λ (u : Lun). begins u c) e
      go false e = refl

  -- all that a packet leaves, whole or at an end mark
  outcome_before : (o : Outcome World) → o ≡ packet_outcome → o ≡ packet_before w p room
  outcome_before o e = e ∙ λ i.
      record {
        answer = answer_before i;
        reply = both_same (done (packet_answers w p room)) [] i;
        stands = InRoom;
        operations = (operations_before ∙ ap (λ (n : ℕ). given n (cond known made0 [])) answer_before) i;
        next =
            world (made ((change_before ∙ ap (λ (n : ℕ). changing n (cond known (begins Lun0 c) (command_taken false c))) answer_before) i) w.bridge)
            (both_same (done (packet_answers w p room)) w.bytes i)
            (both_same (done (packet_answers w p room)) w.memory i);
      }

-- Get Max LUN replies 0, and nothing else changes
reply_before : (w : World) (n : ℕ) (r : Named) (s : Setup) → w.bridge.dock.drives ≡ One
    → given n (reply_to r s w) ≡ cond (is_a GetMaxLun r) (given n (0 ∷ [])) (given n (reply_to r s w))
reply_before w n (Known SetConfiguration) s single = refl
reply_before w n (Known GetConfiguration) s single = refl
reply_before w n (Known ClearFeature) s single = refl
reply_before w n (Known GetStatus) s single = refl
reply_before w n (Known GetMaxLun) s single = rw single
reply_before w n (Known MassStorageReset) s single = refl
reply_before w n (Known LoadConfigData) s single = refl
reply_before w n (Known ReadConfigData) s single = refl
reply_before w n (Known SoftReset) s single = refl
reply_before w n (Known BogusRead) s single = refl
reply_before w n Describes s single = refl
reply_before w n Unknown s single = refl

step_before_lem : (w : World) (e : Event) → w.bridge.dock.drives ≡ One → step w e ≡ step_before w e
unfolding step change
step_before_lem w BusReset single = refl
step_before_lem w (Control setup host room) single =
    let o : Outcome World = step w (Control setup host room) in
    let reply = reply_before w o.answer (request_of (setup_of setup)) (setup_of setup) single in
    λ i. record { answer = o.answer; reply = reply i; stands = o.stands; operations = o.operations; next = o.next }
step_before_lem w (Packet p room) single = outcome_before w p room single _ refl
step_before_lem w (Report direction failed amount) single = refl
step_before_lem w (StatusRequest room) single = refl
step_before_lem w (Burst bytes) single = refl
step_before_lem w (EndMark room) single = outcome_before w w.held room single _ refl

run_before : (w : World) (history : List Event) → w.bridge.dock.drives ≡ One → after rules w history ≡ after as_before w history
run_before w [] single = refl
run_before w (e ∷ es) single =
    let kept : (step w e).next.bridge.dock.drives ≡ One = ap (λ (d : Dock). d.drives) (run_fixed w (e ∷ [])) ∙ single in
    run_before (step w e).next es kept ∙ ap (λ (o : Outcome World). after as_before o.next es) (step_before_lem w e single)

pub one_drive_is_before : OneDriveIsBefore
one_drive_is_before start memory history e single =
    let w : World = reached rules start memory history in
    let same : w ≡ reached as_before start memory history = run_before (powered start memory) history single in
    let kept : w.bridge.dock.drives ≡ One = ap (λ (d : Dock). d.drives) (run_fixed (powered start memory) history) ∙ single in
    step_before_lem w e kept ∙ ap (λ (v : World). step_before v e) same
