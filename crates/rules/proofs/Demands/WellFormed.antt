-- After any history the bridge is well-formed.
use mathlib.Core.Path.{◌≡◌, refl, ◌∙◌}
use mathlib.Core.Bool.{Bool, true, false, cond, not, ◌&&◌, ◌||◌, true≢false, and-eq-true_iff}
use mathlib.Core.List.{List, [], ◌∷◌, ◌++◌}
use Prim.Native.Nat.{ℕ, zero, suc, ◌<◌, ◌≤◌}
use native.Mathlib.Omega.{arith}
use lib.ListN.{length}
use lib.Dec.{eqb, leb, ltb}
use borrow.Author.Tests.{eqb-true, ltb-true, ltb-false, le-leb, lt-ltb}
use Rattle.rules.specs.declared.Bridge.{Bridge}
use Rattle.rules.specs.declared.Change.TheVariants.{Nothing, Stops}
use Rattle.rules.specs.declared.CommandPacket.{CommandPacket}
use Rattle.rules.specs.declared.Direction.{Direction}
use Rattle.rules.specs.declared.Direction.TheVariants.{Out, In}
use Rattle.rules.specs.declared.Drives.{Drives}
use Rattle.rules.specs.declared.Halts.{Halts}
use Rattle.rules.specs.declared.Lun.{Lun}
use Rattle.rules.specs.declared.Phase.{Phase}
use Rattle.rules.specs.declared.Phase.TheVariants.{Awaiting, Busy, StatusWaiting, Stopped}
use Rattle.rules.specs.declared.Request.TheVariants.{SetConfiguration, GetConfiguration, ClearFeature, GetStatus, GetMaxLun, MassStorageReset, LoadConfigData, ReadConfigData, SoftReset, BogusRead}
use Rattle.rules.specs.declared.Setup.{Setup}
use Rattle.rules.specs.Words.{over}
use Rattle.rules.specs.Held.{World, drive_count, lun_number, world, powered, power_on_bytes, bulk_out, in_phase, halted, halting}
use Rattle.rules.specs.Changes.{made, drops}
use Rattle.rules.specs.Packets.{command_of, direction_of, lun_of, signature_of, recognises, command_taken}
use Rattle.rules.specs.Reports.{malformed, mismatch, status_of, residue_of, halts_pipe, report_taken}
use Rattle.rules.specs.Stopping.{clears_pipe, mass_storage_reset, soft_reset}
use Rattle.rules.specs.Requests.{Named, Unknown, Known, Describes, setup_of, request_of, in_memory, change_by, bytes_after, memory_after}
use Rattle.rules.specs.Answers.{report_checks, report_answer}
use Rattle.rules.specs.Step.{Event, BusReset, Control, Packet, Report, StatusRequest, Burst, EndMark, packet_changes, change, held_after, step, rules, after, answer, done, damaged, change_done, bytes_done, memory_done}
use Rattle.rules.specs.Demands.WellFormed.{Bytes, Proper, ProperAll, sound, WellFormed, StaysWellFormed}
use Rattle.rules.proofs.Bursts.{held_length}
use Rattle.rules.proofs.Checks.{passed}
use Rattle.rules.proofs.Rows.{over-length}
use Rattle.rules.proofs.Demands.Packets.{drive_held}

-- ---- bytes

-- one row over another
bytes_over : (row : List ℕ) (at : ℕ) (xs : List ℕ) → Bytes row → Bytes xs → Bytes (over row at xs)
unfolding over
bytes_over row zero [] h k j = h j
bytes_over [] zero (x ∷ xs) h k j = h j
bytes_over (r ∷ row) zero (x ∷ xs) h k zero = k zero
bytes_over (r ∷ row) zero (x ∷ xs) h k (suc j) = bytes_over row zero xs (λ i. h (suc i)) (λ i. k (suc i)) j
bytes_over [] (suc at) xs h k j = h j
bytes_over (r ∷ row) (suc at) xs h k zero = h zero
bytes_over (r ∷ row) (suc at) xs h k (suc j) = bytes_over row at xs (λ i. h (suc i)) k j

-- one behind another
pub bytes_append : (s t : List ℕ) → Bytes s → Bytes t → Bytes (s ++ t)
bytes_append [] t h k j = k j
bytes_append (b ∷ s) t h k zero = h zero
bytes_append (b ∷ s) t h k (suc j) = bytes_append s t (λ i. h (suc i)) k j

-- numbers that pass the test
abbrev below256 : List ℕ → Bool
below256 [] = true
below256 (b ∷ s) = ltb b 256 && below256 s

pub bytes_tested : (s : List ℕ) → below256 s ≡ true → Bytes s
bytes_tested [] h k = omega arith
bytes_tested (b ∷ s) h zero = ltb-true b 256 ((and-eq-true_iff _ _).0 h).0
bytes_tested (b ∷ s) h (suc k) = bytes_tested s ((and-eq-true_iff (ltb b 256) _).0 h).1 k

-- ---- phases

-- what a change leaves of a phase and its halts is sound
abbrev Sound : Bridge → Type 0
Sound b = sound b.dock.drives b.phase b.halts ≡ true

-- the bridge with this phase and these halts
abbrev with : Bridge → Phase → Bool → Bool → Bridge
with b p o i = in_phase p (halted o i b)

-- Mass Storage Reset, SOFT_RESET
sound_reset : (b : Bridge) (p : Phase) (o i : Bool) → Sound (with b p o i) → Sound (made (mass_storage_reset p) (with b p o i))
sound_reset b Awaiting o i s = refl
sound_reset b (Busy d lun tag l) o i s = refl
sound_reset b (StatusWaiting tag residue status) o i s = refl
sound_reset b (Stopped false) o i s = rw ((and-eq-true_iff o i).0 s).0
sound_reset b (Stopped true) o i s = s

sound_soft : (b : Bridge) (p : Phase) (o i : Bool) → Sound (with b p o i) → Sound (made (soft_reset p) (with b p o i))
sound_soft b Awaiting o i s = refl
sound_soft b (Busy d lun tag l) o i s = refl
sound_soft b (StatusWaiting tag residue status) o i s = refl
sound_soft b (Stopped reset) o i s = s

-- Clear Feature, of either pipe
sound_out : (b : Bridge) (p : Phase) (o i : Bool) → Sound (with b p o i) → Sound (made (clears_pipe p Out i) (with b p o i))
sound_out b Awaiting o i s = refl
sound_out b (Busy Out lun tag l) o i s = s
sound_out b (Busy In lun tag l) o i s = s
sound_out b (StatusWaiting tag residue status) o i s = s
sound_out b (Stopped false) o i s = s
sound_out b (Stopped true) o true s = refl
sound_out b (Stopped true) o false s = refl

sound_in : (b : Bridge) (p : Phase) (o i : Bool) → Sound (with b p o i) → Sound (made (clears_pipe p In o) (with b p o i))
sound_in b Awaiting o i s = refl
sound_in b (Busy Out lun tag l) o i s = s
sound_in b (Busy In lun tag l) o i s = s
sound_in b (StatusWaiting tag residue status) o i s = s
sound_in b (Stopped false) o i s = s
sound_in b (Stopped true) true i s = refl
sound_in b (Stopped true) false i s = refl

-- a command for a drive that the dock holds, by whether L > 0 and whether its flags say in
sound_busy : (drives : Drives) (lun : Lun) (tag l : ℕ) (z x : Bool) (h : Halts) → lun_number lun < drive_count drives → ltb 0 l ≡ z
    → sound drives (Busy (cond (z && x) In Out) lun tag l) h ≡ true
sound_busy drives lun tag l true true h n e = rw (lt-ltb (lun_number lun) (drive_count drives) n, e)
sound_busy drives lun tag l true false h n e = lt-ltb (lun_number lun) (drive_count drives) n
sound_busy drives lun tag l false x h n e = lt-ltb (lun_number lun) (drive_count drives) n

-- a status that waits, whichever pipe it halts
sound_status : (t : Bool) (d : Direction) (b : Bridge) (tag residue status : ℕ) → leb status 2 ≡ true
    → Sound (halting t d (in_phase (StatusWaiting tag residue status) b))
sound_status t Out b tag residue status h = h
sound_status t In b tag residue status h = h

-- "failed (0 or 1)", of a report that is answered 0; so its status is at most 2
report_failed : (b : Bridge) (direction failed amount : ℕ) → report_answer b direction failed amount ≡ 0 → failed ≤ 1
unfolding report_answer malformed
report_failed b direction failed amount z =
    ltb-false 1 failed (second (ltb 2 direction) (ltb 1 failed) _ (passed (report_checks b direction failed amount) refl z).1.1.0)
  where
    second : (x y z : Bool) → (x || y || z) ≡ false → y ≡ false
    second true y z e = absurd (true≢false e)
    second false true z e = absurd (true≢false e)
    second false false z e = refl

status_most : (wrong : Bool) (failed : ℕ) → failed ≤ 1 → leb (status_of wrong failed) 2 ≡ true
status_most true failed h = refl
status_most false failed h = le-leb failed 2 (omega arith)

-- ---- one event

module _ (w : World) (g : WellFormed w) where
  abbrev b : Bridge
  b = w.bridge

  -- whatever keeps the bytes of both places and leaves a sound bridge
  keeps : (next : Bridge) → Sound next → WellFormed (world next w.bytes w.memory)
  keeps next s = record { sixteen = g.sixteen; bytes = g.bytes; memory = g.memory; phase = s; held = omega arith }

  -- a command, by whether its block is recognised
  command : (t : Bool) (c : CommandPacket) → lun_number (lun_of c) < drive_count b.dock.drives → Sound (made (command_taken t c) b)
  command true c n = sound_busy b.dock.drives (lun_of c) c.tag c.length (ltb 0 c.length) (eqb c.flags 0x80) b.halts n refl
  command false c n = sound_status (ltb 0 c.length) (direction_of c) b c.tag c.length 1 refl

  packet : (p : List ℕ) (room : ℕ) → done (answer w (Packet p room)) ≡ true → Sound (made (packet_changes w p) b)
  packet p room z = command (recognises (signature_of w.bytes) p) (command_of p) (drive_held w p room (eqb-true _ 0 z)).1

  -- a report, by the phase that it meets
  report : (direction failed amount : ℕ) (p : Phase) → failed ≤ 1 → Sound (made (report_taken direction failed amount p) b)
  report direction failed amount Awaiting f = g.phase
  report direction failed amount (Busy host lun tag l) f =
      let wrong : Bool = mismatch l host direction amount in
      sound_status (halts_pipe wrong l amount) host b tag (residue_of wrong l amount) (status_of wrong failed) (status_most wrong failed f)
  report direction failed amount (StatusWaiting tag residue status) f = g.phase
  report direction failed amount (Stopped reset) f = g.phase

  -- Clear Feature, by whether it names bulk out
  clear : (t : Bool) → Sound (made (cond t (clears_pipe b.phase Out b.halts.inward) (clears_pipe b.phase In b.halts.outward)) b)
  clear true = sound_out b b.phase b.halts.outward b.halts.inward g.phase
  clear false = sound_in b b.phase b.halts.outward b.halts.inward g.phase

  -- a write, by whether its place is the memory
  write : (start : ℕ) (host : List ℕ) → Bytes host → (t : Bool)
      → WellFormed (world b (cond (not t) (over w.bytes start host) w.bytes) (cond t (over w.memory start host) w.memory))
  write start host h true =
      record { sixteen = g.sixteen; bytes = g.bytes; memory = bytes_over w.memory start host g.memory h; phase = g.phase; held = omega arith }
  write start host h false =
      record {
        sixteen = over-length w.bytes start host ∙ g.sixteen;
        bytes = bytes_over w.bytes start host g.bytes h;
        memory = g.memory;
        phase = g.phase;
        held = omega arith;
      }

  request : (r : Named) (s : Setup) (host : List ℕ) → Bytes host
      → WellFormed (world (made (change_by r s b) b) (bytes_after r s host w.bytes) (memory_after r s host w.memory))
  request (Known SetConfiguration) s host h = keeps _ refl
  request (Known GetConfiguration) s host h = keeps b g.phase
  request (Known ClearFeature) s host h = keeps _ (clear (eqb s.index bulk_out))
  request (Known GetStatus) s host h = keeps b g.phase
  request (Known GetMaxLun) s host h = keeps b g.phase
  request (Known MassStorageReset) s host h =
      keeps _ (sound_reset b b.phase b.halts.outward b.halts.inward g.phase)
  request (Known LoadConfigData) s host h = write s.index host h (in_memory s.value)
  request (Known ReadConfigData) s host h = keeps b g.phase
  request (Known SoftReset) s host h = keeps _ (sound_soft b b.phase b.halts.outward b.halts.inward g.phase)
  request (Known BogusRead) s host h = keeps b g.phase
  request Describes s host h = keeps b g.phase
  request Unknown s host h = keeps b g.phase

  -- an event that is answered 0
  taken : (e : Event) → Proper e → done (answer w e) ≡ true
      → WellFormed (world (made (change_done w e) b) (bytes_done w.bytes e) (memory_done w.memory e))
  taken BusReset h z = keeps _ refl
  taken (Control setup host room) h z = request (request_of (setup_of setup)) (setup_of setup) host h
  taken (Packet p room) h z = keeps _ (packet p room z)
  taken (Report direction failed amount) h z =
      keeps _ (report direction failed amount b.phase (report_failed b direction failed amount (eqb-true _ 0 z)))
  taken (StatusRequest room) h z = keeps _ refl
  taken (Burst burst) h z = keeps b g.phase
  taken (EndMark room) h z = keeps _ (packet w.held room z)

  -- an event, by whether it is answered 0 and whether its answer stops the bridge
  left : (e : Event) (t d : Bool) → (t ≡ true → WellFormed (world (made (change_done w e) b) (bytes_done w.bytes e) (memory_done w.memory e)))
      → WellFormed
      (world (made (cond t (change_done w e) (cond d Stops Nothing)) b)
      (cond t (bytes_done w.bytes e) w.bytes)
      (cond t (memory_done w.memory e) w.memory))
  left e true d f = f refl
  left e false true f = keeps _ refl
  left e false false f = keeps b g.phase

  -- what is held, kept, dropped or added to
  holds : (e : Event) → length (held_after w e) ≤ 32
  holds BusReset = omega arith
  holds (Control setup host room) = go (drops (change w (Control setup host room)))
    where
      go : (t : Bool) → length (cond t [] w.held) ≤ 32
      go true = omega arith
      go false = g.held
  holds (Packet p room) = omega arith
  holds (Report direction failed amount) = g.held
  holds (StatusRequest room) = g.held
  holds (Burst burst) = held_length (w.held ++ burst)
  holds (EndMark room) = omega arith

  stepped : (e : Event) → Proper e → WellFormed (step w e).next
  unfolding step change
  stepped e h =
      let k = left e (done (answer w e)) (damaged (answer w e)) (taken e h) in
      record { sixteen = k.sixteen; bytes = k.bytes; memory = k.memory; phase = k.phase; held = holds e }

-- ---- any history

run : (w : World) (history : List Event) → WellFormed w → ProperAll history → WellFormed (after rules w history)
run w [] g h = g
run w (e ∷ es) g h = run (step w e).next es (stepped w g e h.0) h.1

pub stays_well_formed : StaysWellFormed rules
stays_well_formed start memory history s m h =
    let sixteen = over-length power_on_bytes _ start.settings in
    let bytes = bytes_over power_on_bytes _ start.settings (bytes_tested power_on_bytes refl) s in
    run (powered start memory) history (record { sixteen = sixteen; bytes = bytes; memory = m; phase = refl; held = omega arith }) h
