-- A status packet tells the tag and the residue of the command that it ends.
use mathlib.Core.Path.{◌≡◌, refl, sym, ap, subst, ◌∙◌}
use mathlib.Core.Logic.{inl, inr}
use mathlib.Core.Bool.{Bool, true, false, cond, not, ◌&&◌, ◌||◌}
use mathlib.Core.List.{List, ◌++◌}
use Prim.Native.Nat.{ℕ, ◌-◌, ◌^◌, ◌<◌, ◌≤◌}
use native.Mathlib.Omega.{arith}
use lib.ListN.{length, get_or-append}
use lib.Dec.{eqb, ltb}
use borrow.Author.Tests.{ltb-true, ne_eqb, lt-ltb, le-ltb}
use Rattle.rules.specs.declared.Bridge.{Bridge}
use Rattle.rules.specs.declared.Direction.{Direction}
use Rattle.rules.specs.declared.Direction.TheVariants.{Out, In}
use Rattle.rules.specs.declared.Lun.{Lun}
use Rattle.rules.specs.declared.Phase.{Phase}
use Rattle.rules.specs.declared.Phase.TheVariants.{Busy, StatusWaiting}
use Rattle.rules.specs.Words.{byte}
use Rattle.rules.specs.Held.{World, world, in_phase, halting}
use Rattle.rules.specs.Packets.{recognised, recognises}
use Rattle.rules.specs.Reports.{halts_pipe, direction_number, host_number, mismatch}
use Rattle.rules.specs.Answers.{status_answer}
use Rattle.rules.specs.Step.{Packet, Report, StatusRequest, step, rules}
use Rattle.rules.specs.Demands.Requests.{ordering}
use Rattle.rules.specs.Demands.Makers.{flags_for, packet, Fills, Free, Has, taken_apart, telling}
use Rattle.rules.specs.Demands.Coherence.{reported, StatusIsTold, Other, OtherIsFailed, OtherHalts}
use Rattle.rules.proofs.Demands.Cases.{legal, report_taken}
use Rattle.rules.proofs.Demands.Makers.{joins, direction_made, packet_leaves, made_is_accepted, made_is_begun, status_read_back}
use Rattle.rules.proofs.Demands.Packets.{recognised_has}
use Rattle.rules.proofs.Demands.Coherence.{clear_clears}

abbrev Tells : ℕ → ℕ → ℕ → World → Type 0
Tells tag residue status w =
    ((step w (StatusRequest 13)).answer ≡ 0) × (taken_apart (step w (StatusRequest 13)).reply ≡ telling tag residue status)

-- a status that waits is told, with bulk in not halted
waiting_told : (w : World) (tag residue status : ℕ) → w.bridge.configured ≡ true → w.bridge.phase ≡ StatusWaiting tag residue status
    → w.bridge.halts.inward ≡ false → tag < 2 ^ 32 → residue < 2 ^ 32
    → Tells tag residue status w
unfolding step status_answer
waiting_told w tag residue status c p i t r = rw (c, p, i) (refl, status_read_back tag residue status t r)

-- .. or halted, once it is cleared
status_told : (w : World) (tag residue status : ℕ) → w.bridge.configured ≡ true → w.bridge.phase ≡ StatusWaiting tag residue status
    → tag < 2 ^ 32 → residue < 2 ^ 32
    → Tells tag residue status (step w (ordering 0x02 0x01 0 0x82)).next
status_told w tag residue status c p t r =
    let k = clear_clears w (record { configured = c; runs = rw p }) in
    waiting_told (step w (ordering 0x02 0x01 0 0x82)).next tag residue status (k.5.0.0 ∙ c) (k.5.1 ∙ p) k.7 t r

-- ---- a pass-through command

-- a report in the host's direction of no more than L is no mismatch
matches : (l : ℕ) (d : Direction) (amount : ℕ) → amount ≤ l → mismatch l (cond (ltb 0 l) d Out) (reported d) amount ≡ false
unfolding mismatch
matches l d amount h = rw (le-ltb l amount h) (go (ltb 0 amount) refl)
  where
    number : (d : Direction) → eqb (reported d) (direction_number d) ≡ true
    number Out = refl
    number In = refl

    go : (t : Bool) → ltb 0 amount ≡ t → (t && not (eqb (reported d) (host_number l (cond (ltb 0 l) d Out))) || false) ≡ false
    go true e =
        let some = ltb-true 0 amount e in
        rw (lt-ltb 0 l (omega arith), ne_eqb l 0 (λ z. omega arith), number d)
    go false e = refl

-- what an event that finishes a command leaves
pub finishes : (t : Bool) (d : Direction) (b : Bridge) (p : Phase)
    → ((halting t d (in_phase p b)).configured ≡ b.configured) × ((halting t d (in_phase p b)).phase ≡ p)
finishes t Out b p = (refl, refl)
finishes t In b p = (refl, refl)

-- so its status is told
finished_told : (w : World) (b : Bridge) (halts : Bool) (d : Direction) (tag residue status : ℕ) → b.configured ≡ true
    → w.bridge ≡ halting halts d (in_phase (StatusWaiting tag residue status) b) → tag < 2 ^ 32 → residue < 2 ^ 32
    → Tells tag residue status (step w (ordering 0x02 0x01 0 0x82)).next
finished_told w b halts d tag residue status c e t r =
    let f = finishes halts d b (StatusWaiting tag residue status) in
    status_told w tag residue status (ap (λ (b : Bridge). b.configured) e ∙ f.0 ∙ c) (ap (λ (b : Bridge). b.phase) e ∙ f.1) t r

named : (d : Direction) → (0 < reported d) × (reported d ≤ 2)
named Out = (omega arith, omega arith)
named In = (omega arith, omega arith)

pub status_is_told : StatusIsTold rules
status_is_told w lun tag l d acts registers count contents failed amount free has t n askable eights f a =
    let host : Direction = cond (ltb 0 l) d Out in
    let b : Bridge = in_phase (Busy host lun tag l) w.bridge in
    let busy : World = world b w.bytes w.memory in
    let direction = named d in
    let m = legal (reported d) failed amount direction.1 f (λ z. omega arith) in
    let left = (report_taken busy host lun tag l (reported d) failed amount free.configured refl m).1 in
    subst (λ (x : World). Tells tag (l - amount) failed (step (step x (Report (reported d) failed amount)).next (ordering 0x02 0x01 0 0x82)).next)
    (sym (made_is_begun w lun tag l d acts registers count contents 11 free has askable eights (omega arith)))
    (finished_told (step busy (Report (reported d) failed amount)).next b (halts_pipe false l amount) host tag (l - amount) failed free.configured
    (rw (matches l d amount a) at left) t (omega arith))

-- ---- any other command

-- a block that is not sixteen bytes, or has another first or second byte, is not recognised
unrecognised : (signature l : ℕ) (d : Direction) (block filling : List ℕ) → Fills block filling → Other signature block
    → recognised signature (block ++ filling) (length block) l d ≡ false
unrecognised signature l d block filling fills o = go (recognised signature (block ++ filling) (length block) l d) refl
  where
    refuted : (size : length block ≡ 16) → byte 0 (block ++ filling) ≡ signature → byte 1 (block ++ filling) ≡ 0x24
        → Other signature block → ⊥
    refuted size x y (inl h) = h size
    refuted size x y (inr (inl h)) = h (sym (get_or-append block filling 0 0 (omega arith)) ∙ x)
    refuted size x y (inr (inr h)) = h (sym (get_or-append block filling 0 1 (omega arith)) ∙ y)

    go : (t : Bool) → recognised signature (block ++ filling) (length block) l d ≡ t → t ≡ false
    go true e = let h = recognised_has signature l d (block ++ filling) (length block) e in absurd (refuted h.0 h.1 h.2 o)
    go false e = refl

-- it leaves its status waiting
other_leaves : (w : World) (lun : Lun) (tag l : ℕ) (d : Direction) (block filling : List ℕ)
    → Free w → Has w lun → Fills block filling → Other (byte 0x04 w.bytes) block
    → (step w (Packet (packet lun tag l d block filling) 11)).next.bridge
    ≡ halting (ltb 0 l) (cond (ltb 0 l) d Out) (in_phase (StatusWaiting tag l 1) w.bridge)
other_leaves w lun tag l d block filling free has fills o =
    let p : List ℕ = packet lun tag l d block filling in
    let host : Direction = cond (ltb 0 l) d Out in
    let left = packet_leaves w p 11 (made_is_accepted w lun tag l d block filling 11 free has fills (omega arith)) in
    let other : recognises (byte 0x04 w.bytes) p ≡ false =
    rw (direction_made lun tag l d block filling, joins l) (unrecognised (byte 0x04 w.bytes) l host block filling fills o) in
    ap (λ (w : World). w.bridge) left ∙ rw (other, direction_made lun tag l d block filling, joins tag, joins l)

pub other_is_failed : OtherIsFailed rules
other_is_failed w lun tag l d block filling free has t n fills o =
    finished_told (step w (Packet (packet lun tag l d block filling) 11)).next w.bridge (ltb 0 l) (cond (ltb 0 l) d Out) tag l 1 free.configured
    (other_leaves w lun tag l d block filling free has fills o) t n

pub other_halts : OtherHalts rules
other_halts w lun tag l d block filling free has fills o =
    rw (other_leaves w lun tag l d block filling free has fills o) (go (ltb 0 l) d)
  where
    go : (t : Bool) (d : Direction)
        → (let b = halting t (cond t d Out) (in_phase (StatusWaiting tag l 1) w.bridge) in
        (b.halts.outward ≡ (t && eqb (flags_for d) 0x00)) × (b.halts.inward ≡ ((t && eqb (flags_for d) 0x80) || w.bridge.halts.inward)))
    go true Out = (refl, refl)
    go true In = (free.runs, refl)
    go false d = (free.runs, refl)
