-- Laws of what is held: how long it is, that how it came does not show in it, that it is judged as what came, and that nothing but an end mark looks at it.
use mathlib.Core.Path.{◌≡◌, refl, ap, ◌∙◌}
use mathlib.Core.Bool.{Bool, true, false, cond, true≢false}
use mathlib.Core.List.{List, [], ◌++◌}
use Prim.Native.Nat.{ℕ, ◌<◌, ◌≤◌}
use native.Mathlib.Omega.{arith}
use lib.ListN.{length, length-append}
use lib.Dec.{ltb}
use borrow.Author.Tests.{eqb-true, ltb-true, ltb-false, lt-ltb, ne_eqb}
use Rattle.rules.specs.declared.Change.{Change}
use Rattle.rules.specs.declared.Phase.{Phase}
use Rattle.rules.specs.declared.Phase.TheVariants.{Awaiting, Busy, StatusWaiting, Stopped}
use Rattle.rules.specs.declared.Request.{Request}
use Rattle.rules.specs.declared.Request.TheVariants.{SetConfiguration, GetConfiguration, ClearFeature, GetStatus, GetMaxLun, MassStorageReset, LoadConfigData, ReadConfigData, SoftReset, BogusRead}
use Rattle.rules.specs.declared.Setup.{Setup}
use Rattle.rules.specs.Held.{World, holding, is_stopped}
use Rattle.rules.specs.Changes.{drops}
use Rattle.rules.specs.Stopping.{soft_reset}
use Rattle.rules.specs.Requests.{Named, Unknown, Known, Describes, setup_of, request_of, reply_to, standing}
use Rattle.rules.specs.Packets.{valid}
use Rattle.rules.specs.Bursts.{too_long, kept}
use Rattle.rules.specs.Reports.{report_taken}
use Rattle.rules.specs.Answers.{packet_checks, packet_answer}
use Rattle.rules.specs.Step.{Event, BusReset, Control, Packet, Report, StatusRequest, Burst, EndMark, Outcome, packet_makes, packet_answers, answer, done, damaged, change_done, change, held_after, step}
use Rattle.rules.specs.Promise.{left_at, room_with, leaves, served}
use Rattle.rules.specs.Demands.Refusals.{judges_packet}
use Rattle.rules.specs.Demands.Bursts.{is_burst, is_end_mark}
use Rattle.rules.proofs.Changes.{either}
use Rattle.rules.proofs.Checks.{passed}

-- what has a property, and too much, is held with it
pub held_has : (P : List ℕ → Type 0) (s : List ℕ) → P s → P too_long → P (kept s)
unfolding kept
held_has P s p q = go (ltb 31 (length s))
  where
    go : (t : Bool) → P (cond t too_long s)
    go true = q
    go false = p

pub held_length : (s : List ℕ) → length (kept s) ≤ 32
unfolding kept
held_length s = go (ltb 31 (length s)) refl
  where
    go : (t : Bool) → ltb 31 (length s) ≡ t → length (cond t too_long s) ≤ 32
    go true h = omega arith
    go false h = let n = ltb-false 31 (length s) h in omega arith

-- all of it, or too much
pub held_whole : (s : List ℕ) → length s ≤ 31 → kept s ≡ s
unfolding kept
held_whole s h = go (ltb 31 (length s)) refl
  where
    go : (t : Bool) → ltb 31 (length s) ≡ t → cond t too_long s ≡ s
    go true e = absurd (let n = ltb-true 31 (length s) e in omega arith)
    go false e = refl

pub held_too_long : (s : List ℕ) → 31 < length s → kept s ≡ too_long
unfolding kept
held_too_long s h = rw (lt-ltb 31 (length s) h)

-- what comes behind what is held is held as if all had come at once
pub held_behind : (s t : List ℕ) → kept (kept s ++ t) ≡ kept (s ++ t)
unfolding kept
held_behind s t = go (ltb 31 (length s)) refl
  where
    go : (more : Bool) → ltb 31 (length s) ≡ more
        → (let h : List ℕ = cond more too_long s in cond (ltb 31 (length (h ++ t))) too_long (h ++ t) ≡ cond (ltb 31 (length (s ++ t))) too_long (s ++ t))
    go true e =
        let n = ltb-true 31 (length s) e in
        rw (
          lt-ltb 31 (length (too_long ++ t)) (omega (arith, length-append too_long t)),
          lt-ltb 31 (length (s ++ t)) (omega (arith, length-append s t)),
        )
    go false e = refl

-- ---- what is held is judged as what came

-- what an event comes to: its outcome, and its change
abbrev pub judged : World → Event → Outcome World × Change
judged w e = (step w e, change w e)

-- a packet that is not valid is refused, and told apart by nothing
not_done : (w : World) (p : List ℕ) (room : ℕ) → valid p ≡ false → done (packet_answers w p room) ≡ false
unfolding packet_answer
not_done w p room v = go (done n) refl
  where
    n : ℕ
    n = packet_answers w p room

    go : (t : Bool) → done n ≡ t → t ≡ false
    go true e =
        let k = passed (packet_checks w.bridge p (length (packet_makes w p)) room) refl (eqb-true n 0 e) in
        absurd (true≢false (rw v at k.1.1.1.0))
    go false e = refl

not_valid : (w : World) (p q : List ℕ) (room : ℕ) → valid p ≡ false → valid q ≡ false → judged w (Packet p room) ≡ judged w (Packet q room)
unfolding step change packet_answer
not_valid w p q room u v =
    let same : packet_answers w p room ≡ packet_answers w q room = rw (u, v) in
    rw (same, not_done w q room v)

too_long_lem : (s : List ℕ) → 31 < length s → valid s ≡ false
unfolding valid
too_long_lem s h = rw (ne_eqb (length s) 31 (λ e. omega arith))

-- what is held of a packet is judged as the packet
pub kept-judged : (w : World) (s : List ℕ) (room : ℕ) → judged w (Packet (kept s) room) ≡ judged w (Packet s room)
unfolding kept
kept-judged w s room = go (ltb 31 (length s)) refl
  where
    go : (t : Bool) → ltb 31 (length s) ≡ t → judged w (Packet (cond t too_long s) room) ≡ judged w (Packet s room)
    go true e = not_valid w too_long s room (too_long_lem too_long (omega arith)) (too_long_lem s (ltb-true 31 (length s) e))
    go false e = refl

-- ---- replies

pub reply_unheld : (q : Named) (s : Setup) (w : World) (held : List ℕ) → reply_to q s (holding held w) ≡ reply_to q s w
reply_unheld (Known SetConfiguration) s w held = refl
reply_unheld (Known GetConfiguration) s w held = refl
reply_unheld (Known ClearFeature) s w held = refl
reply_unheld (Known GetStatus) s w held = refl
reply_unheld (Known GetMaxLun) s w held = refl
reply_unheld (Known MassStorageReset) s w held = refl
reply_unheld (Known LoadConfigData) s w held = refl
reply_unheld (Known ReadConfigData) s w held = refl
reply_unheld (Known SoftReset) s w held = refl
reply_unheld (Known BogusRead) s w held = refl
reply_unheld Describes s w held = refl
reply_unheld Unknown s w held = refl

pub standing_unheld : (q : Named) (s : Setup) (w : World) (held : List ℕ) → standing q s (holding held w) ≡ standing q s w
standing_unheld (Known r) s w held = refl
standing_unheld Describes s w held = refl
standing_unheld Unknown s w held = refl

-- ---- promises

-- what an event leaves that is no end mark
pub leaves_unheld : (w : World) (held : List ℕ) (e : Event) (room : List ℕ) → is_end_mark e ≡ false
    → leaves (holding held w) (λ n. e) room ≡ leaves w (λ n. e) room
unfolding step change
leaves_unheld w held BusReset room h = refl
leaves_unheld w held (Control setup host n) room h =
    let s : Setup = setup_of setup in
    rw (reply_unheld (request_of s) s w held, standing_unheld (request_of s) s w held)
leaves_unheld w held (Packet p n) room h = refl
leaves_unheld w held (Report direction failed amount) room h = refl
leaves_unheld w held (StatusRequest n) room h = refl
leaves_unheld w held (Burst bytes) room h = refl
leaves_unheld w held (EndMark n) room h = absurd (true≢false h)

pub served_unheld : (r : Request) (s : Setup) (host : List ℕ) (w : World) (held room : List ℕ)
    → served r s host (holding held w) room ≡ served r s host w room
served_unheld r s host w held room = rw (reply_unheld (Known r) s w held)

-- an end mark leaves what the packet leaves that is so held
pub end_mark_leaves : (w : World) (p room : List ℕ) → w.held ≡ kept p → leaves w EndMark room ≡ leaves w (Packet p) room
unfolding step change
end_mark_leaves w p room h =
    ap (λ (held : List ℕ). leaves w (Packet held) room) h
    ∙ ap (λ (j : Outcome World × Change). left_at j.0.stands j.0.answer (length j.0.operations) j.1 j.0.next.bytes j.0.next.memory (room_with j.0.stands j.0.operations room))
    (kept-judged w p (length room))

-- ---- of an event that is neither a burst nor judges a packet, what is held goes by its change

-- SOFT_RESET drops in every phase
pub soft_drops : (p : Phase) → drops (soft_reset p) ≡ true
soft_drops p = either (λ c. drops c ≡ true) (is_stopped p) _ _ refl refl

report_keeps : (direction failed amount : ℕ) (p : Phase) → drops (report_taken direction failed amount p) ≡ false
report_keeps direction failed amount Awaiting = refl
report_keeps direction failed amount (Busy host lun tag l) = refl
report_keeps direction failed amount (StatusWaiting tag residue status) = refl
report_keeps direction failed amount (Stopped reset) = refl

keeps : (w : World) (e : Event) → drops (change_done w e) ≡ false → w.held ≡ cond (drops (change w e)) [] w.held
unfolding change
keeps w e k =
    let n : ℕ = answer w e in
    let unchanged : drops (change w e) ≡ false = either (λ c. drops c ≡ false) (done n) _ _ k (either (λ c. drops c ≡ false) (damaged n) _ _ refl refl) in
    rw unchanged

pub held_by_change : (w : World) (e : Event) → is_burst e ≡ false → judges_packet e ≡ false → held_after w e ≡ cond (drops (change w e)) [] w.held
unfolding change
held_by_change w BusReset b p = refl
held_by_change w (Control setup host room) b p = refl
held_by_change w (Packet bytes room) b p = absurd (true≢false p)
held_by_change w (Report direction failed amount) b p = keeps w (Report direction failed amount) (report_keeps direction failed amount w.bridge.phase)
held_by_change w (StatusRequest room) b p = keeps w (StatusRequest room) refl
held_by_change w (Burst bytes) b p = absurd (true≢false b)
held_by_change w (EndMark room) b p = absurd (true≢false p)
