-- Packet, report and status request take turns.
use mathlib.Core.Path.{◌≡◌, refl, sym, ap, ◌∙◌}
use mathlib.Core.Bool.{Bool, true, false, cond, not, false≢true}
use mathlib.Core.List.{List, []}
use Prim.Native.Nat.{ℕ}
use native.Mathlib.Omega.{arith}
use lib.ListN.{length}
use borrow.Author.Tests.{not-false}
use Rattle.rules.specs.declared.Bridge.{Bridge}
use Rattle.rules.specs.declared.CommandPacket.{CommandPacket}
use Rattle.rules.specs.declared.Phase.{Phase}
use Rattle.rules.specs.declared.Phase.TheVariants.{Awaiting, Busy, StatusWaiting, Stopped}
use Rattle.rules.specs.Held.{World, is_awaiting, is_busy, is_status_waiting}
use Rattle.rules.specs.Changes.{made}
use Rattle.rules.specs.Packets.{block_of, command_of, direction_of, lun_of, signature_of, recognises, command_taken}
use Rattle.rules.specs.Operations.{Operation, codes, operations_of}
use Rattle.rules.specs.Reports.{report_taken}
use Rattle.rules.specs.Answers.{packet_checks, packet_answer, report_checks, report_answer, status_checks, status_answer}
use Rattle.rules.specs.Step.{Packet, Report, StatusRequest, operations_for, change, step, rules}
use Rattle.rules.specs.Demands.Coherence.{NoPacket, NoReport, NoStatus, TakesTurns}
use Rattle.rules.proofs.Checks.{passed}
use Rattle.rules.proofs.Demands.Makers.{codes-length, operations_count, packet_leaves}
use Rattle.rules.proofs.Demands.Packets.{begun}
use Rattle.rules.proofs.Demands.Statuses.{finishes}

-- ---- each is accepted in its own phase

pub no_packet : (w : World) → is_awaiting w.bridge.phase ≡ false → NoPacket rules w
unfolding step packet_answer
no_packet w e p room a =
    let k = passed (packet_checks w.bridge p (length (operations_for (signature_of w.bytes) p)) room) refl a in
    false≢true (sym e ∙ not-false (is_awaiting w.bridge.phase) k.1.1.0)

pub no_report : (w : World) → is_busy w.bridge.phase ≡ false → NoReport rules w
unfolding step report_answer
no_report w e direction failed amount a =
    let k = passed (report_checks w.bridge direction failed amount) refl a in
    false≢true (sym e ∙ not-false (is_busy w.bridge.phase) k.1.0)

pub no_status : (w : World) → is_status_waiting w.bridge.phase ≡ false → NoStatus rules w
unfolding step status_answer
no_status w e room a =
    let k = passed (status_checks w.bridge room) refl a in
    false≢true (sym e ∙ not-false (is_status_waiting w.bridge.phase) k.1.1.0)

-- ---- and leaves the next

command_phase : (t : Bool) (c : CommandPacket) (b : Bridge)
    → (let p = (made (command_taken t c) b).phase in (is_awaiting p ≡ false) × (is_busy p ≡ t) × (is_status_waiting p ≡ not t))
command_phase true c b = (refl, refl, refl)
command_phase false c b = rw (finishes _ (direction_of c) b (StatusWaiting c.tag c.length 1)).1 (refl, refl, refl)

report_phase : (direction failed amount : ℕ) (b : Bridge) (p : Phase) → is_busy p ≡ true
    → (let p = (made (report_taken direction failed amount p) b).phase in (is_awaiting p ≡ false) × (is_busy p ≡ false))
report_phase direction failed amount b Awaiting h = absurd (false≢true h)
report_phase direction failed amount b (Busy host lun tag l) h = rw (finishes _ host b _).1 (refl, refl)
report_phase direction failed amount b (StatusWaiting tag residue status) h = absurd (false≢true h)
report_phase direction failed amount b (Stopped reset) h = absurd (false≢true h)

report_left : (w : World) (direction failed amount : ℕ) → (step w (Report direction failed amount)).answer ≡ 0
    → (let p = (step w (Report direction failed amount)).next.bridge.phase in (is_awaiting p ≡ false) × (is_busy p ≡ false))
unfolding step change report_answer
report_left w direction failed amount a =
    let k = passed (report_checks w.bridge direction failed amount) refl a in
    rw a (report_phase direction failed amount w.bridge w.bridge.phase (not-false (is_busy w.bridge.phase) k.1.0))

-- an accepted packet without operations is not recognised
unbegun : (w : World) (p : List ℕ) (room : ℕ) → (step w (Packet p room)).answer ≡ 0 → (step w (Packet p room)).operations ≡ []
    → recognises (signature_of w.bytes) p ≡ false
unfolding step
unbegun w p room a o = go (recognises (signature_of w.bytes) p) (rw a at o)
  where
    os : List Operation
    os = operations_of (lun_of (command_of p)) (block_of p) (command_of p).length (direction_of (command_of p))

    go : (t : Bool) → cond t (codes os) [] ≡ [] → t ≡ false
    go true e =
        let n = (operations_count (lun_of (command_of p)) (block_of p) (command_of p).length (direction_of (command_of p))).0 in
        let z = sym (codes-length os) ∙ ap length e in
        absurd (omega arith)
    go false e = refl

packet_turn : (w : World) (p : List ℕ) (room : ℕ)
    → (let o = step w (Packet p room) in
    o.answer ≡ 0 → NoPacket rules o.next × (o.operations ≡ [] → NoReport rules o.next) × ((o.operations ≡ [] → ⊥) → NoStatus rules o.next))
packet_turn w p room a =
    let left = packet_leaves w p room a in
    let c = command_phase (recognises (signature_of w.bytes) p) (command_of p) w.bridge in (
      no_packet _ (rw left c.0),
      λ o. no_report _ (rw left (c.1 ∙ unbegun w p room a o)),
      λ o. no_status _ (rw left (c.2 ∙ ap not (begun w p room o).1)),
    )

report_turn : (w : World) (direction failed amount : ℕ)
    → (let o = step w (Report direction failed amount) in o.answer ≡ 0 → NoPacket rules o.next × NoReport rules o.next)
report_turn w direction failed amount a =
    let left = report_left w direction failed amount a in (no_packet _ left.0, no_report _ left.1)

status_left : (w : World) (room : ℕ) → (step w (StatusRequest room)).answer ≡ 0 → (step w (StatusRequest room)).next.bridge.phase ≡ Awaiting
unfolding step change
status_left w room a = rw a

pub takes_turns : TakesTurns rules
takes_turns w = (
  packet_turn w,
  report_turn w,
  λ room a. let left = status_left w room a in (no_report _ (ap is_busy left), no_status _ (ap is_status_waiting left)),
)
