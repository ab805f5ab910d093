-- Demand 1, proved.
use mathlib.Core.Path.{◌≡◌, refl}
use mathlib.Core.Bool.{false, cond, true≢false}
use mathlib.Core.List.{[]}
use lib.ListN.{length}
use borrow.Author.Tests.{ne_eqb}
use Rattle.rules.specs.Held.{World}
use Rattle.rules.specs.Requests.{setup_of, request_of}
use Rattle.rules.specs.Answers.{seen_of, request_checks, request_answer, packet_checks, packet_answer, report_checks, report_answer, status_checks, status_answer}
use Rattle.rules.specs.Step.{Event, BusReset, Control, Packet, Report, StatusRequest, Burst, EndMark, packet_makes, answer, done, change, held_after, step, rules}
use Rattle.rules.specs.Demands.Refusals.{judges_packet, Refusals, numbers, among, Numbered}
use Rattle.rules.proofs.Checks.{answer_has, in_room, request_undamaged}

-- a refusal keeps what is held, but for a packet and an end mark
refused_held : (w : World) (e : Event) → done (answer w e) ≡ false → held_after w e ≡ cond (judges_packet e) [] w.held
unfolding change
refused_held w BusReset d = absurd (true≢false d)
refused_held w (Control setup host room) d = rw (d, request_undamaged)
refused_held w (Packet p room) d = refl
refused_held w (Report direction failed amount) d = refl
refused_held w (StatusRequest room) d = refl
refused_held w (Burst bytes) d = absurd (true≢false d)
refused_held w (EndMark room) d = refl

pub refusals : Refusals rules
unfolding step change
refusals w e h =
    let d = ne_eqb (answer w e) 0 h in
    (rw d, in_room w e d, rw d, rw (refused_held w e d, d))

pub numbered : Numbered rules
unfolding step change request_answer packet_answer report_answer status_answer
numbered w BusReset = refl
numbered w (Control setup host room) =
    answer_has (λ n. among n (numbers (Control setup host room)))
    (request_checks (seen_of w) w.memory (length setup) (setup_of setup) (request_of (setup_of setup)) (length host) room) refl
numbered w (Packet p room) =
    answer_has (λ n. among n (numbers (Packet p room))) (packet_checks w.bridge p (length (packet_makes w p)) room) refl
numbered w (Report direction failed amount) =
    answer_has (λ n. among n (numbers (Report direction failed amount))) (report_checks w.bridge direction failed amount) refl
numbered w (StatusRequest room) = answer_has (λ n. among n (numbers (StatusRequest room))) (status_checks w.bridge room) refl
numbered w (Burst bytes) = refl
numbered w (EndMark room) =
    answer_has (λ n. among n (numbers (EndMark room))) (packet_checks w.bridge w.held (length (packet_makes w w.held)) room) refl
