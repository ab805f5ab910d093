-- A refusal's number tells what its check says.
use mathlib.Core.Path.{◌≡◌, refl, sym, ap, ◌∙◌}
use mathlib.Core.Bool.{Bool, false, not, ◌&&◌, ◌||◌, false≢true, and-eq-true_iff}
use mathlib.Core.List.{List, []}
use Prim.Native.Nat.{ℕ, ◌<◌, ◌≤◌}
use native.Mathlib.Omega.{arith}
use lib.ListN.{length, drop}
use lib.Dec.{eqb}
use borrow.Author.Tests.{eqb-true, eqb-false, lt-ltb, le-ltb, not-true, not-false}
use Rattle.rules.specs.declared.Setup.{Setup}
use Rattle.rules.specs.Words.{Check, byte, word, first}
use Rattle.rules.specs.Held.{World, is_awaiting, is_busy, is_status_waiting}
use Rattle.rules.specs.Requests.{Named, setup_of, request_of, is_unknown, has_place, in_bytes, in_memory, needs_configuration, sent}
use Rattle.rules.specs.Answers.{seen_of, request_checks, request_answer, packet_checks, packet_answer, report_checks, report_answer, status_checks, status_answer}
use Rattle.rules.specs.Step.{BusReset, Control, Packet, Report, StatusRequest, Burst, EndMark, packet_answers, step, rules}
use Rattle.rules.specs.Demands.Makers.{Asks}
use Rattle.rules.specs.Demands.Numbers.{RequestNumbers, FourIsUnconfigured, SixteenIsNoTurn}
use Rattle.rules.proofs.Checks.{decides, sole}
use Rattle.rules.proofs.Demands.Mends.{needs}
use Rattle.rules.proofs.Demands.Setups.{asked_known, asked_is_found}
use Rattle.rules.proofs.Demands.Turns.{no_packet, no_report, no_status}

module _ (w : World) (setup : List ℕ) (host : List ℕ) (room : ℕ) where
  abbrev s : Setup
  s = setup_of setup

  abbrev c : Bool
  c = w.bridge.configured

  abbrev checks : List Check
  checks = request_checks (seen_of w) w.memory (length setup) s (request_of s) (length host) room

  one : first checks ≡ 1 → length setup ≡ 8 → ⊥
  one a n = false≢true (rw n at (sole 1 (not (eqb (length setup) 8)) (drop 1 checks) refl (decides 1 checks a)))

  five : first checks ≡ 5 → (length setup ≡ 8) × ((q : Named) → Asks setup q → ⊥)
  five a =
      let d = decides 5 checks a in
      let u = sole 5 (is_unknown (request_of s)) (drop 3 checks) refl d.1.1 in
      (eqb-true (length setup) 8 (not-false _ d.0), λ q k. false≢true (sym (asked_known k) ∙ (rw (asked_is_found setup q k) at u)))

  six : first checks ≡ 6 → (word 2 setup ≡ 0x0000 → ⊥) × (word 2 setup ≡ 0x0002 → ⊥)
  six a =
      let e = sole 6 (has_place (request_of s) && not (in_bytes (word 2 setup) || in_memory (word 2 setup))) (drop 4 checks) refl (decides 6 checks a).1.1.1 in
      let f = ((and-eq-true_iff (has_place (request_of s)) _).0 e).1 in
      (λ p. false≢true (rw p at f), λ p. false≢true (rw p at f))

  two : first checks ≡ 2 → (byte 0 setup < 0x80 → length host ≡ word 6 setup → ⊥) × (0x80 ≤ byte 0 setup → host ≡ [] → ⊥)
  two a =
      let e = sole 2 (not (eqb (length host) (sent s))) (drop 13 checks) refl (decides 2 checks a).1.1.1.1.1.1.1.1.1.1.1.1 in
      let f = eqb-false (length host) (sent s) (not-true (eqb (length host) (sent s)) e) in
      (λ k n. f (rw (lt-ltb (byte 0 setup) 0x80 k) n), λ k n. f (rw (le-ltb (byte 0 setup) 0x80 k) (ap length n)))

  four : first checks ≡ 4 → (length setup ≡ 8) × (c ≡ false)
  four a =
      let d = decides 4 checks a in
      let e = sole 4 (not c && needs_configuration s.kind) (drop 2 checks) refl d.1 in
      (eqb-true (length setup) 8 (not-false _ d.0), not-true c ((and-eq-true_iff (not c) _).0 e).0)

pub request_numbers : RequestNumbers rules
unfolding step request_answer
request_numbers w setup host room = (
  one w setup host room,
  λ a. (four w setup host room a).0,
  five w setup host room,
  six w setup host room,
  two w setup host room,
)

packet_four : (w : World) (p : List ℕ) (room : ℕ) → packet_answers w p room ≡ 4 → w.bridge.configured ≡ false
unfolding packet_answer
packet_four w p room a =
    let checks = packet_checks w.bridge p (needs w p) room in
    not-true w.bridge.configured (sole 4 (not w.bridge.configured) (drop 1 checks) refl (decides 4 checks a))

pub four_is_unconfigured : FourIsUnconfigured rules
unfolding step request_answer packet_answer report_answer status_answer
four_is_unconfigured w BusReset a = absurd (omega arith)
four_is_unconfigured w (Control setup host room) a = (four w setup host room a).1
four_is_unconfigured w (Packet p room) a = packet_four w p room a
four_is_unconfigured w (Report direction failed amount) a =
    let checks = report_checks w.bridge direction failed amount in
    not-true w.bridge.configured (sole 4 (not w.bridge.configured) (drop 1 checks) refl (decides 4 checks a))
four_is_unconfigured w (StatusRequest room) a =
    let checks = status_checks w.bridge room in
    not-true w.bridge.configured (sole 4 (not w.bridge.configured) (drop 1 checks) refl (decides 4 checks a))
four_is_unconfigured w (Burst bytes) a = absurd (omega arith)
four_is_unconfigured w (EndMark room) a = packet_four w w.held room a

-- the phase that 16 tells of, event by event
packet_phase : (w : World) (p : List ℕ) (room : ℕ) → (step w (Packet p room)).answer ≡ 16 → is_awaiting w.bridge.phase ≡ false
unfolding step packet_answer
packet_phase w p room a =
    let checks = packet_checks w.bridge p (needs w p) room in
    not-true (is_awaiting w.bridge.phase) (sole 16 (not (is_awaiting w.bridge.phase)) (drop 3 checks) refl (decides 16 checks a).1.1)

report_phase : (w : World) (direction failed amount : ℕ) → (step w (Report direction failed amount)).answer ≡ 16 → is_busy w.bridge.phase ≡ false
unfolding step report_answer
report_phase w direction failed amount a =
    let checks = report_checks w.bridge direction failed amount in
    not-true (is_busy w.bridge.phase) (sole 16 (not (is_busy w.bridge.phase)) (drop 2 checks) refl (decides 16 checks a).1)

status_phase : (w : World) (room : ℕ) → (step w (StatusRequest room)).answer ≡ 16 → is_status_waiting w.bridge.phase ≡ false
unfolding step status_answer
status_phase w room a =
    let checks = status_checks w.bridge room in
    not-true (is_status_waiting w.bridge.phase) (sole 16 (not (is_status_waiting w.bridge.phase)) (drop 3 checks) refl (decides 16 checks a).1.1)

pub sixteen_is_no_turn : SixteenIsNoTurn rules
sixteen_is_no_turn w = (
  λ p room a. no_packet w (packet_phase w p room a),
  λ direction failed amount a. no_report w (report_phase w direction failed amount a),
  λ room a. no_status w (status_phase w room a),
)
