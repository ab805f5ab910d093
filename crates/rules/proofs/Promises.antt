-- Laws of the promise: what a control request and a packet leave that are refused, and that are done; and of a report that is no mismatch.
use mathlib.Core.Path.{◌≡◌, refl, ◌∙◌}
use mathlib.Core.Bool.{Bool, true, false, cond, not, ◌&&◌, ◌||◌, true≢false}
use mathlib.Core.List.{List, []}
use Prim.Native.Nat.{ℕ, ◌≤◌}
use lib.ListN.{length}
use lib.Dec.{eqb, ltb}
use borrow.Author.Tests.{ltb-false, ne_eqb, not-true}
use Rattle.rules.specs.declared.Bridge.{Bridge}
use Rattle.rules.specs.declared.Change.{Change}
use Rattle.rules.specs.declared.Change.TheVariants.{Nothing, Stops}
use Rattle.rules.specs.declared.Direction.{Direction}
use Rattle.rules.specs.declared.Request.{Request}
use Rattle.rules.specs.declared.Setup.{Setup}
use Rattle.rules.specs.declared.Stands.TheVariants.{InMemory}
use Rattle.rules.specs.Words.{laid, first}
use Rattle.rules.specs.Held.{World, world}
use Rattle.rules.specs.Descriptors.{first_string, place_in}
use Rattle.rules.specs.Requests.{Known, Describes, setup_of, request_of, reply_to}
use Rattle.rules.specs.Packets.{command_of, recognises, command_taken}
use Rattle.rules.specs.Reports.{host_number, mismatch}
use Rattle.rules.specs.Answers.{seen_of, request_answer, unawaited_checks, awaited_checks, packet_answer}
use Rattle.rules.specs.Step.{Event, BusReset, Control, Packet, Report, StatusRequest, Burst, EndMark, Outcome, operations_for, answer, done, damaged, change, step}
use Rattle.rules.specs.Promise.{left_at, left, handed_out, leaves, ToldOf, served}
use Rattle.rules.proofs.Checks.{answer_has, first_append, in_room}
use Rattle.rules.proofs.Rows.{over-laid}
use Rattle.rules.proofs.Replies.{reply_count, reply_fits}

nothing : (e : Event) (o : Outcome World) → o.reply ≡ [] → o.operations ≡ [] → handed_out e o ≡ []
nothing BusReset o r p = r
nothing (Control setup host room) o r p = r
nothing (Packet bytes room) o r p = p
nothing (Report direction failed amount) o r p = r
nothing (StatusRequest room) o r p = r
nothing (Burst bytes) o r p = r
nothing (EndMark room) o r p = p

-- what a refusal changes: "13 and 14 stop the bridge"
abbrev pub refused : ℕ → Change
refused n = cond (damaged n) Stops Nothing

-- "Every number but 0 returns no reply and no operations and changes nothing, except that 13 and 14 stop the bridge."
refusal : (w : World) (event : ℕ → Event) (room : List ℕ) (n : ℕ) → answer w (event (length room)) ≡ n → done n ≡ false
    → left n 0 (refused n) w.bytes w.memory room ≡ leaves w event room
unfolding step change
refusal w event room n a d =
    let e : Event = event (length room) in
    let z : handed_out e (step w e) ≡ [] = nothing e (step w e) (rw (a, d)) (rw (a, d)) in
    rw (z, in_room w e (rw a d), a, d)

module _ (w : World) (setup host room : List ℕ) where
  abbrev pub control_answer : ℕ
  control_answer = request_answer (seen_of w) w.memory setup (length host) (length room)

  pub control_refused : (n : ℕ) → control_answer ≡ n → done n ≡ false
      → left n 0 (refused n) w.bytes w.memory room ≡ leaves w (Control setup host) room
  control_refused n a d = refusal w (Control setup host) room n a d

  pub control_done : (r : Request) → request_of (setup_of setup) ≡ Known r → length w.bytes ≡ 16 → control_answer ≡ 0
      → served r (setup_of setup) host w room ≡ leaves w (Control setup host) room
  unfolding step change
  control_done r e sixteen a =
      let s : Setup = setup_of setup in
      rw (
        ← reply_count w setup (length host) (length room) sixteen a r e,
        over-laid room (reply_to (Known r) s w) (reply_fits w setup (length host) (length room) sixteen a r e),
        a,
        e,
      )

  -- "The reply is a part of the lent memory itself, not a copy."
  pub control_found : request_of (setup_of setup) ≡ Describes → control_answer ≡ 0
      → (let s : Setup = setup_of setup in
      left_at (InMemory (place_in w.bridge.dock.bus_powered (first_string w.bytes) s.value)) 0 (length (reply_to Describes s w)) Nothing w.bytes w.memory room
      ≡ leaves w (Control setup host) room)
  unfolding step change
  control_found e a = rw (a, e)

module _ (b : Bridge) (signature : ℕ) (p room : List ℕ) where
  abbrev needed : ℕ
  needed = length (operations_for signature p)

  pub packet_refused : (n : ℕ) → packet_answer b p needed (length room) ≡ n → done n ≡ false → ToldOf b signature (Packet p) room n 0 (refused n) room
  packet_refused n a d bytes memory h = refusal (world b bytes memory) (Packet p) room n (rw h a) d

  -- .. by what is of the bridge alone
  pub packet_unawaited : (n : ℕ) → n ≡ first (unawaited_checks b) → (n ≡ 0 → ⊥) → ToldOf b signature (Packet p) room n 0 Nothing room
  unfolding packet_answer
  packet_unawaited n a other =
      let d : done n ≡ false = ne_eqb n 0 other in
      let decided : packet_answer b p needed (length room) ≡ n = first_append (unawaited_checks b) (awaited_checks b.dock.drives p needed (length room)) refl ∙ rw (← a, d) in
      let unharmed : damaged n ≡ false = not-true _ (rw (← a) at (answer_has (λ k. not (damaged k)) (unawaited_checks b) refl)) in
      rw unharmed at (packet_refused n decided d)

  pub packet_done : packet_answer b p needed (length room) ≡ 0
      → ToldOf b signature (Packet p) room 0 needed (command_taken (recognises signature p) (command_of p)) (laid (operations_for signature p) room)
  unfolding step change
  packet_done a bytes memory h = rw (h, a)

-- "Else status is failed and residue is L minus amount": which is then at most L
pub amount_fits : (l : ℕ) (host : Direction) (direction amount : ℕ) → mismatch l host direction amount ≡ false → amount ≤ l
unfolding mismatch
amount_fits l host direction amount h = ltb-false l amount (second (ltb 0 amount && not (eqb direction (host_number l host))) h)
  where
    second : (a : Bool) → (a || ltb l amount) ≡ false → ltb l amount ≡ false
    second true e = absurd (true≢false e)
    second false e = e
