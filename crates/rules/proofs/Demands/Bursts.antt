-- A packet in bursts is the packet, however it is cut; and what each event makes of what is held.
use mathlib.Core.Path.{◌≡◌, refl, sym, ap, ◌∙◌}
use mathlib.Core.Bool.{Bool, true, false, cond, not, ◌&&◌, ◌||◌, true≢false}
use mathlib.Core.List.{List, [], ◌∷◌, ◌++◌, append-nil, append_assoc}
use Prim.Native.Nat.{ℕ}
use lib.Dec.{eqb}
use lib.ListN.{length}
use borrow.Author.Tests.{eqb-true}
use Rattle.rules.specs.declared.Bridge.{Bridge}
use Rattle.rules.specs.declared.Change.{Change}
use Rattle.rules.specs.declared.Change.TheVariants.{Nothing, Resets, Notes}
use Rattle.rules.specs.declared.Direction.{Direction}
use Rattle.rules.specs.declared.Direction.TheVariants.{Out, In}
use Rattle.rules.specs.declared.Phase.{Phase}
use Rattle.rules.specs.declared.Phase.TheVariants.{Awaiting, Busy, StatusWaiting, Stopped}
use Rattle.rules.specs.declared.Setup.{Setup}
use Rattle.rules.specs.Held.{World, holding, bulk_out, in_phase, is_stopped}
use Rattle.rules.specs.Changes.{made, drops}
use Rattle.rules.specs.Stopping.{clears_pipe, clear_feature}
use Rattle.rules.specs.Requests.{Named, table, setup_of, request_of, change_by}
use Rattle.rules.specs.Bursts.{kept}
use Rattle.rules.specs.Answers.{seen_of, request_answer}
use Rattle.rules.specs.Step.{BusReset, Control, Packet, Report, StatusRequest, Burst, EndMark, Outcome, done, change, step, rules, after}
use Rattle.rules.specs.Demands.Bursts.{bursts, in_row, Cutting, BurstIsHeld, is_pair, forgets, HeldIsDropped, HeldEntersNothing}
use Rattle.rules.proofs.Bursts.{held_whole, held_too_long, held_behind, kept-judged, soft_drops, reply_unheld, standing_unheld}
use Rattle.rules.proofs.Changes.{either}
use Rattle.rules.proofs.Checks.{EachRow, ◌also◌, request_each, request_passed, request_undamaged}

-- ---- cutting

-- what bursts leave held
abbrev held_by : List ℕ → List (List ℕ) → List ℕ
held_by held [] = held
held_by held (b ∷ bs) = held_by (kept (held ++ b)) bs

after-bursts : (held : List ℕ) (w : World) (cut : List (List ℕ)) → after rules (holding held w) (bursts cut) ≡ holding (held_by held cut) w
unfolding step change
after-bursts held w [] = refl
after-bursts held w (b ∷ bs) = after-bursts (kept (held ++ b)) w bs

-- what is held of a packet is judged as the packet
packet_kept : (w : World) (s : List ℕ) (room : ℕ) → step w (Packet (kept s) room) ≡ step w (Packet s room)
packet_kept w s room = ap (λ (j : Outcome World × Change). j.0) (kept-judged w s room)

packet_cut : (w : World) (held : List ℕ) (cut : List (List ℕ)) (room : ℕ)
    → step w (Packet (held_by held cut) room) ≡ step w (Packet (held ++ in_row cut) room)
packet_cut w held [] room = ap (λ (p : List ℕ). step w (Packet p room)) (sym (append-nil held))
packet_cut w held (b ∷ bs) room =
    let rest : List ℕ = in_row bs in
    packet_cut w (kept (held ++ b)) bs room
    ∙ sym (packet_kept w (kept (held ++ b) ++ rest) room)
    ∙ ap (λ (p : List ℕ). step w (Packet p room)) (held_behind (held ++ b) rest)
    ∙ packet_kept w ((held ++ b) ++ rest) room
    ∙ ap (λ (p : List ℕ). step w (Packet p room)) (append_assoc held b rest)

-- an end mark is the packet of what is held
end_mark : (held : List ℕ) (w : World) (room : ℕ) → step (holding held w) (EndMark room) ≡ step w (Packet held room)
unfolding step change
end_mark held w room = refl

pub cutting : Cutting rules
cutting w cut room =
    let same : step (after rules w (bursts cut)) (EndMark room) ≡ step w (Packet (w.held ++ in_row cut) room) =
    ap (λ (v : World). step v (EndMark room)) (after-bursts w.held w cut) ∙ end_mark (held_by w.held cut) w room ∙ packet_cut w w.held cut room in (
      ap (λ (o : Outcome World). o.answer) same,
      ap (λ (o : Outcome World). o.operations) same,
      ap (λ (o : Outcome World). o.next) same,
    )

-- ---- what is held

pub burst_is_held : BurstIsHeld rules
unfolding step change
burst_is_held w bytes =
    let all : List ℕ = w.held ++ bytes in
    (refl, (kept all, refl, held_whole all, λ h. ap length (held_too_long all h)))

-- Clear Feature drops where it ends a stop, of either pipe
clear_drops : (b : Bridge) (p : Phase) (d : Direction) (other : Bool)
    → (let c = clears_pipe p d other in drops c ≡ (is_stopped p && not (is_stopped (made c (in_phase p b)).phase)))
clear_drops b Awaiting d other = refl
clear_drops b (Busy direction lun tag l) d other = refl
clear_drops b (StatusWaiting tag residue status) d other = refl
clear_drops b (Stopped false) d other = refl
clear_drops b (Stopped true) Out true = refl
clear_drops b (Stopped true) In true = refl
clear_drops b (Stopped true) d false = refl

-- an accepted request drops, by its pair
module _ (setup : List ℕ) (b : Bridge) where
  abbrev s : Setup
  s = setup_of setup

  abbrev ended : Named → Bool
  ended q = is_stopped b.phase && not (is_stopped (made (change_by q s b) b).phase)

  abbrev DropsSo : Named → Type 0
  DropsSo q =
      drops (change_by q s b)
      ≡ (is_pair 0x21 0xFF setup || is_pair 0x40 0x03 setup || is_pair 0x00 0x09 setup || (is_pair 0x02 0x01 setup && ended q))

  clears : drops (clear_feature s.index b) ≡ (is_stopped b.phase && not (is_stopped (made (clear_feature s.index b) b).phase))
  clears = go (eqb s.index bulk_out)
    where
      go : (t : Bool)
          → (let c = cond t (clears_pipe b.phase Out b.halts.inward) (clears_pipe b.phase In b.halts.outward) in
          drops c ≡ (is_stopped b.phase && not (is_stopped (made c b).phase)))
      go true = clear_drops b b.phase Out b.halts.inward
      go false = clear_drops b b.phase In b.halts.outward

  request_drops : EachRow DropsSo s table
  request_drops =
      (λ h. rw (h.kind, h.code))
      also (λ h. rw h.kind)
      also (λ h. rw (h.kind, h.code) clears)
      also (λ h. rw h.kind)
      also (λ h. rw h.kind)
      also (λ h. rw (h.kind, h.code) (either (λ c. drops c ≡ true) (is_stopped b.phase) Notes Resets refl refl))
      also (λ h. rw (h.kind, h.code))
      also (λ h. rw h.kind)
      also (λ h. rw (h.kind, h.code) (soft_drops b.phase))
      also (λ h. rw h.kind)
      also (λ h. rw h.kind)
      also tt

control_drops : (w : World) (setup host : List ℕ) (room : ℕ)
    → drops (change w (Control setup host room)) ≡ forgets rules w (Control setup host room)
unfolding step change
control_drops w setup host room = rw request_undamaged (go (done n) refl)
  where
    n : ℕ
    n = request_answer (seen_of w) w.memory setup (length host) room

    q : Named
    q = request_of (setup_of setup)

    go : (t : Bool) → done n ≡ t
        → (let c = cond t (change_by q (setup_of setup) w.bridge) Nothing in
        drops c
        ≡ (t
        && (is_pair 0x21 0xFF setup || is_pair 0x40 0x03 setup || is_pair 0x00 0x09 setup
        || (is_pair 0x02 0x01 setup && (is_stopped w.bridge.phase && not (is_stopped (made c w.bridge).phase))))))
    go true e =
        let k = request_passed (seen_of w) w.memory setup (length host) room (eqb-true n 0 e) in
        request_each (DropsSo setup w.bridge) (setup_of setup) (request_drops setup w.bridge) k.1.1.0
    go false e = refl

pub held_is_dropped : HeldIsDropped rules
unfolding step
held_is_dropped w BusReset h = refl
held_is_dropped w (Control setup host room) h = ap (λ (t : Bool). cond t [] w.held) (control_drops w setup host room)
held_is_dropped w (Packet p room) h = refl
held_is_dropped w (Report direction failed amount) h = refl
held_is_dropped w (StatusRequest room) h = refl
held_is_dropped w (Burst bytes) h = absurd (true≢false h)
held_is_dropped w (EndMark room) h = refl

pub held_enters_nothing : HeldEntersNothing rules
unfolding step change
held_enters_nothing w v held BusReset h e = rw e (refl, refl, refl, refl, refl)
held_enters_nothing w v held (Control setup host room) h e =
    let s : Setup = setup_of setup in
    rw (e, reply_unheld (request_of s) s w held, standing_unheld (request_of s) s w held) (refl, refl, refl, refl, refl)
held_enters_nothing w v held (Packet p room) h e = rw e (refl, refl, refl, refl, refl)
held_enters_nothing w v held (Report direction failed amount) h e = rw e (refl, refl, refl, refl, refl)
held_enters_nothing w v held (StatusRequest room) h e = rw e (refl, refl, refl, refl, refl)
held_enters_nothing w v held (Burst bytes) h e = rw e (refl, refl, refl, refl, refl)
held_enters_nothing w v held (EndMark room) h e = absurd (true≢false h)
