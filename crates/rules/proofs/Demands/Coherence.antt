-- Configuration, pipes and replies hold together.
use mathlib.Core.Path.{◌≡◌, refl, sym, ap, ◌∙◌}
use mathlib.Core.Bool.{Bool, true, false, cond, not, ◌||◌, true≢false, false≢true, and-false}
use mathlib.Core.List.{List, [], ◌∷◌}
use Prim.Native.Nat.{ℕ, ◌≤◌}
use native.Mathlib.Omega.{arith}
use lib.ListN.{length, drop}
use lib.Dec.{eqb, ltb}
use borrow.Author.Tests.{eqb-true, ltb-true, le-ltb, not-true}
use Rattle.rules.specs.declared.Bridge.{Bridge}
use Rattle.rules.specs.declared.Change.{Change}
use Rattle.rules.specs.declared.Change.TheVariants.{Nothing, Sets, Awaits, Resets, Drops, Begins, Finishes, Stops, Notes, Clears, Ends}
use Rattle.rules.specs.declared.CommandPacket.{CommandPacket}
use Rattle.rules.specs.declared.Direction.TheVariants.{Out, In}
use Rattle.rules.specs.declared.Phase.{Phase}
use Rattle.rules.specs.declared.Phase.TheVariants.{Awaiting, Busy, StatusWaiting, Stopped}
use Rattle.rules.specs.declared.Request.TheVariants.{LoadConfigData}
use Rattle.rules.specs.declared.Setup.{Setup}
use Rattle.rules.specs.Words.{one, Check, first, over}
use Rattle.rules.specs.Held.{World, world, holding, powered, configuration, is_stopped}
use Rattle.rules.specs.Changes.{made, drops}
use Rattle.rules.specs.Stopping.{clears, clear_feature, mass_storage_reset, soft_reset}
use Rattle.rules.specs.Requests.{Named, table, address, setup_of, request_of, is_a, change_by, bytes_after, memory_after}
use Rattle.rules.specs.Packets.{command_of, signature_of, recognises, command_taken}
use Rattle.rules.specs.Reports.{report_taken}
use Rattle.rules.specs.Answers.{seen_of, request_answer, packet_checks, packet_answer, report_answer, status_checks, status_answer}
use Rattle.rules.specs.Step.{operations_for, Event, BusReset, Control, Packet, Report, StatusRequest, Burst, EndMark, answer, done, damaged, change_done, change, step, rules, after}
use Rattle.rules.specs.Demands.Refusals.{damages}
use Rattle.rules.specs.Demands.Requests.{wire, asking}
use Rattle.rules.specs.Demands.Coherence.{Replies, sets_to, configured, ConfigurationIsTold, BusResetIsPowerOn, DockIsFixed, ConfigurationRestarts, PowerOnIsRead, HaltsAreTold, DamageHalts, ClearClears, ResetsAgree, HandsOutItsOwn, AskingChangesNothing, WritingKeepsBridge, StatusKeeps, ZerosAreTold}
use Rattle.rules.proofs.Demands.Boundary.{none_given}
use Rattle.rules.proofs.Demands.Refusals.{refusals}
use Rattle.rules.proofs.Changes.{either, feature}
use Rattle.rules.proofs.Demands.Requests.{whole}
use Rattle.rules.proofs.Checks.{all_numbers, answer_has, both_same, EachRow, ◌also◌, request_each, request_passed, request_undamaged}

-- ---- the configuration

-- a change that does not set the configuration keeps it
abbrev Unset : Change → Type 0
Unset Nothing = Unit {0}
Unset (Sets c) = ⊥
Unset Awaits = Unit {0}
Unset Resets = Unit {0}
Unset Drops = Unit {0}
Unset (Begins direction lun tag l) = Unit {0}
Unset (Finishes direction halts status tag residue) = Unit {0}
Unset Stops = Unit {0}
Unset Notes = Unit {0}
Unset (Clears direction) = Unit {0}
Unset Ends = Unit {0}

kept : (c : Change) (b : Bridge) → Unset c → (made c b).configured ≡ b.configured
kept Nothing b u = refl
kept (Sets c) b u = absurd u
kept Awaits b u = refl
kept Resets b u = refl
kept Drops b u = refl
kept (Begins direction lun tag l) b u = refl
kept (Finishes Out halts status tag residue) b u = refl
kept (Finishes In halts status tag residue) b u = refl
kept Stops b u = refl
kept Notes b u = refl
kept (Clears Out) b u = refl
kept (Clears In) b u = refl
kept Ends b u = refl

command_unset : (t : Bool) (c : CommandPacket) → Unset (command_taken t c)
command_unset true c = tt
command_unset false c = tt

report_unset : (direction failed amount : ℕ) (p : Phase) → Unset (report_taken direction failed amount p)
report_unset direction failed amount Awaiting = tt
report_unset direction failed amount (Busy host lun tag l) = tt
report_unset direction failed amount (StatusWaiting tag residue status) = tt
report_unset direction failed amount (Stopped reset) = tt

-- an accepted request leaves the configuration as it is, or as Set Configuration says
abbrev SetsConfiguration : List ℕ → Bridge → Named → Type 0
SetsConfiguration setup b q = configuration (made (change_by q (setup_of setup) b) b) ≡ sets_to (Control setup [] 0) (configuration b)

request_sets : (setup : List ℕ) (b : Bridge) → EachRow (SetsConfiguration setup b) (setup_of setup) table
request_sets setup b =
    (λ h. rw (h.kind, h.code) (two_or_none h.value))
    also (λ h. rw h.kind)
    also (λ h. rw h.kind (held (clear_feature s.index b) (feature Unset tt (λ d. tt) tt s.index b)))
    also (λ h. rw h.kind)
    also (λ h. rw h.kind)
    also (λ h. rw h.kind (held (mass_storage_reset b.phase) (either Unset (is_stopped b.phase) Notes Resets tt tt)))
    also (λ h. rw h.kind)
    also (λ h. rw h.kind)
    also (λ h. rw h.kind (held (soft_reset b.phase) (either Unset (is_stopped b.phase) Drops Resets tt tt)))
    also (λ h. rw h.kind)
    also (λ h. rw h.kind)
    also tt
  where
    s : Setup
    s = setup_of setup

    held : (c : Change) → Unset c → configuration (made c b) ≡ configuration b
    held c u = ap (λ (t : Bool). cond t 2 0) (kept c b u)

    two_or_none : {v : ℕ} → (eqb v 0 || eqb v 2) ≡ true → cond (eqb v 2) 2 0 ≡ v
    two_or_none {v} h = go (eqb v 0) refl (eqb v 2) refl h
      where
        go : (t : Bool) → eqb v 0 ≡ t → (u : Bool) → eqb v 2 ≡ u → (t || u) ≡ true → cond u 2 0 ≡ v
        go t e true f h = sym (eqb-true v 2 f)
        go true e false f h = sym (eqb-true v 0 e)
        go false e false f h = absurd (false≢true h)

-- an event whose change does not set the configuration, whatever its answer
event_keeps : (w : World) (e : Event) → Unset (change_done w e) → sets_to e (configuration w.bridge) ≡ configuration w.bridge
    → configuration (step w e).next.bridge ≡ cond (done (step w e).answer) (sets_to e (configuration w.bridge)) (configuration w.bridge)
unfolding step change
event_keeps w e u k =
    let n : ℕ = answer w e in
    rw k
    (ap (λ (t : Bool). cond t 2 0)
    (kept (change w e) w.bridge
    (either Unset (done n) (change_done w e) (cond (damaged n) Stops Nothing) u (either Unset (damaged n) Stops Nothing tt tt)))
    ∙ sym (both_same (done n) (configuration w.bridge)))

event_sets : (w : World) (e : Event)
    → configuration (step w e).next.bridge ≡ cond (done (step w e).answer) (sets_to e (configuration w.bridge)) (configuration w.bridge)
unfolding step change
event_sets w BusReset = refl
event_sets w (Control setup host room) = rw request_undamaged (go (done n) refl)
  where
    n : ℕ
    n = request_answer (seen_of w) w.memory setup (length host) room

    go : (t : Bool) → done n ≡ t
        → configuration (made (cond t (change_by (request_of (setup_of setup)) (setup_of setup) w.bridge) Nothing) w.bridge)
        ≡ cond t (sets_to (Control setup host room) (configuration w.bridge)) (configuration w.bridge)
    go true e =
        let k = request_passed (seen_of w) w.memory setup (length host) room (eqb-true n 0 e) in
        request_each (SetsConfiguration setup w.bridge) (setup_of setup) (request_sets setup w.bridge) k.1.1.0
    go false e = refl
event_sets w (Packet p room) = event_keeps w (Packet p room) (command_unset (recognises (signature_of w.bytes) p) (command_of p)) refl
event_sets w (Report direction failed amount) =
    event_keeps w (Report direction failed amount) (report_unset direction failed amount w.bridge.phase) refl
event_sets w (StatusRequest room) = event_keeps w (StatusRequest room) tt refl
event_sets w (Burst bytes) = event_keeps w (Burst bytes) tt refl
event_sets w (EndMark room) = event_keeps w (EndMark room) (command_unset (recognises (signature_of w.bytes) w.held) (command_of w.held)) refl

run_sets : (w : World) (history : List Event) → configuration (after rules w history).bridge ≡ configured rules w history (configuration w.bridge)
run_sets w [] = refl
run_sets w (e ∷ es) = run_sets (step w e).next es ∙ ap (λ (c : ℕ). configured rules (step w e).next es c) (event_sets w e)

configuration_told : (w : World) → Replies (step w (asking 0x80 0x08 0 0 1)) (configuration w.bridge ∷ [])
unfolding step change request_of request_answer
configuration_told w = simp and-false (refl, refl)

pub configuration_is_told : ConfigurationIsTold rules
configuration_is_told start memory history =
    let t = configuration_told (after rules (powered start memory) history) in
    (t.0, t.1 ∙ ap (λ (c : ℕ). c ∷ []) (run_sets (powered start memory) history))

pub bus_reset_is_power_on : BusResetIsPowerOn rules
unfolding step change
bus_reset_is_power_on w settings memory = refl

-- no change is of the dock
fixed : (c : Change) (b : Bridge) → (made c b).dock ≡ b.dock
fixed Nothing b = refl
fixed (Sets c) b = refl
fixed Awaits b = refl
fixed Resets b = refl
fixed Drops b = refl
fixed (Begins direction lun tag l) b = refl
fixed (Finishes Out halts status tag residue) b = refl
fixed (Finishes In halts status tag residue) b = refl
fixed Stops b = refl
fixed Notes b = refl
fixed (Clears Out) b = refl
fixed (Clears In) b = refl
fixed Ends b = refl

pub run_fixed : (w : World) (history : List Event) → (after rules w history).bridge.dock ≡ w.bridge.dock
unfolding step
run_fixed w [] = refl
run_fixed w (e ∷ es) = run_fixed (step w e).next es ∙ fixed (change w e) w.bridge

pub dock_is_fixed : DockIsFixed rules
dock_is_fixed start memory history = run_fixed (powered start memory) history

pub configuration_restarts : ConfigurationRestarts rules
unfolding step change request_of request_answer
configuration_restarts w = simp and-false (refl, refl, refl, refl)

pub power_on_is_read : PowerOnIsRead rules
unfolding step change request_of request_answer address over
power_on_is_read dock memory = (refl, refl)

-- ---- pipes

-- a check of 11 is told by the answer, where none behind it has that number
eleven : (halted : Bool) (behind : List Check) → all_numbers (λ n. not (eqb n 11)) behind ≡ true → halted ≡ eqb (cond halted 11 (first behind)) 11
eleven true behind h = refl
eleven false behind h = sym (not-true _ (answer_has (λ n. not (eqb n 11)) behind h))

pub halts_are_told : HaltsAreTold rules
unfolding step change request_of request_answer packet_answer status_answer
halts_are_told w p room running =
    let b : Bridge = w.bridge in
    let behind : List Check = drop 2 (packet_checks b p (length (operations_for (signature_of w.bytes) p)) room) in
    rw (running.configured, running.runs) (
      (refl, ap (λ (t : Bool). one t ∷ 0 ∷ []) (eleven b.halts.outward behind refl)),
      (refl, ap (λ (t : Bool). one t ∷ 0 ∷ []) (eleven b.halts.inward (drop 2 (status_checks b room)) refl)),
    )

-- a damaged packet met a configured bridge, and has stopped it
damage_left : (w : World) (p : List ℕ) (room : ℕ) → damages (step w (Packet p room)).answer ≡ true
    → (step w (Packet p room)).next ≡ world (made Stops w.bridge) w.bytes w.memory
damage_left w p room d =
    let n : ℕ = (step w (Packet p room)).answer in
    rw d at (refusals w (Packet p room) (λ z. false≢true (rw z at d))).3

damage_configured : (w : World) (p : List ℕ) (room : ℕ) → damages (step w (Packet p room)).answer ≡ true → w.bridge.configured ≡ true
unfolding step packet_answer
damage_configured w p room d =
    go w.bridge.configured (first (drop 1 (packet_checks w.bridge p (length (operations_for (signature_of w.bytes) p)) room))) d
  where
    go : (c : Bool) (n : ℕ) → damages (cond (not c) 4 n) ≡ true → c ≡ true
    go true n h = refl
    go false n h = absurd (false≢true h)

stop_halts : (b : Bridge) (bytes memory p : List ℕ) (room : ℕ) → b.configured ≡ true
    → (let s : World = world (made Stops b) bytes memory in
    ((step s (Packet p room)).answer ≡ 11) × ((step s (StatusRequest room)).answer ≡ 11)
    × Replies (step s (asking 0x82 0x00 0 0x01 2)) (1 ∷ 0 ∷ []) × Replies (step s (asking 0x82 0x00 0 0x82 2)) (1 ∷ 0 ∷ [])
    × ((direction failed amount : ℕ) → (step s (Report direction failed amount)).answer ≡ 16))
unfolding step change request_of request_answer packet_answer report_answer status_answer
stop_halts b bytes memory p room c = rw c (refl, refl, (refl, refl), (refl, refl), λ direction failed amount. refl)

pub damage_halts : DamageHalts rules
damage_halts w q p room d =
    rw (damage_left w q room d) (stop_halts w.bridge w.bytes w.memory p room (damage_configured w q room d))

-- outside a stop Clear Feature clears
running_clears : (p : Phase) → is_stopped p ≡ false → clears p ≡ true
running_clears Awaiting h = refl
running_clears (Busy direction lun tag l) h = refl
running_clears (StatusWaiting tag residue status) h = refl
running_clears (Stopped reset) h = absurd (true≢false h)

pub clear_clears : ClearClears rules
unfolding step change request_of request_answer
clear_clears w running =
    rw (running.configured, running_clears w.bridge.phase running.runs, running.runs)
    (refl, ((refl, refl, refl), refl), refl, refl, refl, ((refl, refl, refl), refl), refl, refl)

pub resets_agree : ResetsAgree rules
unfolding step change request_of request_answer
resets_agree w running = rw (running.configured, running.runs) (refl, refl, refl, (refl, refl, refl), refl, refl)

-- ---- replies

pub hands_out_its_own : HandsOutItsOwn rules
unfolding step
hands_out_its_own w BusReset = (refl, refl)
hands_out_its_own w (Control setup host room) = rw none_given
hands_out_its_own w (Packet p room) = rw none_given
hands_out_its_own w (Report direction failed amount) = (rw none_given, rw none_given)
hands_out_its_own w (StatusRequest room) = rw none_given
hands_out_its_own w (Burst bytes) = (refl, refl)
hands_out_its_own w (EndMark room) = rw none_given

pub writing_keeps_bridge : WritingKeepsBridge rules
unfolding step change request_of
writing_keeps_bridge w place start n host room =
    rw request_undamaged (go (done (request_answer (seen_of w) w.memory (wire 0x40 0x01 place start n) (length host) room)))
  where
    go : (t : Bool) → made (cond t Nothing Nothing) w.bridge ≡ w.bridge
    go true = refl
    go false = refl

pub status_keeps : StatusKeeps rules
unfolding step change
status_keeps w room a = rw a ((refl, refl, refl), refl, refl)

pub zeros_are_told : ZerosAreTold rules
unfolding step change request_of request_answer
zeros_are_told w value index n c = rw (c, whole n, le-ltb n n (omega arith)) (refl, refl)

-- a request of the table that asks changes nothing of the bridge and writes nothing
asking_rows : (s : Setup) (b : Bridge) → 0x80 ≤ s.kind
    → EachRow (λ q. (change_by q s b ≡ Nothing) × (is_a LoadConfigData q ≡ false)) s table
asking_rows s b h =
    (λ f. absurd (out f.kind refl))
    also (λ f. (refl, refl))
    also (λ f. absurd (out f.kind refl))
    also (λ f. (refl, refl))
    also (λ f. (refl, refl))
    also (λ f. absurd (out f.kind refl))
    also (λ f. absurd (out f.kind refl))
    also (λ f. (refl, refl))
    also (λ f. absurd (out f.kind refl))
    also (λ f. (refl, refl))
    also (λ f. (refl, refl))
    also tt
  where
    out : {k : ℕ} → s.kind ≡ k → ltb k 0x80 ≡ true → ⊥
    out {k} e l = let m = ltb-true k 0x80 l in omega arith

pub asking_changes_nothing : AskingChangesNothing rules
unfolding step change
asking_changes_nothing w setup host room h = rw request_undamaged (go (done n) refl)
  where
    n : ℕ
    n = request_answer (seen_of w) w.memory setup (length host) room

    s : Setup
    s = setup_of setup

    go : (t : Bool) → done n ≡ t
        → holding (cond (drops (cond t (change_by (request_of s) s w.bridge) Nothing)) [] w.held)
        (world (made (cond t (change_by (request_of s) s w.bridge) Nothing) w.bridge) (cond t (bytes_after (request_of s) s host w.bytes) w.bytes)
        (cond t (memory_after (request_of s) s host w.memory) w.memory))
        ≡ w
    go true e =
        let k = request_passed (seen_of w) w.memory setup (length host) room (eqb-true n 0 e) in
        let r = request_each (λ q. (change_by q s w.bridge ≡ Nothing) × (is_a LoadConfigData q ≡ false)) s (asking_rows s w.bridge h) k.1.1.0 in
        rw (r.0, r.1)
    go false e = refl
