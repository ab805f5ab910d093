-- Laws of a packet that the bridge awaits: what it is answered, and what it leaves.
use mathlib.Core.Path.{◌≡◌, refl, ap, ◌∙◌}
use mathlib.Core.Bool.{Bool, true, false, cond, not, and-eq-true_iff}
use mathlib.Core.List.{List}
use Prim.Native.Nat.{ℕ, ◌-◌}
use native.Mathlib.Omega.{arith}
use lib.Dec.{eqb, ltb}
use lib.ListN.{length, take, drop, length-drop}
use lib.Seq.{take_all}
use borrow.Author.Tests.{not-false, eqb-true, le-ltb}
use Rattle.std.specs.Prelude.{Result, Ok, Err}
use Rattle.rules.specs.declared.Bridge.{Bridge}
use Rattle.rules.specs.declared.Change.TheVariants.{Stops}
use Rattle.rules.specs.declared.CommandPacket.{CommandPacket}
use Rattle.rules.specs.declared.Direction.{Direction}
use Rattle.rules.specs.declared.Drives.{Drives}
use Rattle.rules.specs.declared.Lun.{Lun}
use Rattle.rules.specs.declared.refusals.Refusal.{Refusal}
use Rattle.rules.specs.Numbered.{refusal_number, by_number, checked}
use Rattle.rules.specs.Words.{long, first}
use Rattle.rules.specs.Packets.{command_layout, command_of, block_of, valid, meaningful, direction_of, lun_of, recognises}
use Rattle.rules.specs.Operations.{codes, operations_of}
use Rattle.rules.specs.Answers.{awaited_checks, packet_answer}
use Rattle.rules.specs.Step.{Packet, operations_for}
use Rattle.rules.specs.Promise.{ToldOf}
use Rattle.rules.proofs.Checks.{passed}
use Rattle.rules.proofs.Numbered.{not_done}
use Rattle.rules.proofs.Promises.{packet_refused, packet_done}
use Rattle.outcomes.specs.Outcomes.{AnswersOf}
use Rattle.passthrough.specs.declared.Unmade.{Unmade}
use Rattle.passthrough.specs.Judgements.{Judged, judgement, decided, judged}
use Rattle.packets.specs.Awaited.{Awaits, damage_checks, taken_as}

-- "Valid: 31 bytes .."
pub thirty_one : (p : List ℕ) → valid p ≡ true → length p ≡ 31
unfolding valid
thirty_one p h = eqb-true (length p) 31 ((and-eq-true_iff (eqb (length p) 31) (eqb (long 0 p) command_layout.signature)).0 h).0

-- "The block is the part that starts at byte 15", to the end of a packet of 31 bytes
pub block_part : (p : List ℕ) → length p ≡ 31 → take (31 - 15) (drop 15 p) ≡ block_of p
block_part p h = take_all 16 (drop 15 p) (rw length-drop (omega arith))

block_length : (p : List ℕ) → length p ≡ 31 → length (block_of p) ≡ 16
block_length p h = rw length-drop (omega arith)

-- what is told by its number is done where that is 0, and else refused with it
pub checked_ok : {A : Type 0} (x y : A) (n : ℕ) → by_number (Ok y) ≡ checked x n → (n ≡ 0) × (y ≡ x)
checked_ok x y n = go (eqb n 0) refl
  where
    go : (t : Bool) → eqb n 0 ≡ t → by_number (Ok y) ≡ cond t (Ok x) (Err n) → (n ≡ 0) × (y ≡ x)
    go true z h = (eqb-true n 0 z, cc)
    go false z h = absurd cc

pub checked_err : {A : Type 0} (x : A) (n : ℕ) (e : Refusal) → by_number {A = A} (Err e) ≡ checked x n → refusal_number e ≡ n
checked_err {A} x n e = go (eqb n 0)
  where
    go : (t : Bool) → by_number {A = A} (Err e) ≡ cond t (Ok x) (Err n) → refusal_number e ≡ n
    go true h = absurd cc
    go false h = cc

module _ (drives : Drives) (p : List ℕ) where
  -- the command of a packet, and its drive
  abbrev pub Understood : Type 0
  Understood = CommandPacket × Lun

  abbrev pub right : Understood
  right = (command_of p, lun_of (command_of p))

  -- one that is not damaged
  pub record Undamaged (x : Understood) : Type 0 where
    pub valid : valid p ≡ true
    pub meant : meaningful drives (command_of p) ≡ true
    pub same : x ≡ right

  pub undamaged : (x : Understood) → by_number (Ok x) ≡ checked right (first (damage_checks drives p)) → Undamaged x
  undamaged x h =
      let k = checked_ok _ _ _ h in
      let passes = passed (damage_checks drives p) refl k.0 in
      record { valid = not-false _ passes.0; meant = not-false _ passes.1.0; same = k.1 }

  module _ (b : Bridge) (signature : ℕ) (room : List ℕ) (a : Awaits drives b) where
    -- the checks that are left of a packet that is awaited
    left_checks : packet_answer b p (length (operations_for signature p)) (length room)
        ≡ first (awaited_checks drives p (length (operations_for signature p)) (length room))
    unfolding packet_answer
    left_checks = rw (a.holds, a.configured, a.awaits, a.runs)

    -- one that is damaged stops the bridge
    pub damaged : (e : Refusal) → by_number {A = Understood} (Err e) ≡ checked right (first (damage_checks drives p))
        → ToldOf b signature (Packet p) room (refusal_number e) 0 Stops room
    damaged e h = rw (checked_err _ _ e h) (go (valid p) refl (meaningful drives (command_of p)) refl (λ z. not_done e (checked_err _ _ e h ∙ z)))
      where
        go : (v : Bool) → valid p ≡ v → (m : Bool) → meaningful drives (command_of p) ≡ m
            → (let n : ℕ = cond (not v) 13 (cond (not m) 14 0) in
            (n ≡ 0 → ⊥) → ToldOf b signature (Packet p) room n 0 Stops room)
        go true v true m h = absurd (h refl)
        go true v false m h = packet_refused b signature p room 14 (left_checks ∙ rw (v, m)) refl
        go false v m n h = packet_refused b signature p room 13 (left_checks ∙ rw v) refl

    -- the operations of its block, if they are made
    abbrev made : List ℕ
    made = codes (operations_of (lun_of (command_of p)) (block_of p) (command_of p).length (direction_of (command_of p)))

    module _ (v : valid p ≡ true) (m : meaningful drives (command_of p) ≡ true) where
      by_judgement : (known short : Bool) → recognises signature p ≡ known → ltb (length room) (length made) ≡ short
          → (let j : Judged = decided known short made room in
          AnswersOf b signature (Packet p) room (taken_as j.says (lun_of (command_of p)) (command_of p)) j.row)
      by_judgement true true k s = packet_refused b signature p room 15 (left_checks ∙ rw (v, m, k, s)) refl
      by_judgement true false k s = rw k at (packet_done b signature p room (left_checks ∙ rw (v, m, k, s)))
      by_judgement false short k s =
          rw k at (packet_done b signature p room (left_checks ∙ rw (v, m, k, le-ltb (length room) 0 (omega arith))))

    -- what the judgement of its block makes of a packet that is not damaged
    pub taken_so : (x : Understood) → Undamaged x → {block : List ℕ} {d : Direction} {j : Result ℕ Unmade} {now : List ℕ}
        → block ≡ block_of p → d ≡ direction_of x.0
        → judgement j now ≡ judged x.1 signature block x.0.block_length x.0.length d room
        → AnswersOf b signature (Packet p) room (taken_as j x.1 x.0) now
    taken_so x u part e j =
        rw (ap (λ (y : Judged). y.says) j, ap (λ (y : Judged). y.row) j, e, u.same, part, block_length p (thirty_one p u.valid))
        (by_judgement u.valid u.meant (recognises signature p) (ltb (length room) (length made)) refl refl)
