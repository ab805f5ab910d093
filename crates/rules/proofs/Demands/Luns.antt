-- Request 7, proved: a LUN enters a packet's answer by one test, which is that of Get Max LUN.
use mathlib.Core.Path.{◌≡◌, refl, sym, ◌∙◌}
use mathlib.Core.Logic.{◌⊎◌, inl, inr}
use mathlib.Core.Bool.{Bool, true, false, cond, not, ◌&&◌, ◌||◌}
use mathlib.Core.List.{List, [], ◌∷◌}
use Prim.Native.Nat.{ℕ, ◌+◌}
use native.Mathlib.Omega.{arith}
use lib.Dec.{eqb, ltb}
use lib.ListN.{length}
use borrow.Author.Tests.{ne_eqb, le-leb, lt-ltb, le-ltb, ltb-true, ltb-false}
use Rattle.rules.specs.declared.Drives.{Drives}
use Rattle.rules.specs.declared.Drives.TheVariants.{One, Two}
use Rattle.rules.specs.Words.{byte}
use Rattle.rules.specs.Held.{World, drive_count, drives_of, max_lun}
use Rattle.rules.specs.Requests.{request_of}
use Rattle.rules.specs.Packets.{command_of, valid, sensible, meaningful}
use Rattle.rules.specs.Answers.{request_answer, packet_answer}
use Rattle.rules.specs.Step.{Packet, packet_makes, step, rules}
use Rattle.rules.specs.Demands.Refusals.{damages}
use Rattle.rules.specs.Demands.Requests.{asking}
use Rattle.rules.specs.Demands.Boundary.{Ready}
use Rattle.rules.specs.Demands.Coherence.{Replies}
use Rattle.rules.specs.Demands.Makers.{wrapper}
use Rattle.rules.specs.Demands.Drives.{NumbersSayDrives, Sensible, LunsAgree}

pub numbers_say_drives : NumbersSayDrives drives_of
unfolding drives_of
numbers_say_drives = (refl, λ n other. rw (ne_eqb n 2 other))

-- ---- Get Max LUN and packets

-- flags and a block length that are meaningful
sensible_made : (tag l flags lun size : ℕ) (field : List ℕ) → Sensible flags size → sensible (command_of (wrapper tag l flags lun size field)) ≡ true
unfolding sensible
sensible_made tag l flags lun size field (f, some, most) = rw (le-leb 1 size some, le-leb size 16 most) (go f)
  where
    go : (flags ≡ 0x00) ⊎ (flags ≡ 0x80) → ((eqb flags 0x00 || eqb flags 0x80) && true && true) ≡ true
    go (inl e) = rw e
    go (inr e) = rw e

most : (drives : Drives) → 1 + max_lun drives ≡ drive_count drives
most One = refl
most Two = refl

-- a LUN is above the highest where it is not below the count
above : (drives : Drives) (lun : ℕ) → not (ltb lun (drive_count drives)) ≡ ltb (max_lun drives) lun
above drives lun = go (ltb lun (drive_count drives)) refl
  where
    go : (t : Bool) → ltb lun (drive_count drives) ≡ t → not t ≡ ltb (max_lun drives) lun
    go true e = let h = ltb-true lun (drive_count drives) e in sym (le-ltb (max_lun drives) lun (omega (arith, most drives)))
    go false e = let h = ltb-false lun (drive_count drives) e in sym (lt-ltb (max_lun drives) lun (omega (arith, most drives)))

-- what a ready bridge answers to a packet that is otherwise meaningful
ready_answers : (w : World) (p : List ℕ) (room : ℕ) → Ready w → valid p ≡ true → sensible (command_of p) ≡ true
    → (step w (Packet p room)).answer
    ≡ cond (not (ltb (byte 13 p) (drive_count w.bridge.dock.drives))) 14 (cond (ltb room (length (packet_makes w p))) 15 0)
unfolding step packet_answer meaningful
ready_answers w p room ready v s = rw (ready.configured, ready.awaits, ready.out_runs, v, s)

-- .. which is 14, the one that damages, where its LUN is too high, and only there
fourteen : (t u : Bool) → (damages (cond t 14 (cond u 15 0)) ≡ t) × (eqb (cond t 14 (cond u 15 0)) 14 ≡ t)
fourteen true u = (refl, refl)
fourteen false true = (refl, refl)
fourteen false false = (refl, refl)

-- Get Max LUN
max_lun_told : (w : World) → w.bridge.configured ≡ true → Replies (step w (asking 0xA1 0xFE 0 0 1)) (max_lun w.bridge.dock.drives ∷ [])
unfolding step request_of request_answer
max_lun_told w c = rw c (refl, refl)

pub luns_agree : LunsAgree rules
unfolding valid
luns_agree w tag l flags lun size field room ready s sixteen =
    let drives : Drives = w.bridge.dock.drives in
    let p : List ℕ = wrapper tag l flags lun size field in
    let answers = ready_answers w p room ready (rw sixteen) (sensible_made tag l flags lun size field s) in
    let k = fourteen (not (ltb lun (drive_count drives))) (ltb room (length (packet_makes w p))) in
    (max_lun drives, most drives, max_lun_told w ready.configured, rw answers (k.0 ∙ above drives lun), rw answers (k.1 ∙ above drives lun))
