-- What a host makes is read back and accepted.
use mathlib.Core.Path.{◌≡◌, refl, sym, ap, ◌∙◌}
use mathlib.Core.Bool.{Bool, true, false, cond, not, ◌&&◌, ◌||◌}
use mathlib.Core.List.{List, [], ◌∷◌, ◌++◌, append-nil}
use Prim.Native.Nat.{ℕ, zero, suc, ◌+◌, ◌*◌, ◌/◌, ◌%◌, ◌^◌, ◌<◌, ◌≤◌}
use native.Mathlib.Nat.{add-zero}
use native.Mathlib.Omega.{arith}
use lib.ListN.{length, length-append, get_or-append}
use lib.Seq.{get_or-append-add}
use lib.Dec.{eqb, ltb}
use borrow.Author.Tests.{eqb-true, eqb-false, eq-eqb, lt-ltb, le-ltb, le-leb}
use Rattle.rules.specs.declared.Direction.{Direction}
use Rattle.rules.specs.declared.Direction.TheVariants.{Out, In}
use Rattle.rules.specs.declared.Drives.{Drives}
use Rattle.rules.specs.declared.Lun.{Lun}
use Rattle.rules.specs.declared.Lun.TheVariants.{Lun0, Lun1}
use Rattle.rules.specs.Words.{byte, bit, bit_of, one}
use Rattle.rules.specs.Held.{World, drive_count, lun_number, world}
use Rattle.rules.specs.Changes.{made}
use Rattle.rules.specs.Packets.{command_taken, inward, status_packet, command_of, block_of, direction_of, drive_of, lun_of, signature_of, valid, sensible, meaningful, recognised, recognises}
use Rattle.rules.specs.Operations.{Operation, codes, action, selected, content, operations_of}
use Rattle.rules.specs.Answers.{packet_answer}
use Rattle.rules.specs.Step.{Packet, operations_for, change, step, rules}
use Rattle.rules.specs.Demands.Makers.{Askable, MadeIsBegun, flags_for, packet, Fills, Free, eight, pass_through, PacketReadBack, BlockReadBack, StatusReadBack, MadeIsAccepted}
use Rattle.rules.proofs.Rows.{four_bytes}
use Rattle.rules.proofs.Demands.Operations.{counted}

-- ---- read back

-- the four bytes of a number join to it
pub joins : (n : ℕ) → n % 256 + 256 * (n / 256 % 256) + 65536 * (n / 256 / 256 % 256 + 256 * (n / 256 / 256 / 256)) ≡ n
joins n = omega arith

-- a made packet has its direction, with L = 0 none
pub direction_made : (lun : Lun) (tag l : ℕ) (d : Direction) (block filling : List ℕ)
    → direction_of (command_of (packet lun tag l d block filling)) ≡ cond (ltb 0 l) d Out
direction_made lun tag l d block filling = rw (joins l) (go d (ltb 0 l))
  where
    go : (d : Direction) (t : Bool) → cond (t && eqb (flags_for d) 0x80) In Out ≡ cond t d Out
    go Out true = refl
    go In true = refl
    go d false = refl

pub packet_read_back : PacketReadBack command_of direction_of block_of
packet_read_back lun tag l d block filling =
    let way = direction_made lun tag l d block filling in (simp joins, λ p. way ∙ rw (lt-ltb 0 l p), λ z. way ∙ rw z, refl)

-- .. and its LUN
drive_made : (lun : Lun) → drive_of (lun_number lun) ≡ lun
drive_made Lun0 = refl
drive_made Lun1 = refl

-- a bit as a number
bit_most : (t : Bool) → one t ≤ 1
bit_most true = omega arith
bit_most false = omega arith

bits_most : (f : ℕ → Bool)
    → (one (f 0) ≤ 1) × (one (f 1) ≤ 1) × (one (f 2) ≤ 1) × (one (f 3) ≤ 1) × (one (f 4) ≤ 1) × (one (f 5) ≤ 1) × (one (f 6) ≤ 1) × (one (f 7) ≤ 1)
bits_most f =
    (bit_most (f 0), bit_most (f 1), bit_most (f 2), bit_most (f 3), bit_most (f 4), bit_most (f 5), bit_most (f 6), bit_most (f 7))

-- a byte has the bits that it was made of
eight_bit : (f : ℕ → Bool) (k : ℕ) → k < 8 → bit_of k (eight f) ≡ one (f k)
eight_bit f zero h = omega (arith, bits_most f)
eight_bit f (suc zero) h = omega (arith, bits_most f)
eight_bit f (suc (suc zero)) h = omega (arith, bits_most f)
eight_bit f (suc (suc (suc zero))) h = omega (arith, bits_most f)
eight_bit f (suc (suc (suc (suc zero)))) h = omega (arith, bits_most f)
eight_bit f (suc (suc (suc (suc (suc zero))))) h = omega (arith, bits_most f)
eight_bit f (suc (suc (suc (suc (suc (suc zero)))))) h = omega (arith, bits_most f)
eight_bit f (suc (suc (suc (suc (suc (suc (suc zero))))))) h = omega (arith, bits_most f)
eight_bit f (suc (suc (suc (suc (suc (suc (suc (suc k)))))))) h = absurd (omega arith)

bit_told : (t : Bool) → eqb (one t) 1 ≡ t
bit_told true = refl
bit_told false = refl

eight_told : (f : ℕ → Bool) (k : ℕ) → k < 8 → bit k (eight f) ≡ f k
eight_told f k h = rw (eight_bit f k h) (bit_told (f k))

pub block_read_back : BlockReadBack action selected content
block_read_back signature count acts registers contents k eights h = (
  eight_told acts k h,
  eight_told registers k h,
  get_or-append-add (signature ∷ 0x24 ∷ eight acts ∷ eight registers ∷ count ∷ []) (contents ++ 0 ∷ 0 ∷ 0 ∷ []) k 0
      ∙ get_or-append contents (0 ∷ 0 ∷ 0 ∷ []) 0 k (omega arith),
)

-- .. as a host joins them
rejoins : (n : ℕ) → n < 2 ^ 32 → n % 256 + 256 * (n / 256 % 256 + 256 * (n / 65536 % 256 + 256 * (n / 16777216 % 256))) ≡ n
rejoins n h = omega (arith, four_bytes n h)

pub status_read_back : StatusReadBack status_packet
status_read_back tag residue status t r = rw (rejoins tag t, rejoins residue r)

-- ---- accepted

-- a block's operations are one to eleven
pub codes-length : (os : List Operation) → length (codes os) ≡ length os
codes-length [] = refl
codes-length (o ∷ os) = ap suc (codes-length os)

pub operations_count : (lun : Lun) (block : List ℕ) (l : ℕ) (d : Direction)
    → (1 ≤ length (operations_of lun block l d)) × (length (operations_of lun block l d) ≤ 11)
operations_count lun block l d = go (eqb (bit_of 0 (action block)) 1) refl
  where
    go : (t : Bool) → eqb (bit_of 0 (action block)) 1 ≡ t → (1 ≤ length (operations_of lun block l d)) × (length (operations_of lun block l d) ≤ 11)
    go true e = let h = (counted lun block l d).0 (eqb-true _ 1 e) in (omega (arith, h.0), omega (arith, h.1))
    go false e = let h = (counted lun block l d).1 (omega (arith, eqb-false (bit_of 0 (action block)) 1 e)) in (omega (arith, h.0), h.1)

pub needed_most : (signature : ℕ) (p : List ℕ) → length (operations_for signature p) ≤ 11
needed_most signature p = go (recognises signature p)
  where
    made : List Operation
    made = operations_of (lun_of (command_of p)) (block_of p) (command_of p).length (direction_of (command_of p))

    go : (t : Bool) → length (cond t (codes made) []) ≤ 11
    go true = rw codes-length (operations_count (lun_of (command_of p)) (block_of p) (command_of p).length (direction_of (command_of p))).1
    go false = omega arith

-- a free bridge accepts what is valid and meaningful
free_accepts : (w : World) (p : List ℕ) (room : ℕ) → Free w → valid p ≡ true → meaningful w.bridge.dock.drives (command_of p) ≡ true → 11 ≤ room
    → (step w (Packet p room)).answer ≡ 0
unfolding step packet_answer
free_accepts w p room free v m r =
    let n : length (operations_for (signature_of w.bytes) p) ≤ 11 = needed_most (signature_of w.bytes) p in
    rw (free.configured, free.awaits, free.runs, v, m, le-ltb room (length (operations_for (signature_of w.bytes) p)) (omega arith))

module _ (lun : Lun) (tag l : ℕ) (d : Direction) (block filling : List ℕ) (fills : Fills block filling) where
  made_valid : valid (packet lun tag l d block filling) ≡ true
  unfolding valid
  made_valid = rw (length-append block filling, fills.sixteen)

  made_meaningful : (drives : Drives) → lun_number lun < drive_count drives → meaningful drives (command_of (packet lun tag l d block filling)) ≡ true
  unfolding meaningful sensible
  made_meaningful drives has =
      let most : length block ≤ 16 = let e = fills.sixteen in omega arith in
      rw (le-leb 1 (length block) fills.some, le-leb (length block) 16 most, lt-ltb (lun_number lun) (drive_count drives) has) (flags d)
    where
      flags : (d : Direction) → ((eqb (flags_for d) 0x00 || eqb (flags_for d) 0x80) && true && true && true) ≡ true
      flags Out = refl
      flags In = refl

pub made_is_accepted : MadeIsAccepted rules
made_is_accepted w lun tag l d block filling room free has fills r =
    free_accepts w (packet lun tag l d block filling) room free (made_valid lun tag l d block filling fills)
    (made_meaningful lun tag l d block filling fills w.bridge.dock.drives has) r

-- the zeros behind eight contents
zeros_behind : (contents : List ℕ) (k : ℕ) → length contents ≡ 8 → byte (8 + k) (contents ++ 0 ∷ 0 ∷ 0 ∷ []) ≡ byte k (0 ∷ 0 ∷ 0 ∷ [])
zeros_behind contents k eights =
    ap (λ (n : ℕ). byte (n + k) (contents ++ 0 ∷ 0 ∷ 0 ∷ [])) (sym eights) ∙ get_or-append-add contents (0 ∷ 0 ∷ 0 ∷ []) k 0

module _ (signature count l : ℕ) (d : Direction) (acts registers : ℕ → Bool) (contents : List ℕ) (eights : length contents ≡ 8)
    (askable : Askable acts l d) where
  abbrev block : List ℕ
  block = pass_through signature acts registers count contents

  sixteen : length block ≡ 16
  sixteen = rw (length-append contents (0 ∷ 0 ∷ 0 ∷ []), eights)

  block_fills : Fills block []
  block_fills = record { some = rw sixteen (omega arith); sixteen = rw (add-zero, sixteen) }

  block_recognised : recognised signature block (length block) l (cond (ltb 0 l) d Out) ≡ true
  unfolding recognised
  block_recognised =
      rw (
        sixteen,
        eq-eqb signature signature refl,
        zeros_behind contents 0 eights,
        zeros_behind contents 1 eights,
        zeros_behind contents 2 eights,
        eight_told acts 0 (omega arith),
        eight_told acts 3 (omega arith),
        eight_told acts 4 (omega arith),
      ) (go (acts 0) refl)
    where
      go : (t : Bool) → acts 0 ≡ t → (not t || (not (acts 3) && not (acts 4) && eqb l 8 && inward (cond (ltb 0 l) d Out))) ≡ true
      go true e = let a = askable e in rw (a.0, a.1, a.2, a.3)
      go false e = refl

  block_recognises : (lun : Lun) (tag : ℕ) → recognises signature (packet lun tag l d block []) ≡ true
  block_recognises lun tag = rw (direction_made lun tag l d block [], joins l, append-nil) block_recognised

-- an accepted packet changes the bridge as its block says
pub packet_leaves : (w : World) (p : List ℕ) (room : ℕ) → (step w (Packet p room)).answer ≡ 0
    → (step w (Packet p room)).next ≡ world (made (command_taken (recognises (signature_of w.bytes) p) (command_of p)) w.bridge) w.bytes w.memory
unfolding step change
packet_leaves w p room a = rw a

pub made_is_begun : MadeIsBegun rules
made_is_begun w lun tag l d acts registers count contents room free has askable eights r =
    let signature : ℕ = byte 0x04 w.bytes in
    let b : List ℕ = pass_through signature acts registers count contents in
    let fills : Fills b [] = block_fills signature count l d acts registers contents eights askable in
    rw (
      packet_leaves w (packet lun tag l d b []) room (made_is_accepted w lun tag l d b [] room free has fills r),
      block_recognises signature count l d acts registers contents eights askable lun tag,
      direction_made lun tag l d b [],
      drive_made lun,
      joins tag,
      joins l,
    )
