-- A packet that is accepted was made by a host, and so was the block of one that makes operations.
use mathlib.Core.Path.{◌≡◌, refl, sym, ap, ◌∙◌}
use mathlib.Core.Bool.{Bool, true, false, cond, not, ◌&&◌, ◌||◌, false≢true, and-eq-true_iff}
use mathlib.Core.List.{List, [], ◌∷◌, ◌++◌}
use Prim.Native.Nat.{ℕ, ◌+◌, ◌*◌, ◌/◌, ◌%◌, ◌<◌, ◌≤◌}
use native.Mathlib.Nat.{div-div-eq-div-mul}
use native.Mathlib.Omega.{arith}
use lib.ListN.{length, take, drop, length-drop, take-append-drop, drop_of_length-le}
use lib.Seq.{get_or-drop, drop-drop, take_all, length-take-le}
use lib.Dec.{eqb, leb, ltb}
use borrow.Author.Tests.{eqb-true, eqb-false, leb-true, ltb-true, not-true, not-false}
use Rattle.rules.specs.declared.Direction.{Direction}
use Rattle.rules.specs.declared.Direction.TheVariants.{Out, In}
use Rattle.rules.specs.declared.Drives.{Drives}
use Rattle.rules.specs.declared.Drives.TheVariants.{One, Two}
use Rattle.rules.specs.declared.Lun.TheVariants.{Lun0, Lun1}
use Rattle.rules.specs.Words.{byte, long, bit, bit_of, one, Check}
use Rattle.rules.specs.Held.{World, drive_count, lun_number}
use Rattle.rules.specs.Packets.{inward, readable, command_of, block_of, direction_of, drive_of, lun_of, signature_of, valid, sensible, meaningful, recognised, recognises}
use Rattle.rules.specs.Operations.{codes, operations_of}
use Rattle.rules.specs.Answers.{packet_checks, packet_answer}
use Rattle.rules.specs.Step.{Packet, operations_for, answer, done, step, rules}
use Rattle.rules.specs.Demands.WellFormed.{Bytes}
use Rattle.rules.specs.Demands.Makers.{wrapper, BegunWasMade, AcceptedWasMade, LaidOut, DamageIsTold, four, flags_for, packet, Fills, eight, pass_through}
use Rattle.rules.proofs.Checks.{decides, sole, passed}
use Rattle.rules.proofs.Rows.{in_parts}

-- four bytes are the four of their number
four_made : (a b c d : ℕ) → a < 256 → b < 256 → c < 256 → four (a + 256 * b + 65536 * (c + 256 * d)) ≡ a ∷ b ∷ c ∷ d ∷ []
four_made a b c d x y z =
    let e : (a + 256 * b + 65536 * (c + 256 * d)) / 256 ≡ b + 256 * (c + 256 * d) = omega arith in
    let f : (b + 256 * (c + 256 * d)) / 256 ≡ c + 256 * d = omega arith in
    let g : (c + 256 * d) / 256 ≡ d = omega arith in
    let h : (a + 256 * b + 65536 * (c + 256 * d)) % 256 ≡ a = omega arith in
    let i : (b + 256 * (c + 256 * d)) % 256 ≡ b = omega arith in
    let j : (c + 256 * d) % 256 ≡ c = omega arith in
    rw (e, f, g, h, i, j)

long_made : (p : List ℕ) (k : ℕ) → Bytes p → four (long k p) ≡ byte k p ∷ byte (k + 1) p ∷ byte (k + 2) p ∷ byte (k + 2 + 1) p ∷ []
long_made p k h = four_made (byte k p) (byte (k + 1) p) (byte (k + 2) p) (byte (k + 2 + 1) p) (h k) (h (k + 1)) (h (k + 2))

-- what a valid packet is made of
valid_made : (p : List ℕ) → Bytes p → valid p ≡ true
    → (length p ≡ 31) × (p ≡ wrapper (long 4 p) (long 8 p) (byte 12 p) (byte 13 p) (byte 14 p) (block_of p))
unfolding valid
valid_made p h v =
    let e = (and-eq-true_iff (eqb (length p) 31) _).0 v in
    let n : length p ≡ 31 = eqb-true (length p) 31 e.0 in
    let signature : four (long 0 p) ≡ four 0x43425355 = ap four (eqb-true (long 0 p) 0x43425355 e.1) in
    let first : byte 0 p ∷ byte 1 p ∷ byte 2 p ∷ byte 3 p ∷ [] ≡ four 0x43425355 = sym (long_made p 0 h) ∙ signature in (
      n,
      in_parts 0 15 p (omega arith)
          ∙ λ i. first i ++ sym (long_made p 4 h) i ++ sym (long_made p 8 h) i ++ byte 12 p ∷ byte 13 p ∷ byte 14 p ∷ block_of p,
    )

-- what is laid out as a packet is valid
laid_out_valid : (p : List ℕ) → LaidOut p → valid p ≡ true
unfolding valid
laid_out_valid p (tag, l, flags, lun, size, field, sixteen, e) = rw (e, sixteen)

pub damage_is_told : DamageIsTold rules
unfolding step packet_answer
damage_is_told w p room h = (
  λ a.
      let made = valid_made p h (not-false (valid p) (decides 14 checks a).1.1.1.0) in
      (long 4 p, long 8 p, byte 12 p, byte 13 p, byte 14 p, block_of p, rw (length-drop, made.0), made.1),
  λ a l. false≢true (rw (laid_out_valid p l) at (sole 13 (not (valid p)) (drop 4 checks) refl (decides 13 checks a).1.1.1)),
)
  where
    checks : List Check
    checks = packet_checks w.bridge p (length (operations_for (signature_of w.bytes) p)) room

-- what an accepted packet has passed
packet_passed : (w : World) (p : List ℕ) (room : ℕ) → (step w (Packet p room)).answer ≡ 0
    → (valid p ≡ true) × (meaningful w.bridge.dock.drives (command_of p) ≡ true)
unfolding step packet_answer
packet_passed w p room a =
    let k = passed (packet_checks w.bridge p (length (operations_for (signature_of w.bytes) p)) room) refl a in
    (not-false (valid p) k.1.1.1.0, not-false (meaningful w.bridge.dock.drives (command_of p)) k.1.1.1.1.0)

-- the direction that the flags of a packet say
abbrev said : List ℕ → Direction
said p = cond (eqb (byte 12 p) 0x80) In Out

-- a LUN below the count is that of its drive
lun_read : (drives : Drives) (lun : ℕ) → lun < drive_count drives → lun ≡ lun_number (drive_of lun)
lun_read drives lun h = go (eqb lun 0) refl
  where
    most : (drives : Drives) → lun < drive_count drives → lun ≤ 1
    most One h = omega arith
    most Two h = omega arith

    go : (t : Bool) → eqb lun 0 ≡ t → lun ≡ lun_number (cond t Lun0 Lun1)
    go true e = eqb-true lun 0 e
    go false e = omega (arith, eqb-false lun 0 e, most drives h)

meaning : (drives : Drives) (p : List ℕ) → meaningful drives (command_of p) ≡ true
    → (byte 12 p ≡ flags_for (said p)) × (byte 13 p ≡ lun_number (drive_of (byte 13 p))) × (1 ≤ byte 14 p) × (byte 14 p ≤ 16)
    × (lun_number (drive_of (byte 13 p)) < drive_count drives)
unfolding meaningful sensible
meaning drives p m =
    let c = (and-eq-true_iff _ (ltb (byte 13 p) (drive_count drives))).0 m in
    let a = (and-eq-true_iff _ (leb (byte 14 p) 16)).0 c.0 in
    let b = (and-eq-true_iff (eqb (byte 12 p) 0x00 || eqb (byte 12 p) 0x80) (leb 1 (byte 14 p))).0 a.0 in
    let below : byte 13 p < drive_count drives = ltb-true (byte 13 p) (drive_count drives) c.1 in
    let lun = lun_read drives (byte 13 p) below in (
      flags (eqb (byte 12 p) 0x80) refl (eqb (byte 12 p) 0x00) refl b.0,
      lun,
      leb-true 1 (byte 14 p) b.1,
      leb-true (byte 14 p) 16 a.1,
      rw (← lun) below,
    )
  where
    flags : (t : Bool) → eqb (byte 12 p) 0x80 ≡ t → (u : Bool) → eqb (byte 12 p) 0x00 ≡ u → (u || t) ≡ true → byte 12 p ≡ flags_for (cond t In Out)
    flags true e u f h = eqb-true (byte 12 p) 0x80 e
    flags false e true f h = eqb-true (byte 12 p) 0x00 f
    flags false e false f h = absurd (false≢true h)

-- an accepted packet is for a drive that the dock holds
pub drive_held : (w : World) (p : List ℕ) (room : ℕ) → answer w (Packet p room) ≡ 0
    → (byte 13 p ≡ lun_number (lun_of (command_of p))) × (lun_number (lun_of (command_of p)) < drive_count w.bridge.dock.drives)
unfolding step
drive_held w p room a = let m = meaning w.bridge.dock.drives p (packet_passed w p room a).1 in (m.1, m.4)

-- .. so it was made of its block and what is behind it
packet_made : (w : World) (p : List ℕ) (room : ℕ) → Bytes p → (step w (Packet p room)).answer ≡ 0
    → (let block = take (byte 14 p) (block_of p) in
    let filling = drop (byte 14 p) (block_of p) in
    (length block ≡ byte 14 p) × Fills block filling × (p ≡ packet (drive_of (byte 13 p)) (long 4 p) (long 8 p) (said p) block filling))
    × (lun_number (drive_of (byte 13 p)) < drive_count w.bridge.dock.drives)
packet_made w p room h a =
    let k = packet_passed w p room a in
    let v = valid_made p h k.0 in
    let m = meaning w.bridge.dock.drives p k.1 in
    let n : length (block_of p) ≡ 16 = rw (length-drop, v.0) in
    let most = m.3 in
    let size : length (take (byte 14 p) (block_of p)) ≡ byte 14 p = length-take-le (byte 14 p) (block_of p) (omega arith) in (
      (
        size,
        record { some = rw size m.2; sixteen = rw (size, length-drop, n) (omega arith) },
        v.1 ∙ λ i. wrapper (long 4 p) (long 8 p) (m.0 i) (m.1 i) (sym size i) (sym (take-append-drop (byte 14 p) (block_of p)) i),
      ),
      m.4,
    )

pub accepted_was_made : AcceptedWasMade rules
accepted_was_made w p room h a =
    let made = packet_made w p room h a in
    (drive_of (byte 13 p), long 4 p, long 8 p, said p, take (byte 14 p) (block_of p), drop (byte 14 p) (block_of p), made.1, made.0.1, made.0.2)

-- a byte is made of its bits
bit_read : (k b : ℕ) → one (bit k b) ≡ bit_of k b
bit_read k b = go (eqb (bit_of k b) 1) refl
  where
    go : (t : Bool) → eqb (bit_of k b) 1 ≡ t → one t ≡ bit_of k b
    go true e = sym (eqb-true (bit_of k b) 1 e)
    go false e = omega (arith, eqb-false (bit_of k b) 1 e)

halved : (b n : ℕ) → b / n ≡ b / n % 2 + 2 * (b / (n * 2))
halved b n = rw (← (div-div-eq-div-mul b n 2)) (omega arith)

-- four bits of it
nibble : (q r s t u a b c d : ℕ) → q ≡ a + 2 * r → r ≡ b + 2 * s → s ≡ c + 2 * t → t ≡ d + 2 * u → q ≡ a + 2 * b + 4 * c + 8 * d + 16 * u
nibble q r s t u a b c d e f g h = omega arith

eight_made : (b : ℕ) → b < 256 → eight (λ k. bit k b) ≡ b
eight_made b h =
    let all : b / 1 ≡ b = omega arith in
    let none : b / 256 ≡ 0 = omega arith in
    let low = nibble (b / 1) (b / 2) (b / 4) (b / 8) (b / 16) _ _ _ _ (halved b 1) (halved b 2) (halved b 4) (halved b 8) in
    let high = nibble (b / 16) (b / 32) (b / 64) (b / 128) (b / 256) _ _ _ _ (halved b 16) (halved b 32) (halved b 64) (halved b 128) in
    simp bit_read (sums b (b / 1) (b / 16) (b / 256) _ _ _ _ _ _ _ _ all low high none)
  where
    sums : (n q r s a b c d e f g h : ℕ) → q ≡ n → q ≡ a + 2 * b + 4 * c + 8 * d + 16 * r → r ≡ e + 2 * f + 4 * g + 8 * h + 16 * s → s ≡ 0
        → a + 2 * b + 4 * c + 8 * d + 16 * e + 32 * f + 64 * g + 128 * h ≡ n
    sums n q r s a b c d e f g h i j k l = omega arith

-- what a recognised block has
pub recognised_has : (signature l : ℕ) (d : Direction) (block : List ℕ) (size : ℕ) → recognised signature block size l d ≡ true
    → (size ≡ 16) × (byte 0 block ≡ signature) × (byte 1 block ≡ 0x24) × (byte 13 block ≡ 0) × (byte 14 block ≡ 0) × (byte 15 block ≡ 0)
    × (bit 0 (byte 2 block) ≡ true → readable (byte 2 block) l d ≡ true)
unfolding recognised
recognised_has signature l d block size h =
    let a = (and-eq-true_iff _ (not (bit 0 (byte 2 block)) || readable (byte 2 block) l d)).0 h in
    let b = (and-eq-true_iff _ (eqb (byte 15 block) 0)).0 a.0 in
    let c = (and-eq-true_iff _ (eqb (byte 14 block) 0)).0 b.0 in
    let e = (and-eq-true_iff _ (eqb (byte 13 block) 0)).0 c.0 in
    let f = (and-eq-true_iff _ (eqb (byte 1 block) 0x24)).0 e.0 in
    let g = (and-eq-true_iff (eqb size 16) (eqb (byte 0 block) signature)).0 f.0 in (
      eqb-true _ 16 g.0,
      eqb-true _ signature g.1,
      eqb-true _ 0x24 f.1,
      eqb-true _ 0 e.1,
      eqb-true _ 0 c.1,
      eqb-true _ 0 b.1,
      λ t. rw t at a.1,
    )

-- sixteen bytes that have what a recognised block has were made so
block_made : (block : List ℕ) (signature : ℕ) → Bytes block → length block ≡ 16 → byte 0 block ≡ signature → byte 1 block ≡ 0x24
    → byte 13 block ≡ 0 → byte 14 block ≡ 0 → byte 15 block ≡ 0
    → block ≡ pass_through signature (λ k. bit k (byte 2 block)) (λ k. bit k (byte 3 block)) (byte 4 block) (take 8 (drop 5 block))
block_made block signature h n e f g i j =
    in_parts 0 5 block (omega arith)
    ∙ λ x. e x ∷ f x ∷ sym (eight_made (byte 2 block) (h 2)) x ∷ sym (eight_made (byte 3 block) (h 3)) x ∷ byte 4 block ∷ contents x
  where
    tail : drop 13 block ≡ 0 ∷ 0 ∷ 0 ∷ []
    tail = in_parts 13 3 block (omega arith) ∙ λ x. g x ∷ i x ∷ j x ∷ drop_of_length-le block {i = 16} (omega arith) x

    contents : drop 5 block ≡ take 8 (drop 5 block) ++ 0 ∷ 0 ∷ 0 ∷ []
    contents = sym (take-append-drop 8 (drop 5 block)) ∙ ap (λ (l : List ℕ). take 8 (drop 5 block) ++ l) (drop-drop 8 5 block ∙ tail)

-- a packet that makes operations is accepted and recognised
pub begun : (w : World) (p : List ℕ) (room : ℕ) → ((step w (Packet p room)).operations ≡ [] → ⊥)
    → ((step w (Packet p room)).answer ≡ 0) × (recognises (signature_of w.bytes) p ≡ true)
unfolding step
begun w p room h = go (done (answer w (Packet p room))) refl (recognises (signature_of w.bytes) p) refl h
  where
    go : (t : Bool) → done (answer w (Packet p room)) ≡ t → (u : Bool) → recognises (signature_of w.bytes) p ≡ u
        → (◌≡◌ {A = List ℕ} (cond t (cond u (codes (operations_of (lun_of (command_of p)) (block_of p) (command_of p).length (direction_of (command_of p)))) []) []) [] → ⊥)
        → (answer w (Packet p room) ≡ 0) × (u ≡ true)
    go true e true f h = (eqb-true _ 0 e, refl)
    go true e false f h = absurd (h refl)
    go false e u f h = absurd (h refl)

-- a block that reads registers, as its packet has it
asked : (p : List ℕ) (a : ℕ) → readable a (long 8 p) (direction_of (command_of p)) ≡ true
    → (bit 3 a ≡ false) × (bit 4 a ≡ false) × (long 8 p ≡ 8) × (said p ≡ In)
asked p a r =
    let b = (and-eq-true_iff _ (inward (direction_of (command_of p)))).0 r in
    let c = (and-eq-true_iff _ (eqb (long 8 p) 8)).0 b.0 in
    let d = (and-eq-true_iff (not (bit 3 a)) (not (bit 4 a))).0 c.0 in
    (not-true _ d.0, not-true _ d.1, eqb-true _ 8 c.1, way (ltb 0 (long 8 p)) (eqb (byte 12 p) 0x80) b.1)
  where
    way : (t u : Bool) → inward (cond (t && u) In Out) ≡ true → cond u In Out ≡ In
    way t true h = refl
    way true false h = absurd (false≢true h)
    way false false h = absurd (false≢true h)

pub begun_was_made : BegunWasMade rules
begun_was_made w p room h o =
    let k = begun w p room o in
    let made = packet_made w p room h k.0 in
    let has = recognised_has (signature_of w.bytes) (long 8 p) (direction_of (command_of p)) (block_of p) (byte 14 p) k.1 in
    let n : length (block_of p) ≡ 16 = rw (length-drop, (valid_made p h (packet_passed w p room k.0).0).0) in
    let block : List ℕ = block_of p in
    let read = block_made block (signature_of w.bytes) (λ j. rw get_or-drop (h (15 + j))) n has.1 has.2 has.3 has.4 has.5 in
    let all : take (byte 14 p) block ≡ block = rw has.0 (take_all 16 block (omega arith)) in
    let second : drop (byte 14 p) block ≡ [] = rw has.0 (drop_of_length-le block {i = 16} (omega arith)) in (
      drive_of (byte 13 p),
      long 4 p,
      long 8 p,
      said p,
      λ j. bit j (byte 2 block),
      λ j. bit j (byte 3 block),
      byte 4 block,
      take 8 (drop 5 block),
      made.1,
      λ t. asked p (byte 2 block) (has.6 t),
      length-take-le 8 (drop 5 block) (rw (length-drop, n) (omega arith)),
      made.0.2 ∙ λ i. packet (drive_of (byte 13 p)) (long 4 p) (long 8 p) (said p) ((all ∙ read) i) (second i),
    )
