-- Demand 2, operations: what each action bit, the direction, L and the LUN add, move or change in the list, the bits of its select, and how long it is.
use Rattle.std.specs.Prelude.{◌≡◌, true, false, cond, not, List, [], ◌∷◌, ◌++◌, ℕ, ◌+◌, ◌-◌, ◌*◌, ◌<◌, ◌≤◌, length, ltb}
use Rattle.rules.specs.declared.Direction.{Direction}
use Rattle.rules.specs.declared.Direction.TheVariants.{In, Out}
use Rattle.rules.specs.declared.Lun.{Lun}
use Rattle.rules.specs.declared.Lun.TheVariants.{Lun0, Lun1}
use Rattle.rules.specs.Words.{byte, bit, bit_of, one}
use Rattle.rules.specs.Held.{lun_number}
use Rattle.rules.specs.Packets.{command_of, block_of, direction_of, lun_of, signature_of, recognises}
use Rattle.rules.specs.Operations.{Operation, Poll, Select, Write, Read, Transfer, codes, action, selected, content, only, operations_of}
use Rattle.rules.specs.Step.{Packet, Machine}

-- "A command block yields exactly its listed register operations."
abbrev pub ExactOperations : Machine → Type 0
ExactOperations m =
    (s : m.State) (p : List ℕ) (room : ℕ) → (m.takes s (Packet p room)).answer ≡ 0
    → (m.takes s (Packet p room)).operations
    ≡ cond (recognises (signature_of (m.shows s).bytes) p)
    (codes (operations_of (lun_of (command_of p)) (block_of p) (command_of p).length (direction_of (command_of p)))) []

-- two lists that are the same but for one place, where the first has x and the second y
pub record Differ (before after x y : List Operation) : Type 0 where
  pub front : List Operation
  pub back : List Operation
  pub without : before ≡ front ++ x ++ back
  pub with : after ≡ front ++ y ++ back

-- block' is block with action bit k set
pub record Sets (k : ℕ) (block block' : List ℕ) : Type 0 where
  pub elsewhere : (j : ℕ) → (j ≡ 2 → ⊥) → byte j block' ≡ byte j block
  pub others : (j : ℕ) → j < 8 → (j ≡ k → ⊥) → bit_of j (action block') ≡ bit_of j (action block)
  pub clear : bit_of k (action block) ≡ 0
  pub set : bit_of k (action block') ≡ 1

-- the lists of a LUN, a block, L and the direction
abbrev pub Lists : Type 0
Lists = Lun → List ℕ → ℕ → Direction → List Operation

-- a block with action bit 0 clear, or set
abbrev pub Writing : List ℕ → Type 0
Writing block = bit_of 0 (action block) ≡ 0

abbrev pub Reading : List ℕ → Type 0
Reading block = bit_of 0 (action block) ≡ 1

-- "Action bit 0 clear: poll; writes of selected 0 to 5, rising; select; write 7 if selected; transfer if L > 0; read 7." (Action bit 1 is told of
-- below.) "Action bit 0 set: poll, select, reads of selected 0 to 7, rising."
abbrev pub Listed : Lists → Type 0
Listed ops =
    (lun : Lun) (block : List ℕ) (l : ℕ) (d : Direction)
    → (let polls = only (not (bit 2 (byte 2 block))) Poll in
    let write : ℕ → List Operation = λ r. only (bit r (byte 3 block)) (Write r (byte (5 + r) block)) in
    let read : ℕ → List Operation = λ r. only (bit r (byte 3 block)) (Read r) in
    (s : ℕ) × (t : ℕ)
    × (Reading block → ops lun block l d ≡ polls ++ Select s ∷ [] ++ read 0 ++ read 1 ++ read 2 ++ read 3 ++ read 4 ++ read 5 ++ read 6 ++ read 7)
    × (Writing block → bit_of 1 (byte 2 block) ≡ 0
    → ops lun block l d
    ≡ polls ++ write 0 ++ write 1 ++ write 2 ++ write 3 ++ write 4 ++ write 5 ++ Select s ∷ [] ++ write 7 ++ only (ltb 0 l) (Transfer t) ++ Read 7 ∷ []))

-- "Poll, first, unless action bit 2 is set."
abbrev pub PollBit : Lists → Type 0
PollBit ops = (lun : Lun) (block block' : List ℕ) (l : ℕ) (d : Direction) → Sets 2 block block' → ops lun block l d ≡ Poll ∷ ops lun block' l d

-- "With action bit 1 set, the select follows the place of write 7 instead." In a read block the bit does nothing.
abbrev pub SelectLast : Lists → Type 0
SelectLast ops =
    (lun : Lun) (block block' : List ℕ) (l : ℕ) (d : Direction) → Sets 1 block block'
    → (Reading block → ops lun block l d ≡ ops lun block' l d)
    × (Writing block → (b : ℕ) × (let seven = only (selected block 7) (Write 7 (content block 7)) in
    Differ (ops lun block l d) (ops lun block' l d) (Select b ∷ seven) (seven ++ Select b ∷ [])))

-- the operand of each select in a list
abbrev pub selects_in : List Operation → List ℕ
selects_in [] = []
selects_in (Poll ∷ os) = selects_in os
selects_in (Select operand ∷ os) = operand ∷ selects_in os
selects_in (Write register content ∷ os) = selects_in os
selects_in (Read register ∷ os) = selects_in os
selects_in (Transfer operand ∷ os) = selects_in os

-- A block has one select, and of its bits request 4 says: "Drives built to the early ATA standards expect bits 7 and 5 of the device register to be
-- one. When register 6 isn't selected .. It should be 0xA0 or 0xB0. When register 6 is selected the caller's byte stands, with only bit 4 replaced as
-- before." And request 7: "where action bit 5 is clear the select's bit 4 is the LUN instead of 0".
abbrev pub SelectBits : Lists → Type 0
SelectBits ops =
    (lun : Lun) (block : List ℕ) (l : ℕ) (d : Direction)
    → (s : ℕ) × (selects_in (ops lun block l d) ≡ s ∷ [])
    × (selected block 6 ≡ false → (bit_of 7 s ≡ 1) × (bit_of 5 s ≡ 1) × (s ≡ 0xA0 + 16 * bit_of 4 s))
    × (selected block 6 ≡ true → (k : ℕ) → (k ≡ 4 → ⊥) → bit_of k s ≡ bit_of k (byte 11 block))
    × (bit_of 4 s ≡ cond (bit 5 (action block)) (bit_of 4 (byte 11 block)) (lun_number lun))

-- the byte of a select, but for its bit 4
abbrev pub device : List ℕ → ℕ
device block = cond (selected block 6) (byte 11 block - 16 * bit_of 4 (byte 11 block)) 0xA0

-- "in it bit 4 becomes bit 4 of byte 11 if action bit 5 is set, else" the LUN
abbrev pub SelectBit : Lists → Type 0
SelectBit ops =
    (lun : Lun) (block block' : List ℕ) (l : ℕ) (d : Direction) → Sets 5 block block'
    → Differ (ops lun block l d) (ops lun block' l d)
    (Select (device block + 16 * lun_number lun) ∷ []) (Select (device block + 16 * bit_of 4 (byte 11 block)) ∷ [])

-- What the LUN does: where action bit 5 is clear it is bit 4 of the select, and nothing else; where it is set, nothing at all.
abbrev pub LunBit : Lists → Type 0
LunBit ops =
    (block : List ℕ) (l : ℕ) (d : Direction)
    → (bit_of 5 (action block) ≡ 1 → ops Lun0 block l d ≡ ops Lun1 block l d)
    × (bit_of 5 (action block) ≡ 0 → Differ (ops Lun0 block l d) (ops Lun1 block l d) (Select (device block) ∷ []) (Select (device block + 16) ∷ []))

-- "operand is .. plus 2, 4, 8, 16 for action bits 6, 4, 3, 7": bit k adds n to the operand and changes nothing else
abbrev pub Weighs : Lists → ℕ → ℕ → Type 0
Weighs ops k n =
    (lun : Lun) (block block' : List ℕ) (l : ℕ) (d : Direction) → Sets k block block'
    → (Reading block → ops lun block l d ≡ ops lun block' l d)
    × (Writing block → (t : ℕ) × Differ (ops lun block l d) (ops lun block' l d) (only (ltb 0 l) (Transfer t)) (only (ltb 0 l) (Transfer (t + n))))

abbrev pub TransferBits : Lists → Type 0
TransferBits ops = Weighs ops 6 2 × Weighs ops 4 4 × Weighs ops 3 8 × Weighs ops 7 16

-- "operand is 1 if in": the operand of a block that sets none of the four bits
abbrev pub TransferWay : Lists → Type 0
TransferWay ops =
    (lun : Lun) (block : List ℕ) (l : ℕ) → Writing block → 0 < l
    → (t : ℕ) × (t ≡ 2 * bit_of 6 (action block) + 4 * bit_of 4 (action block) + 8 * bit_of 3 (action block) + 16 * bit_of 7 (action block))
    × Differ (ops lun block l Out) (ops lun block l In) (Transfer t ∷ []) (Transfer (t + 1) ∷ [])

-- "transfer if L > 0"
abbrev pub TransferNeedsLength : Lists → Type 0
TransferNeedsLength ops =
    (lun : Lun) (block : List ℕ) (l : ℕ) (d : Direction) → Writing block → 0 < l
    → (t : ℕ) × Differ (ops lun block 0 d) (ops lun block l d) [] (Transfer t ∷ [])

-- how many of the registers are selected
abbrev pub tally : List ℕ → List ℕ → ℕ
tally block [] = 0
tally block (r ∷ rs) = bit_of r (byte 3 block) + tally block rs

-- "At most 11 operations", 10 for a read block; and the number of them: the poll, the select, a read 7 or none, each register, the transfer
abbrev pub Counted : Lists → Type 0
Counted ops =
    (lun : Lun) (block : List ℕ) (l : ℕ) (d : Direction)
    → (Reading block
    → (length (ops lun block l d) ≡ one (not (bit 2 (action block))) + 1 + tally block (0 ∷ 1 ∷ 2 ∷ 3 ∷ 4 ∷ 5 ∷ 6 ∷ 7 ∷ []))
    × (length (ops lun block l d) ≤ 10))
    × (Writing block
    → (length (ops lun block l d) ≡ one (not (bit 2 (action block))) + 2 + tally block (0 ∷ 1 ∷ 2 ∷ 3 ∷ 4 ∷ 5 ∷ 7 ∷ []) + one (ltb 0 l))
    × (length (ops lun block l d) ≤ 11))
