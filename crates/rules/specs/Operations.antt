-- Register operations: what a recognised block makes of its sixteen bytes, L, the direction and the LUN.
use Rattle.std.specs.Prelude.{ℕ, ◌+◌, ◌-◌, ◌*◌, Bool, true, false, cond, not, List, [], ◌∷◌, ◌++◌, ltb}
use Rattle.rules.specs.declared.Direction.{Direction}
use Rattle.rules.specs.declared.Lun.{Lun}
use Rattle.rules.specs.Words.{byte, bit, bit_of, one}
use Rattle.rules.specs.Held.{lun_number}
use Rattle.rules.specs.Packets.{inward}

pub data Operation : Type 0 where
  Poll : Operation
  Select : (operand : ℕ) → Operation
  Write : (register content : ℕ) → Operation
  Read : (register : ℕ) → Operation
  Transfer : (operand : ℕ) → Operation

-- "16-bit numbers, high byte kind, low byte the operand"
abbrev pub coded : ℕ → ℕ → ℕ
coded kind operand = 0x100 * kind + operand

abbrev pub code : Operation → ℕ
code Poll = 0x0100
code (Select operand) = coded 0x02 operand
code (Write register content) = coded (0x10 + register) content
code (Read register) = coded (0x20 + register) 0
code (Transfer operand) = coded 0x03 operand

abbrev pub codes : List Operation → List ℕ
codes [] = []
codes (o ∷ os) = code o ∷ codes os

-- "Byte 2 is the action, byte 3 selects registers 0 to 7, bytes 5 to 12 are their contents."
abbrev pub action : List ℕ → ℕ
action block = byte 2 block

abbrev pub selected : List ℕ → ℕ → Bool
selected block register = bit register (byte 3 block)

abbrev pub content : List ℕ → ℕ → ℕ
content block register = byte (5 + register) block

abbrev pub only : Bool → Operation → List Operation
only true o = o ∷ []
only false o = []

-- "Poll, first, unless action bit 2 is set."
abbrev pub polls : List ℕ → List Operation
polls block = only (not (bit 2 (action block))) Poll

-- "Select, 0x02 and a byte: byte 11 if register 6 is selected, else 0; in it bit 4 becomes bit 4 of byte 11 if action bit 5 is set, else 0"
abbrev pub with_bit4 : ℕ → ℕ → ℕ
with_bit4 new b = b - 16 * bit_of 4 b + 16 * new

-- Request 4: "When register 6 isn't selected we send 0x00 or 0x10. It should be 0xA0 or 0xB0." Request 7: "where action bit 5 is clear the select's bit 4
-- is the LUN instead of 0". Of the LUN, the action, byte 3 and byte 11.
abbrev pub device_byte : Lun → ℕ → ℕ → ℕ → ℕ
device_byte lun act registers device = with_bit4 (cond (bit 5 act) (bit_of 4 device) (lun_number lun)) (cond (bit 6 registers) device 0xA0)

abbrev pub select_byte : Lun → List ℕ → ℕ
select_byte lun block = device_byte lun (action block) (byte 3 block) (byte 11 block)

abbrev pub writes : List ℕ → List ℕ → List Operation
writes block [] = []
writes block (r ∷ rs) = only (selected block r) (Write r (content block r)) ++ writes block rs

abbrev pub reads : List ℕ → List ℕ → List Operation
reads block [] = []
reads block (r ∷ rs) = only (selected block r) (Read r) ++ reads block rs

-- "operand is 1 if in, plus 2, 4, 8, 16 for action bits 6, 4, 3, 7"
abbrev pub transfer_byte : ℕ → Direction → ℕ
transfer_byte a d = one (inward d) + 2 * bit_of 6 a + 4 * bit_of 4 a + 8 * bit_of 3 a + 16 * bit_of 7 a

-- "transfer if L > 0"
abbrev pub transfers : List ℕ → ℕ → Direction → List Operation
transfers block l d = only (ltb 0 l) (Transfer (transfer_byte (action block) d))

-- ".. select; write 7 if selected; .. With action bit 1 set, the select follows the place of write 7 instead."
abbrev pub commanded : ℕ → List ℕ → List Operation
commanded select block =
    cond (bit 1 (action block)) (writes block (7 ∷ []) ++ Select select ∷ []) (Select select ∷ writes block (7 ∷ []))

-- "poll; writes of selected 0 to 5, rising; select; write 7 if selected; transfer if L > 0; read 7."
abbrev pub write_block : ℕ → List ℕ → ℕ → Direction → List Operation
write_block select block l d =
    polls block
    ++ writes block (0 ∷ 1 ∷ 2 ∷ 3 ∷ 4 ∷ 5 ∷ [])
    ++ commanded select block
    ++ transfers block l d
    ++ Read 7 ∷ []

-- "poll, select, reads of selected 0 to 7, rising"
abbrev pub read_block : ℕ → List ℕ → List Operation
read_block select block = polls block ++ Select select ∷ [] ++ reads block (0 ∷ 1 ∷ 2 ∷ 3 ∷ 4 ∷ 5 ∷ 6 ∷ 7 ∷ [])

-- "Action bit 0 clear: .. Action bit 0 set: .."
unfoldable pub operations_of : Lun → List ℕ → ℕ → Direction → List Operation
operations_of lun block l d =
    let select : ℕ = select_byte lun block in
    cond (bit 0 (action block)) (read_block select block) (write_block select block l d)
