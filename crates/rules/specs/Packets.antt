-- Packets: the layout of command and status packets, validity, meaning, and when a block is recognised.
use Rattle.std.specs.Prelude.{ℕ, Bool, true, false, cond, not, ◌&&◌, ◌||◌, List, [], ◌∷◌, ◌++◌, length, drop, eqb, leb, ltb}
use Rattle.rules.specs.declared.Change.{Change}
use Rattle.rules.specs.declared.Change.TheVariants.{Begins, Finishes}
use Rattle.rules.specs.declared.CommandPacket.{CommandPacket}
use Rattle.rules.specs.declared.Direction.{Direction}
use Rattle.rules.specs.declared.Direction.TheVariants.{Out, In}
use Rattle.rules.specs.declared.Drives.{Drives}
use Rattle.rules.specs.declared.Lun.{Lun}
use Rattle.rules.specs.declared.Lun.TheVariants.{Lun0, Lun1}
use Rattle.rules.specs.Words.{byte, long, bytes4, bit}
use Rattle.rules.specs.Held.{drive_count}

-- what marks a kind of packet: its length, and its first four bytes as a number
pub record Layout : Type 0 where
  pub length : ℕ
  pub signature : ℕ

-- "A command packet is 31 bytes: 55 53 42 43, .." "A status packet is 13 bytes: 55 53 42 53, .."
abbrev pub command_layout : Layout
command_layout = record { length = 31; signature = long 0 (0x55 ∷ 0x53 ∷ 0x42 ∷ 0x43 ∷ []) }

abbrev pub status_layout : Layout
status_layout = record { length = 13; signature = long 0 (0x55 ∷ 0x53 ∷ 0x42 ∷ 0x53 ∷ []) }

-- "tag (4), length L (4), flags, LUN, block length, block (16); numbers low byte first"
abbrev pub command_of : List ℕ → CommandPacket
command_of p = record { tag = long 4 p; length = long 8 p; flags = byte 12 p; lun = byte 13 p; block_length = byte 14 p }

-- "The block is the part that starts at byte 15"
abbrev pub block_of : List ℕ → List ℕ
block_of p = drop 15 p

-- "Valid: 31 bytes and that signature."
unfoldable pub valid : List ℕ → Bool
valid p = eqb (length p) command_layout.length && eqb (long 0 p) command_layout.signature

-- "Meaningful: flags 0x00 or 0x80, .. block length 1 to 16"
unfoldable pub sensible : CommandPacket → Bool
sensible c = (eqb c.flags 0x00 || eqb c.flags 0x80) && leb 1 c.block_length && leb c.block_length 16

-- .. and of the LUN request 7: "LUN 0 and 1 are both meaningful when the dock says, at power-on, two drives", else 0 alone; "LUN bytes 2 and above, 0x10
-- and 0x11 included, stay answer 14". It is below the count, all of its byte.
unfoldable pub meaningful : Drives → CommandPacket → Bool
meaningful drives c = sensible c && ltb c.lun (drive_count drives)

-- the drive of a LUN byte that is meaningful
abbrev pub drive_of : ℕ → Lun
drive_of lun = cond (eqb lun 0) Lun0 Lun1

abbrev pub lun_of : CommandPacket → Lun
lun_of c = drive_of c.lun

-- "Flags 0x80 means in; direction is ignored if L = 0."
abbrev pub direction_of : CommandPacket → Direction
direction_of c = cond (ltb 0 c.length && eqb c.flags 0x80) In Out

abbrev pub inward : Direction → Bool
inward Out = false
inward In = true

-- "if action bit 0 is set, action bits 3 and 4 are clear, L = 8 and direction in"
abbrev pub readable : ℕ → ℕ → Direction → Bool
readable action l d = not (bit 3 action) && not (bit 4 action) && eqb l 8 && inward d

-- "The block is recognised when its length is 16, byte 0 equals configuration byte 0x04, byte 1 is 0x24, bytes 13 to 15 are 0, and .."
unfoldable pub recognised : ℕ → List ℕ → ℕ → ℕ → Direction → Bool
recognised signature block size l d =
    eqb size 16
    && eqb (byte 0 block) signature
    && eqb (byte 1 block) 0x24
    && eqb (byte 13 block) 0 && eqb (byte 14 block) 0 && eqb (byte 15 block) 0
    && (not (bit 0 (byte 2 block)) || readable (byte 2 block) l d)

-- "configuration byte 0x04", the command signature
abbrev pub signature_of : List ℕ → ℕ
signature_of bytes = byte 0x04 bytes

abbrev pub recognises : ℕ → List ℕ → Bool
recognises signature p = recognised signature (block_of p) (command_of p).block_length (command_of p).length (direction_of (command_of p))

-- "The phase becomes status waiting with status 1 and residue L, and the pipe of the direction is halted if L > 0."
-- "A recognised block with room enough makes the phase busy." Request 7: "The busy record keeps the LUN."
abbrev pub begins : Lun → CommandPacket → Change
begins lun c = Begins (direction_of c) lun c.tag c.length

abbrev pub command_taken : Bool → CommandPacket → Change
command_taken true c = begins (lun_of c) c
command_taken false c = Finishes (direction_of c) (ltb 0 c.length) 1 c.tag c.length

-- "55 53 42 53, tag, residue (4), status"
abbrev pub status_packet : ℕ → ℕ → ℕ → List ℕ
status_packet tag residue status = bytes4 status_layout.signature ++ bytes4 tag ++ bytes4 residue ++ status ∷ []
