-- A status packet's numbers, stored in a room one behind the other, and its status stand there as a whole.
use mathlib.Core.Path.{◌≡◌}
use mathlib.Core.List.{List}
use Prim.Native.Nat.{ℕ, ◌≤◌}
use native.Mathlib.Omega.{arith}
use lib.ListN.{length, set}
use Rattle.std.proofs.lemmas.List.Edits.{sets, sets-eq}
use Rattle.rules.specs.Words.{bytes4, laid}
use Rattle.rules.specs.Packets.{status_layout, status_packet}

pub packet_stored : (tag residue status : ℕ) (room : List ℕ) → 13 ≤ length room
    → set (sets (sets (sets room 0 (bytes4 status_layout.signature)) 4 (bytes4 tag)) 8 (bytes4 residue)) 12 status
    ≡ laid (status_packet tag residue status) room
packet_stored tag residue status room h = sets-eq (status_packet tag residue status) room 0 (omega arith)
