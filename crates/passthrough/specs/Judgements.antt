-- What a judgement of a block says, and what it leaves in the lent row.
use Rattle.std.specs.Prelude.{ℕ, Bool, cond, not, ◌&&◌, List, eqb, ltb, length, Result, Ok, Err}
use Rattle.rules.specs.declared.Direction.{Direction}
use Rattle.rules.specs.declared.Lun.{Lun}
use Rattle.rules.specs.Words.{laid}
use Rattle.rules.specs.Packets.{recognised}
use Rattle.rules.specs.Operations.{codes, operations_of}
use Rattle.passthrough.specs.declared.Unmade.{Unmade}
use Rattle.passthrough.specs.declared.Unmade.TheVariants.{Unrecognised, NoRoom}

-- how many operations were made, or why none was, and the row as it stands then
pub record Judged : Type 0 where
  pub says : Result ℕ Unmade
  pub row : List ℕ

abbrev pub judgement : Result ℕ Unmade → List ℕ → Judged
judgement j row = record { says = j; row = row }

-- by whether the block is recognised and whether the row is too short for what it makes
abbrev pub decided : Bool → Bool → List ℕ → List ℕ → Judged
decided known short made row =
    judgement (cond known (cond short (Err NoRoom) (Ok (length made))) (Err Unrecognised)) (cond (known && not short) (laid made row) row)

-- a block of sixteen bytes that the rules recognise makes the operations that the rules list
abbrev pub judged : Lun → ℕ → List ℕ → ℕ → ℕ → Direction → List ℕ → Judged
judged lun signature block size l d row =
    let made : List ℕ = codes (operations_of lun block l d) in
    decided (eqb (length block) 16 && recognised signature block size l d) (ltb (length row) (length made)) made row
