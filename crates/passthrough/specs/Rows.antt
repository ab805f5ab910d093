-- A row of operations that grows at the front of the lent room, and the operations as the rules have them.
use Rattle.std.specs.Prelude.{ℕ, zero, suc, ◌+◌, ◌≤◌, List, [], ◌∷◌, ◌++◌, length, Option, Some, None}
use Rattle.std.proofs.lemmas.List.Edits.{sets}
use Rattle.rules.specs.Operations as rules
use Rattle.rules.specs.Operations.{codes}
use Rattle.passthrough.specs.declared.operations.Operation.{Operation}
use Rattle.passthrough.specs.declared.operations.Operation.TheVariants.{Poll, Select, Transfer, Write, Read}
use Rattle.passthrough.specs.declared.rows.Row.{Row}

-- an operation, and the list of one or of none
abbrev pub seen : Operation → rules.Operation
seen Poll = rules.Poll
seen (Select operand) = rules.Select operand
seen (Transfer operand) = rules.Transfer operand
seen (Write register content) = rules.Write register.number content
seen (Read register) = rules.Read register.number

abbrev pub listed : Option Operation → List rules.Operation
listed None = []
listed (Some o) = seen o ∷ []

-- the row with the operations os behind what stood
unfoldable pub after : List rules.Operation → Row → Row
after os row = record row { room = record row.room { now = sets row.room.now row.at (codes os) }; at = row.at + length os }

-- there is room for the operations os
abbrev pub Fits : List rules.Operation → Row → Type 0
Fits os row = row.at + length os ≤ length row.room.now

-- the registers below n
abbrev pub rising : ℕ → List ℕ
rising zero = []
rising (suc n) = rising n ++ n ∷ []
