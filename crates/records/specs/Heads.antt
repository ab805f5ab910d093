-- How a block begins, as the code finds it.
use Rattle.std.specs.Prelude.{ℕ, ◌≡◌, Bool, List}
use Rattle.records.specs.declared.reading.Head.{Head}
use Rattle.records.specs.declared.reading.Head.TheVariants.{Whole, Torn, Part}
use Rattle.records.specs.Kinds.{kind_number}
use Rattle.records.specs.Records as R
use Rattle.records.specs.Records.{kind_of, payload_of, unfinished, head_of}

-- which of the three it is
abbrev pub head : Head → R.Head
head (Whole r) = R.Whole
head Torn = R.Torn
head Part = R.Part

-- what was read of a whole record
abbrev pub Read : List ℕ → Head → Type 0
Read s (Whole r) = (kind_number r.kind ≡ kind_of s) × (r.payload.now ≡ payload_of s)
Read s Torn = Unit
Read s Part = Unit

abbrev pub Begins : Bool → List ℕ → Head → Type 0
Begins last s h = (head h ≡ head_of last s) × Read s h

-- a record is not all there
abbrev pub Cut : Bool → ℕ → Head → Type 0
Cut last n h = (head h ≡ unfinished last n) × ((s : List ℕ) → Read s h)
