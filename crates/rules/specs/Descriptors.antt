-- Descriptors from the memory part, request 1 of document 02: where each stands, how long it is, what refuses it, and what is replied.
use Rattle.std.specs.Prelude.{ℕ, ◌+◌, ◌*◌, ◌/◌, ◌%◌, min, Bool, cond, not, ◌&&◌, ◌||◌, List, [], ◌∷◌, length, take, drop, eqb, ltb}
use Rattle.rules.specs.declared.addresses.Address.{Address}
use Rattle.rules.specs.declared.addresses.StringIndex.{StringIndex}
use Rattle.rules.specs.Words.{Check, ◌if◌, byte, word}

-- "type in the high byte of wValue"; its low byte is the index
abbrev pub type_in : ℕ → ℕ
type_in value = value / 256

abbrev pub index_in : ℕ → ℕ
index_in value = value % 256

-- ---- "A string index and a byte address must never stand in for each other."

abbrev pub index : ℕ → StringIndex
index n = record { 0 = n }

abbrev pub at : ℕ → Address
at n = record { 0 = n }

-- "strings at twice their index": the one way from a string index to a byte address
abbrev pub address_of : StringIndex → Address
address_of i = at (2 * i.0)

abbrev pub number_of : Address → ℕ
number_of a = a.0

-- "string index 0 uses configuration byte 0x0E as its index"
abbrev pub first_string : List ℕ → StringIndex
first_string bytes = index (byte 0x0E bytes)

abbrev pub string_of : StringIndex → ℕ → StringIndex
string_of first i = cond (eqb i 0) first (index i)

-- ---- where a descriptor stands, and how long it is

-- "device at 0x10, qualifier at 0x22, configuration at 0x2C when bus powered and 0x80 otherwise, strings at twice their index"
unfoldable pub place_of : Bool → StringIndex → ℕ → ℕ → Address
place_of powered first type i =
    cond (eqb type 1) (at 0x10)
    (cond (eqb type 6) (at 0x22)
    (cond (eqb type 2) (cond powered (at 0x2C) (at 0x80))
    (address_of (string_of first i))))

-- "the head (4 bytes for type 2, else 2)"
abbrev pub head_of : ℕ → ℕ
head_of type = cond (eqb type 2) 4 2

-- "the descriptor's length (total length for type 2)": byte 0 of its head, or bytes 2 and 3
unfoldable pub length_at : ℕ → List ℕ → ℕ → ℕ
length_at type memory start = cond (eqb type 2) (word (start + 2) memory) (byte start memory)

-- ---- the checks, of a memory that is all fitted

-- "answers types 1, 2, 3 and 6", and no "index above 0 for types 1, 2 and 6"
unfoldable pub answered : ℕ → ℕ → Bool
answered type i = eqb type 3 || (eqb i 0 && (eqb type 1 || eqb type 2 || eqb type 6))

-- "18 another type, or an index above 0 for types 1, 2 and 6; 19 the head .. runs past M; 18 the type byte in memory differs or the length is below 2
-- (below 4 for type 2's total); 19 the whole runs past M"
abbrev pub find_checks : Bool → ℕ → ℕ → ℕ → List ℕ → List Check
find_checks asks type i start memory =
    18 if (asks && not (answered type i)) ∷
    19 if (asks && ltb (length memory) (start + head_of type)) ∷
    18 if (asks && (not (eqb (byte (start + 1) memory) type) || ltb (length_at type memory start) (head_of type))) ∷
    19 if (asks && ltb (length memory) (start + length_at type memory start)) ∷
    []

-- ---- by wValue

abbrev pub place_in : Bool → StringIndex → ℕ → Address
place_in powered first value = place_of powered first (type_in value) (index_in value)

abbrev pub descriptor_checks : Bool → Bool → StringIndex → List ℕ → ℕ → List Check
descriptor_checks asks powered first memory value =
    find_checks asks (type_in value) (index_in value) (number_of (place_in powered first value)) memory

abbrev pub length_in : Bool → StringIndex → List ℕ → ℕ → ℕ
length_in powered first memory value = length_at (type_in value) memory (number_of (place_in powered first value))

-- "The reply is a part of the lent memory itself, not a copy: the descriptor's length .., cut to wLength."
abbrev pub told : Bool → StringIndex → List ℕ → ℕ → ℕ → List ℕ
told powered first memory value n = take (min (length_in powered first memory value) n) (drop (number_of (place_in powered first value)) memory)
