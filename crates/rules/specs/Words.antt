-- What every rule is written with: numbers from bytes, bits, an ordered list of checks, and rows that stand in a lent room.
use Rattle.std.specs.Prelude.{ℕ, zero, suc, ◌+◌, ◌*◌, ◌/◌, ◌%◌, ◌^◌, Bool, true, false, cond, List, [], ◌∷◌, ◌++◌, length, get_or, drop, eqb}

-- byte k of a row of bytes
abbrev pub byte : ℕ → List ℕ → ℕ
byte k s = get_or s k 0

-- the 16-bit and the 32-bit number that stand at k, low byte first
abbrev pub word : ℕ → List ℕ → ℕ
word k s = byte k s + 256 * byte (k + 1) s

abbrev pub long : ℕ → List ℕ → ℕ
long k s = word k s + 65536 * word (k + 2) s

-- the four bytes of a 32-bit number, low byte first
abbrev pub bytes4 : ℕ → List ℕ
bytes4 n = n % 256 ∷ n / 256 % 256 ∷ n / 65536 % 256 ∷ n / 16777216 % 256 ∷ []

-- bit k of a byte, as 0 or 1 and as a test
abbrev pub bit_of : ℕ → ℕ → ℕ
bit_of k b = b / 2 ^ k % 2

abbrev pub bit : ℕ → ℕ → Bool
bit k b = eqb (bit_of k b) 1

-- a test as 0 or 1
abbrev pub one : Bool → ℕ
one true = 1
one false = 0

-- an answer number, and the test that calls for it
infix 70 ◌if◌
pub record Check : Type 0 where
  pub number : ℕ
  pub applies : Bool

abbrev pub ◌if◌ : ℕ → Bool → Check
n if t = record { number = n; applies = t }

-- the number of the first check that applies, and 0, done, where none does
abbrev pub first : List Check → ℕ
first [] = 0
first (c ∷ cs) = cond c.applies c.number (first cs)

-- "On 0, reply or operations stand at the front of the lent room and the rest is unchanged."
abbrev pub laid : List ℕ → List ℕ → List ℕ
laid out room = out ++ drop (length out) room

-- a row with xs over it from `at` on, as far as it goes
unfoldable pub over : List ℕ → ℕ → List ℕ → List ℕ
over row zero [] = row
over [] zero (x ∷ xs) = []
over (r ∷ row) zero (x ∷ xs) = x ∷ over row zero xs
over [] (suc at) xs = []
over (r ∷ row) (suc at) xs = r ∷ over row at xs
