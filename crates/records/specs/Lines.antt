-- Lines: "the number, then reply bytes or operations in upper-case hex, separated by spaces".
use Rattle.std.specs.Prelude.{ℕ, ◌+◌, ◌/◌, ◌%◌, cond, List, [], ◌∷◌, ◌++◌, ltb}
use Rattle.std.specs.List.{flat_map}
use Rattle.rules.specs.Held.{World}
use Rattle.rules.specs.Step.{Event, BusReset, Control, Packet, Report, StatusRequest, Burst, EndMark, Outcome}
use Rattle.rules.specs.Promise.{handed_out}

-- a digit: 0 to 9, then A on
abbrev pub digit : ℕ → ℕ
digit d = cond (ltb d 10) (0x30 + d) (0x37 + d)

abbrev pub number : ℕ → List ℕ
number n = cond (ltb n 10) (digit n ∷ []) (digit (n / 10) ∷ digit (n % 10) ∷ [])

abbrev pub two : ℕ → List ℕ
two b = digit (b / 16) ∷ digit (b % 16) ∷ []

-- a space, and a byte or a 16-bit number
abbrev pub hex_byte : ℕ → List ℕ
hex_byte b = 0x20 ∷ two b

abbrev pub hex_word : ℕ → List ℕ
hex_word n = 0x20 ∷ two (n / 256) ++ two (n % 256)

abbrev pub each : {A : Type 0} → (A → List ℕ) → List A → List ℕ
each f xs = flat_map f xs

abbrev pub hex_of : Event → ℕ → List ℕ
hex_of BusReset = hex_byte
hex_of (Control setup host room) = hex_byte
hex_of (Packet p room) = hex_word
hex_of (Report direction failed amount) = hex_byte
hex_of (StatusRequest room) = hex_byte
hex_of (Burst bytes) = hex_byte
hex_of (EndMark room) = hex_word

abbrev pub line : Event → Outcome World → List ℕ
line e o = number o.answer ++ each (hex_of e) (handed_out e o) ++ 0x0A ∷ []

-- "torn"
abbrev pub torn_line : List ℕ
torn_line = 0x74 ∷ 0x6F ∷ 0x72 ∷ 0x6E ∷ 0x0A ∷ []

-- the longest line: two digits, 4,096 bytes, and the line's end
abbrev pub line_most : ℕ
line_most = 12291
