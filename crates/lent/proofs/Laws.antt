-- A law that the crates above cite: a bool as a byte.
use mathlib.Core.Path.{◌≡◌, refl}
use mathlib.Core.Bool.{Bool, true, false}
use mir.Val.{bool_byte}
use Rattle.rules.specs.Words.{one}

-- what `as u8` makes of a bool
pub bool_byte_lem : (b : Bool) → bool_byte b ≡ one b
bool_byte_lem true = refl
bool_byte_lem false = refl
