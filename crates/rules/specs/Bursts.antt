-- Request 3: what is held of a command packet that comes "in bursts of 0 to 31 or more bytes, then an end mark".
use Rattle.std.specs.Prelude.{ℕ, ◌+◌, cond, List, length, replicate, ltb}
use Rattle.rules.specs.Packets.{command_layout}

-- "bytes past 31 are counted as too long and needn't be kept": one byte too many stands for all that is too long
abbrev pub too_long : List ℕ
too_long = replicate (command_layout.length + 1) 0

-- what is held of the bytes that came
unfoldable pub kept : List ℕ → List ℕ
kept s = cond (ltb command_layout.length (length s)) too_long s
