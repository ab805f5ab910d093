-- What the code goes by, byte for byte: what an address gets of the byte that stands there, and which bytes that changes.
use Rattle.std.specs.Prelude.{ℕ, not, List, filter, take, eqb}
use Rattle.std.specs.List.{enumerate_from}
use Rattle.mend.specs.Mend.{fixed_bytes, set_by, fixed, judged_by}

unfoldable pub wanted_at : List ℕ → ℕ → ℕ → ℕ
wanted_at image a b = judged_by (fixed image) a (set_by fixed_bytes a b)

-- of the shortest image, each behind its address
abbrev pub unlike : List ℕ → List (ℕ × ℕ)
unlike image = filter (λ p. not (eqb p.1 (wanted_at image p.0 p.1))) (enumerate_from 0 (take 0x89 image))
