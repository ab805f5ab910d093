-- `copy_all` pastes: after i turns the first i bytes stand in their place.
use Rattle.std.proofs.Common.{◌≡◌, length}
use Rattle.std.proofs.Math.Seq.{paste}
use Rattle.lent.proofs.copy_all.Given as goal

abbrev pub invariant-loop-i : goal.invariant-loop-i
invariant-loop-i l = (l.dst ≡ paste l.initial.dst l.at l.src l.i) × (length l.dst ≡ length l.initial.dst)
