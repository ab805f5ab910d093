-- One byte more is set and listed, or is as it should be.
-- Tried with `using` of `skips`, `has_room`, `takes` and `ended`: the proof did not close.
use Rattle.std.proofs.Common.{arith}
use Rattle.mend.proofs.Setting.{skips, has_room, takes, ended}
use Rattle.mend.proofs.set.Goals.{then-new-old, else-new-old}
use Rattle.mend.proofs.set.Goals as goal

pub bounds-list-n : goal.bounds-list-n
bounds-list-n c = omega (arith, has_room c.loop-at.invariant (omega arith) c.wanted-new.ensures c.if-new-old.true c.requires.1)

pub loop-at-preserved : goal.loop-at-preserved
loop-at-preserved c =
    elim c.if-new-old.branch [
      | then-new-old w ↦
          rw (w.image-is, w.list-is, w.n-is)
          (takes c.loop-at.invariant (omega arith) c.wanted-new.ensures w.if-new-old.true c.requires.1 w.from.ensures)
      | else-new-old w ↦
          rw (w.image-is, w.list-is, w.n-is) (skips c.loop-at.invariant (omega arith) c.wanted-new.ensures w.if-new-old.false)
    ]

pub returns : goal.returns
returns c = ended c.loop-at.invariant c.requires.0 (omega arith)
