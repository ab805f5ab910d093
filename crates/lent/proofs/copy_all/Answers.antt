-- One byte more is pasted.
use Rattle.std.proofs.Common.{arith, add-one, length-set}
use Rattle.std.proofs.Math.Seq.{paste-suc}
use Rattle.lent.proofs.copy_all.Goals as goal

pub loop-i-preserved : goal.loop-i-preserved
loop-i-preserved c = (
  rw (c.loop-i.invariant.0, add-one) (paste-suc c.args.dst.now c.args.at c.args.src.now c.loop-i.i 0 (omega arith) (omega arith)),
  simp length-set c.loop-i.invariant.1,
)
