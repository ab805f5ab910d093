-- There is room for one register more.
-- Tried with `using` of `rows`, `accesses_next` and `accesses_fit`: the proof did not close.
use Rattle.std.proofs.Common.{arith}
use Rattle.passthrough.proofs.Growing.{room_after, at_after, accesses_fit}
use Rattle.passthrough.proofs.blocks.Block.put_registers.Goals as goal

pub extend-requires : goal.extend-requires
extend-requires c =
    rw (c.accessed.ensures, c.loop-number.invariant, room_after, at_after)
    (omega (arith, c.requires.room, accesses_fit c.args.access c.args.self.now.bytes.now c.loop-number.number c.args.n c.loop-number-test.true))
