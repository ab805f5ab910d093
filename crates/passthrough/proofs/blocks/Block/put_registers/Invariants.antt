-- The registers so far stand behind what stood.
use Rattle.std.proofs.Common.{◌≡◌}
use Rattle.passthrough.specs.Blocks.{accesses}
use Rattle.passthrough.specs.Rows.{after, rising}
use Rattle.passthrough.proofs.blocks.Block.put_registers.Given as goal

abbrev pub invariant-loop-number : goal.invariant-loop-number
invariant-loop-number l = l.row ≡ after (accesses l.access l.self.bytes.now (rising l.number)) l.initial.row
