-- A packet is refused where none is awaited.
-- Tried with `using` of `unawaited_told`: the proof did not close.
use Rattle.thrandue.proofs.Laws.{unawaited_told}
use Rattle.thrandue.proofs.commands.thrandue_packet.Goals as goal

pub returns-in-Err : goal.returns-in-Err
returns-in-Err c =
    unawaited_told c.args.image.now c.load.ensures c.in-Err.refusal c.in-Err.ensures c.args.packet.now c.args.operations.now c.refuse.ensures
