-- Each outcome is what the rules promise: of a packet that is damaged, and one whose block is judged.
-- Tried with `unfolding` of the answer and the step: only that of damage closed, and at its limit.
use Rattle.packets.proofs.Commands.{thirty_one, block_part, undamaged, damaged, taken_so}
use Rattle.packets.proofs.awaited.Goals as goal

pub returns-in-Ok : goal.returns-in-Ok
returns-in-Ok c =
    let p = c.args.packet.now in
    let whole = undamaged _ p _ c.in-Ok.ensures in
    λ b a. rw c.taken.ensures
    (taken_so _ p b _ _ a _ whole (block_part p (thirty_one p whole.valid)) c.direction_of.ensures c.judge-judgement.ensures)

pub returns-in-Err : goal.returns-in-Err
returns-in-Err c = λ b a. damaged _ c.args.packet.now b _ _ a _ c.in-Err.ensures
