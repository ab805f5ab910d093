-- A packet hands out its operations.
-- Tried with `using` of `operations_do`, and `unfolding` of `event_of`: the proof did not close.
use Rattle.std.proofs.Common.{arith, ◌≡◌, length, refl}
use Rattle.rules.specs.Step.{Packet}
use Rattle.records.specs.Records.{event_of}
use Rattle.records.proofs.Printing.{operations_do}
use Rattle.records.proofs.events.Bench.packet.Goals as goal

pub returns : goal.returns
unfolding event_of
returns c =
    let before = c.args.self.now in
    let room : length before.operations ≡ 11 = omega arith in
    let left = c.packet-o.ensures before.bytes.now before.memory.now refl in
    rw (c.done.ensures.0, c.done.ensures.1)
    (rw room at (operations_do before (Packet c.args.payload.now) before.operations c.packet-o.result left refl refl (omega arith) c.packet-o.auto.operations {reply = before.reply}))
