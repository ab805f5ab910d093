-- Each kind has its own event.
-- Tried with `using` of `none_does` and `reply_does`, and `unfolding` of `event_of`: the proof did not close.
use Rattle.std.proofs.Common.{arith, ◌≡◌, length, refl}
use Rattle.rules.specs.Step.{BusReset, StatusRequest}
use Rattle.records.specs.Records.{event_of}
use Rattle.records.proofs.Printing.{none_does, reply_does}
use Rattle.records.proofs.events.Bench.event.Goals as goal

pub returns-in-BusReset : goal.returns-in-BusReset
unfolding event_of
returns-in-BusReset c =
    let before = c.args.self.now in
    rw (c.in-BusReset.is, c.done.ensures.0, c.done.ensures.1)
    (none_does before (λ n. BusReset) c.bus_reset.result (c.bus_reset.ensures before.bridge before.bytes.now before.memory.now) refl refl)

pub returns-in-Status : goal.returns-in-Status
unfolding event_of
returns-in-Status c =
    let before = c.args.self.now in
    let room : length before.reply ≡ 4096 = omega arith in
    let left = c.status-o.ensures before.bytes.now before.memory.now in
    rw (c.in-Status.is, c.done-in-Status.ensures.0, c.done-in-Status.ensures.1)
    (rw room at (reply_does before StatusRequest before.reply c.status-o.result left refl refl (omega arith) c.status-o.auto.reply {operations = before.operations}))
