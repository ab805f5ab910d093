-- A control request hands out its reply, wherever that stands.
-- Tried with `using` of `control_does`: the proof did not close.
use Rattle.std.proofs.Common.{arith, ◌≡◌, length, take, drop}
use Rattle.records.proofs.Printing.{control_does, control_event}
use Rattle.records.proofs.events.Bench.control.Goals as goal

pub returns : goal.returns
returns c =
    let before = c.args.self.now in
    let p = c.args.payload.now in
    let room : length before.reply ≡ 4096 = omega arith in
    let left = rw (c.split_at.ensures.front, c.split_at.ensures.back) at c.control-c.ensures in
    rw (c.done.ensures.0, c.done.ensures.1)
    (rw (room, control_event p c.min.ensures) at
    (control_does before (take c.min.result p) (drop c.min.result p) before.reply c.control-c.result.outcome c.control-c.result.stands left c.control-c.auto.reply room {operations = before.operations}))
