-- A report hands out nothing.
-- Tried with `using` of `none_does`, and `unfolding` of `event_of`: the proof did not close.
use Rattle.std.proofs.Common.{refl}
use Rattle.rules.specs.Words.{byte, long}
use Rattle.rules.specs.Step.{Report}
use Rattle.records.specs.Records.{event_of}
use Rattle.records.proofs.Printing.{none_does}
use Rattle.records.proofs.events.Bench.report.Goals as goal

pub returns : goal.returns
unfolding event_of
returns c =
    let before = c.args.self.now in
    let p = c.args.payload.now in
    let left = rw c.long-amount.ensures at (c.report-o.ensures before.bytes.now before.memory.now) in
    rw (c.done.ensures.0, c.done.ensures.1) (none_does before (λ n. Report (byte 0 p) (byte 1 p) (long 2 p)) c.report-o.result left refl refl)
