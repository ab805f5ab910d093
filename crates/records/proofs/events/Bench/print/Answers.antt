-- A reply that stands in the memory fits a line too.
-- Tried with `using` of `few`: the proof did not close.
use Rattle.std.proofs.Common.{rules}
use Rattle.records.proofs.Putting.{reply_fits}
use Rattle.records.proofs.Printing.{few}
use Rattle.records.proofs.events.Bench.print.Goals as goal

pub put_line-requires-in-Reply-InMemory-clause-room : goal.put_line-requires-in-Reply-InMemory-clause-room
put_line-requires-in-Reply-InMemory-clause-room c =
    reply_fits c.args.said.answer c.find-part.result.now c.args.printer.now (search rules) (few _ _ c.args.said.handed c.requires.there) c.requires.room
