-- The number, what was handed out and the end make the line.
-- Tried with `using` of `puts_line`: the proof did not close.
use Rattle.records.proofs.Putting.{puts_line}
use Rattle.records.proofs.lines.Printer.put_line.Goals as goal

pub returns : goal.returns
returns g c =
    puts_line g.T.Hex.hex c.args.answer c.args.out.now c.number_of.ensures c.unwrap_or-count.ensures c.put_number.ensures c.put_each.ensures c.put.ensures
