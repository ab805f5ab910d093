-- The first of them stand there, and there is room for the others.
use Rattle.std.proofs.Common.{take, drop}
use Rattle.records.specs.Lines.{each}
use Rattle.records.specs.Puts.{Puts, Room}
use Rattle.records.proofs.lines.put_all.Given as goal

abbrev pub invariant-loop-one : goal.invariant-loop-one
invariant-loop-one g l = Puts l.initial.printer (each g.T.Hex.hex (take l.one-index l.all)) l.printer × Room l.printer (each g.T.Hex.hex (drop l.one-index l.all))
