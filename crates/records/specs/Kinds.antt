-- The kinds of record, by their numbers.
use Rattle.std.specs.Prelude.{ℕ}
use Rattle.records.specs.declared.reading.Kind.{Kind}
use Rattle.records.specs.declared.reading.Kind.TheVariants.{BusReset, Control, Packet, Report, Status}

abbrev pub kind_number : Kind → ℕ
kind_number BusReset = 1
kind_number Control = 2
kind_number Packet = 3
kind_number Report = 4
kind_number Status = 5
