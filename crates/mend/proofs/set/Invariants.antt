-- What lies before an address is mended and listed, and what lies behind it is as it was.
use Rattle.mend.proofs.Setting.{So}
use Rattle.mend.proofs.set.Given as goal

abbrev pub invariant-loop-at : goal.invariant-loop-at
invariant-loop-at l = So l.initial.image l.initial.list l.image l.list l.n l.at
