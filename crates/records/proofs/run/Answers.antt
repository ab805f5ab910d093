-- At the end nothing is left to take.
-- Tried with `using` of `ends`: the proof did not close.
use Rattle.std.proofs.Common.{rules}
use Rattle.records.proofs.Running.{ends}
use Rattle.records.proofs.run.Goals as goal
use Rattle.records.proofs.run.Goals.{in-Torn, in-Rests}

pub returns-clause-output_after : goal.returns-clause-output_after
returns-clause-output_after c =
    let so = c.loop-n.invariant in
    let turn = c.turn.ensures in
    let lent = c.new-bench.ensures.as_lent in
    let blank = c.new-printer.ensures.blank in
    elim c.match-turn.branch [
      | in-Torn w ↦ ends c.args.last c.args.input.now c.new-bench.result c.new-printer.result so turn (rw w.in-Torn.is) (λ r. rw (w.in-Torn.is, w.torn-is)) lent blank.0 blank.1 c.written.ensures (search rules) (search rules) (search rules)
      | in-Rests w ↦ ends c.args.last c.args.input.now c.new-bench.result c.new-printer.result so turn (rw w.in-Rests.is) (λ r. rw (w.in-Rests.is, w.torn-is)) lent blank.0 blank.1 c.written.ensures (search rules) (search rules) (search rules)
    ]
