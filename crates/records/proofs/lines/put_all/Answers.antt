-- One of them more stands there.
-- Tried with `using` of `puts_more` and `room_more`: the proof did not close.
use Rattle.std.proofs.Common.{rules}
use Rattle.records.proofs.Putting.{puts_more, room_more, puts_all}
use Rattle.records.proofs.lines.put_all.Goals as goal

pub loop-one-preserved : goal.loop-one-preserved
loop-one-preserved g c =
    let f = g.T.Hex.hex in
    let this = c.one-item in (
      puts_more f c.args.all.now c.loop-one.one-index this.result c.loop-one-test.true this.is c.loop-one.invariant.0 c.put_hex.ensures,
      room_more f c.args.all.now c.loop-one.one-index this.result c.loop-one-test.true this.is c.loop-one.invariant.1 c.put_hex.ensures,
    )

pub returns : goal.returns
returns g c =
    let placed = c.behind-printer.ensures.placed in
    puts_all g.T.Hex.hex c.args.all.now c.loop-one.one-index c.loop-one-test.false c.loop-one.invariant.0 placed.1 placed.0 (search rules)
