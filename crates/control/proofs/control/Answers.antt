-- What the bridge leaves, by the judgement: a refusal, the request served, or the descriptor found.
-- Tried with `using` of `by_judgement`: the proof did not close.
use Rattle.std.proofs.Common.{rules, ◌∙◌}
use Rattle.rules.specs.Held.{world}
use Rattle.control.proofs.Granting.{by_judgement}
use Rattle.control.proofs.control.Goals as goal

pub returns-in-Err : goal.returns-in-Err
returns-in-Err c =
    let a = c.args in
    rw c.from.ensures
    (by_judgement (world a.b a.bytes.now a.memory.now) a.setup.now a.host.now a.reply.now (rw c.seen-seen.ensures at c.in-Err.ensures))

pub returns-in-Ok-Request : goal.returns-in-Ok-Request
returns-in-Ok-Request c =
    let a = c.args in
    c.serve.ensures
    ∙ by_judgement (world a.b a.bytes.now a.memory.now) a.setup.now a.host.now a.reply.now (rw (c.seen-seen.ensures, c.in-Ok-Request.field-0-is) at c.in-Ok-Request.ensures)
    (search rules)

pub returns-in-Ok-Descriptor : goal.returns-in-Ok-Descriptor
returns-in-Ok-Descriptor c =
    let a = c.args in
    rw c.done.ensures
    (by_judgement (world a.b a.bytes.now a.memory.now) a.setup.now a.host.now a.reply.now (rw (c.seen-seen.ensures, c.in-Ok-Descriptor.field-0-is) at c.in-Ok-Descriptor.ensures))
