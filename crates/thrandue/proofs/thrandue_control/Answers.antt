-- A request is granted and served, or its descriptor is found, or it is refused, as it was judged.
-- Tried with `using` of `granted`, `found_there`, `unwritten`, `sixteen` and `by_judgement`: the proof did not close.
use Rattle.std.proofs.Common.{Err, refl, arith}
use Rattle.rules.specs.declared.Change.TheVariants.{Nothing}
use Rattle.rules.specs.Held.{World}
use Rattle.rules.specs.Step.{Control}
use Rattle.outcomes.specs.Outcomes.{outcome}
use Rattle.control.proofs.Granting.{by_judgement}
use Rattle.image.specs.Image.{world_of}
use Rattle.thrandue.proofs.Laws.{unwritten, granted, found_there, sixteen}
use Rattle.thrandue.proofs.thrandue_control.Goals as goal

pub returns-in-Ok-Request : goal.returns-in-Ok-Request
returns-in-Ok-Request c =
    let at = c.args in
    let w : World = world_of at.image.now at.memory.now in
    let serves = by_judgement w at.setup.now at.host.now at.reply.now (rw (c.seen.ensures, c.in-Ok-Request.field-0-is) at c.in-Ok-Request.ensures) in
    granted at.image.now at.memory.now at.setup.now at.host.now at.reply.now c.serve-o.result c.in-Ok-Request.r c.in-Ok-Request.s c.load-b.ensures
    c.serve-o.ensures.0 (serves (sixteen at.image.now (omega arith))) c.serve-o.ensures.1 c.leave.ensures

pub returns-in-Ok-Descriptor : goal.returns-in-Ok-Descriptor
returns-in-Ok-Descriptor c =
    let at = c.args in
    let w : World = world_of at.image.now at.memory.now in
    let finds = by_judgement w at.setup.now at.host.now at.reply.now (rw (c.seen.ensures, c.in-Ok-Descriptor.field-0-is) at c.in-Ok-Descriptor.ensures) in
    found_there at.image.now at.memory.now at.setup.now at.host.now at.reply.now c.in-Ok-Descriptor.part.start c.in-Ok-Descriptor.part.length finds
    c.found.ensures

pub returns-in-Err : goal.returns-in-Err
returns-in-Err c =
    let at = c.args in
    let w : World = world_of at.image.now at.memory.now in
    let refused = by_judgement w at.setup.now at.host.now at.reply.now (rw c.seen.ensures at c.in-Err.ensures) in
    unwritten at.image.now at.memory.now (Control at.setup.now at.host.now) at.reply.now (outcome (Err c.in-Err.refusal) Nothing) refused (omega arith, refl)
