-- A status request, whatever the memory.
-- Tried with `using` of `told`: the proof did not close.
use Rattle.std.proofs.Common.{refl}
use Rattle.rules.specs.Step.{StatusRequest}
use Rattle.image.specs.Image.{bytes_of}
use Rattle.thrandue.proofs.Laws.{told}
use Rattle.thrandue.proofs.thrandue_status.Goals as goal

pub returns : goal.returns
returns c =
    let image = c.args.image.now in
    λ memory. told image memory StatusRequest c.args.reply.now c.status.result refl
    (rw c.load-b.ensures at (c.status.ensures (bytes_of image) memory)) c.leave.ensures
