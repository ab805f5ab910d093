-- A report, whatever the memory.
-- Tried with `using` of `told`: the proof did not close.
use Rattle.std.proofs.Common.{refl, []}
use Rattle.rules.specs.Step.{Report}
use Rattle.image.specs.Image.{bytes_of}
use Rattle.thrandue.proofs.Laws.{told}
use Rattle.thrandue.proofs.thrandue_report.Goals as goal

pub returns : goal.returns
returns c =
    let image = c.args.image.now in
    λ memory. told image memory (λ n. Report c.args.direction c.args.failed c.args.amount) [] c.report.result refl
    (rw c.load-b.ensures at (c.report.ensures (bytes_of image) memory)) c.leave.ensures
