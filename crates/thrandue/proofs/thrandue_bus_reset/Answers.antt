-- A bus reset, whatever the memory.
-- Tried with `using` of `told`, and `unfolding` of the step and its change: the proof did not close.
use Rattle.std.proofs.Common.{refl, []}
use Rattle.rules.specs.Step.{BusReset}
use Rattle.image.specs.Image.{bytes_of, decode}
use Rattle.thrandue.proofs.Laws.{told}
use Rattle.thrandue.proofs.thrandue_bus_reset.Goals as goal

pub returns : goal.returns
returns c =
    let image = c.args.image.now in
    λ memory. told image memory (λ n. BusReset) [] c.bus_reset.result refl (c.bus_reset.ensures (decode image) (bytes_of image) memory) c.leave.ensures
