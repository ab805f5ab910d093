-- What is held is dropped, and the packet is judged by the bridge and the signature as they were.
-- Tried with `using` of `told`: the proof did not close.
use Rattle.std.proofs.Common.{refl, sym, ap, ◌∙◌, ℕ, List}
use Rattle.rules.specs.declared.Bridge.{Bridge}
use Rattle.rules.specs.Packets.{signature_of}
use Rattle.rules.specs.Step.{Packet}
use Rattle.packets.specs.Awaited.{Awaits}
use Rattle.image.specs.Image.{bytes_of, decode, put}
use Rattle.image.proofs.InStep.{dropped_bytes, dropped_decodes}
use Rattle.thrandue.proofs.Laws.{told}
use Rattle.thrandue.proofs.commands.take.Goals as goal

pub returns : goal.returns
returns c =
    let image : List ℕ = c.args.image.now in
    let signature = c.signature_of-signature.ensures ∙ ap (λ (i : List ℕ). signature_of (bytes_of i)) c.make.ensures ∙ ap signature_of (dropped_bytes image) in
    let drives = c.drives_of-drives.ensures ∙ ap (λ (i : List ℕ). (decode i).dock.drives) c.make.ensures ∙ ap (λ (b : Bridge). b.dock.drives) (dropped_decodes image) in
    let awaits : Awaits c.drives_of-drives.result (decode image) =
    record { holds = sym drives; configured = c.requires.configured; runs = c.requires.runs; awaits = c.requires.awaits } in
    λ memory. told image memory (Packet c.args.packet.now) c.args.operations.now c.awaited.result refl
    (c.awaited.ensures (decode image) awaits (bytes_of image) memory (sym signature))
    (c.leave.ensures.0, c.leave.ensures.1 ∙ ap (put c.awaited.result.change) c.make.ensures)
