-- What is held is a packet: refused where none is awaited, else taken.
-- Tried with `using` of `unawaited_told`, `end_mark_told` and `held_by_value`: the proof did not close.
use Rattle.std.proofs.Common.{◌≡◌, ◌∙◌, sym, ap, ℕ, List, refl, arith, length, length-drop, take, drop}
use Rattle.rules.specs.Words.{byte}
use Rattle.rules.specs.Bursts.{kept}
use Rattle.image.specs.declared.Fragments.{Fragments}
use Rattle.image.proofs.Holding.{held_by_value}
use Rattle.thrandue.proofs.Laws.{unawaited_told, end_mark_told}
use Rattle.thrandue.proofs.commands.thrandue_end_mark.Goals as goal

pub returns-in-Ok : goal.returns-in-Ok
returns-in-Ok c =
    let image : List ℕ = c.args.image.now in
    let whole : length (drop 30 image) ≡ 32 = omega (arith, length-drop 30 image) in
    end_mark_told image c.bytes.result.now c.args.operations.now
    (held_by_value image whole ∙ ap (λ (f : Fragments). kept (take f.count f.bytes)) (sym c.held-held.ensures) ∙ ap kept (sym c.bytes.ensures.told))
    c.take.ensures

pub returns-in-Err : goal.returns-in-Err
returns-in-Err c =
    let image : List ℕ = c.args.image.now in
    let held : List ℕ = take (byte 61 image) (drop 30 image) in
    end_mark_told image held c.args.operations.now refl
    (unawaited_told image c.load.ensures c.in-Err.refusal c.in-Err.ensures held c.args.operations.now c.refuse.ensures)
