-- The first sixteen bytes of the image are the configuration bytes, and the others stay.
-- Tried with `using` of `take_at`: the proof did not close.
use Rattle.std.proofs.Common.{◌≡◌, sym, ap, ℕ, List, ◌++◌, arith, length, take, drop}
use Rattle.std.proofs.Math.Seq.{take_at}
use Rattle.thrandue.proofs.serve.Goals as goal

pub returns : goal.returns
returns c =
    let rest : List ℕ = drop 16 c.args.image.now in
    let bytes : List ℕ = c.serve.new.bytes in
    let whole : length bytes ≡ 16 = omega arith in
    let back : take 16 (bytes ++ rest) ≡ bytes = take_at bytes rest 16 whole in
    (rw back c.serve.ensures, ap (λ (l : List ℕ). l ++ rest) (sym back))
