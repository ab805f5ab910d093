-- As far as it goes: a row over another, where as much is put there as there is room for.
use mathlib.Core.Path.{◌≡◌, refl, sym, ◌∙◌}
use mathlib.Core.List.{List, ◌++◌}
use Prim.Native.Nat.{ℕ, ◌-◌, ◌≤◌, min}
use native.Mathlib.Nat.{zero-add}
use native.Mathlib.Omega.{arith}
use lib.ListN.{length, take, drop, replicate, length-take, length-replicate}
use lib.Seq.{paste-zero}
use Rattle.std.proofs.lemmas.List.{take-replicate}
use Rattle.rules.specs.Words.{over}
use Rattle.rules.proofs.Rows.{over_pastes}

-- nothing to copy, or a row that ends before the place
pub over_unmoved : (row : List ℕ) (at : ℕ) (xs : List ℕ) → min (length xs) (length row - at) ≤ 0 → row ≡ over row at xs
over_unmoved row at xs h = paste-zero row at xs ∙ sym (over_pastes row at xs 0 (omega arith))

-- zeros at the front
pub over_cleared : (row : List ℕ) (n m : ℕ) (ys : List ℕ) → m ≡ min n (length row) → ys ≡ replicate (length (take m row)) 0
    → ys ++ drop m row ≡ over row 0 (replicate n 0)
over_cleared row n m ys e f =
    let zeros : List ℕ = replicate n 0 in
    let many : length zeros ≡ n = length-replicate n 0 in
    let few : length (take m row) ≡ m = length-take m row ∙ omega arith in
    rw (f, few, over_pastes row 0 zeros m (omega arith), take-replicate {X = ℕ} m n 0 (omega arith), zero-add) refl
