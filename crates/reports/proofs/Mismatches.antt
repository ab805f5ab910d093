-- A law of a report's direction and amount: with L = 0 any amount is too much.
use mathlib.Core.Path.{◌≡◌, refl}
use mathlib.Core.Bool.{Bool, true, false, cond, not, ◌&&◌, ◌||◌}
use Prim.Native.Nat.{ℕ}
use lib.Dec.{eqb, ltb}
use borrow.Author.Tests.{eqb-true}
use Rattle.rules.specs.declared.Direction.{Direction}
use Rattle.rules.specs.Reports.{direction_number, mismatch}

-- the direction that the host's stands for where L = 0 makes no difference
pub mismatch_by : (l : ℕ) (host : Direction) (direction amount : ℕ)
    → mismatch l host direction amount ≡ ((ltb 0 amount && not (eqb direction (direction_number host))) || ltb l amount)
unfolding mismatch
mismatch_by l host direction amount = go (eqb l 0) refl
  where
    both : (t x y : Bool) → ((t && x) || t) ≡ ((t && y) || t)
    both true true true = refl
    both true true false = refl
    both true false true = refl
    both true false false = refl
    both false x y = refl

    go : (t : Bool) → eqb l 0 ≡ t
        → ((ltb 0 amount && not (eqb direction (cond t 0 (direction_number host)))) || ltb l amount)
        ≡ ((ltb 0 amount && not (eqb direction (direction_number host))) || ltb l amount)
    go true e = rw (eqb-true l 0 e) (both (ltb 0 amount) _ _)
    go false e = refl
