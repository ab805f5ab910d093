-- A property of changes: the one that a test picks has it, and so has what Clear Feature changes.
use mathlib.Core.Bool.{Bool, true, false, cond, not, ◌&&◌}
use Prim.Native.Nat.{ℕ}
use lib.Dec.{eqb}
use Rattle.rules.specs.declared.Bridge.{Bridge}
use Rattle.rules.specs.declared.Change.{Change}
use Rattle.rules.specs.declared.Change.TheVariants.{Nothing, Clears, Ends}
use Rattle.rules.specs.declared.Direction.{Direction}
use Rattle.rules.specs.declared.Direction.TheVariants.{Out, In}
use Rattle.rules.specs.declared.Phase.{Phase}
use Rattle.rules.specs.Held.{bulk_out, is_stopped}
use Rattle.rules.specs.Stopping.{clears, clears_pipe, clear_feature}

module _ (P : Change → Type 0) where
  pub either : (t : Bool) (c d : Change) → P c → P d → P (cond t c d)
  either true c d x y = x
  either false c d x y = y

  pub feature : P Nothing → ((d : Direction) → P (Clears d)) → P Ends → (index : ℕ) (b : Bridge) → P (clear_feature index b)
  feature n c e index b = either (eqb index bulk_out) _ _ (pipe b.phase Out b.halts.inward) (pipe b.phase In b.halts.outward)
    where
      pipe : (p : Phase) (d : Direction) (other : Bool) → P (clears_pipe p d other)
      pipe p d other = either (clears p) _ Nothing (either (is_stopped p && not other) Ends (Clears d) e (c d)) n
