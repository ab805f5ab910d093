-- Stopping and the boundary: what each recovery request changes, of a stop and of a bridge that is not stopped.
use Rattle.std.specs.Prelude.{ℕ, Bool, true, cond, not, ◌&&◌, eqb}
use Rattle.rules.specs.declared.Bridge.{Bridge}
use Rattle.rules.specs.declared.Change.{Change}
use Rattle.rules.specs.declared.Change.TheVariants.{Nothing, Resets, Drops, Notes, Clears, Ends}
use Rattle.rules.specs.declared.Direction.{Direction}
use Rattle.rules.specs.declared.Direction.TheVariants.{Out, In}
use Rattle.rules.specs.declared.Phase.{Phase}
use Rattle.rules.specs.declared.Phase.TheVariants.{Awaiting, Busy, StatusWaiting, Stopped}
use Rattle.rules.specs.Held.{bulk_out, is_stopped}

-- "Before a Mass Storage Reset, Clear Feature answers 0 and clears nothing."
abbrev pub clears : Phase → Bool
clears Awaiting = true
clears (Busy direction lun tag l) = true
clears (StatusWaiting tag residue status) = true
clears (Stopped reset) = reset

-- "After it, each clears its pipe; until both are clear the bridge is stopped": with the other pipe clear, this one is the second
abbrev pub clears_pipe : Phase → Direction → Bool → Change
clears_pipe p direction other = cond (clears p) (cond (is_stopped p && not other) Ends (Clears direction)) Nothing

-- Clear Feature "clears that halt (see Stopping)"
abbrev pub clear_feature : ℕ → Bridge → Change
clear_feature index b =
    cond (eqb index bulk_out) (clears_pipe b.phase Out b.halts.inward) (clears_pipe b.phase In b.halts.outward)

-- Mass Storage Reset: "busy or status waiting becomes awaiting; halts stay". A stop notes it; "a second reset changes nothing" but what is held.
abbrev pub mass_storage_reset : Phase → Change
mass_storage_reset p = cond (is_stopped p) Notes Resets

-- SOFT_RESET: "as Mass Storage Reset, but no effect on a stop"; what is held it drops in a stop too
abbrev pub soft_reset : Phase → Change
soft_reset p = cond (is_stopped p) Drops Resets
