-- A packet that the bridge awaits: the bridge, what the packet means, and what the judgement of its block makes of a meaningful one.
use Rattle.std.specs.Prelude.{ℕ, ◌≡◌, Bool, true, false, cond, not, List, [], ◌∷◌, Option, Some, None, Result, Ok, Err}
use Rattle.rules.specs.declared.Bridge.{Bridge}
use Rattle.rules.specs.declared.Change.TheVariants.{Nothing}
use Rattle.rules.specs.declared.CommandPacket.{CommandPacket}
use Rattle.rules.specs.declared.Drives.{Drives}
use Rattle.rules.specs.declared.Lun.{Lun}
use Rattle.rules.specs.declared.Phase.TheVariants.{Awaiting}
use Rattle.rules.specs.declared.refusals.Refusal.{Refusal}
use Rattle.rules.specs.declared.refusals.Refusal.TheVariants.{OperationRoom}
use Rattle.rules.specs.Words.{Check, ◌if◌}
use Rattle.rules.specs.Packets.{command_of, valid, meaningful, drive_of, begins, command_taken}
use Rattle.outcomes.specs.declared.Outcome.{Outcome}
use Rattle.outcomes.specs.Outcomes.{outcome}
use Rattle.passthrough.specs.declared.Unmade.{Unmade}
use Rattle.passthrough.specs.declared.Unmade.TheVariants.{Unrecognised, NoRoom}

-- a configured bridge, in a dock with so many drives, that awaits a command on a pipe that is not halted
pub record Awaits (drives : Drives) (b : Bridge) : Type 0 where
  pub holds : b.dock.drives ≡ drives
  pub configured : b.configured ≡ true
  pub runs : b.halts.outward ≡ false
  pub awaits : b.phase ≡ Awaiting

-- the checks of a packet that is awaited, but for its operations' room
abbrev pub damage_checks : Drives → List ℕ → List Check
damage_checks drives p =
    13 if not (valid p) ∷
    14 if not (meaningful drives (command_of p)) ∷
    []

-- what a packet with this LUN byte means: nothing, or a command for its drive
abbrev pub meaning_of : Bool → ℕ → Option Lun
meaning_of meant lun = cond meant (Some (drive_of lun)) None

abbrev pub taken_as : Result ℕ Unmade → Lun → CommandPacket → Outcome Refusal
taken_as (Ok count) lun c = outcome (Ok count) (begins lun c)
taken_as (Err Unrecognised) lun c = outcome (Ok 0) (command_taken false c)
taken_as (Err NoRoom) lun c = outcome (Err OperationRoom) Nothing
