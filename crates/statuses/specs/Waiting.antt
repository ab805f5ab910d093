-- The bridge in which a status packet waits.
use Rattle.std.specs.Prelude.{◌≡◌, true, false}
use Rattle.rules.specs.declared.Bridge.{Bridge}
use Rattle.rules.specs.declared.Phase.TheVariants.{StatusWaiting}
use Rattle.rules.specs.declared.StatusPacket.{StatusPacket}

-- a configured bridge in which this status packet waits, on a pipe that is not halted
pub record Waits (b : Bridge) (p : StatusPacket) : Type 0 where
  pub configured : b.configured ≡ true
  pub runs : b.halts.inward ≡ false
  pub waits : b.phase ≡ StatusWaiting p.tag p.residue p.status
