-- A phase that is none with these fields is not of that name.
use Rattle.std.specs.Prelude.{◌≡◌, ℕ, false}
use Rattle.std.proofs.Common.{refl}
use Rattle.rules.specs.declared.Direction.{Direction}
use Rattle.rules.specs.declared.Lun.{Lun}
use Rattle.rules.specs.declared.Phase.{Phase}
use Rattle.rules.specs.declared.Phase.TheVariants.{Awaiting, Busy, StatusWaiting, Stopped}
use Rattle.rules.specs.Held.{is_busy, is_status_waiting}

pub not_busy : (p : Phase) → ((direction : Direction) (lun : Lun) (tag l : ℕ) → p ≡ Busy direction lun tag l → ⊥) → is_busy p ≡ false
not_busy Awaiting other = refl
not_busy (Busy direction lun tag l) other = absurd (other direction lun tag l refl)
not_busy (StatusWaiting tag residue status) other = refl
not_busy (Stopped reset) other = refl

pub not_status_waiting : (p : Phase) → ((tag residue status : ℕ) → p ≡ StatusWaiting tag residue status → ⊥) → is_status_waiting p ≡ false
not_status_waiting Awaiting other = refl
not_status_waiting (Busy direction lun tag l) other = refl
not_status_waiting (StatusWaiting tag residue status) other = absurd (other tag residue status refl)
not_status_waiting (Stopped reset) other = refl
