-- Vendor requests work throughout a stop, and read, write and drop as if no stop stood.
use mathlib.Core.Path.{◌≡◌, refl, sym}
use mathlib.Core.Bool.{Bool, true, false, cond, ◌||◌, false≢true}
use mathlib.Core.List.{List, []}
use Prim.Native.Nat.{ℕ, ◌/◌, ◌%◌}
use lib.Dec.{eqb}
use lib.ListN.{length}
use borrow.Author.Tests.{eq-eqb}
use Rattle.rules.specs.declared.Bridge.{Bridge}
use Rattle.rules.specs.declared.Change.TheVariants.{Nothing}
use Rattle.rules.specs.declared.Phase.TheVariants.{Stopped}
use Rattle.rules.specs.declared.Request.TheVariants.{SetConfiguration, GetConfiguration, ClearFeature, GetStatus, GetMaxLun, MassStorageReset, LoadConfigData, ReadConfigData, SoftReset, BogusRead}
use Rattle.rules.specs.declared.Setup.{Setup}
use Rattle.rules.specs.Held.{world, holding, in_phase, halted}
use Rattle.rules.specs.Changes.{made, drops}
use Rattle.rules.specs.Requests.{Named, Unknown, Known, Describes, is_unknown, setup_of, request_of, is_a, has_place, reply_to, change_by}
use Rattle.rules.specs.Answers.{seen_of, request_answer}
use Rattle.rules.specs.Step.{change, step, rules, done}
use Rattle.rules.specs.Demands.Boundary.{VendorInStop}
use Rattle.rules.proofs.Bursts.{soft_drops}
use Rattle.rules.proofs.Checks.{request_undamaged, request_has}

-- a vendor request, or none
abbrev vendor : Named → Bool
vendor q = has_place q || is_a SoftReset q || is_a BogusRead q || is_unknown q

-- a vendor request, accepted or not, of a stopped bridge and of the same bridge had it not stopped
module _ (b : Bridge) (bytes memory held : List ℕ) (reset out back : Bool) (s : Setup) where
  abbrev stop : Bridge
  stop = in_phase (Stopped reset) (halted out back b)

  alike : (q : Named) (t : Bool) → vendor q ≡ true
      → (◌≡◌ {A = List ℕ} (cond t (reply_to q s (holding held (world stop bytes memory))) []) (cond t (reply_to q s (holding held (world b bytes memory))) []))
      × (made (cond t (change_by q s stop) Nothing) stop ≡ stop)
      × (drops (cond t (change_by q s stop) Nothing) ≡ drops (cond t (change_by q s b) Nothing))
  alike q false v = (refl, refl, refl)
  alike (Known SetConfiguration) true v = absurd (false≢true v)
  alike (Known GetConfiguration) true v = absurd (false≢true v)
  alike (Known ClearFeature) true v = absurd (false≢true v)
  alike (Known GetStatus) true v = absurd (false≢true v)
  alike (Known GetMaxLun) true v = absurd (false≢true v)
  alike (Known MassStorageReset) true v = absurd (false≢true v)
  alike (Known LoadConfigData) true v = (refl, refl, refl)
  alike (Known ReadConfigData) true v = (refl, refl, refl)
  alike (Known SoftReset) true v = (refl, refl, sym (soft_drops b.phase))
  alike (Known BogusRead) true v = (refl, refl, refl)
  alike Describes true v = absurd (false≢true v)
  alike Unknown true v = (refl, refl, refl)

pub vendor_in_stop : VendorInStop rules
unfolding step change
vendor_in_stop w t reset out back setup host room e k =
    let s = setup_of setup in
    let v = request_has (λ kind code. eqb (kind / 32 % 4) 2) vendor s (eq-eqb _ 2 k) refl in
    let accepted = done (request_answer (seen_of w) w.memory setup (length host) room) in
    let a = alike w.bridge w.bytes w.memory w.held reset out back s (request_of s) accepted v in
    rw (e, request_undamaged) (refl, a.0, rw (a.1, a.2))
