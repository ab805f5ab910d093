-- No second outcome: each public function's own contract has one.
use mathlib.Core.Path.{◌≡◌, refl, sym, ◌∙◌}
use Rattle.rules.specs.OneOutcome.{OneOutcome}
use Rattle.rules.proofs.Bridge.configuration as BridgeConfiguration
use Rattle.rules.proofs.Bridge.power_on as BridgePowerOn
use Rattle.rules.proofs.Bridge.seen as BridgeSeen
use Rattle.rules.proofs.power_on_bytes as PowerOnBytes
use Rattle.rules.proofs.U8FromDirection.from as U8FromDirection
use Rattle.rules.proofs.Direction.is_in as DirectionIsIn
use Rattle.rules.proofs.U8FromLun.from as U8FromLun
use Rattle.rules.proofs.PageSizeFromU32.from as PageSizeFromU32
use Rattle.rules.proofs.U16FromPageSize.from as U16FromPageSize
use Rattle.rules.proofs.DrivesFromU32.from as DrivesFromU32
use Rattle.rules.proofs.Drives.max_lun as DrivesMaxLun
use Rattle.rules.proofs.refusals.U8FromRefusal.from as U8FromRefusal
use Rattle.rules.proofs.refusals.in_one_number as InOneNumber
use Rattle.rules.proofs.addresses.AddressFromStringIndex.from as AddressFromStringIndex
use Rattle.rules.proofs.addresses.U16FromAddress.from as U16FromAddress

-- a promise that is one equation leaves no second outcome
pub only : {A : Type 0} {x y z : A} → x ≡ z → y ≡ z → x ≡ y
only p q = p ∙ sym q

pub Bridge::configuration : OneOutcome BridgeConfiguration.Kinds.ps BridgeConfiguration.Kinds.r BridgeConfiguration.Reads.Post
Bridge::configuration κs a r r' left left' p q = (only p q, refl)

pub Bridge::seen : OneOutcome BridgeSeen.Kinds.ps BridgeSeen.Kinds.r BridgeSeen.Reads.Post
Bridge::seen κs a r r' left left' p q = (only p q, refl)

pub Bridge::power_on : OneOutcome BridgePowerOn.Kinds.ps BridgePowerOn.Kinds.r BridgePowerOn.Reads.Post
Bridge::power_on κs a r r' left left' p q = (only p q, refl)

pub power_on_bytes : OneOutcome PowerOnBytes.Kinds.ps PowerOnBytes.Kinds.r PowerOnBytes.Reads.Post
power_on_bytes κs a r r' left left' p q = (only p q, refl)

pub «U8FromDirection::from» : OneOutcome U8FromDirection.Kinds.ps U8FromDirection.Kinds.r U8FromDirection.Reads.Post
«U8FromDirection::from» κs a r r' left left' p q = (only p q, refl)

pub Direction::is_in : OneOutcome DirectionIsIn.Kinds.ps DirectionIsIn.Kinds.r DirectionIsIn.Reads.Post
Direction::is_in κs a r r' left left' p q = (only p q, refl)

pub «AddressFromStringIndex::from» : OneOutcome AddressFromStringIndex.Kinds.ps AddressFromStringIndex.Kinds.r AddressFromStringIndex.Reads.Post
«AddressFromStringIndex::from» κs a r r' left left' p q = (only p q, refl)

pub «U16FromAddress::from» : OneOutcome U16FromAddress.Kinds.ps U16FromAddress.Kinds.r U16FromAddress.Reads.Post
«U16FromAddress::from» κs a r r' left left' p q = (only p q, refl)

pub «PageSizeFromU32::from» : OneOutcome PageSizeFromU32.Kinds.ps PageSizeFromU32.Kinds.r PageSizeFromU32.Reads.Post
«PageSizeFromU32::from» κs a r r' left left' p q = (only p q, refl)

pub «U16FromPageSize::from» : OneOutcome U16FromPageSize.Kinds.ps U16FromPageSize.Kinds.r U16FromPageSize.Reads.Post
«U16FromPageSize::from» κs a r r' left left' p q = (only p q, refl)

pub «U8FromLun::from» : OneOutcome U8FromLun.Kinds.ps U8FromLun.Kinds.r U8FromLun.Reads.Post
«U8FromLun::from» κs a r r' left left' p q = (only p q, refl)

pub «DrivesFromU32::from» : OneOutcome DrivesFromU32.Kinds.ps DrivesFromU32.Kinds.r DrivesFromU32.Reads.Post
«DrivesFromU32::from» κs a r r' left left' p q = (only p q, refl)

pub Drives::max_lun : OneOutcome DrivesMaxLun.Kinds.ps DrivesMaxLun.Kinds.r DrivesMaxLun.Reads.Post
Drives::max_lun κs a r r' left left' p q = (only p q, refl)

pub «U8FromRefusal::from» : OneOutcome U8FromRefusal.Kinds.ps U8FromRefusal.Kinds.r U8FromRefusal.Reads.Post
«U8FromRefusal::from» κs a r r' left left' p q = (only p q, refl)

pub in_one_number : OneOutcome InOneNumber.Kinds.ps InOneNumber.Kinds.r InOneNumber.Reads.Post
in_one_number κs a r r' left left' p q = (only p q, refl)
