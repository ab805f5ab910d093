-- No second outcome: each public function's own contract has one.
use mathlib.Core.Path.{refl, ap}
use mathlib.Core.List.{[]}
use Prim.Native.Nat.{ℕ}
use Rattle.rules.specs.OneOutcome.{OneOutcome}
use Rattle.rules.proofs.Unique.{only}
use Rattle.thrandue.specs.Calls.{Called}
use Rattle.thrandue.proofs.thrandue_power_on as PowerOn
use Rattle.thrandue.proofs.thrandue_power_on_with_store as PowerOnWithStore
use Rattle.thrandue.proofs.thrandue_bus_reset as BusReset
use Rattle.thrandue.proofs.thrandue_control as Control
use Rattle.thrandue.proofs.commands.thrandue_packet as Packet
use Rattle.thrandue.proofs.commands.thrandue_burst as Burst
use Rattle.thrandue.proofs.commands.thrandue_end_mark as EndMark
use Rattle.thrandue.proofs.thrandue_report as Report
use Rattle.thrandue.proofs.thrandue_status as Status
use Rattle.thrandue.proofs.thrandue_phase as Phase
use Rattle.thrandue.proofs.thrandue_lun as Lun
use Rattle.thrandue.proofs.thrandue_configuration as Configuration
use Rattle.thrandue.proofs.thrandue_halts as Halts
use Rattle.thrandue.proofs.thrandue_held as Held

abbrev number : Called → ℕ
number c = c.returned

pub thrandue_power_on : OneOutcome PowerOn.Kinds.ps PowerOn.Kinds.r PowerOn.Reads.Post
thrandue_power_on κs a r r' left left' p q = (ap number (only p q), ap (λ (c : Called). (c.image, (tt, (tt, (tt, tt))))) (only p q))

pub thrandue_power_on_with_store : OneOutcome PowerOnWithStore.Kinds.ps PowerOnWithStore.Kinds.r PowerOnWithStore.Reads.Post
thrandue_power_on_with_store κs a r r' left left' p q = (ap number (only p q), ap (λ (c : Called). (c.image, (tt, (tt, (tt, (tt, tt)))))) (only p q))

pub thrandue_bus_reset : OneOutcome BusReset.Kinds.ps BusReset.Kinds.r BusReset.Reads.Post
thrandue_bus_reset κs a r r' left left' p q =
    let same = only (p []) (q []) in
    (ap number same, ap (λ (c : Called). (c.image, tt)) same)

pub thrandue_control : OneOutcome Control.Kinds.ps Control.Kinds.r Control.Reads.Post
thrandue_control κs a r r' left left' p q = (ap number (only p q), ap (λ (c : Called). (c.image, (tt, (tt, (c.memory, (c.room, tt)))))) (only p q))

pub thrandue_packet : OneOutcome Packet.Kinds.ps Packet.Kinds.r Packet.Reads.Post
thrandue_packet κs a r r' left left' p q =
    let same = only (p []) (q []) in
    (ap number same, ap (λ (c : Called). (c.image, (tt, (c.room, tt)))) same)

pub thrandue_burst : OneOutcome Burst.Kinds.ps Burst.Kinds.r Burst.Reads.Post
thrandue_burst κs a r r' left left' p q =
    let same = only (p []) (q []) in
    (ap number same, ap (λ (c : Called). (c.image, (tt, tt))) same)

pub thrandue_end_mark : OneOutcome EndMark.Kinds.ps EndMark.Kinds.r EndMark.Reads.Post
thrandue_end_mark κs a r r' left left' p q =
    let same = only (p []) (q []) in
    (ap number same, ap (λ (c : Called). (c.image, (c.room, tt))) same)

pub thrandue_report : OneOutcome Report.Kinds.ps Report.Kinds.r Report.Reads.Post
thrandue_report κs a r r' left left' p q =
    let same = only (p []) (q []) in
    (ap number same, ap (λ (c : Called). (c.image, (tt, (tt, (tt, tt))))) same)

pub thrandue_status : OneOutcome Status.Kinds.ps Status.Kinds.r Status.Reads.Post
thrandue_status κs a r r' left left' p q =
    let same = only (p []) (q []) in
    (ap number same, ap (λ (c : Called). (c.image, (c.room, tt))) same)

pub thrandue_phase : OneOutcome Phase.Kinds.ps Phase.Kinds.r Phase.Reads.Post
thrandue_phase κs a r r' left left' p q = (only p q, refl)

pub thrandue_lun : OneOutcome Lun.Kinds.ps Lun.Kinds.r Lun.Reads.Post
thrandue_lun κs a r r' left left' p q = (only p q, refl)

pub thrandue_configuration : OneOutcome Configuration.Kinds.ps Configuration.Kinds.r Configuration.Reads.Post
thrandue_configuration κs a r r' left left' p q = (only p q, refl)

pub thrandue_halts : OneOutcome Halts.Kinds.ps Halts.Kinds.r Halts.Reads.Post
thrandue_halts κs a r r' left left' p q = (only p q, refl)

pub thrandue_held : OneOutcome Held.Kinds.ps Held.Kinds.r Held.Reads.Post
thrandue_held κs a r r' left left' p q = (only p q, refl)
