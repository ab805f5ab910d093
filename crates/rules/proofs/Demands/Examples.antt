-- The P examples and the story of a stop, computed for each page size and each number of drives.
use mathlib.Core.Path.{◌≡◌, refl}
use mathlib.Core.Bool.{Bool, true}
use Rattle.rules.specs.declared.Drives.{Drives}
use Rattle.rules.specs.declared.Drives.TheVariants.{One, Two}
use Rattle.rules.specs.declared.PageSize.{PageSize}
use Rattle.rules.specs.declared.PageSize.TheVariants.{Of32, Of64, Of128, Of256}
use Rattle.rules.specs.Words.{over}
use Rattle.rules.specs.Held.{page_bytes, docked}
use Rattle.rules.specs.Requests.{request_of, address, one_page}
use Rattle.rules.specs.Packets.{valid, sensible, meaningful, recognised}
use Rattle.rules.specs.Operations.{operations_of}
use Rattle.rules.specs.Reports.{malformed, mismatch}
use Rattle.rules.specs.Answers.{request_answer, packet_answer, report_answer, status_answer}
use Rattle.rules.specs.Step.{change, step, rules}
use Rattle.rules.specs.Demands.Examples.{table, right, Examples, story, Story}

computed : (powered : Bool) (page : PageSize) (drives : Drives)
    → (right rules (docked powered page drives) (table (page_bytes page)) ≡ true) × (story rules (docked powered page drives) ≡ true)
unfolding over step change request_of address one_page request_answer packet_answer report_answer status_answer valid sensible meaningful recognised operations_of malformed mismatch
computed powered Of32 One = (refl, refl)
computed powered Of64 One = (refl, refl)
computed powered Of128 One = (refl, refl)
computed powered Of256 One = (refl, refl)
computed powered Of32 Two = (refl, refl)
computed powered Of64 Two = (refl, refl)
computed powered Of128 Two = (refl, refl)
computed powered Of256 Two = (refl, refl)

pub examples : Examples rules
examples dock = (computed dock.bus_powered dock.page dock.drives).0

pub a_stop : Story rules
a_stop dock = (computed dock.bus_powered dock.page dock.drives).1
