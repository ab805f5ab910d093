-- What a judgement says: the request that is granted, with its fields; the part of the memory that is told of a descriptor; or the number of a refusal.
use Rattle.std.specs.Prelude.{ℕ, true, not, List, [], ◌∷◌, ◌++◌, length, eqb, Result, Err}
use Rattle.rules.specs.declared.Request.{Request}
use Rattle.rules.specs.declared.Seen.{Seen}
use Rattle.rules.specs.declared.Setup.{Setup}
use Rattle.rules.specs.Words.{Check, ◌if◌}
use Rattle.rules.specs.Held.{size_of, fitted}
use Rattle.rules.specs.Numbered.{checked}
use Rattle.rules.specs.Descriptors.{place_in, descriptor_checks, told}
use Rattle.rules.specs.Requests.{Named, Unknown, Known, Describes, request_of}
use Rattle.requests.specs.declared.Place.{Place}
use Rattle.requests.specs.declared.Place.TheVariants.{ConfigurationBytes, Memory}
use Rattle.requests.specs.declared.Row.{Row}
use Rattle.requests.specs.declared.Row.TheVariants as row
use Rattle.requests.specs.declared.Granted.{Granted}
use Rattle.requests.specs.declared.Granted.TheVariants as granted

-- wValue of each place
abbrev pub place_number : Place → ℕ
place_number ConfigurationBytes = 0x0000
place_number Memory = 0x0002

abbrev pub row_names : Row → Named
row_names (row.Request r) = Known r
row_names row.Descriptor = Describes

abbrev pub judged_by : Request → Setup → ℕ → Result Granted ℕ
judged_by r s answer = checked (granted.Request r s) answer

-- the checks of a request for a descriptor: 7, those of the descriptor, and 2
abbrev pub described_checks : Seen → List ℕ → Setup → ℕ → List Check
described_checks seen memory s host =
    7 if eqb (size_of memory) 0 ∷
    descriptor_checks true seen.bus_powered seen.first_string (fitted memory) s.value
    ++ 2 if not (eqb host 0) ∷ []

abbrev pub found_by : Seen → List ℕ → Setup → ℕ → Result Granted ℕ
found_by seen memory s answer =
    checked (granted.Descriptor
    (record {
      start = place_in seen.bus_powered seen.first_string s.value;
      length = length (told seen.bus_powered seen.first_string (fitted memory) s.value s.length);
    }))
    answer

-- nothing is granted that is not in the table
abbrev pub judged_as : Seen → List ℕ → Named → Setup → ℕ → Result Granted ℕ
judged_as seen memory Unknown s answer = Err answer
judged_as seen memory (Known r) s answer = judged_by r s answer
judged_as seen memory Describes s answer = found_by seen memory s answer

abbrev pub judged : Seen → List ℕ → ℕ → Setup → Result Granted ℕ
judged seen memory answer s = judged_as seen memory (request_of s) s answer
