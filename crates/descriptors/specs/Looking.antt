-- What a search for a descriptor says: where it stands and how long it is, or the number of its refusal.
use Rattle.std.specs.Prelude.{ℕ, Bool, true, List, Result}
use Rattle.rules.specs.declared.addresses.StringIndex.{StringIndex}
use Rattle.rules.specs.Words.{first}
use Rattle.rules.specs.Numbered.{checked}
use Rattle.rules.specs.Descriptors.{place_in, length_in, descriptor_checks}
use Rattle.descriptors.specs.declared.Kind.{Kind}
use Rattle.descriptors.specs.declared.Kind.TheVariants.{Device, Configuration, String, Qualifier}
use Rattle.descriptors.specs.declared.Part.{Part}

-- the type byte of each kind
abbrev pub kind_number : Kind → ℕ
kind_number Device = 1
kind_number Configuration = 2
kind_number String = 3
kind_number Qualifier = 6

abbrev pub looked : Bool → StringIndex → List ℕ → ℕ → Result Part ℕ
looked powered named memory value =
    checked (record { start = place_in powered named value; length = length_in powered named memory value })
    (first (descriptor_checks true powered named memory value))
