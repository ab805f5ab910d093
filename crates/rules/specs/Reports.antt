-- Drive reports: BOT's thirteen cases.
use Rattle.std.specs.Prelude.{ℕ, ◌-◌, Bool, cond, not, ◌&&◌, ◌||◌, eqb, ltb}
use Rattle.rules.specs.declared.Change.{Change}
use Rattle.rules.specs.declared.Change.TheVariants.{Nothing, Finishes}
use Rattle.rules.specs.declared.Direction.{Direction}
use Rattle.rules.specs.declared.Direction.TheVariants.{Out, In}
use Rattle.rules.specs.declared.Phase.{Phase}
use Rattle.rules.specs.declared.Phase.TheVariants.{Awaiting, Busy, StatusWaiting, Stopped}

-- "direction (0 none, 1 in, 2 out)"
abbrev pub direction_number : Direction → ℕ
direction_number Out = 2
direction_number In = 1

-- "the host's (none when L = 0)"
abbrev pub host_number : ℕ → Direction → ℕ
host_number l host = cond (eqb l 0) 0 (direction_number host)

-- "Malformed: other numbers, or none with an amount above 0."
unfoldable pub malformed : ℕ → ℕ → ℕ → Bool
malformed direction failed amount = ltb 2 direction || ltb 1 failed || (eqb direction 0 && ltb 0 amount)

-- "If the amount is above 0 and the direction differs from the host's (none when L = 0), or the amount exceeds L"
unfoldable pub mismatch : ℕ → Direction → ℕ → ℕ → Bool
mismatch l host direction amount = (ltb 0 amount && not (eqb direction (host_number l host))) || ltb l amount

-- ".. status 2, residue L. Else status is failed and residue is L minus amount."
abbrev pub status_of : Bool → ℕ → ℕ
status_of wrong failed = cond wrong 2 failed

abbrev pub residue_of : Bool → ℕ → ℕ → ℕ
residue_of wrong l amount = cond wrong l (l - amount)

-- "The host direction's pipe is halted when L > 0 and status is 2 or the amount is below L."
abbrev pub halts_pipe : Bool → ℕ → ℕ → Bool
halts_pipe wrong l amount = ltb 0 l && (wrong || ltb amount l)

-- "The phase becomes status waiting."
abbrev pub finished : Bool → Direction → ℕ → ℕ → ℕ → ℕ → Change
finished wrong host tag l failed amount =
    Finishes host (halts_pipe wrong l amount) (status_of wrong failed) tag (residue_of wrong l amount)

abbrev pub report_taken : ℕ → ℕ → ℕ → Phase → Change
report_taken direction failed amount Awaiting = Nothing
report_taken direction failed amount (Busy host lun tag l) = finished (mismatch l host direction amount) host tag l failed amount
report_taken direction failed amount (StatusWaiting tag residue status) = Nothing
report_taken direction failed amount (Stopped reset) = Nothing
