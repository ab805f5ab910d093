-- What a report says, by the rules' numbers.
use Rattle.std.specs.Prelude.{ℕ, ◌≡◌, true, false, Option, None, Some, MatchOption}
use Rattle.rules.specs.declared.Direction.{Direction}
use Rattle.rules.specs.Words.{one}
use Rattle.rules.specs.Reports.{direction_number, malformed}
use Rattle.reports.specs.declared.Said.{Said}

abbrev pub moved_number : Option Direction → ℕ
moved_number None = 0
moved_number (Some d) = direction_number d

-- what these numbers say, and nothing where they are malformed
abbrev pub Says : ℕ → ℕ → ℕ → Option Said → Type 0
Says direction failed amount r =
    MatchOption r (malformed direction failed amount ≡ true)
    (λ s. (malformed direction failed amount ≡ false) × (moved_number s.moved ≡ direction) × (one s.failed ≡ failed) × (s.amount ≡ amount))
