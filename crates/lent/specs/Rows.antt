-- A row that grows in a lent slice.
use Rattle.std.specs.Prelude.{ℕ, ◌+◌, ◌≤◌, ◌≡◌, List, length}
use Rattle.std.proofs.lemmas.List.Edits.{sets}

-- xs stand from `at` on in what was `before` and is now `after`, and `next` is the place behind them
pub record Put (before : List ℕ) (at : ℕ) (xs after : List ℕ) (next : ℕ) : Type 0 where
  pub stored : after ≡ sets before at xs
  pub moved : next ≡ at + length xs

-- there is room for xs from `at` on
abbrev pub Fits : List ℕ → ℕ → List ℕ → Type 0
Fits room at xs = at + length xs ≤ length room
