-- What is put into the lent output, and the room that it takes.
use Rattle.std.specs.Prelude.{◌≡◌, ℕ, ◌+◌, ◌≤◌, Result, List, [], ◌∷◌, ◌++◌, length, take}
use Rattle.rules.specs.declared.refusals.Refusal.{Refusal}
use Rattle.rules.specs.Numbered.{answer_of, count_of}
use Rattle.lent.specs.Rows.{Put, Fits}
use Rattle.records.specs.declared.lines.Printer.{Printer}
use Rattle.records.specs.Lines.{number, each, line_most}

-- xs are put behind what was put before, into the same output
pub record Puts (before : Printer) (xs : List ℕ) (after : Printer) : Type 0 where
  pub same : after.output.ghost_name ≡ before.output.ghost_name
  pub put : Put before.output.now before.at xs after.output.now after.at

-- there is room for xs, and for the longest line
abbrev pub Room : Printer → List ℕ → Type 0
Room p xs = Fits p.output.now p.at xs

abbrev pub HasRoom : Printer → Type 0
HasRoom p = p.at + line_most ≤ length p.output.now

-- the line of an answer, with as much of `out` as was handed out
abbrev pub line_of : {A : Type 0} → (A → List ℕ) → Result ℕ Refusal → List A → List ℕ
line_of f answer out = number (answer_of answer) ++ each f (take (count_of answer) out) ++ 0x0A ∷ []
