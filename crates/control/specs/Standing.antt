-- What a control request leaves: its outcome, and where its reply stands.
use Rattle.std.specs.Prelude.{ℕ, List}
use Rattle.rules.specs.Numbered.{answer_of, count_of}
use Rattle.rules.specs.Promise.{Left, left_at}
use Rattle.control.specs.declared.ControlOutcome.{ControlOutcome}

-- with the configuration bytes, the memory and the lent room as a call leaves them
abbrev pub left_where : ControlOutcome → List ℕ → List ℕ → List ℕ → Left
left_where c bytes memory room = left_at c.stands (answer_of c.outcome.answer) (count_of c.outcome.answer) c.outcome.change bytes memory room
