-- What an outcome promises of the event that it answers.
use Rattle.std.specs.Prelude.{ℕ, List, Result}
use Rattle.outcomes.specs.declared.Outcome.{Outcome}
use Rattle.rules.specs.declared.Bridge.{Bridge}
use Rattle.rules.specs.declared.Change.{Change}
use Rattle.rules.specs.declared.refusals.Refusal.{Refusal}
use Rattle.rules.specs.Numbered.{answer_of, count_of}
use Rattle.rules.specs.Step.{Event}
use Rattle.rules.specs.Promise.{Left, left, Told, ToldOf}

abbrev pub outcome : {R : Type 0} → Result ℕ R → Change → Outcome R
outcome answer change = record { answer = answer; change = change }

-- an outcome, with the configuration bytes, the memory and the lent room as a call leaves them
abbrev pub left_by : Outcome Refusal → List ℕ → List ℕ → List ℕ → Left
left_by o bytes memory room = left (answer_of o.answer) (count_of o.answer) o.change bytes memory room

-- an event that is lent neither bytes nor memory: the outcome, and what stands in the lent room, are the rules'
abbrev pub Answers : Bridge → (ℕ → Event) → List ℕ → Outcome Refusal → List ℕ → Type 0
Answers b event room o now = Told b event room (answer_of o.answer) (count_of o.answer) o.change now

-- .. and one that is told the command signature
abbrev pub AnswersOf : Bridge → ℕ → (ℕ → Event) → List ℕ → Outcome Refusal → List ℕ → Type 0
AnswersOf b signature event room o now = ToldOf b signature event room (answer_of o.answer) (count_of o.answer) o.change now
