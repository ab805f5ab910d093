-- Streams: rounds of the bench over a stream that comes in pieces. How it was cut does not show.
use Rattle.std.specs.Prelude.{ℕ, ◌+◌, ◌-◌, ◌≤◌, ◌≡◌, Bool, true, cond, List, [], ◌∷◌, ◌++◌, ◌⊎◌, length, drop}
use Rattle.rules.specs.Held.{World}
use Rattle.records.specs.Lines.{line_most}
use Rattle.records.specs.Runs.{Run, before, rests, run}

-- a round: the bytes that came for it, whether the input has ended with them, and the room for lines
pub record Round : Type 0 where
  pub came : List ℕ
  pub last : Bool
  pub room : ℕ

-- all that came, for rounds of which the latest stands first
abbrev pub stream : List Round → List ℕ
stream [] = []
stream (t ∷ ts) = stream ts ++ t.came

-- a run, and then the next, unless a torn record "ends" it
abbrev pub onward : Run → Run → Run
onward r next = cond r.torn r (before r.events r.lines r.used next)

-- what rounds took: each of what those before it left, and of what came behind that
abbrev pub rounds : World → List Round → Run
rounds w [] = rests w
rounds w (t ∷ ts) =
    let r : Run = rounds w ts in
    let s : List ℕ = drop r.used (stream (t ∷ ts)) in
    onward r (run (length s) t.last t.room r.world s)

-- once the input has ended nothing comes, neither for a round nor later
abbrev pub Ended : List Round → List ℕ → Type 0
Ended [] later = Unit
Ended (t ∷ ts) later = (t.last ≡ true → later ≡ []) × Ended ts (t.came ++ later)

-- a stream that is all there, run as one block
abbrev pub whole : ℕ → World → List ℕ → Run
whole room w s = run (length s) true room w s

-- ---- what holds of rounds, proved in proofs/Streams. Room enough for the whole: for the longest line beyond those that the rounds printed.

-- what rounds took is a front of what the whole stream takes, whatever comes later: the whole goes on behind it with what they left
abbrev pub RoundsAreAFront : Type 0
RoundsAreAFront = (w : World) (ts : List Round) (later : List ℕ) → Ended ts later → (room : ℕ)
    → (let r : Run = rounds w ts in
    line_most + length r.lines ≤ room
    → whole room w (stream ts ++ later) ≡ onward r (whole (room - length r.lines) r.world (drop r.used (stream ts) ++ later)))

-- and it is all of it where a torn record ended them, or the last of them, with the input ended and room for the longest line, took nothing
abbrev pub StreamsAreWhole : Type 0
StreamsAreWhole = (w : World) (t : Round) (ts : List Round) → Ended (t ∷ ts) [] → (room : ℕ)
    → (let r : Run = rounds w (t ∷ ts) in
    (r.torn ≡ true) ⊎ ((t.last ≡ true) × (line_most ≤ t.room) × (r.used ≡ (rounds w ts).used))
    → line_most + length r.lines ≤ room
    → whole room w (stream (t ∷ ts)) ≡ r)
