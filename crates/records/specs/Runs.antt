-- Runs: what the bench does with a block of input.
use Rattle.std.specs.Prelude.{ℕ, zero, suc, ◌+◌, ◌-◌, ◌≤◌, ◌≡◌, Bool, true, false, cond, List, [], ◌∷◌, ◌++◌, length, drop, ltb}
use Rattle.rules.specs.Words.{laid}
use Rattle.rules.specs.Held.{World, world}
use Rattle.rules.specs.Step.{Event, step, rules, after}
use Rattle.records.specs.declared.Ran.{Ran}
use Rattle.records.specs.Records.{Head, Whole, Torn, Part, length_of, kind_of, payload_of, event_of, head_of}
use Rattle.records.specs.Lines.{line, torn_line, line_most}

-- what was taken of the stream: the events, the lines that they print, the bytes that they fill, and whether a torn record ended it
pub record Run : Type 0 where
  pub events : List Event
  pub lines : List ℕ
  pub used : ℕ
  pub torn : Bool
  pub world : World

abbrev pub rests : World → Run
rests w = record { events = []; lines = []; used = 0; torn = false; world = w }

-- "prints `torn` and ends"
abbrev pub tears : World → Run
tears w = record { events = []; lines = torn_line; used = 0; torn = true; world = w }

-- events, their lines and the bytes that they fill, and then a run
abbrev pub before : List Event → List ℕ → ℕ → Run → Run
before es lines used r =
    record { events = es ++ r.events; lines = lines ++ r.lines; used = used + r.used; torn = r.torn; world = r.world }

abbrev pub event_in : List ℕ → Event
event_in s = event_of (kind_of s) (payload_of s)

-- an event, and then the rest
abbrev pub goes_on : World → List ℕ → Run → Run
goes_on w s r =
    record {
      events = event_in s ∷ r.events;
      lines = line (event_in s) (step w (event_in s)) ++ r.lines;
      used = 4 + length_of s + r.used;
      torn = r.torn;
      world = r.world;
    }

abbrev pub turn : Head → World → List ℕ → Run → Run
turn Whole w s r = goes_on w s r
turn Torn w s r = tears w
turn Part w s r = rests w

-- a turn needs room for the longest line
abbrev pub turn_in : ℕ → Bool → World → List ℕ → Run → Run
turn_in room last w s r = cond (ltb room line_most) (rests w) (turn (head_of last s) w s r)

-- at most n whole records from the front of a stream
abbrev pub run : ℕ → Bool → ℕ → World → List ℕ → Run
run zero last room w s = rests w
run (suc n) last room w s =
    let e : Event = event_in s in
    turn_in room last w s (run n last (room - length (line e (step w e))) (step w e).next (drop (4 + length_of s) s))

-- everything that a call leaves. A block has no more records than bytes.
pub record RunLeft : Type 0 where
  pub world : World
  pub used : ℕ
  pub written : ℕ
  pub torn : Bool
  pub output : List ℕ

abbrev pub run_left : Ran → List ℕ → List ℕ → List ℕ → RunLeft
run_left r bytes memory output =
    record { world = world r.bridge bytes memory; used = r.used; written = r.written; torn = r.torn; output = output }

abbrev pub left_by_run : Run → List ℕ → RunLeft
left_by_run r output =
    record { world = r.world; used = r.used; written = length r.lines; torn = r.torn; output = laid r.lines output }

abbrev pub run_leaves : Bool → World → List ℕ → List ℕ → RunLeft
run_leaves last w s output = left_by_run (run (length s) last (length output) w s) output

-- ---- what holds of runs, proved in proofs/AsTheRules

abbrev pub printed : World → List Event → List ℕ
printed w [] = []
printed w (e ∷ es) = line e (step w e) ++ printed (step w e).next es

-- a run is the rules' own: the world is the one after its events, and the lines are theirs, with `torn` behind them where it ended so
abbrev pub RunsAreTheRules : Type 0
RunsAreTheRules = (n : ℕ) (last : Bool) (room : ℕ) (w : World) (s : List ℕ)
    → (let r : Run = run n last room w s in
    (r.world ≡ after rules w r.events) × (r.lines ≡ printed w r.events ++ cond r.torn torn_line []))

-- and it leaves no record behind that is whole: what is left begins with a part, unless the room ran out or the stream is torn
abbrev pub NothingIsLeft : Type 0
NothingIsLeft = (last : Bool) (room : ℕ) (w : World) (s : List ℕ)
    → (let r : Run = run (length s) last room w s in
    r.torn ≡ false → line_most ≤ room - length r.lines → head_of last (drop r.used s) ≡ Part)
