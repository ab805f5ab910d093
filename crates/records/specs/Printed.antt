-- What the functions behind `run` leave: an event, its line, and the first record of a block.
use Rattle.std.specs.Prelude.{ℕ, ◌+◌, ◌-◌, ◌≤◌, ◌≡◌, Bool, true, false, Result, List, [], length, drop}
use Rattle.rules.specs.declared.Stands.TheVariants.{InRoom, InMemory}
use Rattle.rules.specs.declared.refusals.Refusal.{Refusal}
use Rattle.rules.specs.Numbered.{count_of}
use Rattle.rules.specs.Descriptors.{number_of}
use Rattle.outcomes.specs.declared.Outcome.{Outcome}
use Rattle.rules.specs.Changes.{made}
use Rattle.rules.specs.Held.{World, world}
use Rattle.rules.specs.Step.{Event, step}
use Rattle.records.specs.declared.lines.Printer.{Printer}
use Rattle.records.specs.declared.events.Bench.{Bench}
use Rattle.records.specs.declared.events.Handed.{Handed}
use Rattle.records.specs.declared.events.Handed.TheVariants.{Reply, Operations}
use Rattle.records.specs.declared.events.Answered.{Answered}
use Rattle.records.specs.declared.events.Turned.{Turned}
use Rattle.records.specs.declared.events.Turned.TheVariants.{Taken, Torn, Rests}
use Rattle.records.specs.Records.{length_of}
use Rattle.records.specs.Runs.{Run, before, event_in, turn_in}
use Rattle.records.specs.Lines.{hex_byte, hex_word, line}
use Rattle.records.specs.Puts.{Puts, line_of}

-- the bench as the rules see it
abbrev pub world_of : Bench → World
world_of b = world b.bridge b.bytes.now b.memory.now

-- it is lent what it was lent before
pub record Lent (old new : Bench) : Type 0 where
  pub bytes : new.bytes.ghost_name ≡ old.bytes.ghost_name
  pub memory : new.memory.ghost_name ≡ old.memory.ghost_name

abbrev pub changed_by : Outcome Refusal → Bench → Bench
changed_by o b = record b { bridge = made o.change b.bridge }

-- as much is there as is handed out, and no more than a line has room for
abbrev pub there_at : List ℕ → ℕ → Handed → Type 0
there_at memory count (Reply InRoom) = count ≤ 4096
there_at memory count (Reply (InMemory start)) = (count ≤ length (drop (number_of start) memory)) × (count ≤ 4096)
there_at memory count Operations = count ≤ 11

abbrev pub There : Bench → Answered → Type 0
There b a = there_at b.memory.now (count_of a.answer) a.handed

-- the line of an answer, with what is handed out
abbrev pub line_at : (memory reply operations : List ℕ) → Result ℕ Refusal → Handed → List ℕ
line_at memory reply operations answer (Reply InRoom) = line_of hex_byte answer reply
line_at memory reply operations answer (Reply (InMemory start)) = line_of hex_byte answer (drop (number_of start) memory)
line_at memory reply operations answer Operations = line_of hex_word answer operations

abbrev pub line_in : Bench → Answered → List ℕ
line_in b a = line_at b.memory.now b.reply b.operations a.answer a.handed

-- an event, done as the rules say
pub record Does (old : Bench) (e : Event) (a : Answered) (new : Bench) : Type 0 where
  pub next : world_of new ≡ (step (world_of old) e).next
  pub line : line_in new a ≡ line e (step (world_of old) e)
  pub there : There new a
  pub lent : Lent old new

-- ---- turns

-- the bytes that were taken
abbrev pub taken : Turned → ℕ
taken (Taken n) = n
taken Torn = 0
taken Rests = 0

-- a run that has ended, and what a turn leaves of one that may go on
abbrev pub ended : Bool → World → Run
ended torn w = record { events = []; lines = []; used = 0; torn = torn; world = w }

abbrev pub remains : Turned → World → Run → Run
remains (Taken n) w r = r
remains Torn w r = ended true w
remains Rests w r = ended false w

-- the first record of the block s was taken, or why it was not
pub record Turns (last : Bool) (old : Bench) (p : Printer) (s : List ℕ) (t : Turned) (new : Bench) (q : Printer) : Type 0 where
  pub events : List Event
  pub printed : List ℕ
  pub puts : Puts p printed q
  pub inside : taken t ≤ length s
  pub same : (r : Run) → turn_in (length p.output.now - p.at) last (world_of old) s r
      ≡ before events printed (taken t) (remains t (world_of new) r)
  pub onward : t ≡ Taken (taken t)
      → (printed ≡ line (event_in s) (step (world_of old) (event_in s))) × (taken t ≡ 4 + length_of s) × (world_of new ≡ (step (world_of old) (event_in s)).next)
  pub lent : Lent old new
