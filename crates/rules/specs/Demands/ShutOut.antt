-- The bridges that document 01 says are shut out, each as a machine of its own, and the demand that each breaks.
use Rattle.std.specs.Prelude.{Bool, false, cond, ◌||◌, List, [], ◌∷◌, ℕ, length, replicate, ltb}
use Rattle.rules.specs.declared.Phase.TheVariants.{StatusWaiting}
use Rattle.rules.specs.declared.Stands.TheVariants.{InRoom}
use Rattle.rules.specs.Held.{World, world, holding, powered, in_phase, is_stopped}
use Rattle.rules.specs.Packets.{command_of}
use Rattle.rules.specs.Step.{Event, BusReset, Control, Packet, Report, StatusRequest, Burst, EndMark, Outcome, Machine, damaged, given, step}
use Rattle.rules.specs.Demands.Examples.{Examples}
use Rattle.rules.specs.Demands.Requests.{ExactWrites, ExactReads}
use Rattle.rules.specs.Demands.Operations.{ExactOperations}
use Rattle.rules.specs.Demands.Boundary.{Silence, Resumption}

-- a machine that holds what a bridge holds, and no more
abbrev acting : (World → Event → Outcome World) → Machine
acting takes = record { State = World; on = powered; shows = λ w. w; takes = takes }

-- an outcome with its reply, its operations or its state changed
abbrev replying : List ℕ → Outcome World → Outcome World
replying r o = record { answer = o.answer; reply = r; stands = o.stands; operations = o.operations; next = o.next }

abbrev operating : List ℕ → Outcome World → Outcome World
operating p o = record { answer = o.answer; reply = o.reply; stands = o.stands; operations = p; next = o.next }

abbrev leaving : {State : Type 0} → State → Outcome World → Outcome State
leaving s o = record { answer = o.answer; reply = o.reply; stands = o.stands; operations = o.operations; next = s }

-- "a bridge that STALLs everything"
abbrev stalls : World → Event → Outcome World
stalls w BusReset = step w BusReset
stalls w (Control setup host room) = record { answer = 5; reply = []; stands = InRoom; operations = []; next = w }
stalls w (Packet p room) = step w (Packet p room)
stalls w (Report direction failed amount) = step w (Report direction failed amount)
stalls w (StatusRequest room) = step w (StatusRequest room)
stalls w (Burst bytes) = step w (Burst bytes)
stalls w (EndMark room) = step w (EndMark room)

abbrev pub stalls_all : Machine
stalls_all = acting stalls

-- "one that replies zeros to everything"
abbrev pub replies_zeros : Machine
replies_zeros = acting (λ w e. replying (replicate (length (step w e).reply) 0) (step w e))

-- "one that accepts writes and stores nothing"
abbrev pub stores_nothing : Machine
stores_nothing = acting (λ w e. leaving (holding (step w e).next.held (world (step w e).next.bridge w.bytes w.memory)) (step w e))

-- "one that performs the first command and then only builds status packets": beside what a bridge holds, it remembers whether it has performed one
abbrev built : World → List ℕ → Outcome World → Outcome World
built w p o = operating [] (leaving (world (in_phase (StatusWaiting (command_of p).tag 0 0) w.bridge) w.bytes w.memory) o)

abbrev builds : World → Event → Outcome World
builds w BusReset = step w BusReset
builds w (Control setup host room) = step w (Control setup host room)
builds w (Packet p room) = built w p (step w (Packet p room))
builds w (Report direction failed amount) = step w (Report direction failed amount)
builds w (StatusRequest room) = step w (StatusRequest room)
builds w (Burst bytes) = step w (Burst bytes)
builds w (EndMark room) = built w w.held (step w (EndMark room))

abbrev performing : World × Bool → Event → Outcome (World × Bool)
performing (w, performed) e =
    let o : Outcome World = cond performed (builds w e) (step w e) in
    leaving (o.next, performed || ltb 0 (length o.operations)) o

abbrev pub performs_first : Machine
performs_first = record { State = World × Bool; on = λ start memory. (powered start memory, false); shows = λ s. s.0; takes = performing }

-- "A bridge that never stops"
abbrev pub never_stops : Machine
never_stops = acting (λ w e. leaving (cond (damaged (step w e).answer) w (step w e).next) (step w e))

-- "One that stops for good"
abbrev pub stops_for_good : Machine
stops_for_good = acting (λ w e. leaving (cond (is_stopped w.bridge.phase) w (step w e).next) (step w e))

-- "The number of operations reported is the number written by the rules above, so an invented one fails demand 2."
abbrev pub invents : Machine
invents = acting (λ w e. operating (given (step w e).answer (0x0100 ∷ (step w e).operations)) (step w e))

-- the first four and the last by demand 2; "answers 13 and 14 with demand 3 shut it out"; "shut out by demand 3"
abbrev pub ShutOut : Type 0
ShutOut =
    (Examples stalls_all → ⊥)
    × (ExactReads replies_zeros → ⊥)
    × (ExactWrites stores_nothing → ⊥)
    × (ExactOperations performs_first → ⊥)
    × (Silence never_stops → ⊥)
    × (Resumption stops_for_good → ⊥)
    × (ExactOperations invents → ⊥)
