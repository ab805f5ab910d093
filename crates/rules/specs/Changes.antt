-- What an event may change of the bridge, the bridge with it made, and whether it drops what is held. Nothing else changes a bridge.
use Rattle.std.specs.Prelude.{Bool, true, false}
use Rattle.rules.specs.declared.Bridge.{Bridge}
use Rattle.rules.specs.declared.Change.{Change}
use Rattle.rules.specs.declared.Change.TheVariants.{Nothing, Sets, Awaits, Resets, Drops, Begins, Finishes, Stops, Notes, Clears, Ends}
use Rattle.rules.specs.declared.Phase.TheVariants.{Awaiting, Busy, StatusWaiting, Stopped}
use Rattle.rules.specs.Held.{configuring, in_phase, halted, halting, clearing}

abbrev pub made : Change → Bridge → Bridge
-- a refusal, and whatever only reads or writes bytes
made Nothing b = b
-- "sets it; awaiting, no halts". A bus reset "restores those three".
made (Sets c) b = configuring c (in_phase Awaiting (halted false false b))
-- "hands it out and the bridge then awaits"
made Awaits b = in_phase Awaiting b
-- "busy or status waiting becomes awaiting; halts stay"
made Resets b = in_phase Awaiting b
-- "no effect on a stop"
made Drops b = b
-- "makes the phase busy"
made (Begins direction lun tag l) b = in_phase (Busy direction lun tag l) b
-- "The phase becomes status waiting", "and the pipe of the direction is halted" or not
made (Finishes direction halts status tag residue) b = halting halts direction (in_phase (StatusWaiting tag residue status) b)
-- "halts both pipes and stops the bridge"
made Stops b = in_phase (Stopped false) (halted true true b)
-- stopped, "with a note of whether a Mass Storage Reset has come"
made Notes b = in_phase (Stopped true) b
-- "clears that halt"
made (Clears direction) b = clearing direction b
-- "the second pipe cleared": a stop ends
made Ends b = in_phase Awaiting (halted false false b)

-- "What was held is dropped .. by a .. bus reset, accepted Mass Storage Reset, SOFT_RESET or Set Configuration, or the Clear Feature that ends a stop":
-- by what these change
abbrev pub drops : Change → Bool
drops Nothing = false
drops (Sets c) = true
drops Awaits = false
drops Resets = true
drops Drops = true
drops (Begins direction lun tag l) = false
drops (Finishes direction halts status tag residue) = false
drops Stops = false
drops Notes = true
drops (Clears direction) = false
drops Ends = true
