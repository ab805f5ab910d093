-- What is ahead is read on from what was read so far.
use Rattle.std.proofs.Common.{◌≡◌, length}
use Rattle.settings.specs.Store.{reading, read_on, read_by, newest}
use Rattle.settings.proofs.read.Given as goal

abbrev pub invariant-loop-last : goal.invariant-loop-last
invariant-loop-last l = read_by newest l.store ≡ read_on newest 0 (reading l.last) l.rest

abbrev pub decreases-loop-last : goal.decreases-loop-last
decreases-loop-last l = length l.rest
