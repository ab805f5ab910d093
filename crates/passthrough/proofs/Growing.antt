-- A row that grows: what stands behind what, the room that it takes, and what the registers make, one by one.
use Rattle.std.proofs.Common.{◌≡◌, refl, arith, ℕ, suc, ◌+◌, ◌≤◌, ◌<◌, List, [], ◌∷◌, ◌++◌, length, length-append, append_assoc, add-one, add-zero, zero-add, add-suc, suc-add, add_assoc}
use Rattle.std.proofs.Math.ListN.{set}
use Rattle.std.proofs.Math.Seq.{sets, sets-eq, length-sets}
use native.Mathlib.Decide.{le_ind}
use native.Mathlib.Nat.{le_refl}
use Rattle.rules.specs.Words.{laid}
use Rattle.rules.specs.Operations.{Operation, code, codes, writes, reads}
use Rattle.rules.proofs.Demands.Makers.{codes-length}
use Rattle.passthrough.specs.declared.blocks.Access.{Access}
use Rattle.passthrough.specs.declared.blocks.Access.TheVariants.{Write, Read}
use Rattle.passthrough.specs.declared.rows.Row.{Row}
use Rattle.passthrough.specs.Blocks.{accesses}
use Rattle.passthrough.specs.Rows.{after, rising}

sets_append : (xs ys : List Operation) (l : List ℕ) (i : ℕ) → sets l i (codes (xs ++ ys)) ≡ sets (sets l i (codes xs)) (i + length xs) (codes ys)
sets_append [] ys l i = rw add-zero
sets_append (x ∷ xs) ys l i = rw (add-suc, ← suc-add) (sets_append xs ys (set l i (code x)) (suc i))

-- operations behind operations, and none
pub after_after : (xs ys : List Operation) (row : Row) → after ys (after xs row) ≡ after (xs ++ ys) row
unfolding after
after_after xs ys row = rw (sets_append, length-append, add_assoc)

pub after_none : (row : Row) → after [] row ≡ row
unfolding after
after_none row = rw add-zero

-- the same room, of the same length, and the next place behind them
pub name_after : (os : List Operation) (row : Row) → (after os row).room.ghost_name ≡ row.room.ghost_name
unfolding after
name_after os row = refl

pub room_after : (os : List Operation) (row : Row) → length (after os row).room.now ≡ length row.room.now
unfolding after
room_after os row = length-sets row.room.now row.at (codes os)

pub at_after : (os : List Operation) (row : Row) → (after os row).at ≡ row.at + length os
unfolding after
at_after os row = refl

-- what stands behind nothing is laid at the front of the room
pub after_laid : (os : List Operation) (row : Row) → row.at ≡ 0 → length os ≤ length row.room.now → (after os row).room.now ≡ laid (codes os) row.room.now
unfolding after
after_laid os row none h = rw (none, sets-eq (codes os) row.room.now 0 (rw (codes-length os, zero-add) h), zero-add)

-- what a row needs that grows, and one that is made whole
pub ruleset rows = (after_after, after_none, room_after, at_after, length-append)

pub ruleset whole_rows = (rows, name_after, after_laid, zero-add)

-- ---- one register more, and the room for it

writes_append : (block xs ys : List ℕ) → writes block (xs ++ ys) ≡ writes block xs ++ writes block ys
writes_append block [] ys = refl
writes_append block (x ∷ xs) ys = rw (writes_append block xs ys, append_assoc)

reads_append : (block xs ys : List ℕ) → reads block (xs ++ ys) ≡ reads block xs ++ reads block ys
reads_append block [] ys = refl
reads_append block (x ∷ xs) ys = rw (reads_append block xs ys, append_assoc)

accesses_append : (access : Access) (block xs ys : List ℕ) → accesses access block (xs ++ ys) ≡ accesses access block xs ++ accesses access block ys
accesses_append Write = writes_append
accesses_append Read = reads_append

pub accesses_next : (access : Access) (block : List ℕ) (n : ℕ)
    → accesses access block (rising (n + 1)) ≡ accesses access block (rising n) ++ accesses access block (n ∷ [])
accesses_next access block n = rw add-one (accesses_append access block (rising n) (n ∷ []))

pub accesses_fit : (access : Access) (block : List ℕ) (n m : ℕ) → n < m
    → length (accesses access block (rising n)) + length (accesses access block (n ∷ [])) ≤ length (accesses access block (rising m))
accesses_fit access block n m h =
    le_ind (λ (k : ℕ). length (accesses access block (rising n)) + length (accesses access block (n ∷ [])) ≤ length (accesses access block (rising k)))
    (rw (accesses_append, length-append) (le_refl _))
    (λ k (l : suc n ≤ k) e. rw (accesses_append, length-append) (omega arith))
    m h
