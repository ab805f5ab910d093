-- A refusal is known by its number, and a result by the number of its refusal.
use Rattle.std.specs.Prelude.{◌≡◌, ℕ, cond, eqb, Option, Some, None, Result, Ok, Err}
use Rattle.std.proofs.Common.{rules, refl, sym, ap, ◌∙◌}
use Rattle.rules.specs.declared.refusals.Refusal.{Refusal}
use Rattle.rules.specs.declared.refusals.Refusal.TheVariants.{SetupLength, HostData, ReplyRoom, Unconfigured, NotInTable, NoPlace, NoneFitted, Outside, NotAtEight, CrossesPage, Halted, NotValid, NotMeaningful, OperationRoom, WrongPhase, Malformed, NoDescriptor, PastMemory, CutRecord, UnknownKind, PayloadLength, NoRecord, ShortImage, ChangeRoom, RecordRoom}
use Rattle.rules.specs.Numbered.{refusal_number, by_number, answer_of, count_of}

-- the refusal of a number
abbrev refusal_of : ℕ → Option Refusal
refusal_of n =
    cond (eqb n 1) (Some SetupLength) (
    cond (eqb n 2) (Some HostData) (
    cond (eqb n 3) (Some ReplyRoom) (
    cond (eqb n 4) (Some Unconfigured) (
    cond (eqb n 5) (Some NotInTable) (
    cond (eqb n 6) (Some NoPlace) (
    cond (eqb n 7) (Some NoneFitted) (
    cond (eqb n 8) (Some Outside) (
    cond (eqb n 9) (Some NotAtEight) (
    cond (eqb n 10) (Some CrossesPage) (
    cond (eqb n 11) (Some Halted) (
    cond (eqb n 13) (Some NotValid) (
    cond (eqb n 14) (Some NotMeaningful) (
    cond (eqb n 15) (Some OperationRoom) (
    cond (eqb n 16) (Some WrongPhase) (
    cond (eqb n 17) (Some Malformed) (
    cond (eqb n 18) (Some NoDescriptor) (
    cond (eqb n 19) (Some PastMemory) (
    cond (eqb n 20) (Some CutRecord) (
    cond (eqb n 21) (Some UnknownKind) (
    cond (eqb n 22) (Some PayloadLength) (
    cond (eqb n 23) (Some NoRecord) (
    cond (eqb n 24) (Some ShortImage) (
    cond (eqb n 25) (Some ChangeRoom) (
    cond (eqb n 29) (Some RecordRoom) (
    None)))))))))))))))))))))))))

back : (e : Refusal) → refusal_of (refusal_number e) ≡ Some e
back SetupLength = refl
back HostData = refl
back ReplyRoom = refl
back Unconfigured = refl
back NotInTable = refl
back NoPlace = refl
back NoneFitted = refl
back Outside = refl
back NotAtEight = refl
back CrossesPage = refl
back Halted = refl
back NotValid = refl
back NotMeaningful = refl
back OperationRoom = refl
back WrongPhase = refl
back Malformed = refl
back NoDescriptor = refl
back PastMemory = refl
back CutRecord = refl
back UnknownKind = refl
back PayloadLength = refl
back NoRecord = refl
back ShortImage = refl
back ChangeRoom = refl
back RecordRoom = refl

pub refusal_tells : (d e : Refusal) → refusal_number d ≡ refusal_number e → d ≡ e
refusal_tells d e same = some_is (sym (back d) ∙ ap refusal_of same ∙ back e)
  where
    some_is : {d e : Refusal} → Some d ≡ Some e → d ≡ e
    some_is {d} {e} p = search rules

-- no refusal has the number of what is done
pub not_done : (e : Refusal) → refusal_number e ≡ 0 → ⊥
not_done e none = some_none (sym (back e) ∙ ap refusal_of none)
  where
    some_none : Some e ≡ None → ⊥
    some_none p = search rules

pub numbered_tells : {A : Type 0} (r s : Result A Refusal) → by_number r ≡ by_number s → r ≡ s
numbered_tells (Ok x) (Ok y) same = search rules
numbered_tells (Ok x) (Err e) same = search rules
numbered_tells (Err d) (Ok y) same = search rules
numbered_tells (Err d) (Err e) same = ap Err (refusal_tells d e (go same))
  where
    go : {A : Type 0} {m n : ℕ} → Path (Result A ℕ) (Err m) (Err n) → m ≡ n
    go p = search rules

pub answer_tells : (r s : Result ℕ Refusal) → answer_of r ≡ answer_of s → count_of r ≡ count_of s → r ≡ s
answer_tells (Ok x) (Ok y) same counts = ap Ok counts
answer_tells (Ok x) (Err e) same counts = absurd (not_done e (sym same))
answer_tells (Err d) (Ok y) same counts = absurd (not_done d same)
answer_tells (Err d) (Err e) same counts = ap Err (refusal_tells d e same)
