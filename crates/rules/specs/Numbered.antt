-- The number of each refusal, and results told by their numbers: "0 done".
use Rattle.std.specs.Prelude.{ℕ, cond, Result, Ok, Err}
use Rattle.rules.specs.declared.refusals.Refusal.{Refusal}
use Rattle.rules.specs.declared.refusals.Refusal.TheVariants.{SetupLength, HostData, ReplyRoom, Unconfigured, NotInTable, NoPlace, NoneFitted, Outside, NotAtEight, CrossesPage, Halted, NotValid, NotMeaningful, OperationRoom, WrongPhase, Malformed, NoDescriptor, PastMemory, CutRecord, UnknownKind, PayloadLength, NoRecord, ShortImage, ChangeRoom, RecordRoom}
use Rattle.rules.specs.Step.{done}

abbrev pub refusal_number : Refusal → ℕ
refusal_number SetupLength = 1
refusal_number HostData = 2
refusal_number ReplyRoom = 3
refusal_number Unconfigured = 4
refusal_number NotInTable = 5
refusal_number NoPlace = 6
refusal_number NoneFitted = 7
refusal_number Outside = 8
refusal_number NotAtEight = 9
refusal_number CrossesPage = 10
refusal_number Halted = 11
refusal_number NotValid = 13
refusal_number NotMeaningful = 14
refusal_number OperationRoom = 15
refusal_number WrongPhase = 16
refusal_number Malformed = 17
refusal_number NoDescriptor = 18
refusal_number PastMemory = 19
refusal_number CutRecord = 20
refusal_number UnknownKind = 21
refusal_number PayloadLength = 22
refusal_number NoRecord = 23
refusal_number ShortImage = 24
refusal_number ChangeRoom = 25
refusal_number RecordRoom = 29

-- a result with the number of its refusal
abbrev pub by_number : {A : Type 0} → Result A Refusal → Result A ℕ
by_number (Ok x) = Ok x
by_number (Err refusal) = Err (refusal_number refusal)

-- what checks come to whose first number is n: a value where it is 0, and else a refusal
abbrev pub checked : {A : Type 0} → A → ℕ → Result A ℕ
checked x n = cond (done n) (Ok x) (Err n)

-- the answer of a result, and the count of one that has it for its value
abbrev pub answer_of : {A : Type 0} → Result A Refusal → ℕ
answer_of (Ok x) = 0
answer_of (Err refusal) = refusal_number refusal

abbrev pub count_of : Result ℕ Refusal → ℕ
count_of (Ok count) = count
count_of (Err refusal) = 0
