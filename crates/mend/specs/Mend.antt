-- A spoiled image is mended: request 8 of document 02, in its order and words.
use Rattle.std.specs.Prelude.{ℕ, suc, ◌+◌, ◌*◌, Bool, cond, not, ◌&&◌, ◌||◌, List, [], ◌∷◌, map, length, eqb, leb, ltb, Result}
use Rattle.rules.specs.Words.{byte, Check, ◌if◌, first, laid}
use Rattle.rules.specs.Descriptors.{index, address_of, number_of}
use Rattle.rules.specs.Numbered.{answer_of, count_of}
use Rattle.rules.specs.declared.refusals.Refusal.{Refusal}
use Rattle.rules.specs.Step.{done}

-- ---- "sets the bytes which allow one answer only: 0x10 to 0x12, 0x11 to 0x01, 0x22 to 0x0A, 0x23 to 0x06, 0x2B to 0; 0x2C and 0x80 to 0x09; 0x2D and
-- 0x81 to 0x02; 0x31 and 0x85 to 0x02"

infix 70 ◌to◌
pub record Fixed : Type 0 where
  pub address : ℕ
  pub value : ℕ

abbrev pub ◌to◌ : ℕ → ℕ → Fixed
a to v = record { address = a; value = v }

abbrev pub fixed_bytes : List Fixed
fixed_bytes =
    0x10 to 0x12 ∷ 0x11 to 0x01 ∷ 0x22 to 0x0A ∷ 0x23 to 0x06 ∷ 0x2B to 0 ∷
    0x2C to 0x09 ∷ 0x80 to 0x09 ∷ 0x2D to 0x02 ∷ 0x81 to 0x02 ∷ 0x31 to 0x02 ∷ 0x85 to 0x02 ∷ []

-- what an address gets, of the byte that stands there
abbrev pub set_by : List Fixed → ℕ → ℕ → ℕ
set_by [] a b = b
set_by (f ∷ fs) a b = cond (eqb a f.address) f.value (set_by fs a b)

-- every byte of an image by its address, of which the first one's is given
abbrev pub each_byte : (ℕ → ℕ → ℕ) → ℕ → List ℕ → List ℕ
each_byte f a [] = []
each_byte f a (b ∷ bs) = f a b ∷ each_byte f (suc a) bs

abbrev pub fixed : List ℕ → List ℕ
fixed image = each_byte (set_by fixed_bytes) 0 image

-- ---- "A string index at 0x32 or 0x86 that is not 0 becomes 0 when its string's two head bytes lie outside the image or the second isn't 0x03; judge these
-- after the fixed bytes are set."

-- the second of the two, of a string "at twice" its index
abbrev pub second_of : ℕ → ℕ
second_of i = number_of (address_of (index i)) + 1

-- "outside": one of the two is enough
unfoldable pub lost : List ℕ → ℕ → Bool
lost image i = leb (length image) (second_of i) || not (eqb (byte (second_of i) image) 0x03)

-- 0 is 0 either way
unfoldable pub judged_by : List ℕ → ℕ → ℕ → ℕ
judged_by image a b = cond ((eqb a 0x32 || eqb a 0x86) && lost image b) 0 b

unfoldable pub mended : List ℕ → List ℕ
mended image = each_byte (judged_by (fixed image)) 0 (fixed image)

-- ---- "It lists each changed address with the old byte and the new, rising."

pub record Changed : Type 0 where
  pub address : ℕ
  pub old : ℕ
  pub new : ℕ

abbrev pub changed : ℕ → ℕ → ℕ → Changed
changed a o n = record { address = a; old = o; new = n }

-- of two images from an address on
abbrev pub changes_from : ℕ → List ℕ → List ℕ → List Changed
changes_from a [] new = []
changes_from a (o ∷ old) [] = []
changes_from a (o ∷ old) (n ∷ new) = cond (eqb o n) (changes_from (suc a) old new) (changed a o n ∷ changes_from (suc a) old new)

unfoldable pub changes : List ℕ → List Changed
changes image = changes_from 0 image (mended image)

-- a change, as the number that stands for it in a lent list
abbrev pub entry : Changed → ℕ
entry c = 65536 * c.address + 256 * c.old + c.new

abbrev pub entries : List ℕ → List ℕ
entries image = map entry (changes image)

-- ---- "Refusals: 24 image too short, 25 list room below the number of changes; both leave the image as found, checked in that order."

abbrev pub mend_checks : List ℕ → ℕ → List Check
mend_checks image room = 24 if ltb (length image) 0x89 ∷ 25 if ltb room (length (changes image)) ∷ []

-- a number, and how many changes are listed
pub record Mending : Type 0 where
  pub answer : ℕ
  pub changes : ℕ

abbrev pub mending : ℕ → ℕ → Mending
mending answer changes = record { answer = answer; changes = changes }

-- .. as a result tells them
abbrev pub mending_of : Result ℕ Refusal → Mending
mending_of r = mending (answer_of r) (count_of r)

-- what a mending comes to, with the image and the list as they are left
pub record Left : Type 0 where
  pub comes_to : Mending
  pub image : List ℕ
  pub list : List ℕ

abbrev pub left : Mending → List ℕ → List ℕ → Left
left m image list = record { comes_to = m; image = image; list = list }

abbrev pub mends : List ℕ → List ℕ → Left
mends image room =
    let n : ℕ = first (mend_checks image (length room)) in
    left (mending n (cond (done n) (length (changes image)) 0)) (cond (done n) (mended image) image) (cond (done n) (laid (entries image) room) room)
