-- What holds of a mended image and of the list of its changes: proved in proofs/Mended, proofs/Listed and proofs/Answers, save the last statement, of
-- descriptors, which is not proved yet.
use Rattle.std.specs.Prelude.{ℕ, ◌+◌, ◌<◌, ◌≤◌, ◌≡◌, ◌⊎◌, cond, List, [], ◌∷◌, length, set, ltb}
use Rattle.rules.specs.Words.{byte, word, laid}
use Rattle.rules.specs.Step.{Machine}
use Rattle.rules.specs.Demands.Descriptors.{wanting}
use Rattle.mend.specs.Mend.{mended, Changed, changed, changes, entries, mending, left, mends}

-- x is one of these
abbrev pub Among : {A : Type 0} → A → List A → Type 0
Among x [] = ⊥
Among x (y ∷ ys) = (x ≡ y) ⊎ Among x ys

-- ---- the image

-- "sets the bytes which allow one answer only"
abbrev pub FixedBytesAreSet : Type 0
FixedBytesAreSet =
    (image : List ℕ) → 0x89 ≤ length image
    → (let m : List ℕ = mended image in
    (byte 0x10 m ≡ 0x12) × (byte 0x11 m ≡ 0x01) × (byte 0x22 m ≡ 0x0A) × (byte 0x23 m ≡ 0x06) × (byte 0x2B m ≡ 0)
    × (byte 0x2C m ≡ 0x09) × (byte 0x80 m ≡ 0x09) × (byte 0x2D m ≡ 0x02) × (byte 0x81 m ≡ 0x02) × (byte 0x31 m ≡ 0x02) × (byte 0x85 m ≡ 0x02))

-- a string index names a string of an image: its two head bytes, at twice the index, lie in it, and the second is 0x03
abbrev pub Names : List ℕ → ℕ → Type 0
Names image i = (i + i + 2 ≤ length image) × (byte (i + i + 1) image ≡ 0x03)

-- "A string index at 0x32 or 0x86 that is not 0 becomes 0 when its string's two head bytes lie outside the image or the second isn't 0x03", and then only;
-- "judge these after the fixed bytes are set": by the mended image
abbrev pub StringIndexesAreJudged : Type 0
StringIndexesAreJudged =
    (image : List ℕ) (a : ℕ) → (a ≡ 0x32) ⊎ (a ≡ 0x86)
    → (let m : List ℕ = mended image in
    (Names m (byte a image) → byte a m ≡ byte a image) × ((Names m (byte a image) → ⊥) → byte a m ≡ 0))

-- .. so each is 0 or names a string
abbrev pub StringIndexesAreGood : Type 0
StringIndexesAreGood = (image : List ℕ) (a : ℕ) → (a ≡ 0x32) ⊎ (a ≡ 0x86) → (byte a (mended image) ≡ 0) ⊎ Names (mended image) (byte a (mended image))

-- "No other byte changes."
abbrev pub NoOtherByteChanges : Type 0
NoOtherByteChanges =
    (image : List ℕ)
    → (length (mended image) ≡ length image)
    × ((k : ℕ) → (Among k (0x10 ∷ 0x11 ∷ 0x22 ∷ 0x23 ∷ 0x2B ∷ 0x2C ∷ 0x2D ∷ 0x31 ∷ 0x32 ∷ 0x80 ∷ 0x81 ∷ 0x85 ∷ 0x86 ∷ []) → ⊥)
    → byte k (mended image) ≡ byte k image)

-- "mending twice changes nothing", and lists nothing
abbrev pub TwiceIsOnce : Type 0
TwiceIsOnce = (image : List ℕ) → (mended (mended image) ≡ mended image) × (changes (mended image) ≡ [])

-- ---- the list

-- "It lists each changed address with the old byte and the new": these, and nothing else.
abbrev pub ChangesAreListed : Type 0
ChangesAreListed =
    (image : List ℕ) (k : ℕ) → (byte k (mended image) ≡ byte k image → ⊥) → Among (changed k (byte k image) (byte k (mended image))) (changes image)

abbrev pub ListedIsChanged : Type 0
ListedIsChanged =
    (image : List ℕ) (c : Changed) → Among c (changes image)
    → (c.address < length image) × (c.old ≡ byte c.address image) × (c.new ≡ byte c.address (mended image)) × (c.old ≡ c.new → ⊥)

-- "rising": none of these addresses is below the number, and each is above the one before
pub data Rising : ℕ → List Changed → Type 0 where
  none : (n : ℕ) → Rising n []
  next : (n : ℕ) (c : Changed) (cs : List Changed) → n ≤ c.address → Rising (c.address + 1) cs → Rising n (c ∷ cs)

abbrev pub ListRises : Type 0
ListRises = (image : List ℕ) → Rising 0 (changes image)

-- "the listed old bytes put back give the spoiled image"
abbrev pub put_back : List Changed → List ℕ → List ℕ
put_back [] image = image
put_back (c ∷ cs) image = put_back cs (set image c.address c.old)

abbrev pub OldBytesGiveTheImage : Type 0
OldBytesGiveTheImage = (image : List ℕ) → put_back (changes image) (mended image) ≡ image

-- A list with room for thirteen is never refused.
abbrev pub ThirteenAtMost : Type 0
ThirteenAtMost = (image : List ℕ) → 0x89 ≤ length image → length (changes image) ≤ 13

-- ---- the call

-- "Refusals: 24 image too short, 25 list room below the number of changes; both leave the image as found, checked in that order." Else the changes stand at
-- the front of the list, and the rest of it is unchanged.
abbrev pub RefusedIsAsFound : Type 0
RefusedIsAsFound =
    (image list : List ℕ)
    → (length image < 0x89 → mends image list ≡ left (mending 24 0) image list)
    × (0x89 ≤ length image → length list < length (changes image) → mends image list ≡ left (mending 25 0) image list)
    × (0x89 ≤ length image → length (changes image) ≤ length list
    → mends image list ≡ left (mending 0 (length (changes image))) (mended image) (laid (entries image) list))

-- ---- with request 1: a dock whose memory is a mended image, all of it within M, in whatever state it is

-- Get Descriptor for the device and for the qualifier is done; for the configuration, by either power source, it is never refused for its type byte: 18 is
-- a total length below 4, 19 one that runs past M.
abbrev pub DescriptorsAreFound : Machine → Type 0
DescriptorsAreFound m =
    (s : m.State) (image : List ℕ) (language n room : ℕ) → 0x89 ≤ length image → length image ≤ 2048 → (m.shows s).memory ≡ mended image
    → (let start : ℕ = cond (m.shows s).bridge.dock.bus_powered 0x2C 0x80 in
    let total : ℕ = word (start + 2) image in
    ((m.takes s (wanting 1 0 language n [] room)).answer ≡ 0)
    × ((m.takes s (wanting 6 0 language n [] room)).answer ≡ 0)
    × ((m.takes s (wanting 2 0 language n [] room)).answer ≡ cond (ltb total 4) 18 (cond (ltb (length image) (start + total)) 19 0)))
