-- A settings store: request 5 of document 02, in its order and words, and what request 6 makes of the last byte.
use Rattle.std.specs.Prelude.{ℕ, zero, suc, ◌+◌, ◌*◌, ◌/◌, ◌%◌, Bool, cond, not, ◌&&◌, ◌||◌, List, [], ◌∷◌, ◌++◌, length, take, drop, eqb, leb, ltb, Result}
use Rattle.std.specs.Result.{result_unwrap_or}
use Rattle.rules.specs.Words.{byte, word, Check, ◌if◌, first, laid}
use Rattle.rules.specs.declared.PageSize.{PageSize}
use Rattle.rules.specs.declared.PageSize.TheVariants.{Of32, Of256}
use Rattle.rules.specs.Held.{page_bytes, page_of, defaults}
use Rattle.rules.specs.Numbered.{answer_of}
use Rattle.rules.specs.declared.refusals.Refusal.{Refusal}
use Rattle.rules.specs.Step.{done}
use Rattle.settings.specs.declared.Kind.{Kind}
use Rattle.settings.specs.declared.Kind.TheVariants.{Plain, Paged}
use Rattle.settings.specs.declared.Settings.{Settings}

-- ---- "A store is a run of records: payload length (2, low first), kind (2, low first), payload."

abbrev pub length_of : List ℕ → ℕ
length_of s = word 0 s

abbrev pub kind_of : List ℕ → ℕ
kind_of s = word 2 s

abbrev pub payload_of : List ℕ → List ℕ
payload_of s = take (length_of s) (drop 4 s)

-- a record, as it is made
abbrev pub bytes2 : ℕ → List ℕ
bytes2 n = n % 256 ∷ n / 256 % 256 ∷ []

abbrev pub record_of : ℕ → List ℕ → List ℕ
record_of kind payload = bytes2 (length payload) ++ bytes2 kind ++ payload

-- ---- "Kind 0x0101 is fourteen bytes for addresses 2 to F. Kind 0x0102 is the same and one byte more", by request 6 "the page size divided by 32 in its
-- last byte, any other byte reading as 32; 0x0101 reads as 256. Settings hold one of the four sizes."

abbrev pub settings_from : List ℕ → PageSize → Settings
settings_from bytes page = record { bytes = bytes; page = page }

abbrev pub length_for : ℕ → ℕ
length_for kind = cond (eqb kind 0x0101) 14 15

abbrev pub settings_of : ℕ → List ℕ → Settings
settings_of kind payload = settings_from (take 14 payload) (cond (eqb kind 0x0101) Of256 (page_of (32 * byte 14 payload)))

-- the number of a kind
abbrev pub kind_number : Kind → ℕ
kind_number Plain = 0x0101
kind_number Paged = 0x0102

-- The reader of an edition knows the kinds that there are up to its newest, k.
abbrev pub knows : ℕ → ℕ → Bool
knows k kind = leb kind k && (eqb kind 0x0101 || eqb kind 0x0102)

-- ---- "Refusals: 20 cut record, 21 unknown kind, 22 payload length wrong for its kind, 23 no record; judged record by record from the front, in that
-- order within a record, the first found is answered."

-- of the record at the front of s
abbrev pub record_checks : ℕ → List ℕ → List Check
record_checks k s =
    20 if ltb (length s) (4 + length_of s)
    ∷ 21 if not (knows k (kind_of s))
    ∷ 22 if not (eqb (length_of s) (length_for (kind_of s)))
    ∷ []

-- "refuses by number and shows nothing": the settings that come with a refusal are the defaults, and the safe page size
abbrev pub hidden : Settings
hidden = settings_from defaults Of32

-- what a store says: its number, and where that is 0 the settings, else the defaults
pub record Reading : Type 0 where
  pub answer : ℕ
  pub settings : Settings

abbrev pub refused : ℕ → Reading
refused number = record { answer = number; settings = hidden }

-- .. as a result tells it
abbrev pub reading : Result Settings Refusal → Reading
reading r = record { answer = answer_of r; settings = result_unwrap_or r hidden }

unfoldable pub record_read : ℕ → List ℕ → Reading
record_read k s =
    let answer : ℕ = first (record_checks k s) in
    record { answer = answer; settings = cond (done answer) (settings_of (kind_of s) (payload_of s)) hidden }

-- "The last record is the settings": what was read so far stands until the next record is read; of the record before, so much is still ahead
unfoldable pub read_on : ℕ → ℕ → Reading → List ℕ → Reading
read_on k ahead so_far [] = so_far
read_on k (suc ahead) so_far (b ∷ s) = read_on k ahead so_far s
read_on k zero so_far (b ∷ s) =
    let r : Reading = record_read k (b ∷ s) in
    cond (done r.answer) (read_on k (3 + length_of (b ∷ s)) r s) r

abbrev pub read_by : ℕ → List ℕ → Reading
read_by k store = read_on k 0 (refused 23) store

-- "an accepted store's size replaces the number given at power-on"
abbrev pub in_force : PageSize → Reading → PageSize
in_force given r = cond (done r.answer) r.settings.page given

-- ---- "The writer makes one record of the newest kind it knows." "Writer: 29 less room than the record, nothing written."

-- the newest kind of this edition
abbrev pub newest : ℕ
newest = 0x0102

-- how long such a record is
abbrev pub record_length : ℕ
record_length = 4 + length_for newest

abbrev pub payload_for : Settings → List ℕ
payload_for s = s.bytes ++ page_bytes s.page / 32 ∷ []

abbrev pub written : Settings → List ℕ
written s = record_of newest (payload_for s)

pub record Written : Type 0 where
  pub answer : ℕ
  pub room : List ℕ

abbrev pub wrote : ℕ → List ℕ → Written
wrote answer room = record { answer = answer; room = room }

abbrev pub written_in : Settings → List ℕ → Written
written_in s room =
    let answer : ℕ = first (29 if ltb (length room) record_length ∷ []) in
    wrote answer (cond (done answer) (laid (written s) room) room)
