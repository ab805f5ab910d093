-- What holds of stores, over every edition of the reader: proved in proofs/Stores.
use Rattle.std.specs.Prelude.{ℕ, ◌+◌, ◌/◌, ◌<◌, ◌≤◌, ◌≡◌, ◌⊎◌, List, [], ◌∷◌, ◌++◌, length, take, drop}
use Rattle.rules.specs.declared.PageSize.{PageSize}
use Rattle.rules.specs.declared.PageSize.TheVariants.{Of32, Of256}
use Rattle.rules.specs.Held.{page_bytes}
use Rattle.settings.specs.declared.Settings.{Settings}
use Rattle.settings.specs.Store.{Reading, length_of, kind_of, record_of, settings_from, length_for, refused, read_by, newest, record_length, written, wrote, written_in}

-- good settings: number 0
abbrev pub accepted : Settings → Reading
accepted s = record { answer = 0; settings = s }

-- nothing, or records that are good by a reader that knows kinds up to k
abbrev pub Good : ℕ → List ℕ → Type 0
Good k front = (front ≡ []) ⊎ ((read_by k front).answer ≡ 0)

-- "The last record is the settings": good records are as if they were not there, once another follows, whatever it is.
abbrev pub LastCounts : Type 0
LastCounts = (k : ℕ) (front rest : List ℕ) → Good k front → 0 < length rest → read_by k (front ++ rest) ≡ read_by k rest

-- "Kind 0x0101 is fourteen bytes .. Kind 0x0102 is the same and one byte more"; it "now holds the page size divided by 32 in its last byte .. ; 0x0101 reads
-- as 256"
abbrev pub RecordIsRead : Type 0
RecordIsRead =
    (k : ℕ) (bytes : List ℕ) (page : PageSize) → length bytes ≡ 14
    → (0x0101 ≤ k → read_by k (record_of 0x0101 bytes) ≡ accepted (settings_from bytes Of256))
    × (0x0102 ≤ k → read_by k (record_of 0x0102 (bytes ++ page_bytes page / 32 ∷ [])) ≡ accepted (settings_from bytes page))

-- .. "any other byte reading as 32"
abbrev pub OtherByteIs32 : Type 0
OtherByteIs32 =
    (k : ℕ) (bytes : List ℕ) (last : ℕ) → length bytes ≡ 14 → 0x0102 ≤ k → (last ≡ 2 → ⊥) → (last ≡ 4 → ⊥) → (last ≡ 8 → ⊥)
    → read_by k (record_of 0x0102 (bytes ++ last ∷ [])) ≡ accepted (settings_from bytes Of32)

-- "Writing then reading gives back the same settings", for all settings: the number is 0. The store is one record, of the newest kind, and as long as the
-- room that the writer asks for.
abbrev pub SettingsComeBack : Type 0
SettingsComeBack =
    (s : Settings) → length s.bytes ≡ 14
    → (read_by newest (written s) ≡ accepted s)
    × (kind_of (written s) ≡ newest) × (length_of (written s) ≡ length_for newest) × (length (written s) ≡ record_length)

-- "Writer: 29 less room than the record, nothing written"; else the record stands at the front of the room, and the rest is unchanged.
abbrev pub RoomIsExact : Type 0
RoomIsExact =
    (s : Settings) (room : List ℕ) → length s.bytes ≡ 14
    → (length room < length (written s) → written_in s room ≡ wrote 29 room)
    × (length (written s) ≤ length room → written_in s room ≡ wrote 0 (written s ++ drop (length (written s)) room))

-- a kind above the newest that a reader knows, or none of those that there are
abbrev pub Unfamiliar : ℕ → ℕ → Type 0
Unfamiliar k kind = (k < kind) ⊎ ((kind ≡ 0x0101 → ⊥) × (kind ≡ 0x0102 → ⊥))

-- "An older reader that meets a kind it doesn't know refuses by number and shows nothing", whatever its payload and whatever follows.
abbrev pub UnfamiliarIsRefused : Type 0
UnfamiliarIsRefused =
    (k kind : ℕ) (front payload rest : List ℕ) → Good k front → Unfamiliar k kind → kind < 65536 → length payload < 65536
    → read_by k (front ++ record_of kind payload ++ rest) ≡ refused 21

-- "20 cut record": a beginning of a record that is not all of it, whatever its kind and its length.
abbrev pub CutIsRefused : Type 0
CutIsRefused =
    (k kind n : ℕ) (front payload : List ℕ) → Good k front → length payload < 65536 → 0 < n → n < 4 + length payload
    → read_by k (front ++ take n (record_of kind payload)) ≡ refused 20

-- "22 payload length wrong for its kind", whatever follows.
abbrev pub OtherLengthIsRefused : Type 0
OtherLengthIsRefused =
    (k : ℕ) (front payload rest : List ℕ) → Good k front → length payload < 65536
    → (0x0101 ≤ k → (length payload ≡ 14 → ⊥) → read_by k (front ++ record_of 0x0101 payload ++ rest) ≡ refused 22)
    × (0x0102 ≤ k → (length payload ≡ 15 → ⊥) → read_by k (front ++ record_of 0x0102 payload ++ rest) ≡ refused 22)

-- "23 no record"
abbrev pub NothingIsRefused : Type 0
NothingIsRefused = (k : ℕ) → read_by k [] ≡ refused 23

-- A refused store shows nothing: what comes with the refusal are the defaults, "all are 0, but 0x04 is 0x24", and the safe page size, whatever stands in
-- the store.
abbrev pub RefusedShowsNothing : Type 0
RefusedShowsNothing =
    (k : ℕ) (store : List ℕ) → ((read_by k store).answer ≡ 0 → ⊥)
    → (read_by k store).settings ≡ settings_from (0 ∷ 0 ∷ 0x24 ∷ 0 ∷ 0 ∷ 0 ∷ 0 ∷ 0 ∷ 0 ∷ 0 ∷ 0 ∷ 0 ∷ 0 ∷ 0 ∷ []) Of32
