-- What the calls for field service leave and return, as one equation with the store's meaning.
use Rattle.std.specs.Prelude.{ℕ, ◌+◌, ◌*◌, cond, List}
use Rattle.rules.specs.Held.{page_bytes}
use Rattle.rules.specs.Step.{done}
use Rattle.settings.specs.declared.Settings.{Settings}
use Rattle.settings.specs.Store.{Reading, record_length, Written, written_in}
use Rattle.mend.specs.Mend.{Left, mends}

-- of a read: the number that it returns, and settings for C, the fourteen bytes and the page size as a number
pub record Readout : Type 0 where
  pub returned : ℕ
  pub bytes : List ℕ
  pub page : ℕ

abbrev pub readout : ℕ → List ℕ → ℕ → Readout
readout returned bytes page = record { returned = returned; bytes = bytes; page = page }

-- what is read is shown where the answer is 0, and nothing of a refused store
abbrev pub showing : Reading → List ℕ → ℕ → Readout
showing r bytes page =
    readout r.answer (cond (done r.answer) r.settings.bytes bytes) (cond (done r.answer) (page_bytes r.settings.page) page)

-- of a write: the number that it returns, and the lent room
pub record Result : Type 0 where
  pub returned : ℕ
  pub room : List ℕ

abbrev pub result : ℕ → List ℕ → Result
result returned room = record { returned = returned; room = room }

-- the answer, and above it how many bytes were written
abbrev pub lays : Settings → List ℕ → Result
lays s room =
    let w : Written = written_in s room in
    result (w.answer + 256 * cond (done w.answer) record_length 0) w.room

-- of a mending: the number that it returns, and the lent image and list
pub record Repair : Type 0 where
  pub returned : ℕ
  pub image : List ℕ
  pub list : List ℕ

abbrev pub mending : ℕ → List ℕ → List ℕ → Repair
mending returned image list = record { returned = returned; image = image; list = list }

-- the answer, and above it how many changes are listed
abbrev pub mends_for : List ℕ → List ℕ → Repair
mends_for image list =
    let l : Left = mends image list in
    mending (l.comes_to.answer + 256 * l.comes_to.changes) l.image l.list
