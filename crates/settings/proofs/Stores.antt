-- What holds of stores: record by record, and of a run of them.
use Prim.Native.Nat.{ℕ, zero, suc, ◌+◌, ◌*◌, ◌/◌, ◌<◌, ◌≤◌}
use mathlib.Core.Path.{◌≡◌, refl, sym, ap, ◌∙◌}
use mathlib.Core.Logic.{inl, inr}
use mathlib.Core.Bool.{Bool, true, false, cond, and-false}
use mathlib.Core.List.{List, [], ◌∷◌, ◌++◌, append_assoc}
use native.Mathlib.Nat.{suc-ne-zero}
use native.Mathlib.Omega.{arith}
use lib.ListN.{length, take, drop, length-append, drop_of_length-le}
use lib.Seq.{take_all, take-length, take_at, get_or_at, get_or-take, length-take-le}
use lib.Dec.{ltb}
use borrow.Author.Tests.{lt-ltb, le-ltb, ltb-true, ltb-false, le-leb, lt-leb, eqb-true, eqb-false, eq-eqb, ne_eqb}
use Rattle.rules.specs.declared.PageSize.{PageSize}
use Rattle.rules.specs.declared.PageSize.TheVariants.{Of256}
use Rattle.rules.specs.Words.{byte, first}
use Rattle.rules.specs.Held.{page_bytes, page_of}
use Rattle.rules.specs.Step.{done}
use Rattle.rules.proofs.Pages.{in_32s}
use Rattle.rules.proofs.Demands.Pages.{numbers_are_taken}
use Rattle.settings.specs.Store.{Reading, length_of, payload_of, record_of, settings_from, length_for, settings_of, knows, record_checks, hidden, refused, record_read, read_on, read_by, newest, payload_for, written}
use Rattle.settings.specs.Stores.{accepted, Good, LastCounts, RecordIsRead, OtherByteIs32, SettingsComeBack, RoomIsExact, Unfamiliar, UnfamiliarIsRefused, CutIsRefused, OtherLengthIsRefused, NothingIsRefused, RefusedShowsNothing}
use Rattle.settings.proofs.Records.{whole, cut, unknown, other_length, good as record-good, length_alone, record_alone, made_length, made_kind, made_whole}

-- ---- one record, and what is behind it

chosen : {A : Type 0} (t : Bool) (x y : A) → t ≡ true → cond t x y ≡ x
chosen t x y e = rw e refl

-- what is still ahead of a record is passed
passes : (k n : ℕ) (so_far : Reading) (s : List ℕ) → read_on k n so_far s ≡ read_on k 0 so_far (drop n s)
unfolding read_on
passes k zero so_far s = refl
passes k (suc n) so_far [] = refl
passes k (suc n) so_far (b ∷ s) = passes k n so_far s

-- a good record: what was read before it counts no more
pub onward : (k : ℕ) (so_far : Reading) (s : List ℕ) → 0 < length s → (record_read k s).answer ≡ 0
    → read_on k 0 so_far s ≡ read_on k 0 (record_read k s) (drop (4 + length_of s) s)
unfolding read_on
onward k so_far [] some good = absurd (omega arith)
onward k so_far (b ∷ s) some good =
    let next : suc (3 + length_of (b ∷ s)) ≡ 4 + length_of (b ∷ s) = omega arith in
    let r : Reading = record_read k (b ∷ s) in
    chosen (done r.answer) (read_on k (3 + length_of (b ∷ s)) r s) _ (eq-eqb r.answer 0 good)
    ∙ passes k (3 + length_of (b ∷ s)) r s
    ∙ ap (λ (n : ℕ). read_on k 0 r (drop n (b ∷ s))) next

-- one that is refused
pub ends : (k : ℕ) (so_far : Reading) (s : List ℕ) → 0 < length s → ((record_read k s).answer ≡ 0 → ⊥) → read_on k 0 so_far s ≡ record_read k s
unfolding read_on
ends k so_far [] some bad = absurd (omega arith)
ends k so_far (b ∷ s) some bad = rw (ne_eqb (record_read k (b ∷ s)).answer 0 bad) refl

-- ---- good records in front

fronts : (k ahead : ℕ) (so_far : Reading) (front rest : List ℕ) → ahead ≤ length front → (read_on k ahead so_far front).answer ≡ 0
    → read_on k ahead so_far (front ++ rest) ≡ read_on k 0 (read_on k ahead so_far front) rest
unfolding read_on
fronts k zero so_far [] rest inside good = refl
fronts k (suc ahead) so_far [] rest inside good = absurd (omega arith)
fronts k (suc ahead) so_far (b ∷ front) rest inside good = fronts k ahead so_far front rest (omega arith) good
fronts k zero so_far (b ∷ front) rest inside good = go (done r.answer) refl good (fronts k ahead r front rest)
  where
    r : Reading
    r = record_read k (b ∷ front)

    ahead : ℕ
    ahead = 3 + length_of (b ∷ front)

    go : (t : Bool) → done r.answer ≡ t → (cond t (read_on k ahead r front) r).answer ≡ 0
        → (ahead ≤ length front → (read_on k ahead r front).answer ≡ 0 → read_on k ahead r (front ++ rest) ≡ read_on k 0 (read_on k ahead r front) rest)
        → read_on k 0 so_far (b ∷ (front ++ rest)) ≡ read_on k 0 (cond t (read_on k ahead r front) r) rest
    go true e good behind =
        let whole : 4 + length_of (b ∷ front) ≤ length (b ∷ front) = whole k (b ∷ front) (eqb-true r.answer 0 e) in
        rw (record_alone (b ∷ front) rest whole k, length_alone (b ∷ front) rest whole)
        (chosen (done r.answer) (read_on k ahead r (front ++ rest)) r e ∙ behind (omega arith) good)
    go false e good behind = absurd (eqb-false r.answer 0 e good)

pub last_counts : LastCounts
unfolding read_on
last_counts k front [] good some = absurd (omega arith)
last_counts k front (b ∷ rest) (inl none) some = rw none refl
last_counts k front (b ∷ rest) (inr good) some = fronts k 0 _ front (b ∷ rest) (omega arith) good

-- a record that is refused, behind good ones
refuses : (k number : ℕ) (front s : List ℕ) → Good k front → 0 < length s → record_read k s ≡ refused (suc number)
    → read_by k (front ++ s) ≡ refused (suc number)
refuses k number front s good some says =
    let bad : (record_read k s).answer ≡ 0 → ⊥ = λ z. suc-ne-zero number (sym (ap (λ (r : Reading). r.answer) says) ∙ z) in
    last_counts k front s good some ∙ ends k _ s some bad ∙ says

pub nothing_is_refused : NothingIsRefused
unfolding read_on
nothing_is_refused k = refl

-- ---- a made record

strange : (k kind : ℕ) → Unfamiliar k kind → knows k kind ≡ false
strange k kind (inl newer) = rw (lt-leb kind k newer) refl
strange k kind (inr none) = rw (ne_eqb kind 0x0101 none.0, ne_eqb kind 0x0102 none.1, and-false) refl

knows_plain : (k : ℕ) → 0x0101 ≤ k → knows k 0x0101 ≡ true
knows_plain k h = rw (le-leb 0x0101 k h) refl

knows_paged : (k : ℕ) → 0x0102 ≤ k → knows k 0x0102 ≡ true
knows_paged k h = rw (le-leb 0x0102 k h) refl

-- one of a kind that the reader knows, as long as it should be, is all of its store
made_read : (k kind : ℕ) (payload : List ℕ) → kind < 65536 → length payload < 65536 → knows k kind ≡ true → length payload ≡ length_for kind
    → read_by k (record_of kind payload) ≡ accepted (settings_of kind payload)
unfolding read_on
made_read k kind payload h short known fits =
    let s : List ℕ = record_of kind payload in
    let says : length_of s ≡ length payload = made_length kind payload [] short in
    let holds : payload_of s ≡ payload = ap (λ (n : ℕ). take n payload) says ∙ take-length payload in
    let read : record_read k s ≡ accepted (settings_of kind payload) =
    record-good k s says (omega arith) (made_kind kind payload [] short h) known fits
    ∙ ap (λ (p : List ℕ). accepted (settings_of kind p)) holds in
    let all : length s ≤ 4 + length_of s = omega (arith, says) in
    onward k (refused 23) s (omega arith) (ap (λ (r : Reading). r.answer) read)
    ∙ ap (read_on k 0 (record_read k s)) (drop_of_length-le s all)
    ∙ read

module _ (k kind : ℕ) (front payload rest : List ℕ) (good : Good k front) (h : kind < 65536) (short : length payload < 65536) where
  -- one that is refused, behind good ones and with more behind it
  among : (number : ℕ) → record_read k (record_of kind payload ++ rest) ≡ refused (suc number)
      → read_by k (front ++ record_of kind payload ++ rest) ≡ refused (suc number)
  among number says =
      ap (read_by k) (append_assoc front (record_of kind payload) rest) ∙ refuses k number front (record_of kind payload ++ rest) good (omega arith) says

  made_unknown : knows k kind ≡ false → read_by k (front ++ record_of kind payload ++ rest) ≡ refused 21
  made_unknown e =
      among 20
      (unknown k (record_of kind payload ++ rest) (made_length kind payload rest short) (made_whole kind payload rest short)
      (made_kind kind payload rest short h) e)

  made_other : knows k kind ≡ true → (length payload ≡ length_for kind → ⊥) → read_by k (front ++ record_of kind payload ++ rest) ≡ refused 22
  made_other known e =
      among 21
      (other_length k (record_of kind payload ++ rest) (made_length kind payload rest short) (made_whole kind payload rest short)
      (made_kind kind payload rest short h) known e)

pub unfamiliar_is_refused : UnfamiliarIsRefused
unfamiliar_is_refused k kind front payload rest good unfamiliar h short = made_unknown k kind front payload rest good h short (strange k kind unfamiliar)

pub other_length_is_refused : OtherLengthIsRefused
other_length_is_refused k front payload rest good short = (
  λ h e. made_other k 0x0101 front payload rest good (omega arith) short (knows_plain k h) e,
  λ h e. made_other k 0x0102 front payload rest good (omega arith) short (knows_paged k h) e,
)

-- a beginning of a record has both bytes of its length, or not all of its head
made_cut : (k kind n : ℕ) (payload : List ℕ) → length payload < 65536 → n < 4 + length payload → record_read k (take n (record_of kind payload)) ≡ refused 20
made_cut k kind n payload short less = go (ltb n 4) refl
  where
    s : List ℕ
    s = take n (record_of kind payload)

    held : length s ≡ n
    held = length-take-le n (record_of kind payload) (omega arith)

    says : 4 ≤ n → length_of s ≡ length payload
    says h =
        rw (get_or-take n (record_of kind payload) 0 0 (omega arith), get_or-take n (record_of kind payload) 1 0 (omega arith)) (made_length kind payload [] short)

    go : (t : Bool) → ltb n 4 ≡ t → record_read k s ≡ refused 20
    go true e = cut k s refl (omega (arith, held, ltb-true n 4 e))
    go false e = cut k s (says (ltb-false n 4 e)) (omega (arith, held))

pub cut_is_refused : CutIsRefused
cut_is_refused k kind n front payload good short some less =
    refuses k 19 front (take n (record_of kind payload)) good
    (omega (arith, length-take-le n (record_of kind payload) (omega arith))) (made_cut k kind n payload short less)

-- a record of the newest kind, by its last byte
paged_read : (k : ℕ) (bytes : List ℕ) (last : ℕ) → length bytes ≡ 14 → 0x0102 ≤ k
    → read_by k (record_of 0x0102 (bytes ++ last ∷ [])) ≡ accepted (settings_from bytes (page_of (32 * last)))
paged_read k bytes last h known =
    let n : length (bytes ++ last ∷ []) ≡ 15 = length-append bytes (last ∷ []) ∙ omega arith in
    made_read k 0x0102 (bytes ++ last ∷ []) (omega arith) (omega arith) (knows_paged k known) n
    ∙ ap (λ (b : List ℕ). accepted (settings_from b (page_of (32 * byte 14 (bytes ++ last ∷ []))))) (take_at bytes (last ∷ []) 14 h)
    ∙ ap (λ (b : ℕ). accepted (settings_from bytes (page_of (32 * b)))) (get_or_at bytes last [] 0 14 h)

pub record_is_read : RecordIsRead
record_is_read k bytes page h = (
  λ known.
      made_read k 0x0101 bytes (omega arith) (omega arith) (knows_plain k known) h
      ∙ ap (λ (b : List ℕ). accepted (settings_from b Of256)) (take_all 14 bytes (omega arith)),
  λ known.
      paged_read k bytes (page_bytes page / 32) h known
      ∙ ap (λ (p : PageSize). accepted (settings_from bytes p)) (ap page_of (sym (in_32s page)) ∙ numbers_are_taken.0 page),
)

pub other_byte_is_32 : OtherByteIs32
other_byte_is_32 k bytes last h known two four eight =
    paged_read k bytes last h known
    ∙ ap (λ (p : PageSize). accepted (settings_from bytes p))
    (numbers_are_taken.1 (32 * last) (λ e. two (omega arith)) (λ e. four (omega arith)) (λ e. eight (omega arith)))

pub settings_come_back : SettingsComeBack
settings_come_back s h =
    let n : length (payload_for s) ≡ 15 = length-append s.bytes (page_bytes s.page / 32 ∷ []) ∙ omega arith in
    ((record_is_read newest s.bytes s.page h).1 (omega arith), refl, made_length newest (payload_for s) [] (omega arith) ∙ n, omega arith)

pub room_is_exact : RoomIsExact
room_is_exact s room h =
    let n : length (written s) ≡ 19 = (settings_come_back s h).3 in (
      λ less. rw (lt-ltb (length room) 19 (omega arith)) refl,
      λ enough. rw (le-ltb (length room) 19 (omega arith)) refl,
    )

-- ---- a refusal hides what was read, and what it refuses

hides_record : (k : ℕ) (s : List ℕ) → ((record_read k s).answer ≡ 0 → ⊥) → (record_read k s).settings ≡ hidden
unfolding record_read
hides_record k s bad = rw (ne_eqb (first (record_checks k s)) 0 bad) refl

hides : (k ahead : ℕ) (so_far : Reading) (s : List ℕ) → ((so_far.answer ≡ 0 → ⊥) → so_far.settings ≡ hidden)
    → ((read_on k ahead so_far s).answer ≡ 0 → ⊥) → (read_on k ahead so_far s).settings ≡ hidden
unfolding read_on
hides k ahead so_far [] before bad = before bad
hides k (suc ahead) so_far (b ∷ s) before bad = hides k ahead so_far s before bad
hides k zero so_far (b ∷ s) before bad =
    go (done r.answer) refl bad (hides k (3 + length_of (b ∷ s)) r s (λ n. hides_record k (b ∷ s) n))
  where
    r : Reading
    r = record_read k (b ∷ s)

    next : Reading
    next = read_on k (3 + length_of (b ∷ s)) r s

    go : (t : Bool) → done r.answer ≡ t → ((cond t next r).answer ≡ 0 → ⊥) → ((next.answer ≡ 0 → ⊥) → next.settings ≡ hidden)
        → (cond t next r).settings ≡ hidden
    go true e bad behind = behind bad
    go false e bad behind = hides_record k (b ∷ s) bad

pub refused_shows_nothing : RefusedShowsNothing
refused_shows_nothing k store bad = hides k 0 _ store (λ _. refl) bad
