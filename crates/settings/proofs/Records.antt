-- Laws of one record: what follows from its number, and what a made one reads as, with whatever stands behind it.
use Prim.Native.Nat.{ℕ, ◌+◌, ◌*◌, ◌/◌, ◌%◌, ◌<◌, ◌≤◌}
use mathlib.Core.Path.{◌≡◌, refl, ap, ◌∙◌}
use mathlib.Core.Bool.{true, false}
use mathlib.Core.List.{List, ◌++◌}
use native.Mathlib.Omega.{arith}
use Rattle.std.proofs.lemmas.Bool.Decides.{nat_tests}
use lib.ListN.{length, take, drop, length-append, length-drop, get_or-append}
use lib.Seq.{take-append-le, drop-append-le}
use borrow.Author.Tests.{lt-ltb, le-ltb, eq-eqb, ne_eqb}
use Rattle.rules.specs.Words.{byte}
use Rattle.settings.specs.Store.{length_of, kind_of, payload_of, record_of, length_for, settings_of, knows, refused, record_read}
use Rattle.settings.specs.Stores.{accepted}

-- ---- what is read of a record, by what it says

module _ (k : ℕ) (s : List ℕ) {n : ℕ} (says : length_of s ≡ n) where
  pub cut : length s < 4 + n → record_read k s ≡ refused 20
  unfolding record_read
  cut h = rw (says, lt-ltb (length s) (4 + n) h) refl

  module _ (whole : 4 + n ≤ length s) {kind : ℕ} (called : kind_of s ≡ kind) where
    pub unknown : knows k kind ≡ false → record_read k s ≡ refused 21
    unfolding record_read
    unknown e = rw (says, called, le-ltb (length s) (4 + n) whole, e) refl

    module _ (known : knows k kind ≡ true) where
      pub other_length : (n ≡ length_for kind → ⊥) → record_read k s ≡ refused 22
      unfolding record_read
      other_length e = rw (says, called, le-ltb (length s) (4 + n) whole, known, ne_eqb n (length_for kind) e) refl

      pub good : n ≡ length_for kind → record_read k s ≡ accepted (settings_of kind (payload_of s))
      unfolding record_read
      good e = rw (called, says, le-ltb (length s) (4 + n) whole, known, eq-eqb n (length_for kind) e) refl

-- one that no check refuses is all there
pub whole : (k : ℕ) (s : List ℕ) → (record_read k s).answer ≡ 0 → 4 + length_of s ≤ length s
unfolding record_read
whole k s passes = grind (arith, nat_tests)

-- ---- a record as it is made, of a payload whose length two bytes can say

two_bytes : (n : ℕ) → n < 65536 → n % 256 + 256 * (n / 256 % 256) ≡ n
two_bytes n h = omega arith

module _ (kind : ℕ) (payload rest : List ℕ) (short : length payload < 65536) where
  abbrev store : List ℕ
  store = record_of kind payload ++ rest

  pub made_length : length_of store ≡ length payload
  made_length = two_bytes (length payload) short

  pub made_kind : kind < 65536 → kind_of store ≡ kind
  made_kind = two_bytes kind

  pub made_whole : 4 + length payload ≤ length store
  made_whole = omega (arith, length-append payload rest)

-- ---- what stands behind a whole record does not enter it

module _ (s rest : List ℕ) (h : 4 + length_of s ≤ length s) where
  same : (i : ℕ) → i < 4 → byte i (s ++ rest) ≡ byte i s
  same i j = get_or-append s rest 0 i (omega arith)

  pub length_alone : length_of (s ++ rest) ≡ length_of s
  length_alone = rw (same 0 (omega arith), same 1 (omega arith)) refl

  pub kind_alone : kind_of (s ++ rest) ≡ kind_of s
  kind_alone = rw (same 2 (omega arith), same 3 (omega arith)) refl

  pub payload_alone : payload_of (s ++ rest) ≡ payload_of s
  payload_alone =
      ap (λ (n : ℕ). take n (drop 4 (s ++ rest))) length_alone
      ∙ ap (take (length_of s)) (drop-append-le 4 s rest (omega arith))
      ∙ take-append-le (length_of s) (drop 4 s) rest (omega (arith, length-drop 4 s))

  pub record_alone : (k : ℕ) → record_read k (s ++ rest) ≡ record_read k s
  unfolding record_read
  record_alone k =
      let whole = le-ltb (length s) (4 + length_of s) h in
      let whole' = le-ltb (length (s ++ rest)) (4 + length_of s) (omega (arith, length-append s rest)) in
      rw (payload_alone, length_alone, kind_alone, whole, whole') refl
