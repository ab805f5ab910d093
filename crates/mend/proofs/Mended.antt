-- A mended image is what Mended says of it.
use Prim.Native.Nat.{ℕ, ◌+◌, ◌<◌}
use mathlib.Core.Path.{◌≡◌, refl, sym, ap, subst, ◌∙◌}
use mathlib.Core.Logic.{◌⊎◌, inl, inr}
use mathlib.Core.Bool.{Bool, true, false, cond, not}
use mathlib.Core.List.{List}
use native.Mathlib.Omega.{arith}
use lib.ListN.{length, get_or-eq_default}
use lib.Dec.{eqb, ltb}
use borrow.Author.Tests.{eqb-true, eqb-false, ltb-true, ltb-false}
use Rattle.rules.specs.Words.{byte}
use Rattle.mend.specs.Mend.{fixed_bytes, set_by, fixed, second_of, lost, mended, changes_from, changes}
use Rattle.mend.specs.Mended.{FixedBytesAreSet, Names, StringIndexesAreJudged, StringIndexesAreGood, NoOtherByteChanges, TwiceIsOnce}
use Rattle.mend.proofs.Bytes.{lost_outside, lost_inside, mended-length, mended_index, mended_fixed, mended_other, still}
use Rattle.mend.proofs.Changes.{none_of_same}

pub fixed_bytes_are_set : FixedBytesAreSet
fixed_bytes_are_set image h =
    let at : (a : ℕ) → a < 0x89 → eqb a 0x32 ≡ false → eqb a 0x86 ≡ false → byte a (mended image) ≡ set_by fixed_bytes a (byte a image) =
    λ a l e f. mended_fixed image a (omega (arith, l, h)) (eqb-false a 0x32 e) (eqb-false a 0x86 f) in (
      at 0x10 (omega arith) refl refl,
      at 0x11 (omega arith) refl refl,
      at 0x22 (omega arith) refl refl,
      at 0x23 (omega arith) refl refl,
      at 0x2B (omega arith) refl refl,
      at 0x2C (omega arith) refl refl,
      at 0x80 (omega arith) refl refl,
      at 0x2D (omega arith) refl refl,
      at 0x81 (omega arith) refl refl,
      at 0x31 (omega arith) refl refl,
      at 0x85 (omega arith) refl refl,
    )

-- ---- string indexes

module _ (image : List ℕ) where
  -- one is lost, or names a string
  abbrev Judged : ℕ → Type 0
  Judged i = ((lost (fixed image) i ≡ false) × Names (mended image) i) ⊎ ((lost (fixed image) i ≡ true) × (Names (mended image) i → ⊥))

  judged : (i : ℕ) → Judged i
  judged i = go (ltb (i + i + 1) (length image)) refl (eqb (byte (i + i + 1) (mended image)) 0x03) refl
    where
      second : i + i + 1 ≡ second_of i
      second = omega arith

      is_lost : i + i + 1 < length image → lost (fixed image) i ≡ not (eqb (byte (i + i + 1) (mended image)) 0x03)
      is_lost h = lost_inside image i second h (mended_fixed image (i + i + 1) h (λ z. omega arith) (λ z. omega arith))

      go : (t : Bool) → ltb (i + i + 1) (length image) ≡ t → (u : Bool) → eqb (byte (i + i + 1) (mended image)) 0x03 ≡ u → Judged i
      go true e true f =
          let inside = ltb-true (i + i + 1) (length image) e in
          inl (is_lost inside ∙ ap not f, (omega (arith, mended-length image), eqb-true (byte (i + i + 1) (mended image)) 0x03 f))
      go true e false f =
          let inside = ltb-true (i + i + 1) (length image) e in
          inr (is_lost inside ∙ ap not f, λ n. eqb-false (byte (i + i + 1) (mended image)) 0x03 f n.1)
      go false e u f =
          let out = ltb-false (i + i + 1) (length image) e in
          inr (lost_outside image i second out, λ n. omega (arith, n.0, mended-length image))

  module _ (a : ℕ) (index : (a ≡ 0x32) ⊎ (a ≡ 0x86)) where
    -- beyond the image there is no byte, before and after
    at_index : byte a (mended image) ≡ cond (lost (fixed image) (byte a image)) 0 (byte a image)
    at_index = go (ltb a (length image)) refl
      where
        nothing : (t : Bool) → ◌≡◌ {A = ℕ} 0 (cond t 0 0)
        nothing true = refl
        nothing false = refl

        go : (t : Bool) → ltb a (length image) ≡ t → byte a (mended image) ≡ cond (lost (fixed image) (byte a image)) 0 (byte a image)
        go true e = mended_index image a (ltb-true a (length image) e) index
        go false e =
            let out = ltb-false a (length image) e in
            let none : byte a image ≡ 0 = get_or-eq_default image 0 out in
            get_or-eq_default (mended image) 0 (omega (arith, mended-length image))
            ∙ rw none (nothing (lost (fixed image) 0))

    kept : lost (fixed image) (byte a image) ≡ false → byte a (mended image) ≡ byte a image
    kept e = at_index ∙ ap (λ (t : Bool). cond t 0 (byte a image)) e

    cleared : lost (fixed image) (byte a image) ≡ true → byte a (mended image) ≡ 0
    cleared e = at_index ∙ ap (λ (t : Bool). cond t 0 (byte a image)) e

pub string_indexes_are_judged : StringIndexesAreJudged
string_indexes_are_judged image a index = go (judged image (byte a image))
  where
    go : Judged image (byte a image)
        → (Names (mended image) (byte a image) → byte a (mended image) ≡ byte a image)
        × ((Names (mended image) (byte a image) → ⊥) → byte a (mended image) ≡ 0)
    go (inl is) = (λ n. kept image a index is.0, λ no. absurd (no is.1))
    go (inr is) = (λ n. absurd (is.1 n), λ no. cleared image a index is.0)

pub string_indexes_are_good : StringIndexesAreGood
string_indexes_are_good image a index = go (judged image (byte a image))
  where
    go : Judged image (byte a image) → (byte a (mended image) ≡ 0) ⊎ Names (mended image) (byte a (mended image))
    go (inl is) = inr (subst (Names (mended image)) (sym (kept image a index is.0)) is.1)
    go (inr is) = inl (cleared image a index is.0)

-- ---- every other byte, and once more

pub no_other_byte_changes : NoOtherByteChanges
no_other_byte_changes image = (mended-length image, mended_other image)

pub twice_is_once : TwiceIsOnce
unfolding changes
twice_is_once image =
    let same : mended (mended image) ≡ mended image = still image (mended image) (mended-length image) (λ k h. inr refl) in
    (same, ap (changes_from 0 (mended image)) same ∙ none_of_same 0 (mended image))
