-- Laws of the list of changes: of two images in parts, and of a mended image from its front.
use Prim.Native.Nat.{ℕ, zero, suc, ◌+◌, ◌<◌, ◌≤◌}
use mathlib.Core.Path.{◌≡◌, refl, sym, ap, ◌∙◌}
use mathlib.Core.Bool.{Bool, true, false, cond, not}
use mathlib.Core.List.{List, [], ◌∷◌, ◌++◌, append-nil}
use native.Mathlib.Nat.{add-zero, zero-add, suc-add, add-suc}
use native.Mathlib.Omega.{arith}
use native.Mathlib.Numerals.{add-one}
use lib.ListN.{length, take, drop, take-append-drop, length-append}
use lib.Seq.{length-take-le, take-suc}
use lib.Dec.{eqb}
use borrow.Author.Tests.{eq-eqb, ne_eqb}
use Rattle.rules.specs.Words.{byte}
use Rattle.std.specs.List.{filter, enumerate_from}
use Rattle.mend.specs.Mend.{fixed_bytes, set_by, each_byte, fixed, judged_by, mended, Changed, changed, changes_from, changes}
use Rattle.mend.specs.Wanted.{wanted_at, unlike}
use Rattle.mend.proofs.Bytes.{mended-length, mended_beyond}

-- in parts
parts : (a : ℕ) (xs zs ys ws : List ℕ) → length xs ≡ length zs
    → changes_from a (xs ++ ys) (zs ++ ws) ≡ changes_from a xs zs ++ changes_from (a + length xs) ys ws
parts a [] [] ys ws e = rw add-zero
parts a [] (z ∷ zs) ys ws e = absurd (omega arith)
parts a (x ∷ xs) [] ys ws e = absurd (omega arith)
parts a (x ∷ xs) (z ∷ zs) ys ws e = rw (add-suc, ← suc-add) (go (eqb x z) (changes_from (suc a) xs zs) (changes_from (suc a + length xs) ys ws) (parts (suc a) xs zs ys ws (omega arith)))
  where
    go : (t : Bool) {all : List Changed} (some rest : List Changed) → all ≡ some ++ rest
        → cond t all (changed a x z ∷ all) ≡ cond t some (changed a x z ∷ some) ++ rest
    go true some rest e = e
    go false some rest e = ap (λ (l : List Changed). changed a x z ∷ l) e

pub none_of_same : (a : ℕ) (xs : List ℕ) → changes_from a xs xs ≡ []
none_of_same a [] = refl
none_of_same a (x ∷ xs) = rw (eq-eqb x x refl) (none_of_same (suc a) xs)

-- ---- of the first n bytes of an image

abbrev pub changes_to : List ℕ → ℕ → List Changed
changes_to image n = changes_from 0 (take n image) (take n (mended image))

module _ (image : List ℕ) where
  taken : (n : ℕ) → n ≤ length image → length (take n image) ≡ length (take n (mended image))
  taken n h = length-take-le n image h ∙ sym (length-take-le n (mended image) (omega (arith, mended-length image)))

  -- .. and of the rest
  pub front : (n : ℕ) → n ≤ length image → changes image ≡ changes_to image n ++ changes_from n (drop n image) (drop n (mended image))
  unfolding changes
  front n h =
      ap (λ (l : List ℕ). changes_from 0 l (mended image)) (sym (take-append-drop n image))
      ∙ ap (changes_from 0 (take n image ++ drop n image)) (sym (take-append-drop n (mended image)))
      ∙ parts 0 (take n image) (take n (mended image)) (drop n image) (drop n (mended image)) (taken n h)
      ∙ ap (λ (a : ℕ). changes_to image n ++ changes_from a (drop n image) (drop n (mended image))) (zero-add (length (take n image)) ∙ length-take-le n image h)

  pub front_most : (n : ℕ) → n ≤ length image → length (changes_to image n) ≤ length (changes image)
  front_most n h =
      omega (arith, ap length (front n h), length-append (changes_to image n) (changes_from n (drop n image) (drop n (mended image))))

  -- all of them are within the shortest image that is mended
  pub front_all : 0x89 ≤ length image → changes_to image 0x89 ≡ changes image
  front_all h =
      sym
      (front 0x89 h
      ∙ ap (λ (l : List ℕ). changes_to image 0x89 ++ changes_from 0x89 (drop 0x89 image) l) (mended_beyond image)
      ∙ ap (λ (l : List Changed). changes_to image 0x89 ++ l) (none_of_same 0x89 (drop 0x89 image))
      ∙ append-nil (changes_to image 0x89))

  -- one byte more
  module _ (n : ℕ) (h : n < length image) where
    one_more : changes_to image (n + 1)
        ≡ changes_to image n ++ cond (eqb (byte n image) (byte n (mended image))) [] (changed n (byte n image) (byte n (mended image)) ∷ [])
    one_more =
        rw (add-one, take-suc image n 0 h, take-suc (mended image) n 0 (omega (arith, mended-length image)))
        (parts 0 (take n image) (take n (mended image)) (byte n image ∷ []) (byte n (mended image) ∷ []) (taken n (omega arith))
        ∙ ap (λ (a : ℕ). changes_to image n ++ changes_from a (byte n image ∷ []) (byte n (mended image) ∷ []))
        (zero-add (length (take n image)) ∙ length-take-le n image (omega arith)))

    pub same_more : byte n (mended image) ≡ byte n image → changes_to image (n + 1) ≡ changes_to image n
    same_more e = one_more ∙ rw (eq-eqb (byte n image) (byte n (mended image)) (sym e)) (append-nil (changes_to image n))

    pub changed_more : (byte n (mended image) ≡ byte n image → ⊥)
        → changes_to image (n + 1) ≡ changes_to image n ++ changed n (byte n image) (byte n (mended image)) ∷ []
    changed_more e = one_more ∙ rw (ne_eqb (byte n image) (byte n (mended image)) (λ z. e (sym z))) refl

-- ---- counted byte by byte

mended_each : (image : List ℕ) → mended image ≡ each_byte (wanted_at image) 0 image
unfolding mended wanted_at
mended_each image = go 0 image
  where
    go : (a : ℕ) (bs : List ℕ) → each_byte (judged_by (fixed image)) a (each_byte (set_by fixed_bytes) a bs) ≡ each_byte (λ a b. judged_by (fixed image) a (set_by fixed_bytes a b)) a bs
    go a [] = refl
    go a (b ∷ bs) = ap (λ (l : List ℕ). judged_by (fixed image) a (set_by fixed_bytes a b) ∷ l) (go (suc a) bs)

take_each : (f : ℕ → ℕ → ℕ) (n a : ℕ) (bs : List ℕ) → take n (each_byte f a bs) ≡ each_byte f a (take n bs)
take_each f zero a bs = refl
take_each f (suc n) a [] = refl
take_each f (suc n) a (b ∷ bs) = ap (λ (l : List ℕ). f a b ∷ l) (take_each f n (suc a) bs)

counted_each : (f : ℕ → ℕ → ℕ) (a : ℕ) (bs : List ℕ)
    → length (changes_from a bs (each_byte f a bs)) ≡ length (filter (λ p. not (eqb p.1 (f p.0 p.1))) (enumerate_from a bs))
counted_each f a [] = refl
counted_each f a (b ∷ bs) = rw add-one (go (eqb b (f a b)) _ _ (counted_each f (suc a) bs))
  where
    go : (t : Bool) (cs : List Changed) (ps : List (ℕ × ℕ)) → length cs ≡ length ps
        → length (cond t cs (changed a b (f a b) ∷ cs)) ≡ length (cond (not t) ((a, b) ∷ ps) ps)
    go true cs ps e = e
    go false cs ps e = ap suc e

pub counted : (image : List ℕ) → 0x89 ≤ length image → length (unlike image) ≡ length (changes image)
counted image long =
    sym (counted_each (wanted_at image) 0 (take 0x89 image))
    ∙ ap (λ (l : List ℕ). length (changes_from 0 (take 0x89 image) l)) (sym (take_each (wanted_at image) 0x89 0 image) ∙ ap (take 0x89) (sym (mended_each image)))
    ∙ ap length (front_all image long)
