-- Laws of a mended image, byte by byte: what stands at an address, and that an image which is mended in part is mended to the same.
use Prim.Native.Nat.{ℕ, zero, suc, ◌+◌, ◌-◌, ◌<◌, ◌≤◌}
use mathlib.Core.Path.{◌≡◌, refl, sym, ap, subst, ◌∙◌}
use mathlib.Core.Logic.{◌⊎◌, inl, inr}
use mathlib.Core.Bool.{Bool, true, false, cond, not, ◌&&◌, ◌||◌, false≢true, and-eq-true_iff, or-true}
use mathlib.Core.List.{List, [], ◌∷◌, ◌++◌, append_assoc}
use native.Mathlib.Nat.{add-zero, zero-add, suc-add, add-suc}
use native.Mathlib.Omega.{arith}
use lib.ListN.{length, set, take, drop, length-take, take-append-drop, length-drop, get_or-eq_default}
use lib.Seq.{ext_get_or, get_or-drop}
use lib.Dec.{eqb, leb, ltb}
use borrow.Author.Tests.{eqb-true, eqb-false, eq-eqb, ne_eqb, leb-false, le-leb, lt-leb, ltb-true, ltb-false}
use Rattle.std.proofs.lemmas.Grind.{elements}
use Rattle.std.proofs.lemmas.List.{take_more, drop_more, set_at}
use Rattle.rules.specs.Words.{byte}
use Rattle.mend.specs.Mended.{Among}
use Rattle.mend.specs.Mend.{Fixed, fixed_bytes, set_by, each_byte, fixed, second_of, lost, judged_by, mended}

-- ---- every byte by its address

pub each_length : (f : ℕ → ℕ → ℕ) (a : ℕ) (bs : List ℕ) → length (each_byte f a bs) ≡ length bs
each_length f a [] = refl
each_length f a (b ∷ bs) = ap suc (each_length f (suc a) bs)

each_byte_lem : (f : ℕ → ℕ → ℕ) (a : ℕ) (bs : List ℕ) (k : ℕ) → k < length bs → byte k (each_byte f a bs) ≡ f (a + k) (byte k bs)
each_byte_lem f a [] k h = absurd (omega arith)
each_byte_lem f a (b ∷ bs) zero h = rw add-zero
each_byte_lem f a (b ∷ bs) (suc k) h = rw (add-suc, ← suc-add) (each_byte_lem f (suc a) bs k (omega arith))

-- ---- the table

pub set_again : (fs : List Fixed) (a b : ℕ) → set_by fs a (set_by fs a b) ≡ set_by fs a b
set_again [] a b = refl
set_again (f ∷ fs) a b = go (eqb a f.address) (set_again fs a b)
  where
    go : (t : Bool) → set_by fs a (set_by fs a b) ≡ set_by fs a b
        → cond t f.value (set_by fs a (cond t f.value (set_by fs a b))) ≡ cond t f.value (set_by fs a b)
    go true e = refl
    go false e = e

-- the addresses of string indexes are not in it
pub set_index : (a b : ℕ) → (a ≡ 0x32) ⊎ (a ≡ 0x86) → set_by fixed_bytes a b ≡ b
set_index a b (inl e) = rw e refl
set_index a b (inr e) = rw e refl

pub fixed-length : (image : List ℕ) → length (fixed image) ≡ length image
fixed-length image = each_length (set_by fixed_bytes) 0 image

pub fixed-byte : (image : List ℕ) (k : ℕ) → k < length image → byte k (fixed image) ≡ set_by fixed_bytes k (byte k image)
fixed-byte image k h = each_byte_lem (set_by fixed_bytes) 0 image k h ∙ ap (λ (a : ℕ). set_by fixed_bytes a (byte k image)) (zero-add k)

-- ---- string indexes

-- what is judged at an address, and what is not
pub judged_index : (image : List ℕ) (a b : ℕ) → (a ≡ 0x32) ⊎ (a ≡ 0x86) → judged_by image a b ≡ cond (lost image b) 0 b
unfolding judged_by
judged_index image a b (inl e) = rw e refl
judged_index image a b (inr e) = rw e refl

pub judged_other : (image : List ℕ) (a b : ℕ) → (a ≡ 0x32 → ⊥) → (a ≡ 0x86 → ⊥) → judged_by image a b ≡ b
unfolding judged_by
judged_other image a b h g = rw (ne_eqb a 0x32 h, ne_eqb a 0x86 g) refl

-- by the second byte of a head, read from an image before its bytes are set
module _ (image : List ℕ) (i : ℕ) {n : ℕ} (second : n ≡ second_of i) where
  pub lost_outside : length image ≤ n → lost (fixed image) i ≡ true
  unfolding lost
  lost_outside h = rw (fixed-length image, le-leb (length image) (second_of i) (omega arith)) refl

  pub lost_inside : n < length image → {b : ℕ} → b ≡ set_by fixed_bytes n (byte n image) → lost (fixed image) i ≡ not (eqb b 0x03)
  unfolding lost
  lost_inside h e =
      rw (fixed-length image, lt-leb (length image) (second_of i) (omega arith), fixed-byte image (second_of i) (omega arith), e, second) refl

-- ---- a mended image

pub mended-length : (image : List ℕ) → length (mended image) ≡ length image
unfolding mended
mended-length image = each_length (judged_by (fixed image)) 0 (fixed image) ∙ fixed-length image

pub mended-byte : (image : List ℕ) (k : ℕ) → k < length image
    → byte k (mended image) ≡ judged_by (fixed image) k (set_by fixed_bytes k (byte k image))
unfolding mended
mended-byte image k h =
    each_byte_lem (judged_by (fixed image)) 0 (fixed image) k (omega (arith, fixed-length image))
    ∙ ap (λ (a : ℕ). judged_by (fixed image) a (byte k (fixed image))) (zero-add k)
    ∙ ap (judged_by (fixed image) k) (fixed-byte image k h)

pub mended_index : (image : List ℕ) (k : ℕ) → k < length image → (k ≡ 0x32) ⊎ (k ≡ 0x86)
    → byte k (mended image) ≡ cond (lost (fixed image) (byte k image)) 0 (byte k image)
mended_index image k h e =
    mended-byte image k h ∙ ap (judged_by (fixed image) k) (set_index k (byte k image) e) ∙ judged_index (fixed image) k (byte k image) e

pub mended_fixed : (image : List ℕ) (k : ℕ) → k < length image → (k ≡ 0x32 → ⊥) → (k ≡ 0x86 → ⊥)
    → byte k (mended image) ≡ set_by fixed_bytes k (byte k image)
mended_fixed image k h n m = mended-byte image k h ∙ judged_other (fixed image) k (set_by fixed_bytes k (byte k image)) n m

-- what is mended is not mended again
module _ (image : List ℕ) (k : ℕ) where
  abbrev once : ℕ → ℕ
  once b = judged_by image k (set_by fixed_bytes k b)

  again_index : (b : ℕ) → (k ≡ 0x32) ⊎ (k ≡ 0x86) → once (once b) ≡ once b
  again_index b e =
      one (once b) ∙ ap (λ (n : ℕ). cond (lost image n) 0 n) (one b) ∙ kept (lost image b) (lost image (cond (lost image b) 0 b)) refl refl ∙ sym (one b)
    where
      one : (n : ℕ) → once n ≡ cond (lost image n) 0 n
      one n = ap (judged_by image k) (set_index k n e) ∙ judged_index image k n e

      kept : (t u : Bool) → lost image b ≡ t → lost image (cond t 0 b) ≡ u → cond u 0 (cond t 0 b) ≡ cond t 0 b
      kept true true f g = refl
      kept true false f g = refl
      kept false u f g = ap (λ (t : Bool). cond t 0 b) (sym g ∙ f)

  once_other : (b : ℕ) → (k ≡ 0x32 → ⊥) → (k ≡ 0x86 → ⊥) → once b ≡ set_by fixed_bytes k b
  once_other b = judged_other image k (set_by fixed_bytes k b)

  once_again : (b : ℕ) → once (once b) ≡ once b
  once_again b = go (eqb k 0x32) refl (eqb k 0x86) refl
    where
      go : (p : Bool) → eqb k 0x32 ≡ p → (q : Bool) → eqb k 0x86 ≡ q → once (once b) ≡ once b
      go true e q f = again_index b (inl (eqb-true k 0x32 e))
      go false e true f = again_index b (inr (eqb-true k 0x86 f))
      go false e false f =
          let n = eqb-false k 0x32 e in
          let m = eqb-false k 0x86 f in
          once_other (once b) n m ∙ ap (set_by fixed_bytes k) (once_other b n m) ∙ set_again fixed_bytes k b ∙ sym (once_other b n m)

-- ---- an image of which some bytes are mended and the others are as they were is mended to the same

module _ (x y : List ℕ) (same : length y ≡ length x) (part : (k : ℕ) → k < length x → (byte k y ≡ byte k x) ⊎ (byte k y ≡ byte k (mended x))) where
  -- the second byte of a head is none that is judged
  fixed_same : (k : ℕ) → k < length x → (k ≡ 0x32 → ⊥) → (k ≡ 0x86 → ⊥) → byte k (fixed y) ≡ byte k (fixed x)
  fixed_same k h n m = fixed-byte y k (omega arith) ∙ go (part k h) ∙ sym (fixed-byte x k h)
    where
      go : (byte k y ≡ byte k x) ⊎ (byte k y ≡ byte k (mended x)) → set_by fixed_bytes k (byte k y) ≡ set_by fixed_bytes k (byte k x)
      go (inl e) = ap (set_by fixed_bytes k) e
      go (inr e) = ap (set_by fixed_bytes k) (e ∙ mended_fixed x k h n m) ∙ set_again fixed_bytes k (byte k x)

  lost_same : (i : ℕ) → lost (fixed y) i ≡ lost (fixed x) i
  unfolding lost
  lost_same i = go (leb (length x) (second_of i)) refl
    where
      go : (t : Bool) → leb (length x) (second_of i) ≡ t
          → (leb (length (fixed y)) (second_of i) || not (eqb (byte (second_of i) (fixed y)) 0x03))
          ≡ (leb (length (fixed x)) (second_of i) || not (eqb (byte (second_of i) (fixed x)) 0x03))
      go true e = rw (fixed-length y, fixed-length x, same, e) refl
      go false e =
          let inside : second_of i < length x = leb-false (length x) (second_of i) e in
          rw (fixed-length y, fixed-length x, same, e, fixed_same (second_of i) inside (λ z. omega arith) (λ z. omega arith)) refl

  judged_same : (k b : ℕ) → judged_by (fixed y) k b ≡ judged_by (fixed x) k b
  unfolding judged_by
  judged_same k b = ap (λ (t : Bool). cond ((eqb k 0x32 || eqb k 0x86) && t) 0 b) (lost_same b)

  byte_same : (k : ℕ) → k < length x → byte k (mended y) ≡ byte k (mended x)
  byte_same k h = mended-byte y k (omega arith) ∙ judged_same k (set_by fixed_bytes k (byte k y)) ∙ go (part k h) ∙ sym (mended-byte x k h)
    where
      go : (byte k y ≡ byte k x) ⊎ (byte k y ≡ byte k (mended x)) → once (fixed x) k (byte k y) ≡ once (fixed x) k (byte k x)
      go (inl e) = ap (once (fixed x) k) e
      go (inr e) = ap (once (fixed x) k) (e ∙ mended-byte x k h) ∙ once_again (fixed x) k (byte k x)

  pub still : mended y ≡ mended x
  still = ext_get_or 0 (mended y) (mended x) (mended-length y ∙ same ∙ sym (mended-length x)) (λ k h. byte_same k (omega (arith, mended-length y)))

-- ---- an address that is none of the thirteen

abbrev pub thirteen : List ℕ
thirteen = 0x10 ∷ 0x11 ∷ 0x22 ∷ 0x23 ∷ 0x2B ∷ 0x2C ∷ 0x2D ∷ 0x31 ∷ 0x32 ∷ 0x80 ∷ 0x81 ∷ 0x85 ∷ 0x86 ∷ []

abbrev pub is_among : ℕ → List ℕ → Bool
is_among k [] = false
is_among k (x ∷ xs) = eqb k x || is_among k xs

pub is_among_lem : (k : ℕ) (xs : List ℕ) → is_among k xs ≡ true → Among k xs
is_among_lem k [] h = absurd (false≢true h)
is_among_lem k (x ∷ xs) h = go (eqb k x) refl h (is_among_lem k xs)
  where
    go : (t : Bool) → eqb k x ≡ t → (t || is_among k xs) ≡ true → (is_among k xs ≡ true → Among k xs) → Among k (x ∷ xs)
    go true e h ih = inl (eqb-true k x e)
    go false e h ih = inr (ih h)

pub among_is : (k : ℕ) (xs : List ℕ) → Among k xs → is_among k xs ≡ true
among_is k [] m = elim m [ ]
among_is k (y ∷ ys) (inl e) = rw (eq-eqb k y e) refl
among_is k (y ∷ ys) (inr m) = rw (among_is k ys m) (or-true (eqb k y))

-- all of a table is among them
abbrev all_among : List Fixed → List ℕ → Bool
all_among [] xs = true
all_among (f ∷ fs) xs = is_among f.address xs && all_among fs xs

set_other : (fs : List Fixed) (xs : List ℕ) → all_among fs xs ≡ true → (a b : ℕ) → (Among a xs → ⊥) → set_by fs a b ≡ b
set_other [] xs t a b h = refl
set_other (f ∷ fs) xs t a b h =
    let both = (and-eq-true_iff (is_among f.address xs) (all_among fs xs)).0 t in
    rw (ne_eqb a f.address (λ e. h (subst (λ (k : ℕ). Among k xs) (sym e) (is_among_lem f.address xs both.0)))) (set_other fs xs both.1 a b h)

pub mended_other : (image : List ℕ) (k : ℕ) → (Among k thirteen → ⊥) → byte k (mended image) ≡ byte k image
mended_other image k h = go (ltb k (length image)) refl
  where
    apart : (n : ℕ) → is_among n thirteen ≡ true → k ≡ n → ⊥
    apart n t e = h (subst (λ (j : ℕ). Among j thirteen) (sym e) (is_among_lem n thirteen t))

    go : (t : Bool) → ltb k (length image) ≡ t → byte k (mended image) ≡ byte k image
    go true e =
        mended_fixed image k (ltb-true k (length image) e) (apart 0x32 refl) (apart 0x86 refl)
        ∙ set_other fixed_bytes thirteen refl k (byte k image) h
    go false e =
        let out = ltb-false k (length image) e in
        get_or-eq_default (mended image) 0 (omega (arith, mended-length image)) ∙ sym (get_or-eq_default image 0 out)

-- .. as every address beyond the shortest image
abbrev all_below : ℕ → List ℕ → Bool
all_below n [] = true
all_below n (x ∷ xs) = ltb x n && all_below n xs

below : (k : ℕ) (xs : List ℕ) (n : ℕ) → Among k xs → all_below n xs ≡ true → k < n
below k [] n m t = elim m [ ]
below k (y ∷ ys) n (inl e) t = rw e (ltb-true y n ((and-eq-true_iff (ltb y n) (all_below n ys)).0 t).0)
below k (y ∷ ys) n (inr m) t = below k ys n m ((and-eq-true_iff (ltb y n) (all_below n ys)).0 t).1

pub mended_beyond : (image : List ℕ) → drop 0x89 (mended image) ≡ drop 0x89 image
mended_beyond image =
    ext_get_or 0 (drop 0x89 (mended image)) (drop 0x89 image)
    (length-drop 0x89 (mended image) ∙ ap (λ (n : ℕ). n - 0x89) (mended-length image) ∙ sym (length-drop 0x89 image))
    (λ k h. get_or-drop 0x89 (mended image) k 0
    ∙ mended_other image (0x89 + k) (λ m. let l = below (0x89 + k) thirteen 0x89 m refl in omega arith)
    ∙ sym (get_or-drop 0x89 image k 0))

-- mended from the front, so many bytes
abbrev pub half : List ℕ → ℕ → List ℕ
half image n = take n (mended image) ++ drop n image

module _ (image : List ℕ) (n : ℕ) (h : n ≤ length image) where
  pub half_length : length (half image n) ≡ length image
  half_length = let same = mended-length image in grind (arith, elements)

  -- the rest is as it was
  pub half_ahead : (k : ℕ) → n ≤ k → byte k (half image n) ≡ byte k image
  half_ahead k g = let same = mended-length image in grind (arith, elements)

  half_done : (k : ℕ) → k < n → byte k (half image n) ≡ byte k (mended image)
  half_done k g = let same = mended-length image in grind (arith, elements)

  -- one byte more
  pub half-set : n < length image → set (half image n) n (byte n (mended image)) ≡ half image (n + 1)
  half-set g =
      rw (drop_more image n 0 g, take_more (mended image) n 0 (omega (arith, mended-length image)), append_assoc)
      (set_at (take n (mended image)) (byte n image) (drop (n + 1) image) (byte n (mended image)) n (omega (arith, length-take n (mended image), mended-length image)))

  -- it is mended to the same
  pub half_still : mended (half image n) ≡ mended image
  half_still = still image (half image n) half_length (λ k g. go k (ltb k n) refl)
    where
      go : (k : ℕ) (t : Bool) → ltb k n ≡ t → (byte k (half image n) ≡ byte k image) ⊎ (byte k (half image n) ≡ byte k (mended image))
      go k true e = inr (half_done k (ltb-true k n e))
      go k false e = inl (half_ahead k (ltb-false k n e))

pub half_all : (image : List ℕ) → half image 0x89 ≡ mended image
half_all image = ap (λ (l : List ℕ). take 0x89 (mended image) ++ l) (sym (mended_beyond image)) ∙ take-append-drop 0x89 (mended image)
