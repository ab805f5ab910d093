-- An image, byte by byte: what holds of its bytes in a row holds of it; what a store leaves before it; what is copied back.
use mathlib.Core.Path.{◌≡◌, refl, sym, ap, subst}
use mathlib.Core.List.{List, [], ◌∷◌, ◌++◌}
use Prim.Native.Nat.{ℕ, zero, suc, ◌+◌, ◌≤◌}
use native.Mathlib.Omega.{arith}
use lib.ListN.{length, set, take, drop, drop_of_length-le, length-drop}
use lib.Seq.{drop-cons, get_or-set_other, take_all}
use Rattle.rules.specs.Words.{byte, over}

abbrev pub row : ℕ → ℕ → List ℕ → List ℕ
row k zero s = []
row k (suc n) s = byte k s ∷ row (suc k) n s

row_drops : (k n : ℕ) (s : List ℕ) → k + n ≡ length s → row k n s ≡ drop k s
row_drops k zero s h = sym (drop_of_length-le s {i = k} (omega arith))
row_drops k (suc n) s h = rw (drop-cons s k 0 (omega arith)) (ap (λ (l : List ℕ). byte k s ∷ l) (row_drops (suc k) n s (omega arith)))

pub by_bytes : (n : ℕ) (s : List ℕ) → length s ≡ n → (F : List ℕ → Type 0) → F (row 0 n s) → F s
by_bytes n s h F = subst F (row_drops 0 n s (omega arith))

-- a store leaves what stands before it
pub row-set : (k n i a : ℕ) (s : List ℕ) → k + n ≤ i → row k n (set s i a) ≡ row k n s
row-set k zero i a s h = refl
row-set k (suc n) i a s h =
    rw (get_or-set_other s i k a 0 (λ e. omega arith)) (ap (λ (l : List ℕ). byte k s ∷ l) (row-set (suc k) n i a s (omega arith)))

-- what is copied into a front changes no more than that
pub over-front : (front rest : List ℕ) (at : ℕ) (xs : List ℕ) → at + length xs ≤ length front → over (front ++ rest) at xs ≡ over front at xs ++ rest
unfolding over
over-front front rest zero [] h = refl
over-front [] rest zero (x ∷ xs) h = absurd (omega arith)
over-front (r ∷ front) rest zero (x ∷ xs) h = ap (λ (l : List ℕ). x ∷ l) (over-front front rest zero xs (omega arith))
over-front [] rest (suc at) xs h = absurd (omega arith)
over-front (r ∷ front) rest (suc at) xs h = ap (λ (l : List ℕ). r ∷ l) (over-front front rest at xs (omega arith))

-- a count is stored and then the 31 bytes before it, or the last 32 bytes and then a count
pub copied_back : (image tail : List ℕ) (n : ℕ) → length image ≡ 62 → length tail ≡ 32 → over (set image 61 n) 30 (take 31 tail) ≡ set (over image 30 tail) 61 n
unfolding over
copied_back image tail n h long =
    by_bytes 62 image h (λ i. over (set i 61 n) 30 (take 31 tail) ≡ set (over i 30 tail) 61 n)
    (by_bytes 32 tail long (λ t. over (set (row 0 62 image) 61 n) 30 (take 31 t) ≡ set (over (row 0 62 image) 30 t) 61 n) refl)

-- the last 32 bytes, all of them
pub all_of_tail : (image : List ℕ) → length image ≡ 62 → take 32 (drop 30 image) ≡ drop 30 image
all_of_tail image h = take_all 32 (drop 30 image) (omega (arith, length-drop 30 image))
