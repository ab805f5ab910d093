-- Laws of a row with another over it: how long it is, where all of it fits at the front, and how a loop puts it there; of a part of a row's front; and of
-- numbers and rows byte by byte.
use mathlib.Core.Path.{◌≡◌, refl, sym, ap, ◌∙◌}
use mathlib.Core.Logic.{◌⊎◌, inl, inr}
use mathlib.Core.List.{List, [], ◌∷◌, ◌++◌, append-nil}
use Prim.Native.Nat.{ℕ, zero, suc, ◌+◌, ◌-◌, ◌*◌, ◌/◌, ◌%◌, ◌^◌, ◌<◌, ◌≤◌, min}
use native.Mathlib.Nat.{zero-add, suc-add, div-div-eq-div-mul}
use native.Mathlib.Omega.{arith}
use lib.ListN.{length, take, drop, length-drop, drop_of_length-le, take-append-drop}
use lib.Seq.{length-take-le, drop-cons, take-append-le, drop-append-le, paste, paste-zero}
use Rattle.rules.specs.Words.{byte, laid, over}

pub over-length : (row : List ℕ) (at : ℕ) (xs : List ℕ) → length (over row at xs) ≡ length row
unfolding over
over-length row zero [] = refl
over-length [] zero (x ∷ xs) = refl
over-length (r ∷ row) zero (x ∷ xs) = ap suc (over-length row zero xs)
over-length [] (suc at) xs = refl
over-length (r ∷ row) (suc at) xs = ap suc (over-length row at xs)

-- what lies before it or behind it is as it was
pub over_outside : (row : List ℕ) (at : ℕ) (xs : List ℕ) (k : ℕ) → (k < at) ⊎ (at + length xs ≤ k) → byte k (over row at xs) ≡ byte k row
unfolding over
over_outside row zero [] k h = refl
over_outside [] zero (x ∷ xs) k h = refl
over_outside (r ∷ row) zero (x ∷ xs) k (inl l) = absurd (omega arith)
over_outside (r ∷ row) zero (x ∷ xs) zero (inr l) = absurd (omega arith)
over_outside (r ∷ row) zero (x ∷ xs) (suc k) (inr l) = over_outside row zero xs k (inr (omega arith))
over_outside [] (suc at) xs k h = refl
over_outside (r ∷ row) (suc at) xs zero h = refl
over_outside (r ∷ row) (suc at) xs (suc k) (inl l) = over_outside row at xs k (inl (omega arith))
over_outside (r ∷ row) (suc at) xs (suc k) (inr l) = over_outside row at xs k (inr (omega arith))

-- what fits at the front is laid there
pub over-laid : (room out : List ℕ) → length out ≤ length room → over room 0 out ≡ laid out room
unfolding over
over-laid room [] h = refl
over-laid [] (x ∷ xs) h = absurd (omega arith)
over-laid (r ∷ room) (x ∷ xs) h = ap (λ (l : List ℕ). x ∷ l) (over-laid room xs (omega arith))

-- what is as long as the row takes its place
pub over_all : (row xs : List ℕ) → length xs ≡ length row → over row 0 xs ≡ xs
over_all row xs h =
    over-laid row xs (omega arith)
    ∙ ap (λ (l : List ℕ). xs ++ l) (drop_of_length-le row {i = length xs} (omega arith))
    ∙ append-nil xs

-- so many are put there one by one
pub over_pastes : (row : List ℕ) (at : ℕ) (xs : List ℕ) (n : ℕ) → n ≡ min (length xs) (length row - at) → over row at xs ≡ paste row at xs n
unfolding over
over_pastes row zero [] n e = let z : n ≡ 0 = omega arith in rw z
over_pastes [] zero (x ∷ xs) n e = let z : n ≡ 0 = omega arith in rw z
over_pastes (r ∷ row) zero (x ∷ xs) n e =
    let z : n ≡ suc (n - 1) = omega arith in
    rw (z, zero-add) (ap (λ (l : List ℕ). x ∷ l) (rw zero-add at (over_pastes row zero xs (n - 1) (omega arith))))
over_pastes [] (suc at) xs n e = let z : n ≡ 0 = omega arith in rw z (paste-zero [] (suc at) xs)
over_pastes (r ∷ row) (suc at) xs n e = rw suc-add (ap (λ (l : List ℕ). r ∷ l) (over_pastes row at xs n (omega arith)))

-- a number of 32 bits from its four bytes
pub four_bytes : (n : ℕ) → n < 2 ^ 32 → n % 256 + 256 * (n / 256 % 256) + 65536 * (n / 65536 % 256 + 256 * (n / 16777216 % 256)) ≡ n
four_bytes n h = rw (← div-div-eq-div-mul n 256 256, ← div-div-eq-div-mul n 65536 256, ← div-div-eq-div-mul n 256 256) (omega arith)

-- what lies in the front of a row is a part of the row
pub part_of_front : (m k n : ℕ) (s : List ℕ) → m ≤ length s → k + n ≤ m → take n (drop k (take m s)) ≡ take n (drop k s)
part_of_front m k n s h g =
    let l : length (take m s) ≡ m = length-take-le m s h in
    let parts : drop k (take m s ++ drop m s) ≡ drop k (take m s) ++ drop m s = drop-append-le k (take m s) (drop m s) (omega arith) in
    sym
    (ap (λ (x : List ℕ). take n (drop k x)) (sym (take-append-drop m s))
    ∙ ap (take n) parts
    ∙ take-append-le n (drop k (take m s)) (drop m s) (rw length-drop (omega arith)))

-- n bytes from k on, and the rest
abbrev pub parts : ℕ → ℕ → List ℕ → List ℕ
parts k zero p = drop k p
parts k (suc n) p = byte k p ∷ parts (suc k) n p

pub in_parts : (k n : ℕ) (p : List ℕ) → k + n ≤ length p → drop k p ≡ parts k n p
in_parts k zero p h = refl
in_parts k (suc n) p h =
    drop-cons p k 0 (omega arith) ∙ ap (λ (l : List ℕ). byte k p ∷ l) (in_parts (suc k) n p (omega arith))
