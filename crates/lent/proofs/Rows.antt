-- Laws of rows: what is put behind what is put, and the room that it takes.
use mathlib.Core.Path.{◌≡◌, refl, sym, ap, ◌∙◌}
use mathlib.Core.List.{List, [], ◌∷◌, ◌++◌}
use Prim.Native.Nat.{ℕ, suc, ◌+◌}
use native.Mathlib.Nat.{zero-add, add-zero, suc-add, add-suc}
use native.Mathlib.Omega.{arith}
use lib.ListN.{length, set, length-append}
use lib.Seq.{sets, sets-eq, length-sets}
use Rattle.rules.specs.Words.{laid}
use Rattle.lent.specs.Rows.{Put, Fits}

-- storing xs and ys is storing xs, and then ys behind it
sets_append : (xs ys l : List ℕ) (i : ℕ) → sets l i (xs ++ ys) ≡ sets (sets l i xs) (i + length xs) ys
sets_append [] ys l i = rw add-zero
sets_append (x ∷ xs) ys l i = rw (add-suc, ← suc-add) (sets_append xs ys (set l i x) (suc i))

pub put_none : (l : List ℕ) (i : ℕ) → Put l i [] l i
put_none l i = record { stored = refl; moved = sym (add-zero i) }

pub put_length : {a b : List ℕ} {i j : ℕ} {xs : List ℕ} → Put a i xs b j → length b ≡ length a
put_length {a} {i = i} {xs = xs} p = ap length p.stored ∙ length-sets a i xs

module _ {a b : List ℕ} {i j : ℕ} (xs ys : List ℕ) (p : Put a i xs b j) where
  pub put_put : {c : List ℕ} {k : ℕ} → Put b j ys c k → Put a i (xs ++ ys) c k
  put_put q = record {
    stored = rw (q.stored, p.stored, p.moved) (sym (sets_append xs ys a i));
    moved = rw (q.moved, p.moved, length-append) (omega arith);
  }

  -- where xs and ys have room, ys has it behind xs
  pub fits_next : Fits a i (xs ++ ys) → Fits b j ys
  fits_next h = omega (arith, length-append xs ys, p.moved, put_length p)

-- what is put at the front of the room is laid there
pub put_laid : {room after : List ℕ} {xs : List ℕ} {next : ℕ} → Put room 0 xs after next → Fits room 0 xs → after ≡ laid xs room
put_laid {room} {xs = xs} p h = rw (p.stored, sets-eq xs room 0 h, zero-add)
