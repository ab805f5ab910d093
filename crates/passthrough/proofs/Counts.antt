-- Bits and tests as numbers, how many operations a block makes as the code counts them, and how many at most.
use mathlib.Core.Path.{◌≡◌, refl, ap, ◌∙◌}
use mathlib.Core.Bool.{Bool, true, false, not}
use mathlib.Core.List.{List}
use Prim.Native.Nat.{ℕ, suc, ◌+◌, ◌-◌, ◌/◌, ◌^◌, ◌<◌}
use native.Mathlib.Nat.{div-div-eq-div-mul, pow-suc}
use native.Mathlib.Omega.{arith}
use lib.Count.{ones, ones_step}
use lib.Dec.{eqb, ltb}
use lib.ListN.{length}
use mir.Val.{bool_byte}
use borrow.Author.Tests.{eqb-true, eqb-false}
use Rattle.lent.proofs.Laws.{bool_byte_lem}
use Rattle.rules.proofs.Demands.Operations.{counted}
use Rattle.rules.proofs.Demands.Makers.{codes-length, operations_count}
use Rattle.rules.specs.declared.Direction.{Direction}
use Rattle.rules.specs.declared.Lun.{Lun}
use Rattle.rules.specs.Words.{byte, bit, bit_of, one}
use Rattle.rules.specs.Operations.{action, operations_of}
use Rattle.rules.specs.Demands.Operations.{tally}
use Rattle.passthrough.specs.Rows.{rising}

-- the set bits of a number, bit by bit
ones_from : (k n : ℕ) → ones (n / 2 ^ k) ≡ bit_of k n + ones (n / 2 ^ suc k)
ones_from k n = ones_step (n / 2 ^ k) ∙ rw (div-div-eq-div-mul, ← pow-suc)

ones_zero : ones 0 ≡ 0
unfolding ones
ones_zero = refl

ones-tally : (block : List ℕ) → byte 3 block < 256 → ones (byte 3 block) ≡ tally block (rising 8)
ones-tally block h =
    let n : ℕ = byte 3 block in
    let whole : n ≡ n / 2 ^ 0 = omega arith in
    let none : n / 2 ^ 8 ≡ 0 = omega arith in
    ap ones whole
    ∙ rw (ones_from 0 n, ones_from 1 n, ones_from 2 n, ones_from 3 n, ones_from 4 n, ones_from 5 n, ones_from 6 n, ones_from 7 n, none, ones_zero)

one_not : (n : ℕ) → n < 2 → one (not (eqb n 1)) ≡ 1 - n
one_not n h = go (eqb n 1) refl
  where
    go : (t : Bool) → eqb n 1 ≡ t → one (not t) ≡ 1 - n
    go true e = rw (eqb-true n 1 e)
    go false e = let other : n ≡ 1 → ⊥ = eqb-false n 1 e in omega arith

module _ (lun : Lun) (block : List ℕ) (l : ℕ) (d : Direction) (h : byte 3 block < 256) where
  pub count_read : bit 0 (action block) ≡ true → length (operations_of lun block l d) ≡ 2 - bit_of 2 (action block) + ones (byte 3 block)
  count_read e = omega (arith, ((counted lun block l d).0 (eqb-true _ 1 e)).0, one_not (bit_of 2 (action block)) (omega arith), ones-tally block h)

  pub count_write : bit 0 (action block) ≡ false
      → length (operations_of lun block l d)
      ≡ 2 - bit_of 2 (action block) + ones (byte 3 block) + 1 - bit_of 6 (byte 3 block) + bool_byte (ltb 0 l)
  count_write e =
      let other : bit_of 0 (action block) ≡ 1 → ⊥ = eqb-false _ 1 e in
      rw (bool_byte_lem (ltb 0 l))
      (omega (arith, ((counted lun block l d).1 (omega arith)).0, one_not (bit_of 2 (action block)) (omega arith), ones-tally block h))

pub ruleset counts = (operations_count, count_read, count_write)

-- how many numbers a block's operations are
pub ruleset numbers = (operations_count, codes-length)
