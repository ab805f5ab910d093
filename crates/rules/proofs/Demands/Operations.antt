-- Demand 2, operations: a block's list is arranged from a few parts, and each demand is a law of a part or of the arrangement.
use mathlib.Core.Path.{◌≡◌, refl, sym, ap, ◌∙◌}
use mathlib.Core.Bool.{Bool, true, false, cond, not}
use mathlib.Core.List.{List, [], ◌∷◌, ◌++◌, append_assoc, append-nil}
use Prim.Native.Nat.{ℕ, zero, suc, ◌+◌, ◌-◌, ◌*◌, ◌/◌, ◌^◌, ◌<◌, ◌≤◌}
use native.Mathlib.Nat.{add-zero, div-div-eq-div-mul, pow-suc}
use native.Mathlib.Omega.{arith}
use lib.ListN.{length, length-append}
use lib.Dec.{eqb, ltb}
use borrow.Author.Tests.{ltb-true, eqb-true, eqb-false, lt-ltb}
use Rattle.rules.specs.declared.Direction.{Direction}
use Rattle.rules.specs.declared.Direction.TheVariants.{In, Out}
use Rattle.rules.specs.declared.Lun.{Lun}
use Rattle.rules.specs.declared.Lun.TheVariants.{Lun0, Lun1}
use Rattle.rules.specs.Words.{byte, bit, bit_of, one}
use Rattle.rules.specs.Held.{lun_number}
use Rattle.rules.specs.Operations.{Operation, Poll, Select, Write, Read, Transfer}
use Rattle.rules.specs.Operations.{action, selected, content, only, with_bit4, select_byte, transfer_byte, operations_of}
use Rattle.rules.specs.Step.{change, step, rules}
use Rattle.rules.specs.Demands.Operations.{ExactOperations, Differ, Sets, PollBit, SelectLast, selects_in, SelectBits, device, SelectBit, LunBit, Weighs}
use Rattle.rules.specs.Demands.Operations.{TransferBits, TransferWay, TransferNeedsLength, tally, Counted, Listed}
use Rattle.rules.proofs.Luns.{lun_most}

pub exact_operations : ExactOperations rules
unfolding step change
exact_operations w p room h = rw h

-- ---- a block's list, from its action bits and its other bytes

-- the operation o r of each register r of a row that the bits of s select
abbrev picks : ℕ → (ℕ → Operation) → List ℕ → List Operation
picks s o [] = []
picks s o (r ∷ rs) = only (bit r s) (o r) ++ picks s o rs

-- in a read block or not, with the select last or not: poll p, writes w, write 7 v, reads r, transfer m and select of s
unfoldable arranged : Bool → Bool → List Operation → List Operation → List Operation → List Operation → List Operation → ℕ → List Operation
arranged reading last p w v r m s =
    cond reading (p ++ Select s ∷ [] ++ r) (p ++ w ++ cond last (v ++ Select s ∷ []) (Select s ∷ [] ++ v) ++ m ++ Read 7 ∷ [])

-- what action bits a, the bytes b from byte 3 on, L, and the operands of select and transfer make
abbrev made : (ℕ → ℕ) → (ℕ → ℕ) → ℕ → ℕ → ℕ → List Operation
made a b l s t =
    let write : ℕ → Operation = λ r. Write r (b (2 + r)) in
    arranged (eqb (a 0) 1) (eqb (a 1) 1) (only (not (eqb (a 2) 1)) Poll)
    (picks (b 0) write (0 ∷ 1 ∷ 2 ∷ 3 ∷ 4 ∷ 5 ∷ []))
    (picks (b 0) write (7 ∷ []))
    (picks (b 0) Read (0 ∷ 1 ∷ 2 ∷ 3 ∷ 4 ∷ 5 ∷ 6 ∷ 7 ∷ []))
    (only (ltb 0 l) (Transfer t))
    s

-- a block's action bits, and its bytes from byte 3 on
abbrev bits : List ℕ → ℕ → ℕ
bits block j = bit_of j (action block)

abbrev rest : List ℕ → ℕ → ℕ
rest block j = byte (3 + j) block

made_of : (lun : Lun) (block : List ℕ) (l : ℕ) (d : Direction)
    → operations_of lun block l d ≡ made (bits block) (rest block) l (select_byte lun block) (transfer_byte (action block) d)
unfolding operations_of arranged
made_of lun block l d = refl

-- ---- the select of every block

selects_append : (xs ys : List Operation) → selects_in (xs ++ ys) ≡ selects_in xs ++ selects_in ys
selects_append [] ys = refl
selects_append (Poll ∷ xs) ys = selects_append xs ys
selects_append (Select operand ∷ xs) ys = ap (λ (l : List ℕ). operand ∷ l) (selects_append xs ys)
selects_append (Write register content ∷ xs) ys = selects_append xs ys
selects_append (Read register ∷ xs) ys = selects_append xs ys
selects_append (Transfer operand ∷ xs) ys = selects_append xs ys

-- a list without a select, of one operation or of one for each register
abbrev NoSelect : List Operation → Type 0
NoSelect os = selects_in os ≡ []

none_only : (t : Bool) (o : Operation) → NoSelect (o ∷ []) → NoSelect (only t o)
none_only true o h = h
none_only false o h = refl

none_picks : (s : ℕ) (o : ℕ → Operation) → ((r : ℕ) → NoSelect (o r ∷ [])) → (rs : List ℕ) → NoSelect (picks s o rs)
none_picks s o h [] = refl
none_picks s o h (r ∷ rs) = rw (selects_append, none_only (bit r s) (o r) (h r), none_picks s o h rs)

select_alone : (q z : Bool) (p w v r m : List Operation) (s : ℕ) → NoSelect p → NoSelect w → NoSelect v → NoSelect r → NoSelect m
    → selects_in (arranged q z p w v r m s) ≡ s ∷ []
unfolding arranged
select_alone true z p w v r m s hp hw hv hr hm = simp (selects_append, hp, hr)
select_alone false true p w v r m s hp hw hv hr hm = simp (selects_append, hp, hw, hv, hm)
select_alone false false p w v r m s hp hw hv hr hm = simp (selects_append, hp, hw, hv, hm)

select_once : (lun : Lun) (block : List ℕ) (l : ℕ) (d : Direction) → selects_in (operations_of lun block l d) ≡ select_byte lun block ∷ []
select_once lun block l d =
    rw (made_of lun block l d)
    (select_alone _ _ _ _ _ _ _ _
    (none_only (not (bit 2 (action block))) Poll refl)
    (none_picks (byte 3 block) (λ r. Write r (content block r)) (λ r. refl) (0 ∷ 1 ∷ 2 ∷ 3 ∷ 4 ∷ 5 ∷ []))
    (none_picks (byte 3 block) (λ r. Write r (content block r)) (λ r. refl) (7 ∷ []))
    (none_picks (byte 3 block) Read (λ r. refl) (0 ∷ 1 ∷ 2 ∷ 3 ∷ 4 ∷ 5 ∷ 6 ∷ 7 ∷ []))
    (none_only (ltb 0 l) (Transfer (transfer_byte (action block) d)) refl))

-- the bits above bit 4 are those of a 32nd
bit_above : (b k : ℕ) → bit_of (suc (suc (suc (suc (suc k))))) b ≡ bit_of k (b / 32)
bit_above b k =
    let from : 2 ^ suc (suc (suc (suc (suc k)))) ≡ 32 * 2 ^ k = simp pow-suc (omega arith) in
    rw (from, ← (div-div-eq-div-mul b 32 (2 ^ k)))

-- in a byte with bit 4 replaced every other bit stands
bit_stands : (n b k : ℕ) → n ≤ 1 → (k ≡ 4 → ⊥) → bit_of k (with_bit4 n b) ≡ bit_of k b
bit_stands n b zero h other = omega arith
bit_stands n b (suc zero) h other = omega arith
bit_stands n b (suc (suc zero)) h other = omega arith
bit_stands n b (suc (suc (suc zero))) h other = omega arith
bit_stands n b (suc (suc (suc (suc zero)))) h other = absurd (other refl)
bit_stands n b (suc (suc (suc (suc (suc k))))) h other =
    let high : with_bit4 n b / 32 ≡ b / 32 = omega arith in bit_above (with_bit4 n b) k ∙ ap (λ (q : ℕ). bit_of k q) high ∙ sym (bit_above b k)

-- what bit 4 of a select becomes
pub own_most : (t : Bool) (n : ℕ) (lun : Lun) → cond t (bit_of 4 n) (lun_number lun) ≤ 1
own_most true n lun = omega arith
own_most false n lun = lun_most lun

pub select_bits : SelectBits operations_of
select_bits lun block l d =
    let own : cond (bit 5 (action block)) (bit_of 4 (byte 11 block)) (lun_number lun) ≤ 1 = own_most (bit 5 (action block)) (byte 11 block) lun in (
      select_byte lun block,
      select_once lun block l d,
      (λ none. rw none (omega (arith, own), omega (arith, own), omega (arith, own))),
      (λ chosen. rw chosen (λ k. bit_stands _ (byte 11 block) k own)),
      omega (arith, own),
    )

-- ---- a block's list where an action bit is set

-- the eight bits of a with bit k set
abbrev put : ℕ → (ℕ → ℕ) → ℕ → ℕ
put k a j = cond (ltb j 8) (cond (eqb j k) 1 (a j)) 0

put-bits : {k : ℕ} {block block' : List ℕ} → Sets k block block' → (j : ℕ) → cond (ltb j 8) (bits block' j) 0 ≡ put k (bits block) j
put-bits {k} {block} {block'} h j = go (ltb j 8) (eqb j k) refl refl
  where
    go : (t u : Bool) → ltb j 8 ≡ t → eqb j k ≡ u → cond t (bits block' j) 0 ≡ cond t (cond u 1 (bits block j)) 0
    go true true e f = rw (eqb-true j k f) h.set
    go true false e f = h.others j (ltb-true j 8 e) (eqb-false j k f)
    go false u e f = refl

-- with bit k set, a block's list is made of the same other bits and bytes
made_set : {k : ℕ} {block block' : List ℕ} (lun : Lun) (l : ℕ) (d : Direction) → Sets k block block'
    → operations_of lun block' l d ≡ made (put k (bits block)) (rest block) l (select_byte lun block') (transfer_byte (action block') d)
unfolding operations_of arranged
made_set {block' = block'} lun l d h i =
    made (λ j. put-bits h j i) (λ j. h.elsewhere (3 + j) (λ e. omega arith) i) l (select_byte lun block') (transfer_byte (action block') d)

-- only bit 5 changes the select's operand, and only bits 3, 4, 6 and 7 the transfer's
select_kept : {k : ℕ} {block block' : List ℕ} (lun : Lun) → Sets k block block' → (5 ≡ k → ⊥) → select_byte lun block' ≡ select_byte lun block
select_kept lun h n = rw (h.others 5 (omega arith) n, h.elsewhere 3 (λ e. omega arith), h.elsewhere 11 (λ e. omega arith))

transfer_kept : {k : ℕ} {block block' : List ℕ} (d : Direction) → Sets k block block' → (3 ≡ k → ⊥) → (4 ≡ k → ⊥) → (6 ≡ k → ⊥) → (7 ≡ k → ⊥)
    → transfer_byte (action block') d ≡ transfer_byte (action block) d
transfer_kept d h n3 n4 n6 n7 = rw (h.others 3 (omega arith) n3, h.others 4 (omega arith) n4, h.others 6 (omega arith) n6, h.others 7 (omega arith) n7)

-- ---- what becomes of an arrangement where one part of it changes

poll_first : (q z : Bool) (w v r m : List Operation) (s : ℕ) → arranged q z (Poll ∷ []) w v r m s ≡ Poll ∷ arranged q z [] w v r m s
unfolding arranged
poll_first true z w v r m s = refl
poll_first false z w v r m s = refl

-- the select goes from before write 7 to behind it
select_moves : (p w v r m : List Operation) (s : ℕ)
    → Differ (arranged false false p w (v ++ []) r m s) (arranged false true p w (v ++ []) r m s) (Select s ∷ v) (v ++ Select s ∷ [])
unfolding arranged
select_moves p w v r m s =
    record { front = p ++ w; back = m ++ Read 7 ∷ []; without = simp (append_assoc, append-nil); with = simp (append_assoc, append-nil) }

-- another operand of the select, or another transfer, and nothing else
select_changes : (q z : Bool) (p w v r m : List Operation) (s s' : ℕ)
    → Differ (arranged q z p w v r m s) (arranged q z p w v r m s') (Select s ∷ []) (Select s' ∷ [])
unfolding arranged
select_changes true z p w v r m s s' = record { front = p; back = r; without = refl; with = refl }
select_changes false true p w v r m s s' =
    record { front = p ++ w ++ v; back = m ++ Read 7 ∷ []; without = simp append_assoc; with = simp append_assoc }
select_changes false false p w v r m s s' =
    record { front = p ++ w; back = v ++ m ++ Read 7 ∷ []; without = simp append_assoc; with = simp append_assoc }

transfer_changes : (z : Bool) (p w v r m m' : List Operation) (s : ℕ)
    → Differ (arranged false z p w v r m s) (arranged false z p w v r m' s) m m'
unfolding arranged
transfer_changes z p w v r m m' s =
    record { front = p ++ w ++ cond z (v ++ Select s ∷ []) (Select s ∷ [] ++ v); back = Read 7 ∷ []; without = refl; with = refl }

-- a read block has no other place for its select, and no transfer
read_alike : (z z' : Bool) (p w v r m m' : List Operation) (s : ℕ) → arranged true z p w v r m s ≡ arranged true z' p w v r m' s
unfolding arranged
read_alike z z' p w v r m m' s = refl

-- ---- the poll and the select

pub poll_bit : PollBit operations_of
poll_bit lun block block' l d h =
    rw (made_of lun block l d, made_set lun l d h, select_kept lun h (eqb-false 5 2 refl), transfer_kept d h (eqb-false 3 2 refl) (eqb-false 4 2 refl) (eqb-false 6 2 refl) (eqb-false 7 2 refl), h.clear)
    (poll_first _ _ _ _ _ _ _)

pub select_last : SelectLast operations_of
select_last lun block block' l d h =
    rw (made_of lun block l d, made_set lun l d h, select_kept lun h (eqb-false 5 1 refl), transfer_kept d h (eqb-false 3 1 refl) (eqb-false 4 1 refl) (eqb-false 6 1 refl) (eqb-false 7 1 refl), h.clear)
    ((λ reading. rw reading (read_alike _ _ _ _ _ _ _ _ _)), (λ writing. (select_byte lun block, rw writing (select_moves _ _ _ _ _ _))))

-- the select's operand with bit 5 clear, and with it set
with_bit : (block : List ℕ) (n : ℕ) → with_bit4 n (cond (selected block 6) (byte 11 block) 0xA0) ≡ device block + 16 * n
with_bit block n = go (selected block 6)
  where
    go : (t : Bool) → with_bit4 n (cond t (byte 11 block) 0xA0) ≡ cond t (byte 11 block - 16 * bit_of 4 (byte 11 block)) 0xA0 + 16 * n
    go true = refl
    go false = refl

select_clear : (lun : Lun) (block : List ℕ) → bit_of 5 (action block) ≡ 0 → select_byte lun block ≡ device block + 16 * lun_number lun
select_clear lun block clear = rw clear (with_bit block (lun_number lun))

select_set : (lun : Lun) (block : List ℕ) → bit_of 5 (action block) ≡ 1 → select_byte lun block ≡ device block + 16 * bit_of 4 (byte 11 block)
select_set lun block set = rw set (with_bit block (bit_of 4 (byte 11 block)))

pub select_bit : SelectBit operations_of
select_bit lun block block' l d h =
    let now : select_byte lun block' ≡ device block + 16 * bit_of 4 (byte 11 block) =
    select_set lun block' h.set ∙ rw (h.elsewhere 3 (λ e. omega arith), h.elsewhere 11 (λ e. omega arith)) in
    rw (made_of lun block l d, made_set lun l d h, transfer_kept d h (eqb-false 3 5 refl) (eqb-false 4 5 refl) (eqb-false 6 5 refl) (eqb-false 7 5 refl))
    (rw (select_clear lun block h.clear, now) (select_changes _ _ _ _ _ _ _ _ _))

pub lun_bit : LunBit operations_of
lun_bit block l d = (
  λ set. rw (made_of Lun0 block l d, made_of Lun1 block l d, select_set Lun0 block set, select_set Lun1 block set),
  λ clear.
      rw (made_of Lun0 block l d, made_of Lun1 block l d, select_clear Lun0 block clear ∙ add-zero _, select_clear Lun1 block clear)
      (select_changes _ _ _ _ _ _ _ _ _),
)

-- ---- the transfer

-- a bit on which only the transfer's operand depends, by n
weighs : (k n : ℕ) → ((a : ℕ → ℕ) → made (put k a) ≡ made a) → (5 ≡ k → ⊥)
    → ((block block' : List ℕ) (d : Direction) → Sets k block block' → transfer_byte (action block') d ≡ transfer_byte (action block) d + n)
    → Weighs operations_of k n
weighs k n same five more lun block block' l d h =
    rw (made_of lun block l d, made_set lun l d h ∙ (λ i. same (bits block) i (rest block) l (select_kept lun h five i) (more block block' d h i)))
    ((λ reading. rw reading (read_alike _ _ _ _ _ _ _ _ _)), (λ writing. (transfer_byte (action block) d, rw writing (transfer_changes _ _ _ _ _ _ _ _))))

pub transfer_bits : TransferBits operations_of
transfer_bits = (
  weighs 6 2 (λ a. refl) (eqb-false 5 6 refl) (λ b b' d h. rw (put-bits h 3, put-bits h 4, put-bits h 6, put-bits h 7, h.clear) (omega arith)),
  weighs 4 4 (λ a. refl) (eqb-false 5 4 refl) (λ b b' d h. rw (put-bits h 3, put-bits h 4, put-bits h 6, put-bits h 7, h.clear) (omega arith)),
  weighs 3 8 (λ a. refl) (eqb-false 5 3 refl) (λ b b' d h. rw (put-bits h 3, put-bits h 4, put-bits h 6, put-bits h 7, h.clear) (omega arith)),
  weighs 7 16 (λ a. refl) (eqb-false 5 7 refl) (λ b b' d h. rw (put-bits h 3, put-bits h 4, put-bits h 6, put-bits h 7, h.clear) (omega arith)),
)

pub transfer_way : TransferWay operations_of
transfer_way lun block l writing positive =
    let t : ℕ = 2 * bits block 6 + 4 * bits block 4 + 8 * bits block 3 + 16 * bits block 7 in
    let outward : transfer_byte (action block) Out ≡ t = omega arith in
    let inwards : transfer_byte (action block) In ≡ t + 1 = omega arith in
    rw (made_of lun block l Out, made_of lun block l In, outward, inwards, writing, lt-ltb 0 l positive) (t, refl, transfer_changes _ _ _ _ _ _ _ _)

pub transfer_needs_length : TransferNeedsLength operations_of
transfer_needs_length lun block l d writing positive =
    rw (made_of lun block 0 d, made_of lun block l d, writing, lt-ltb 0 l positive) (transfer_byte (action block) d, transfer_changes _ _ _ _ _ _ _ _)

-- ---- how many operations

-- a test, a bit, a part and an arrangement, counted
one_most : (t : Bool) → one t ≤ 1
one_most true = omega arith
one_most false = omega arith

one_bit : (n : ℕ) → n < 2 → one (eqb n 1) ≡ n
one_bit n h = go (eqb n 1) refl
  where
    go : (t : Bool) → eqb n 1 ≡ t → one t ≡ n
    go true e = sym (eqb-true n 1 e)
    go false e = let other : n ≡ 1 → ⊥ = eqb-false n 1 e in omega arith

length-only : (t : Bool) (o : Operation) → length (only t o) ≡ one t
length-only true o = refl
length-only false o = refl

length-picks : (block : List ℕ) (o : ℕ → Operation) (rs : List ℕ) → length (picks (byte 3 block) o rs) ≡ tally block rs
length-picks block o [] = refl
length-picks block o (r ∷ rs) =
    rw (length-append, length-only, length-picks block o rs, one_bit (bit_of r (byte 3 block)) (omega arith))

length_read : (z : Bool) (p w v r m : List Operation) (s : ℕ) → length (arranged true z p w v r m s) ≡ length p + 1 + length r
unfolding arranged
length_read z p w v r m s = simp length-append (omega arith)

length_written : (z : Bool) (p w v r m : List Operation) (s : ℕ)
    → length (arranged false z p w v r m s) ≡ length p + 2 + (length w + length v) + length m
unfolding arranged
length_written true p w v r m s = simp length-append (omega arith)
length_written false p w v r m s = simp length-append (omega arith)

pub counted : Counted operations_of
counted lun block l d =
    let polls : Bool = not (bit 2 (action block)) in
    let write : ℕ → Operation = λ r. Write r (content block r) in
    let low : List ℕ = 0 ∷ 1 ∷ 2 ∷ 3 ∷ 4 ∷ 5 ∷ [] in
    rw (made_of lun block l d) (
      (λ reading. rw (reading, length_read, length-only polls, length-picks block Read (low ++ 6 ∷ 7 ∷ [])) (refl, omega (arith, one_most polls))),
      (λ writing. rw (writing, length_written, length-only polls, length-only (ltb 0 l), length-picks block write low, length-picks block write (7 ∷ []))
          (omega arith, omega (arith, one_most polls, one_most (ltb 0 l)))),
    )

pub listed : Listed operations_of
unfolding operations_of
listed lun block l d = (
  select_byte lun block,
  transfer_byte (action block) d,
  (λ reading. rw reading (simp (append_assoc, append-nil))),
  (λ writing usual. rw (writing, usual) (simp (append_assoc, append-nil))),
)
