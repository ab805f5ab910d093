-- Laws of how a stream begins, and of how it does where more of it comes.
use mathlib.Core.Path.{◌≡◌, refl}
use mathlib.Core.Bool.{Bool, true, false, cond, not, ◌&&◌}
use mathlib.Core.List.{List, [], ◌∷◌, ◌++◌, append-nil}
use Prim.Native.Nat.compare
use Prim.Native.Nat.{ℕ, ◌+◌, ◌≤◌, ◌<◌}
use native.Mathlib.Omega.{arith}
use lib.Dec.{eqb, ltb}
use lib.ListN.{length, drop, length-append, length-drop, get_or-append}
use lib.Seq.{take-append-le, drop-append-le}
use borrow.Author.Tests.{le-ltb, ltb-false}
use Rattle.rules.specs.Words.{word}
use Rattle.records.specs.Records.{Head, Whole, Torn, Part, length_of, kind_of, torn, unfinished, head_of}
use Rattle.records.specs.Runs.{event_in}

module _ (last : Bool) (s : List ℕ) where
  -- a whole record is all there, and not torn
  pub whole_facts : Whole ≡ head_of last s → (4 + length_of s ≤ length s) × (torn (kind_of s) (length_of s) ≡ false)
  unfolding head_of
  whole_facts e = go (ltb (length s) 4) (torn (kind_of s) (length_of s)) (ltb (length s) (4 + length_of s)) refl refl e
    where
      more : Head
      more = unfinished last (length s)

      no : {A : Type 0} (t : Bool) → Whole ≡ cond t Torn Part → A
      no true f = cc
      no false f = cc

      go : (a t b : Bool) → torn (kind_of s) (length_of s) ≡ t → ltb (length s) (4 + length_of s) ≡ b
          → Whole ≡ cond a more (cond t Torn (cond b more Whole))
          → (4 + length_of s ≤ length s) × (torn (kind_of s) (length_of s) ≡ false)
      go true t b q r f = no (last && not (eqb (length s) 0)) f
      go false true b q r f = cc
      go false false true q r f = no (last && not (eqb (length s) 0)) f
      go false false false q r f = (ltb-false (length s) (4 + length_of s) r, q)

-- ---- nothing is a part, and where the stream has ended no other is

pub empty_part : (last : Bool) (s : List ℕ) → length s ≤ 0 → head_of last s ≡ Part
unfolding head_of
empty_part last s h = let none : length s ≡ 0 = omega arith in rw none (go last)
  where
    go : (last : Bool) → cond (last && false) Torn Part ≡ Part
    go true = refl
    go false = refl

pub part_empty : (s : List ℕ) → head_of true s ≡ Part → s ≡ []
unfolding head_of
part_empty [] e = refl
part_empty (x ∷ s) e =
    let n = length_of (x ∷ s) in
    absurd (go (ltb (length (x ∷ s)) 4) (torn (kind_of (x ∷ s)) n) (ltb (length (x ∷ s)) (4 + n)) (rw (compare.suc-zero (length s)) at e))
  where
    go : (a b c : Bool) → cond a Torn (cond b Torn (cond c Torn Whole)) ≡ Part → ⊥
    go true b c f = cc
    go false true c f = cc
    go false false true f = cc
    go false false false f = cc

-- ---- a stream of which more comes begins as it did, unless with a part

module _ (s later : List ℕ) where
  word_stays : (k : ℕ) → k + 1 < length s → word k (s ++ later) ≡ word k s
  word_stays k l = rw (get_or-append s later 0 k (omega arith), get_or-append s later 0 (k + 1) l)

  module _ (l : 4 ≤ length s) where
    pub length_stays : length_of (s ++ later) ≡ length_of s
    length_stays = word_stays 0 (omega (arith, l))

    kind_stays : kind_of (s ++ later) ≡ kind_of s
    kind_stays = word_stays 2 (omega (arith, l))

  pub event_stays : 4 + length_of s ≤ length s → event_in (s ++ later) ≡ event_in s
  event_stays l =
      let four : 4 ≤ length s = omega (arith, l) in
      let cut = take-append-le (length_of s) (drop 4 s) later (rw length-drop (omega (arith, l))) in
      rw (length_stays four, kind_stays four, drop-append-le 4 s later four, cut)

abbrev pub Stays : Head → Head → Type 0
Stays Whole h = h ≡ Whole
Stays Torn h = h ≡ Torn
Stays Part h = Unit

stays_itself : (h : Head) → Stays h h
stays_itself Whole = refl
stays_itself Torn = refl
stays_itself Part = tt

pub head_stays : (last : Bool) (s later : List ℕ) → (last ≡ true → later ≡ []) → Stays (head_of last s) (head_of true (s ++ later))
unfolding head_of
head_stays true s later none = rw (none refl, append-nil s) (stays_itself (head_of true s))
head_stays false s later none = go (ltb (length s) 4) (torn (kind_of s) (length_of s)) (ltb (length s) (4 + length_of s)) refl refl refl
  where
    long : {n : ℕ} → n ≤ length s → ltb (length (s ++ later)) n ≡ false
    long {n} l = le-ltb (length (s ++ later)) n (omega (arith, l, length-append s later))

    go : (a b c : Bool) → ltb (length s) 4 ≡ a → torn (kind_of s) (length_of s) ≡ b → ltb (length s) (4 + length_of s) ≡ c
        → Stays (cond a Part (cond b Torn (cond c Part Whole))) (head_of true (s ++ later))
    go true b c p q r = tt
    go false true c p q r = let four = ltb-false (length s) 4 p in rw (long four, length_stays s later four, kind_stays s later four, q)
    go false false true p q r = tt
    go false false false p q r =
        let four = ltb-false (length s) 4 p in
        rw (long four, length_stays s later four, kind_stays s later four, q, long (ltb-false (length s) (4 + length_of s) r))
