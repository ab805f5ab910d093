-- The list of changes is what Mended says of it.
use Prim.Native.Nat.{ℕ, zero, suc, ◌+◌, ◌<◌, ◌≤◌}
use mathlib.Core.Path.{◌≡◌, refl, sym, ap, subst, ◌∙◌}
use mathlib.Core.Logic.{inl, inr}
use mathlib.Core.Bool.{Bool, true, false, cond, false≢true}
use mathlib.Core.List.{List, [], ◌∷◌, ◌++◌}
use native.Mathlib.Nat.{add-zero, zero-add, suc-add, add-suc}
use native.Mathlib.Omega.{arith}
use native.Mathlib.Numerals.{add-one}
use lib.ListN.{length, take, length-append, get_or-eq_default}
use lib.Seq.{length-take-le, get_or-take, append_snoc, set-append_seam}
use lib.Dec.{eqb, ltb}
use borrow.Author.Tests.{eqb-true, eqb-false, ne_eqb, ltb-true, ltb-false}
use Rattle.rules.specs.Words.{byte, one}
use Rattle.mend.specs.Mend.{mended, Changed, changed, changes_from, changes}
use Rattle.mend.specs.Mended.{Among, ChangesAreListed, ListedIsChanged, Rising, none, next, ListRises, put_back, OldBytesGiveTheImage, ThirteenAtMost}
use Rattle.mend.proofs.Bytes.{thirteen, is_among, among_is, mended-length, mended_other}
use Rattle.mend.proofs.Changes.{changes_to, front_all}

-- ---- each change, and nothing else

-- what is listed behind a byte is listed, and so is the byte that comes before it where it changes
behind : (t : Bool) (c b : Changed) (cs : List Changed) → Among c cs → Among c (cond t cs (b ∷ cs))
behind true c b cs m = m
behind false c b cs m = inr m

listed : (a : ℕ) (old new : List ℕ) (k : ℕ) → length old ≡ length new → k < length old → (byte k new ≡ byte k old → ⊥)
    → Among (changed (a + k) (byte k old) (byte k new)) (changes_from a old new)
listed a [] new k e h d = absurd (omega arith)
listed a (o ∷ old) [] k e h d = absurd (omega arith)
listed a (o ∷ old) (n ∷ new) zero e h d = rw (ne_eqb o n (λ z. d (sym z)), add-zero) (inl refl)
listed a (o ∷ old) (n ∷ new) (suc k) e h d =
    behind (eqb o n) (changed (a + suc k) (byte k old) (byte k new)) (changed a o n) (changes_from (suc a) old new)
    (rw (add-suc, ← suc-add) (listed (suc a) old new k (omega arith) (omega arith) d))

pub changes_are_listed : ChangesAreListed
unfolding changes
changes_are_listed image k d = go (ltb k (length image)) refl
  where
    go : (t : Bool) → ltb k (length image) ≡ t
        → Among (changed k (byte k image) (byte k (mended image))) (changes_from 0 image (mended image))
    go true e =
        subst (λ (a : ℕ). Among (changed a (byte k image) (byte k (mended image))) (changes_from 0 image (mended image))) (zero-add k)
        (listed 0 image (mended image) k (sym (mended-length image)) (ltb-true k (length image) e) d)
    go false e =
        let out = ltb-false k (length image) e in
        absurd (d (get_or-eq_default (mended image) 0 (omega (arith, mended-length image)) ∙ sym (get_or-eq_default image 0 out)))

-- a change of two images from an address on
abbrev IsChange : ℕ → List ℕ → List ℕ → Changed → Type 0
IsChange a old new c = (k : ℕ) × (k < length old) × (c ≡ changed (a + k) (byte k old) (byte k new)) × (byte k old ≡ byte k new → ⊥)

is_change : (a : ℕ) (old new : List ℕ) (c : Changed) → Among c (changes_from a old new) → IsChange a old new c
is_change a [] new c m = elim m [ ]
is_change a (o ∷ old) [] c m = elim m [ ]
is_change a (o ∷ old) (n ∷ new) c m = go (eqb o n) refl m (is_change (suc a) old new c)
  where
    later : IsChange (suc a) old new c → IsChange a (o ∷ old) (n ∷ new) c
    later (k, h, e, d) = (suc k, omega arith, e ∙ ap (λ (i : ℕ). changed i (byte k old) (byte k new)) (suc-add a k ∙ sym (add-suc a k)), d)

    now : Among c (changed a o n ∷ changes_from (suc a) old new) → (o ≡ n → ⊥)
        → (Among c (changes_from (suc a) old new) → IsChange (suc a) old new c) → IsChange a (o ∷ old) (n ∷ new) c
    now (inl e) d ih = (zero, omega arith, e ∙ ap (λ (i : ℕ). changed i o n) (sym (add-zero a)), d)
    now (inr m) d ih = later (ih m)

    go : (t : Bool) → eqb o n ≡ t → Among c (cond t (changes_from (suc a) old new) (changed a o n ∷ changes_from (suc a) old new))
        → (Among c (changes_from (suc a) old new) → IsChange (suc a) old new c) → IsChange a (o ∷ old) (n ∷ new) c
    go true e m ih = later (ih m)
    go false e m ih = now m (eqb-false o n e) ih

pub listed_is_changed : ListedIsChanged
unfolding changes
listed_is_changed image c m = go (is_change 0 image (mended image) c m)
  where
    go : IsChange 0 image (mended image) c
        → (c.address < length image) × (c.old ≡ byte c.address image) × (c.new ≡ byte c.address (mended image)) × (c.old ≡ c.new → ⊥)
    go (k, h, e, d) =
        let is : c ≡ changed k (byte k image) (byte k (mended image)) = e ∙ ap (λ (a : ℕ). changed a (byte k image) (byte k (mended image))) (zero-add k) in
        rw is (h, refl, refl, d)

-- ---- rising

lower : (n m : ℕ) (cs : List Changed) → n ≤ m → Rising m cs → Rising n cs
lower n m cs h (none k) = none n
lower n m cs h (next k c ds l r) = next n c ds (omega arith) r

rises : (a : ℕ) (old new : List ℕ) → Rising a (changes_from a old new)
rises a [] new = none a
rises a (o ∷ old) [] = none a
rises a (o ∷ old) (n ∷ new) = go (eqb o n) (rises (suc a) old new)
  where
    go : (t : Bool) → Rising (suc a) (changes_from (suc a) old new)
        → Rising a (cond t (changes_from (suc a) old new) (changed a o n ∷ changes_from (suc a) old new))
    go true r = lower a (suc a) (changes_from (suc a) old new) (omega arith) r
    go false r =
        next a (changed a o n) (changes_from (suc a) old new) (omega arith)
        (subst (λ (k : ℕ). Rising k (changes_from (suc a) old new)) (sym (add-one a)) r)

pub list_rises : ListRises
unfolding changes
list_rises image = rises 0 image (mended image)

-- ---- the old bytes put back, of what stands behind a front that is as it was

back : (front old new : List ℕ) → length old ≡ length new → put_back (changes_from (length front) old new) (front ++ new) ≡ front ++ old
back front [] [] e = refl
back front [] (n ∷ new) e = absurd (omega arith)
back front (o ∷ old) [] e = absurd (omega arith)
back front (o ∷ old) (n ∷ new) e = go (eqb o n) refl (back (front ++ o ∷ []) old new (omega arith))
  where
    on : put_back (changes_from (length (front ++ o ∷ [])) old new) (front ++ o ∷ [] ++ new) ≡ front ++ o ∷ [] ++ old
        → put_back (changes_from (suc (length front)) old new) (front ++ o ∷ new) ≡ front ++ o ∷ old
    on ih =
        ap (λ (l : List ℕ). put_back (changes_from (suc (length front)) old new) l) (sym (append_snoc front o new))
        ∙ ap (λ (a : ℕ). put_back (changes_from a old new) (front ++ o ∷ [] ++ new)) (sym (length-append front (o ∷ []) ∙ add-one (length front)))
        ∙ ih
        ∙ append_snoc front o old

    go : (t : Bool) → eqb o n ≡ t → put_back (changes_from (length (front ++ o ∷ [])) old new) (front ++ o ∷ [] ++ new) ≡ front ++ o ∷ [] ++ old
        → put_back (cond t (changes_from (suc (length front)) old new) (changed (length front) o n ∷ changes_from (suc (length front)) old new)) (front ++ n ∷ new)
        ≡ front ++ o ∷ old
    go true e ih = rw (sym (eqb-true o n e)) (on ih)
    go false e ih = ap (put_back (changes_from (suc (length front)) old new)) (set-append_seam front n new o) ∙ on ih

pub old_bytes_give_the_image : OldBytesGiveTheImage
unfolding changes
old_bytes_give_the_image image = back [] image (mended image) (sym (mended-length image))

-- ---- thirteen at most: one for each address that is one of them

abbrev many : ℕ → ℕ → ℕ
many a zero = 0
many a (suc n) = one (is_among a thirteen) + many (suc a) n

few : (a : ℕ) (old new : List ℕ) → ((k : ℕ) → k < length old → is_among (a + k) thirteen ≡ false → byte k old ≡ byte k new)
    → length (changes_from a old new) ≤ many a (length old)
few a [] new same = omega arith
few a (o ∷ old) [] same = omega arith
few a (o ∷ old) (n ∷ new) same =
    go (eqb o n) refl (is_among a thirteen) refl
    (few (suc a) old new (λ k h e. same (suc k) (omega arith) (ap (λ (i : ℕ). is_among i thirteen) (add-suc a k ∙ sym (suc-add a k)) ∙ e)))
  where
    go : (t : Bool) → eqb o n ≡ t → (u : Bool) → is_among a thirteen ≡ u → length (changes_from (suc a) old new) ≤ many (suc a) (length old)
        → length (cond t (changes_from (suc a) old new) (changed a o n ∷ changes_from (suc a) old new)) ≤ one u + many (suc a) (length old)
    go true e u f l = omega arith
    go false e true f l = omega arith
    go false e false f l = absurd (eqb-false o n e (same zero (omega arith) (ap (λ (i : ℕ). is_among i thirteen) (add-zero a) ∙ f)))

pub thirteen_at_most : ThirteenAtMost
thirteen_at_most image long =
    let n : length (take 0x89 image) ≡ 0x89 = length-take-le 0x89 image long in
    let most : length (changes_to image 0x89) ≤ many 0 (length (take 0x89 image)) =
    few 0 (take 0x89 image) (take 0x89 (mended image)) (λ k h e. at k (omega (arith, n)) (ap (λ (i : ℕ). is_among i thirteen) (sym (zero-add k)) ∙ e)) in
    rw (← front_all image long) (rw n at most)
  where
    at : (k : ℕ) → k < 0x89 → is_among k thirteen ≡ false → byte k (take 0x89 image) ≡ byte k (take 0x89 (mended image))
    at k h e =
        get_or-take 0x89 image k 0 h
        ∙ sym (get_or-take 0x89 (mended image) k 0 h ∙ mended_other image k (λ m. false≢true (sym e ∙ among_is k thirteen m)))
