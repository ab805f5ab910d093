-- What is held in an image: how a burst is added, that the image stays in step with the rules, and that nothing behind the count shows.
use mathlib.Core.Path.{◌≡◌, refl, sym, ap, subst, ◌∙◌}
use mathlib.Core.Bool.{Bool, true, false, cond}
use mathlib.Core.List.{List, [], ◌∷◌, ◌++◌, append_assoc}
use Prim.Native.Nat.{ℕ, ◌+◌, ◌<◌, ◌≤◌}
use native.Mathlib.Omega.{arith}
use lib.Dec.{leb, ltb}
use lib.ListN.{length, set, take, drop, length-set, length-take, length-append, length-drop, take-append-drop}
use lib.Seq.{take_all, take-length, take-append-le, take-append_seam, get_or-append_seam, get_or-set_same, take-set-le, take_at, take-paste}
use borrow.Author.Tests.{leb-true, leb-false, ltb-true, ltb-false, lt-ltb, le-ltb}
use Rattle.rules.specs.Words.{byte, over}
use Rattle.rules.specs.Held.{holding}
use Rattle.rules.specs.Bursts.{kept}
use Rattle.rules.proofs.Bursts.{held_whole, held_too_long, held_behind}
use Rattle.rules.proofs.Rows.{over-length, over_all, over_pastes}
use Rattle.image.proofs.Rows.{by_bytes, copied_back}
use Rattle.image.specs.Image.{world_of, held_of, added, BurstInStep, BehindTheCount}

-- ---- how a burst is added

module _ (burst image : List ℕ) {came : List ℕ} (cut : came ≡ take 32 burst) where
  abbrev n : ℕ
  n = byte 61 image

  pub too_much : 31 < n + length came → set image 61 32 ≡ added burst image
  too_much h = rw (lt-ltb 31 (n + length burst) (omega (arith, ap length cut, length-take 32 burst)))

  pub fits : n + length came ≤ 31 → length image ≡ 62 → over (set image 61 (n + length came)) 30 (take 31 (over (drop 30 image) n came)) ≡ added burst image
  fits h long =
      let whole : came ≡ burst = cut ∙ take_all 32 burst (omega (arith, ap length cut, length-take 32 burst)) in
      rw (← whole, le-ltb 31 (n + length came) h)
      (copied_back image (over (drop 30 image) n came) (n + length came) long (omega (arith, over-length (drop 30 image) n came, length-drop 30 image)))

pub added-length : (burst image : List ℕ) → length (added burst image) ≡ length image
added-length burst image = go (ltb 31 (byte 61 image + length burst))
  where
    tail : List ℕ
    tail = over (drop 30 image) (byte 61 image) burst

    go : (t : Bool) → length (cond t (set image 61 32) (set (over image 30 tail) 61 (byte 61 image + length burst))) ≡ length image
    go true = length-set image 61 32
    go false = length-set (over image 30 tail) 61 _ ∙ over-length image 30 tail

-- ---- the last 32 bytes: what is held, by its count

abbrev held_from : List ℕ → List ℕ
held_from t = kept (take (byte 31 t) t)

-- no more than 32 bytes are as long as what is held of them
pub held_counted : (s : List ℕ) → length s ≤ 32 → length (kept s) ≡ length s
held_counted s h = go (leb (length s) 31) refl
  where
    go : (b : Bool) → leb (length s) 31 ≡ b → length (kept s) ≡ length s
    go true e = ap length (held_whole s (leb-true (length s) 31 e))
    go false e =
        let more = leb-false (length s) 31 e in
        ap length (held_too_long s (omega arith)) ∙ omega arith

-- as many bytes are counted as there are in what is held
pub counted_of_image : (image : List ℕ) → length image ≡ 62 → length (take (byte 61 image) (drop 30 image)) ≡ length (kept (take (byte 61 image) (drop 30 image)))
counted_of_image image h =
    sym (held_counted (take (byte 61 image) (drop 30 image)) (omega (arith, length-take (byte 61 image) (drop 30 image), length-drop 30 image)))

take_again : (n : ℕ) (s : List ℕ) → take (length (take n s)) s ≡ take n s
take_again n s = ap (take (length (take n s))) (sym (take-append-drop n s)) ∙ take-append_seam (take n s) (drop n s)

-- what is held, by value, is so held
pub held_by_value : (image : List ℕ) → length (drop 30 image) ≡ 32 → held_of image ≡ kept (take (length (held_of image)) (drop 30 image))
held_by_value image h =
    let n : ℕ = byte 61 image in
    let s : List ℕ = take n (drop 30 image) in
    ap kept (sym (take_again n (drop 30 image)))
    ∙ ap (λ (k : ℕ). kept (take k (drop 30 image))) (sym (held_counted s (omega (arith, length-take n (drop 30 image)))))

module _ (t burst : List ℕ) (long : length t ≡ 32) where
  tail_too_much : 31 < byte 31 t + length burst → held_from (set t 31 32) ≡ kept (held_from t ++ burst)
  tail_too_much h =
      let counted : byte 31 (set t 31 32) ≡ 32 = get_or-set_same t 31 32 0 (omega arith) in
      held_too_long (take (byte 31 (set t 31 32)) (set t 31 32)) (omega (arith, length-take (byte 31 (set t 31 32)) (set t 31 32), length-set t 31 32))
      ∙ sym (held_too_long (take (byte 31 t) t ++ burst) (omega (arith, length-append (take (byte 31 t) t) burst, length-take (byte 31 t) t)))
      ∙ sym (held_behind (take (byte 31 t) t) burst)

  tail_fits : byte 31 t + length burst ≤ 31
      → held_from (set (over t 0 (over t (byte 31 t) burst)) 31 (byte 31 t + length burst)) ≡ kept (held_from t ++ burst)
  tail_fits h =
      let k : ℕ = byte 31 t + length burst in
      let now : List ℕ = over t (byte 31 t) burst in
      let counted : byte 31 (set now 31 k) ≡ k = get_or-set_same now 31 k 0 (omega (arith, over-length t (byte 31 t) burst)) in
      rw (over_all t now (over-length t (byte 31 t) burst), counted, take-set-le k now 31 k h, over_pastes t (byte 31 t) burst (length burst) (omega arith), take-paste t (byte 31 t) burst (length burst) (omega arith) (omega arith), take-length burst)
      (sym (held_behind (take (byte 31 t) t) burst))

-- ---- an image with another tail stands for the same, but for what is held

module _ (image : List ℕ) (h : length image ≡ 62) where
  held_apart : (t memory : List ℕ) → world_of (take 30 image ++ t) memory ≡ holding (held_from t) (world_of image memory)
  held_apart t memory = by_bytes 62 image h (λ i. world_of (take 30 i ++ t) memory ≡ holding (held_from t) (world_of i memory)) refl

  own_tail : (memory : List ℕ) → (world_of image memory).held ≡ held_from (drop 30 image)
  own_tail memory = by_bytes 62 image h (λ i. (world_of i memory).held ≡ held_from (drop 30 i)) refl

  tail_length : length (drop 30 image) ≡ 32
  tail_length = omega (arith, length-drop 30 image)

  pub count_in_tail : byte 61 image ≡ byte 31 (drop 30 image)
  count_in_tail = by_bytes 62 image h (λ i. byte 61 i ≡ byte 31 (drop 30 i)) refl

  set_in_tail : (v : ℕ) → set image 61 v ≡ take 30 image ++ set (drop 30 image) 31 v
  set_in_tail v = by_bytes 62 image h (λ i. set i 61 v ≡ take 30 i ++ set (drop 30 i) 31 v) refl

  laid_in_tail : (t : List ℕ) (v : ℕ) → set (over image 30 t) 61 v ≡ take 30 image ++ set (over (drop 30 image) 0 t) 31 v
  unfolding over
  laid_in_tail t v = by_bytes 62 image h (λ i. set (over i 30 t) 61 v ≡ take 30 i ++ set (over (drop 30 i) 0 t) 31 v) refl

pub burst_in_step : BurstInStep
burst_in_step burst image memory h = go (ltb 31 (n + length burst)) refl
  where
    t : List ℕ
    t = drop 30 image

    n : ℕ
    n = byte 61 image

    stands : (now now' : List ℕ) → now ≡ take 30 image ++ now' → held_from now' ≡ kept (held_from t ++ burst)
        → world_of now memory ≡ holding (kept ((world_of image memory).held ++ burst)) (world_of image memory)
    stands now now' i e =
        ap (λ (i : List ℕ). world_of i memory) i
        ∙ held_apart image h now' memory
        ∙ ap (λ (held : List ℕ). holding held (world_of image memory))
        (e ∙ ap (λ (held : List ℕ). kept (held ++ burst)) (sym (own_tail image h memory)))

    go : (b : Bool) → ltb 31 (n + length burst) ≡ b
        → world_of (cond b (set image 61 32) (set (over image 30 (over t n burst)) 61 (n + length burst))) memory
        ≡ holding (kept ((world_of image memory).held ++ burst)) (world_of image memory)
    go true e =
        stands (set image 61 32) (set t 31 32) (set_in_tail image h 32)
        (tail_too_much t burst (tail_length image h) (rw (count_in_tail image h) at (ltb-true 31 (n + length burst) e)))
    go false e =
        stands (set (over image 30 (over t n burst)) 61 (n + length burst)) (set (over t 0 (over t n burst)) 31 (n + length burst))
        (laid_in_tail image h (over t n burst) (n + length burst))
        (subst (λ (k : ℕ). held_from (set (over t 0 (over t k burst)) 31 (k + length burst)) ≡ kept (held_from t ++ burst)) (sym (count_in_tail image h))
        (tail_fits t burst (tail_length image h) (rw (count_in_tail image h) at (ltb-false 31 (n + length burst) e))))

-- ---- behind the count

module _ (held held' : List ℕ) (count : ℕ) (long : length held ≡ 31) (long' : length held' ≡ 31) where
  last_is : (s : List ℕ) → length s ≡ 31 → byte 31 (s ++ count ∷ []) ≡ count
  last_is s e = ap (λ (k : ℕ). byte k (s ++ count ∷ [])) (sym e) ∙ get_or-append_seam s count [] 0

  tails_agree : (count ≤ 31 → take count held ≡ take count held') → held_from (held ++ count ∷ []) ≡ held_from (held' ++ count ∷ [])
  tails_agree same = go (leb count 31) refl
    where
      go : (b : Bool) → leb count 31 ≡ b → held_from (held ++ count ∷ []) ≡ held_from (held' ++ count ∷ [])
      go true e =
          let most = leb-true count 31 e in
          rw (last_is held long, last_is held' long', take-append-le count held (count ∷ []) (omega arith), take-append-le count held' (count ∷ []) (omega arith))
          (ap kept (same most))
      go false e =
          let most = leb-false count 31 e in
          rw (last_is held long, last_is held' long')
          (held_too_long (take count (held ++ count ∷ [])) (omega (arith, length-take count (held ++ count ∷ []), length-append held (count ∷ [])))
          ∙ sym (held_too_long (take count (held' ++ count ∷ [])) (omega (arith, length-take count (held' ++ count ∷ []), length-append held' (count ∷ [])))))

pub behind_the_count : BehindTheCount
behind_the_count front held held' memory count f long long' same =
    let image : List ℕ = front ++ (held ++ count ∷ []) in
    let whole : length image ≡ 62 = omega (arith, length-append front (held ++ count ∷ []), length-append held (count ∷ [])) in
    let own : take 30 image ≡ front = take_at front (held ++ count ∷ []) 30 f in
    let stands : (now : List ℕ) → world_of (front ++ now) memory ≡ holding (held_from now) (world_of image memory) = λ now. rw own at (held_apart image whole now memory) in
    ap (λ (i : List ℕ). world_of i memory) (append_assoc front held (count ∷ []))
    ∙ stands (held ++ count ∷ [])
    ∙ ap (λ (h : List ℕ). holding h (world_of image memory)) (tails_agree held held' count long long' same)
    ∙ sym (stands (held' ++ count ∷ []))
    ∙ ap (λ (i : List ℕ). world_of i memory) (sym (append_assoc front held' (count ∷ [])))
