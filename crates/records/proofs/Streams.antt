-- Rounds over a stream take what the whole stream takes.
use mathlib.Core.Path.{◌≡◌, refl, sym, ◌∙◌}
use mathlib.Core.Bool.{Bool, true, false, cond, true≢false}
use mathlib.Core.List.{List, [], ◌∷◌, ◌++◌, append-nil}
use mathlib.Core.Logic.{◌⊎◌, inl, inr}
use Prim.Native.Nat.{ℕ, ◌-◌, ◌≤◌}
use native.Mathlib.Nat.{add-zero}
use native.Mathlib.Omega.{arith}
use lib.ListN.{length, drop}
use borrow.Author.Tests.{le-ltb}
use Rattle.rules.specs.Held.{World}
use Rattle.records.specs.Records.{Head, Whole, Torn, Part, head_of}
use Rattle.records.specs.Lines.{line_most}
use Rattle.records.specs.Runs.{Run, before, rests, turn, run}
use Rattle.records.specs.Streams.{Round, stream, onward, rounds, Ended, whole, RoundsAreAFront, StreamsAreWhole}
use Rattle.records.proofs.Heads.{part_empty}
use Rattle.records.proofs.AsTheRules.{behind, first, next}
use Rattle.records.proofs.Running.{whole_turns}
use Rattle.records.proofs.Fronts.{Front, rests_front, more_came, front_onward, run_front}

rounds_front : (w : World) (ts : List Round) (later : List ℕ) → Ended ts later → (room : ℕ) → Front room w (stream ts) later (rounds w ts)
rounds_front w [] later ended room = rests_front room w [] later
rounds_front w (t ∷ ts) later ended room =
    let r = rounds w ts in
    let s = drop r.used (stream (t ∷ ts)) in
    front_onward room w (stream (t ∷ ts)) later r _ (more_came room w (stream ts) later t.came (rounds_front w ts (t.came ++ later) ended.1 room))
    (run_front (length s) t.last t.room (room - length r.lines) r.world s later ended.0)

pub rounds_are_a_front : RoundsAreAFront
rounds_are_a_front w ts later ended room = (rounds_front w ts later ended room).same

-- ---- the end of a stream

took_nothing : (room : ℕ) (w : World) (s : List ℕ) → line_most ≤ room → (whole room w s).torn ≡ false → (whole room w s).used ≡ 0 → s ≡ []
took_nothing room w s l f u =
    let more = whole (room - length (first w s)) (next w s) (behind s) in
    let turns : whole room w s ≡ turn (head_of true s) w s more = whole_turns room w s ∙ rw (le-ltb room line_most l) in
    go (head_of true s) more refl (rw turns at f) (rw turns at u)
  where
    go : (h : Head) (r : Run) → head_of true s ≡ h → (turn h w s r).torn ≡ false → (turn h w s r).used ≡ 0 → s ≡ []
    go Whole r e f u = let no : ⊥ = omega (arith, u) in absurd no
    go Torn r e f u = absurd (true≢false f)
    go Part r e f u = part_empty s e

-- the last of rounds, where it took nothing
module _ (w : World) (t : Round) (ts : List Round) where
  abbrev all : Run
  all = rounds w (t ∷ ts)

  abbrev was : Run
  was = rounds w ts

  abbrev left : List ℕ
  left = drop was.used (stream (t ∷ ts))

  abbrev took : Run
  took = run (length left) t.last t.room was.world left

  nothing_left : t.last ≡ true → line_most ≤ t.room → all.used ≡ was.used → all.torn ≡ false → drop all.used (stream (t ∷ ts)) ≡ []
  nothing_left last l u f = rw u (go was.torn refl u f)
    where
      go : (b : Bool) → was.torn ≡ b → (let r : Run = cond b was (before was.events was.lines was.used took) in
          r.used ≡ was.used → r.torn ≡ false → left ≡ [])
      go true e u f = absurd (true≢false (sym e ∙ f))
      go false e u f =
          let none : took.used ≡ 0 = omega (arith, u) in
          took_nothing t.room was.world left l (rw last at f) (rw last at none)

onward_none : (r : Run) → onward r (rests r.world) ≡ r
onward_none r = go r.torn refl
  where
    go : (b : Bool) → r.torn ≡ b → cond b r (before r.events r.lines r.used (rests r.world)) ≡ r
    go true e = refl
    go false e = rw (append-nil r.events, append-nil r.lines, add-zero r.used, ← e)

pub streams_are_whole : StreamsAreWhole
streams_are_whole w t ts ended room done l =
    rw (append-nil s, append-nil (drop r.used s)) at (rounds_are_a_front w (t ∷ ts) [] ended room l) ∙ go r.torn refl done
  where
    r : Run
    r = all w t ts

    s : List ℕ
    s = stream (t ∷ ts)

    go : (b : Bool) → r.torn ≡ b → (r.torn ≡ true) ⊎ ((t.last ≡ true) × (line_most ≤ t.room) × (r.used ≡ (was w t ts).used))
        → onward r (whole (room - length r.lines) r.world (drop r.used s)) ≡ r
    go true e done = rw e
    go false e (inl f) = absurd (true≢false (sym f ∙ e))
    go false e (inr (last, m, u)) = rw (nothing_left w t ts last m u e) (onward_none r)
