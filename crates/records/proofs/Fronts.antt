-- What was taken of the front of a stream, and the whole stream, which goes on behind it.
use mathlib.Core.Path.{◌≡◌, refl, sym, ap, ◌∙◌}
use mathlib.Core.Bool.{Bool, true, false, cond}
use mathlib.Core.List.{List, [], ◌∷◌, ◌++◌, append_assoc}
use Prim.Native.Nat.{ℕ, zero, suc, ◌+◌, ◌-◌, ◌≤◌}
use native.Mathlib.Omega.{arith}
use lib.Dec.{ltb}
use lib.ListN.{length, drop, length-append, length-drop}
use lib.Seq.{drop-append-le, drop-drop}
use borrow.Author.Tests.{le-ltb}
use Rattle.rules.specs.Held.{World}
use Rattle.rules.specs.Step.{Event}
use Rattle.records.specs.Records.{Head, Whole, Torn, Part, length_of, head_of}
use Rattle.records.specs.Lines.{line_most}
use Rattle.records.specs.Runs.{Run, before, event_in, rests, turn, run}
use Rattle.records.specs.Streams.{onward, whole}
use Rattle.records.proofs.Heads.{whole_facts, length_stays, event_stays, Stays, head_stays}
use Rattle.records.proofs.Running.{whole_turns, before-before, before_none}
use Rattle.records.proofs.AsTheRules.{behind, first, next, rest}

-- ---- fronts

before-onward : (es : List Event) (l : List ℕ) (u : ℕ) (r q : Run) → before es l u (onward r q) ≡ onward (before es l u r) q
before-onward es l u r q = go r.torn
  where
    go : (b : Bool) → before es l u (cond b r (before r.events r.lines r.used q))
        ≡ cond b (before es l u r) (before (es ++ r.events) (l ++ r.lines) (u + r.used) q)
    go true = refl
    go false = before-before es r.events l r.lines u r.used q

-- r is what was taken of s, and the whole goes on behind it: with room for the longest line beyond the lines of r, whatever comes later
pub record Front (room : ℕ) (w : World) (s later : List ℕ) (r : Run) : Type 0 where
  pub inside : r.used ≤ length s
  pub same : line_most + length r.lines ≤ room
      → whole room w (s ++ later) ≡ onward r (whole (room - length r.lines) r.world (drop r.used s ++ later))

module _ (room : ℕ) (w : World) (s later : List ℕ) where
  pub rests_front : Front room w s later (rests w)
  rests_front = record {
    inside = omega arith;
    same = λ l. let none : room - 0 ≡ room = omega arith in rw none (before_none _);
  }

  -- where more has come it is a front still
  pub more_came : (came : List ℕ) {r : Run} → Front room w s (came ++ later) r → Front room w (s ++ came) later r
  more_came came {r} front = record {
    inside = rw length-append (omega (arith, front.inside));
    same = rw (drop-append-le r.used s came front.inside, append_assoc s came later, append_assoc (drop r.used s) came later) front.same;
  }

  -- and a front of what it left goes on behind it
  pub front_onward : (r q : Run) → Front room w s later r → Front (room - length r.lines) r.world (drop r.used s) later q → Front room w s later (onward r q)
  front_onward r q front onto = go r.torn refl
    where
      go : (b : Bool) → r.torn ≡ b → Front room w s later (cond b r (before r.events r.lines r.used q))
      go true e = front
      go false e = record {
        inside = omega (arith, front.inside, onto.inside, length-drop r.used s);
        same = λ l.
            let both = length-append r.lines q.lines in
            let left : room - length r.lines - length q.lines ≡ room - length (r.lines ++ q.lines) = omega (arith, both) in
            rw e at (front.same (omega (arith, l, both)))
            ∙ ap (before r.events r.lines r.used) (onto.same (omega (arith, l, both)))
            ∙ before-onward r.events r.lines r.used q _
            ∙ rw (left, drop-drop q.used r.used s);
      }

-- the first record
abbrev one : World → List ℕ → Run
one w s = record { events = event_in s ∷ []; lines = first w s; used = 4 + length_of s; torn = false; world = next w s }

one_front : (room : ℕ) (w : World) (s later : List ℕ) → 4 + length_of s ≤ length s → head_of true (s ++ later) ≡ Whole → Front room w s later (one w s)
one_front room w s later there h = record {
  inside = there;
  same = λ l.
      let event = event_stays s later there in
      let size = length_stays s later (omega (arith, there)) in
      whole_turns room w (s ++ later)
      ∙ rw (le-ltb room line_most (omega (arith, l)), h, next, event, size, drop-append-le (4 + length_of s) s later there);
}

-- a run, of however many records and with however little room
pub run_front : (n : ℕ) (last : Bool) (few room : ℕ) (w : World) (s later : List ℕ) → (last ≡ true → later ≡ []) → Front room w s later (run n last few w s)
run_front zero last few room w s later none = rests_front room w s later
run_front (suc n) last few room w s later none =
    go (ltb few line_most) (head_of last s) refl (head_stays last s later none)
    (run_front n last (few - length (first w s)) (room - length (first w s)) (next w s) (behind s) later none)
  where
    go : (full : Bool) (h : Head) → head_of last s ≡ h → Stays h (head_of true (s ++ later))
        → Front (room - length (first w s)) (next w s) (behind s) later (rest w s n last few)
        → Front room w s later (cond full (rests w) (turn h w s (rest w s n last few)))
    go true h e k onto = rests_front room w s later
    go false Whole e k onto =
        front_onward room w s later (one w s) (rest w s n last few) (one_front room w s later (whole_facts last s (sym e)).0 k) onto
    go false Torn e k onto = record {
      inside = omega arith;
      same = λ l. whole_turns room w (s ++ later) ∙ rw (le-ltb room line_most (omega (arith, l)), k);
    }
    go false Part e k onto = rests_front room w s later
