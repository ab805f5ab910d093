-- Runs are the rules' own, and leave no whole record behind.
use mathlib.Core.Path.{◌≡◌, refl, sym, ap, ◌∙◌}
use mathlib.Core.Bool.{Bool, true, false, cond, true≢false}
use mathlib.Core.List.{List, [], ◌++◌, append_assoc}
use Prim.Native.Nat.{ℕ, zero, suc, ◌+◌, ◌-◌, ◌≤◌}
use native.Mathlib.Omega.{arith}
use lib.Dec.{ltb}
use lib.ListN.{length, drop, length-drop, length-append}
use lib.Seq.{drop-drop}
use borrow.Author.Tests.{ltb-true}
use Rattle.rules.specs.Held.{World}
use Rattle.rules.specs.Step.{step, rules, after}
use Rattle.records.specs.Records.{Head, Whole, Torn, Part, length_of, head_of}
use Rattle.records.specs.Lines.{line, torn_line, line_most}
use Rattle.records.specs.Runs.{Run, event_in, rests, turn, run, printed, RunsAreTheRules, NothingIsLeft}
use Rattle.records.proofs.Heads.{empty_part}

-- the stream behind its first record
abbrev pub behind : List ℕ → List ℕ
behind s = drop (4 + length_of s) s

pub behind_shorter : (s : List ℕ) {n : ℕ} → length s ≤ suc n → length (behind s) ≤ n
behind_shorter s h = rw length-drop (omega arith)

module _ (w : World) (s : List ℕ) where
  abbrev pub first : List ℕ
  first = line (event_in s) (step w (event_in s))

  abbrev pub next : World
  next = (step w (event_in s)).next

  -- the run that is left after the first record
  abbrev pub rest : ℕ → Bool → ℕ → Run
  rest n last room = run n last (room - length first) next (behind s)

-- the run is the rules' own
abbrev Own : World → Run → Type 0
Own w r = (r.world ≡ after rules w r.events) × (r.lines ≡ printed w r.events ++ cond r.torn torn_line [])

pub runs_are_the_rules : RunsAreTheRules
runs_are_the_rules zero last room w s = (refl, refl)
runs_are_the_rules (suc n) last room w s =
    go (ltb room line_most) (head_of last s) (runs_are_the_rules n last (room - length (first w s)) (next w s) (behind s))
  where
    go : (full : Bool) (h : Head) → Own (next w s) (rest w s n last room) → Own w (cond full (rests w) (turn h w s (rest w s n last room)))
    go true h ih = (refl, refl)
    go false Whole ih = (ih.0, ap (λ (l : List ℕ). first w s ++ l) ih.1 ∙ sym (append_assoc (first w s) _ _))
    go false Torn ih = (refl, refl)
    go false Part ih = (refl, refl)

-- what is left begins with a part
abbrev Left : Bool → ℕ → List ℕ → Run → Type 0
Left last room s r = r.torn ≡ false → line_most ≤ room - length r.lines → head_of last (drop r.used s) ≡ Part

nothing_left : (n : ℕ) (last : Bool) (room : ℕ) (w : World) (s : List ℕ) → length s ≤ n → Left last room s (run n last room w s)
nothing_left zero last room w s h = λ t l. empty_part last s h
nothing_left (suc n) last room w s h =
    go (ltb room line_most) (head_of last s) refl refl (nothing_left n last (room - length (first w s)) (next w s) (behind s) (behind_shorter s h))
  where
    go : (full : Bool) (head : Head) → ltb room line_most ≡ full → head_of last s ≡ head
        → Left last (room - length (first w s)) (behind s) (rest w s n last room)
        → Left last room s (cond full (rests w) (turn head w s (rest w s n last room)))
    go true head f k ih = λ t l. let no : ⊥ = omega (arith, ltb-true room line_most f, l) in absurd no
    go false Whole f k ih = λ t l.
        let r = rest w s n last room in
        rw (← drop-drop r.used (4 + length_of s) s) (ih t (omega (arith, l, length-append (first w s) r.lines)))
    go false Torn f k ih = λ t l. absurd (true≢false t)
    go false Part f k ih = λ t l. k

pub nothing_is_left : NothingIsLeft
nothing_is_left last room w s = nothing_left (length s) last room w s (omega arith)
