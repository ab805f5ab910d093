-- The loop of `run`: what was taken so far, and the run that is left.
use mathlib.Core.Path.{◌≡◌, refl, sym, ap, ◌∙◌}
use mathlib.Core.Bool.{Bool, true, false, cond}
use mathlib.Core.List.{List, [], ◌++◌, append_assoc, append-nil}
use Prim.Native.Nat.{ℕ, zero, suc, ◌+◌, ◌-◌, ◌≤◌}
use native.Mathlib.Nat.{zero-add, add-zero, add_assoc}
use native.Mathlib.Omega.{arith}
use lib.Dec.{ltb}
use lib.ListN.{length, take, drop, length-drop}
use lib.Seq.{drop-drop}
use Rattle.std.proofs.lemmas.List.{take_rest}
use Rattle.rules.specs.Words.{laid}
use Rattle.rules.specs.declared.Bridge.{Bridge}
use Rattle.rules.specs.Held.{World, world}
use Rattle.rules.specs.Step.{Event}
use Rattle.lent.proofs.Rows.{put_none, put_length, put_laid}
use Rattle.records.specs.declared.lines.Printer.{Printer}
use Rattle.records.specs.declared.events.Bench.{Bench}
use Rattle.records.specs.declared.events.Turned.{Turned}
use Rattle.records.specs.declared.events.Turned.TheVariants.{Taken}
use Rattle.records.specs.Lines.{line_most}
use Rattle.records.specs.Runs.{Run, before, rests, turn_in, run, run_left, left_by_run}
use Rattle.records.specs.Streams.{whole}
use Rattle.records.specs.Puts.{Puts}
use Rattle.records.specs.Printed.{world_of, Lent, taken, ended, remains, Turns}
use Rattle.records.proofs.Heads.{empty_part}
use Rattle.records.proofs.AsTheRules.{behind, behind_shorter, first, next}
use Rattle.records.proofs.Putting.{puts_puts}

-- ---- as many records as a stream has bytes are enough

none_enough : (last : Bool) (room : ℕ) (w : World) (s : List ℕ) (r : Run) → length s ≤ 0 → rests w ≡ turn_in room last w s r
none_enough last room w s r h = rw (empty_part last s h) (go (ltb room line_most))
  where
    go : (full : Bool) → rests w ≡ cond full (rests w) (rests w)
    go true = refl
    go false = refl

enough : (n m : ℕ) (last : Bool) (room : ℕ) (w : World) (s : List ℕ) → length s ≤ n → length s ≤ m → run n last room w s ≡ run m last room w s
enough zero zero last room w s h k = refl
enough zero (suc m) last room w s h k = none_enough last room w s _ h
enough (suc n) zero last room w s h k = sym (none_enough last room w s _ k)
enough (suc n) (suc m) last room w s h k =
    ap (turn_in room last w s) (enough n m last (room - length (first w s)) (next w s) (behind s) (behind_shorter s h) (behind_shorter s k))

pub turns : (last : Bool) (room : ℕ) (w : World) (s : List ℕ)
    → run (length s) last room w s ≡ turn_in room last w s (run (length (behind s)) last (room - length (first w s)) (next w s) (behind s))
turns last room w s =
    enough (length s) (suc (length s)) last room w s (omega arith) (omega arith)
    ∙ ap (turn_in room last w s) (enough (length s) (length (behind s)) last _ _ (behind s) (behind_shorter s (omega arith)) (omega arith))

pub whole_turns : (room : ℕ) (w : World) (s : List ℕ) → whole room w s ≡ turn_in room true w s (whole (room - length (first w s)) (next w s) (behind s))
whole_turns room w s = turns true room w s

-- ---- a run, and what comes before it

pub before-before : (es es' : List Event) (l l' : List ℕ) (u u' : ℕ) (r : Run)
    → before es l u (before es' l' u' r) ≡ before (es ++ es') (l ++ l') (u + u') r
before-before es es' l l' u u' r = rw (append_assoc es es' r.events, append_assoc l l' r.lines, add_assoc u u' r.used)

pub before_none : (r : Run) → r ≡ before [] [] 0 r
before_none r = rw (zero-add r.used)

-- ---- the loop

abbrev pub room_in : Printer → ℕ
room_in p = length p.output.now - p.at

-- what was put from the front on is laid there
from_the_front : {p q : Printer} {xs : List ℕ} → p.at ≡ 0 → Puts p xs q → (q.output.now ≡ laid xs p.output.now) × (q.at ≡ length xs)
from_the_front {q = q} blank puts =
    let put = rw blank at puts.put in
    (put_laid put (omega (arith, q.inside, put.moved, put_length put)), omega (arith, put.moved))

-- what a call leaves of a run that has ended
left_is : (b : Bridge) {bytes memory : List ℕ} {all : Run} {v : World} (events : List Event) {lines room output : List ℕ} {used written : ℕ} {torn : Bool} {page p : Printer}
    → all ≡ before events lines used (ended torn v) → v ≡ world b bytes memory → Puts page lines p → page.at ≡ 0 → page.output.now ≡ room → written ≡ p.at → p.output.now ≡ output
    → run_left (record { bridge = b; used = used; written = written; torn = torn }) bytes memory output ≡ left_by_run all room
left_is b events {lines = lines} {used = used} all world puts blank first at last =
    let front = from_the_front blank puts in
    rw (all, world, append-nil lines, add-zero used, ← first, ← last, at, front.0, front.1)

module _ (last : Bool) (s : List ℕ) (start : Bench) (page : Printer) where
  abbrev pub all : Run
  all = run (length s) last (room_in page) (world_of start) s

  pub record So (b : Bench) (p : Printer) (used : ℕ) : Type 0 where
    pub events : List Event
    pub lines : List ℕ
    pub puts : Puts page lines p
    pub inside : used ≤ length s
    pub same : all ≡ before events lines used (run (length (drop used s)) last (room_in p) (world_of b) (drop used s))
    pub lent : Lent start b

  pub starts : So start page 0
  starts = record {
    events = [];
    lines = [];
    puts = record { same = refl; put = put_none page.output.now page.at };
    inside = omega arith;
    same = before_none _;
    lent = record { bytes = refl; memory = refl };
  }

  module _ {b : Bench} {p : Printer} {used : ℕ} (so : So b p used) {t : Turned} {b' : Bench} {p' : Printer} (turn : Turns last b p (take (length s - used) (drop used s)) t b' p') where
    abbrev rest : List ℕ
    rest = drop used s

    of_rest : Turns last b p rest t b' p'
    of_rest = rw (take_rest s used) at turn

    -- the run that is left behind its first record, as the rules count it
    abbrev behind_first : Run
    behind_first = run (length (behind rest)) last (room_in p - length (first (world_of b) rest)) (next (world_of b) rest) (behind rest)

    all_is : all ≡ before (so.events ++ of_rest.events) (so.lines ++ of_rest.printed) (used + taken t) (remains t (world_of b') behind_first)
    all_is =
        so.same
        ∙ ap (before so.events so.lines used) (turns last (room_in p) (world_of b) rest ∙ of_rest.same behind_first)
        ∙ before-before so.events of_rest.events so.lines of_rest.printed used (taken t) _

    put : Puts page (so.lines ++ of_rest.printed) p'
    put = puts_puts _ _ so.puts of_rest.puts

    pub used_inside : used + taken t ≤ length s
    used_inside = omega (arith, so.inside, of_rest.inside, length-drop used s)

    -- it goes on behind what was taken
    pub goes : {n : ℕ} → t ≡ Taken n → So b' p' (used + n)
    goes {n} e =
        let this : t ≡ Taken (taken t) = rw e in
        let size : taken t ≡ n = rw e in
        let facts = of_rest.onward this in
        let left : room_in p - length of_rest.printed ≡ room_in p' = omega (arith, put_length of_rest.puts.put, of_rest.puts.put.moved) in
        let rest_same : remains t (world_of b') behind_first ≡ run (length (drop (used + n) s)) last (room_in p') (world_of b') (drop (used + n) s) =
        rw (e, sym facts.0, sym facts.1, sym facts.2, left, size, drop-drop n used s) in
        record {
          events = so.events ++ of_rest.events;
          lines = so.lines ++ of_rest.printed;
          puts = put;
          inside = omega (arith, used_inside, size);
          same = rw (rest_same, size) at all_is;
          lent = record { bytes = of_rest.lent.bytes ∙ so.lent.bytes; memory = of_rest.lent.memory ∙ so.lent.memory };
        }

    -- and where nothing was taken it has ended
    pub ends : {torn : Bool} {w : World} {room bytes memory output : List ℕ} {written : ℕ} → taken t ≡ 0 → ((r : Run) → remains t (world_of b') r ≡ ended torn (world_of b'))
        → world_of start ≡ w → page.at ≡ 0 → page.output.now ≡ room → written ≡ p'.at → b'.bytes.now ≡ bytes → b'.memory.now ≡ memory → p'.output.now ≡ output
        → run_left (record { bridge = b'.bridge; used = used; written = written; torn = torn }) bytes memory output ≡ left_by_run (run (length s) last (length room) w s) room
    ends {w = w} {room} {bytes} {memory} none over lent blank empty at bytes-are memory-is output-is =
        let full : room_in page ≡ length room = omega (arith, blank, ap length empty) in
        let as-lent : all ≡ run (length s) last (length room) w s = rw (full, lent) refl in
        let now : world_of b' ≡ world b'.bridge bytes memory = rw (bytes-are, memory-is) refl in
        left_is b'.bridge _ (sym as-lent ∙ rw (none, add-zero used, over behind_first) at all_is) now put blank empty at output-is
