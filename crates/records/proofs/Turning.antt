-- The first record of a block, by what the code finds of it.
use mathlib.Core.Path.{◌≡◌, refl, ap, ◌∙◌}
use mathlib.Core.Bool.{Bool}
use mathlib.Core.List.{List, [], ◌∷◌}
use Prim.Native.Nat.{ℕ, ◌+◌, ◌-◌, ◌≤◌, ◌<◌}
use native.Mathlib.Omega.{arith}
use lib.ListN.{length, drop, length-drop}
use lib.Seq.{length-take-le}
use borrow.Author.Tests.{lt-ltb, le-ltb}
use Rattle.lent.proofs.Rows.{put_none}
use Rattle.records.specs.declared.lines.Printer.{Printer}
use Rattle.records.specs.declared.events.Bench.{Bench}
use Rattle.records.specs.declared.events.Answered.{Answered}
use Rattle.records.specs.declared.events.Turned.TheVariants.{Taken, Torn, Rests}
use Rattle.records.specs.Records as R
use Rattle.records.specs.Records.{length_of, kind_of, payload_of, event_of, head_of}
use Rattle.records.specs.Lines.{torn_line, line_most}
use Rattle.records.specs.Runs.{Run, rests, event_in, turn_in}
use Rattle.records.specs.Puts.{Puts}
use Rattle.records.specs.Printed.{world_of, Does, line_in, Turns}
use Rattle.records.proofs.Heads.{whole_facts}

module _ (last : Bool) (old : Bench) (p : Printer) (s : List ℕ) where
  abbrev room : ℕ
  room = length p.output.now - p.at

  nothing_taken : ((r : Run) → turn_in room last (world_of old) s r ≡ rests (world_of old)) → Turns last old p s Rests old p
  nothing_taken none = record {
    events = [];
    printed = [];
    puts = record { same = refl; put = put_none p.output.now p.at };
    inside = omega arith;
    same = none;
    onward = λ e. cc;
    lent = record { bytes = refl; memory = refl };
  }

  pub no_room : room < line_most → Turns last old p s Rests old p
  no_room l = nothing_taken (λ r. rw (lt-ltb room line_most l))

  module _ (l : line_most ≤ room) where
    pub part_taken : R.Part ≡ head_of last s → Turns last old p s Rests old p
    part_taken is = nothing_taken (λ r. rw (le-ltb room line_most l, ← is))

    pub torn_taken : R.Torn ≡ head_of last s → {q : Printer} → Puts p torn_line q → Turns last old p s Torn old q
    torn_taken is puts = record {
      events = [];
      printed = torn_line;
      puts = puts;
      inside = omega arith;
      same = λ r. rw (le-ltb room line_most l, ← is);
      onward = λ e. cc;
      lent = record { bytes = refl; memory = refl };
    }

    pub whole_taken : R.Whole ≡ head_of last s → {kind : ℕ} {payload : List ℕ} → kind ≡ kind_of s → payload ≡ payload_of s
        → {a : Answered} {new : Bench} {q : Printer} → Does old (event_of kind payload) a new → Puts p (line_in new a) q
        → Turns last old p s (Taken (4 + length payload)) new q
    whole_taken is {kind} {payload} hk hp {a} {new} {q} said puts =
        let does : Does old (event_in s) a new = rw (hk, hp) at said in
        let there = (whole_facts last s is).0 in
        let long : length payload ≡ length_of s = ap length hp ∙ length-take-le (length_of s) (drop 4 s) (rw length-drop (omega (arith, there))) in
        let size : 4 + length payload ≡ 4 + length_of s = omega arith in
        record {
          events = event_in s ∷ [];
          printed = _;
          puts = rw does.line at puts;
          inside = omega (arith, there);
          same = λ r. rw (le-ltb room line_most l, ← is, size);
          onward = λ e. (refl, size, does.next);
          lent = does.lent;
        }
