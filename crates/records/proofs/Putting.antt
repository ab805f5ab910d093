-- Laws of what is put behind what is put.
use mathlib.Core.Path.{◌≡◌, refl, sym, ap, ◌∙◌}
use mathlib.Core.Bool.{Bool, true, false, cond}
use mathlib.Core.List.{List, [], ◌∷◌, ◌++◌, append-nil}
use Prim.Native.Nat.{ℕ, ◌+◌, ◌-◌, ◌*◌, ◌/◌, ◌%◌, ◌≤◌, ◌<◌}
use native.Mathlib.Nat.{zero-mul, suc-mul}
use native.Mathlib.Numerals.{add-one}
use native.Mathlib.Omega.{arith}
use lib.ListN.{length, take, drop, get_or, length-append}
use lib.Seq.{sets, sets-eq, take-suc, drop-cons, take_all, length-take-le}
use lib.Dec.{ltb}
use borrow.Rule.Slice.PartMut.{put_mid}
use Rattle.std.specs.Prelude.{Result, Ok, Err}
use Rattle.std.specs.Result.{result_unwrap_or}
use Rattle.std.proofs.lemmas.Grind.{flat_map-append}
use Rattle.std.proofs.lemmas.Slice.{put_mid-paste}
use Rattle.rules.specs.declared.refusals.Refusal.{Refusal}
use Rattle.rules.specs.Numbered.{answer_of, count_of}
use Rattle.lent.specs.Rows.{Put}
use Rattle.lent.proofs.Rows.{put_put, fits_next}
use Rattle.records.specs.declared.lines.Printer.{Printer}
use Rattle.records.specs.Puts.{Puts, Room, HasRoom, line_of}
use Rattle.records.specs.Lines.{digit, number, hex_byte, hex_word, each}

-- a text, copied into its place
pub put_text : (row : List ℕ) (at : ℕ) (xs ys : List ℕ) → at + length xs ≤ length row → ys ≡ xs → put_mid at (at + length xs - at) row ys ≡ sets row at xs
put_text row at xs ys h e =
    put_mid-paste at (at + length xs - at) row ys xs (length xs) e (omega arith) refl
    ∙ rw (take_all (length xs) xs (omega arith)) (sym (sets-eq xs row at h))

pub puts_puts : {a b c : Printer} (xs ys : List ℕ) → Puts a xs b → Puts b ys c → Puts a (xs ++ ys) c
puts_puts xs ys p q = record { same = q.same ∙ p.same; put = put_put xs ys p.put q.put }

-- one element more
module _ {A : Type 0} (f : A → List ℕ) (xs : List A) (i : ℕ) (x : A) (l : i < length xs) (is : x ≡ get_or xs i x) where
  pub each_more : each f (take (i + 1) xs) ≡ each f (take i xs) ++ f x
  each_more = rw (add-one, take-suc xs i x l, flat_map-append f (take i xs) (get_or xs i x ∷ []), ← is, append-nil) refl

  pub each_left : each f (drop i xs) ≡ f x ++ each f (drop (i + 1) xs)
  each_left = rw (add-one, drop-cons xs i x l, ← is) refl

  pub puts_more : {a b c : Printer} → Puts a (each f (take i xs)) b → Puts b (f x) c → Puts a (each f (take (i + 1) xs)) c
  puts_more p q = rw each_more (puts_puts (each f (take i xs)) (f x) p q)

  pub room_more : {b c : Printer} → Room b (each f (drop i xs)) → Puts b (f x) c → Room c (each f (drop (i + 1) xs))
  room_more r q = fits_next (f x) (each f (drop (i + 1) xs)) q.put (rw each_left at r)

-- all of them, in the output that a printer was lent, as it is in the end
pub puts_all : {A : Type 0} (f : A → List ℕ) (xs : List A) (i : ℕ) → length xs ≤ i → {b c : Printer} → Puts b (each f (take i xs)) c
    → {row now : List ℕ} {at : ℕ} → b.output.now ≡ row → b.at ≡ at → c.output.now ≡ now → Put row at (each f xs) now c.at
puts_all f xs i h p lent behind left = rw (← lent, ← behind, ← left, ← take_all i xs h) p.put

-- what `unwrap_or(0)` makes of an answer
pub counted : (answer : Result ℕ Refusal) → result_unwrap_or answer 0 ≡ count_of answer
counted (Ok n) = refl
counted (Err e) = refl

number-length : (n : ℕ) → length (number n) ≤ 2
number-length n = by_digits (ltb n 10)
  where
    by_digits : (small : Bool) → length (cond small (digit n ∷ []) (digit (n / 10) ∷ digit (n % 10) ∷ [])) ≤ 2
    by_digits true = omega arith
    by_digits false = omega arith

-- ---- a line: the number, what was handed out, and the end

module _ {A : Type 0} (f : A → List ℕ) where
  each_length : (m : ℕ) → ((x : A) → length (f x) ≡ m) → (xs : List A) → length (each f xs) ≡ length xs * m
  each_length m h [] = rw zero-mul
  each_length m h (x ∷ xs) = rw (length-append (f x) (each f xs), h, each_length m h xs, suc-mul) (omega arith)

  module _ (answer : Result ℕ Refusal) (out : List A) where
    -- where each is printed as m bytes, there is room for the line where there is room for the longest
    pub line_fits : (m : ℕ) → ((x : A) → length (f x) ≡ m) → (p : Printer) → count_of answer ≤ length out → count_of answer * m ≤ 12288 → HasRoom p → Room p (line_of f answer out)
    line_fits m size p there short room =
        let n = number (answer_of answer) in
        let shown = each f (take (count_of answer) out) in
        let many : length shown ≡ count_of answer * m = each_length m size (take (count_of answer) out) ∙ ap (λ k. k * m) (length-take-le (count_of answer) out there) in
        omega (arith, room, many, short, number-length (answer_of answer), length-append n shown, length-append (n ++ shown) (0x0A ∷ []))

    module _ {a b c : Printer} {n m : ℕ} (hn : n ≡ answer_of answer) (hm : m ≡ result_unwrap_or answer 0)
        (put-number : Puts a (number n) b) (put-each : Puts b (each f (take m out)) c) where
      put-both : Puts a (number (answer_of answer) ++ each f (take (count_of answer) out)) c
      put-both = puts_puts _ _ (rw hn at put-number) (rw (hm ∙ counted answer) at put-each)

      pub line_left : Room a (line_of f answer out) → Room c (0x0A ∷ [])
      line_left r = fits_next (number (answer_of answer) ++ each f (take (count_of answer) out)) (0x0A ∷ []) put-both.put r

      pub puts_line : {d : Printer} → Puts c (0x0A ∷ []) d → Puts a (line_of f answer out) d
      puts_line end = puts_puts _ _ put-both end

-- a reply fits a line, and so do the operations of a packet
pub reply_fits : (answer : Result ℕ Refusal) (out : List ℕ) (p : Printer) → count_of answer ≤ length out → count_of answer ≤ 4096 → HasRoom p → Room p (line_of hex_byte answer out)
reply_fits answer out p there most room = line_fits hex_byte answer out 3 (λ x. refl) p there (omega arith) room

pub operations_fit : (answer : Result ℕ Refusal) (out : List ℕ) (p : Printer) → count_of answer ≤ length out → count_of answer ≤ 11 → HasRoom p → Room p (line_of hex_word answer out)
operations_fit answer out p there most room = line_fits hex_word answer out 5 (λ x. refl) p there (omega arith) room
