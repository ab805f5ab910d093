-- Bytes that are there are read, and bytes that were written are the bytes that are read.
use mathlib.Core.Path.{◌≡◌, refl, sym, ap, ◌∙◌}
use mathlib.Core.Logic.{◌⊎◌, inl, inr}
use mathlib.Core.Bool.{Bool, true, false, cond, not, ◌&&◌, ◌||◌, true≢false, and-eq-true_iff, or-false}
use mathlib.Core.List.{List, [], ◌∷◌}
use Prim.Native.Nat.{ℕ, zero, suc, ◌+◌, ◌*◌, ◌/◌, ◌%◌, ◌<◌, ◌≤◌}
use native.Mathlib.Nat.{div-add-mod, mod-eq_of_lt, mod-mod_of_dvd, mul-add-mod_self_left, mul-mod_right}
use native.Mathlib.Omega.{arith}
use lib.ListN.{length, take, drop}
use lib.Dec.{eqb, leb, ltb}
use borrow.Author.Tests.{ltb-true, eqb-true, leb-true, eq-eqb, ne_eqb, lt-ltb, le-ltb, le-leb, not-false}
use Rattle.rules.specs.declared.PageSize.{PageSize}
use Rattle.rules.specs.Words.{over}
use Rattle.rules.specs.Held.{World, page_bytes, world, holding, size_of}
use Rattle.rules.specs.Requests.{request_of, in_bytes, in_memory, address, at_eight, one_page, store_of}
use Rattle.rules.specs.Answers.{seen_of, request_answer}
use Rattle.rules.specs.Step.{Control, change, step, rules}
use Rattle.rules.specs.Demands.Requests.{wire, asking}
use Rattle.rules.specs.Demands.Coherence.{ReadWasThere, Replies, page_in, row_of, ThereIsRead, WrittenIsRead, WritableIsWritten, WrittenWasWritable}
use Rattle.rules.proofs.Checks.{request_passed}
use Rattle.rules.proofs.Demands.Requests.{whole}
use Rattle.rules.proofs.Replies.{inside}
use Rattle.rules.proofs.Rows.{over-length}
use Rattle.rules.proofs.Pages.{eights_in, some_bytes, within_page}

-- ---- reads

-- a right address of a fitted place is read
pub reads : (w : World) (place start n : ℕ) → w.bridge.configured ≡ true → (in_bytes place || in_memory place) ≡ true
    → (in_memory place && eqb (size_of w.memory) 0) ≡ false → address false (size_of w.memory) place start n ≡ true
    → Replies (step w (asking 0xC0 0x02 place start n)) (take n (drop start (store_of place w)))
unfolding step change request_of request_answer
reads w place start n c p f a = rw (c, whole place, whole start, whole n, p, f, a, le-ltb n n (omega arith)) (refl, refl)

pub there_is_read : ThereIsRead rules
unfolding address
there_is_read w start n c = (
  λ k l. reads w 0x0000 start n c refl refl (rw (le-leb 0 start (omega arith), le-leb start 15 (omega arith), le-leb (start + n) 16 l)),
  λ k l.
      reads w 0x0002 start n c refl (ne_eqb (size_of w.memory) 0 (λ z. omega arith))
      (rw (lt-ltb start (size_of w.memory) k, le-leb (start + n) (size_of w.memory) l)),
)

pub read_was_there : ReadWasThere rules
unfolding step request_of address
read_was_there w place start n host room a =
    let k = request_passed (seen_of w) w.memory (wire 0xC0 0x02 place start n) (length host) room a in
    let p = rw (whole place, whole start, whole n) at k.1.1.1 in
    go (in_memory place) refl (not-false _ p.0) (not-false _ p.1.1.0)
  where
    m : ℕ
    m = size_of w.memory

    go : (t : Bool) → in_memory place ≡ t → (in_bytes place || t) ≡ true
        → cond t (ltb start m && leb (start + n) m) (leb 0 start && leb start 15 && leb (start + n) 16) ≡ true
        → ((place ≡ 0x0000) × (start < 16) × (start + n ≤ 16)) ⊎ ((place ≡ 0x0002) × (start < m) × (start + n ≤ m))
    go true e p i =
        let b = (and-eq-true_iff (ltb start m) (leb (start + n) m)).0 i in
        inr (eqb-true place 2 e, ltb-true start m b.0, leb-true (start + n) m b.1)
    go false e p i =
        let b = (and-eq-true_iff (leb 0 start && leb start 15) (leb (start + n) 16)).0 i in
        let c = leb-true start 15 ((and-eq-true_iff (leb 0 start) (leb start 15)).0 b.0).1 in
        inl (eqb-true place 0 (rw or-false at p), omega arith, leb-true (start + n) 16 b.1)

-- ---- writes

-- what stands over a row is read from it
over_read : (row : List ℕ) (at : ℕ) (xs : List ℕ) → at + length xs ≤ length row → take (length xs) (drop at (over row at xs)) ≡ xs
unfolding over
over_read row zero [] h = refl
over_read [] zero (x ∷ xs) h = absurd (omega arith)
over_read (r ∷ row) zero (x ∷ xs) h = ap (λ (l : List ℕ). x ∷ l) (over_read row zero xs (omega arith))
over_read [] (suc at) [] h = refl
over_read [] (suc at) (x ∷ xs) h = absurd (omega arith)
over_read (r ∷ row) (suc at) xs h = over_read row at xs (omega arith)

-- what needs the configuration and is not refused for it is configured
pub needed : (c : Bool) → (not c && true) ≡ false → c ≡ true
needed true h = refl
needed false h = absurd (true≢false h)

-- an accepted write, by the numbers that its host gave
record Wrote (w : World) (place start : ℕ) (host : List ℕ) (room : ℕ) : Type 0 where
  configured : w.bridge.configured ≡ true
  placed : (in_bytes place || in_memory place) ≡ true
  fitted : (in_memory place && eqb (size_of w.memory) 0) ≡ false
  inside : address true (size_of w.memory) place start (length host) ≡ true
  eight : (in_memory place && not (at_eight start)) ≡ false
  page : (in_memory place && not (one_page (page_in w) start (length host))) ≡ false
  next : (step w (Control (wire 0x40 0x01 place start (length host)) host room)).next
      ≡ holding w.held
      (world w.bridge (cond (not (in_memory place)) (over w.bytes start host) w.bytes)
      (cond (in_memory place) (over w.memory start host) w.memory))

wrote : (w : World) (place start : ℕ) (host : List ℕ) (room : ℕ)
    → (step w (Control (wire 0x40 0x01 place start (length host)) host room)).answer ≡ 0 → Wrote w place start host room
unfolding step change request_of
wrote w place start host room a =
    let n : ℕ = length host in
    let k = request_passed (seen_of w) w.memory (wire 0x40 0x01 place start n) n room a in
    let p = rw (whole place, whole start, whole n) at k.1 in
    record {
      configured = needed w.bridge.configured p.0;
      placed = not-false _ p.1.1.0;
      fitted = p.1.1.1.0;
      inside = not-false _ p.1.1.1.1.0;
      eight = p.1.1.1.1.1.0;
      page = p.1.1.1.1.1.1.0;
      next = rw (a, whole place, whole start);
    }

-- a place that may be written may be read
pub readable : (m place start n : ℕ) → address true m place start n ≡ true → address false m place start n ≡ true
unfolding address
readable m place start n a = go (in_memory place) a
  where
    go : (t : Bool) → cond t (ltb start m && leb (start + n) m) (leb 2 start && leb start 15 && leb (start + n) 16) ≡ true
        → cond t (ltb start m && leb (start + n) m) (leb 0 start && leb start 15 && leb (start + n) 16) ≡ true
    go true a = a
    go false a =
        let b = (and-eq-true_iff (leb 2 start && leb start 15) (leb (start + n) 16)).0 a in
        rw (le-leb 0 start (omega arith), ((and-eq-true_iff (leb 2 start) (leb start 15)).0 b.0).1, b.1)

pub written_is_read : WrittenIsRead rules
written_is_read w place start host room sixteen a = rw k.next (go (in_memory place) refl)
  where
    k : Wrote w place start host room
    k = wrote w place start host room a

    fits : start + length host ≤ length (store_of place w)
    fits = inside true w place start (length host) sixteen k.inside

    right : address false (size_of w.memory) place start (length host) ≡ true
    right = readable (size_of w.memory) place start (length host) k.inside

    go : (t : Bool) → in_memory place ≡ t
        → (let next = world w.bridge (cond (not t) (over w.bytes start host) w.bytes) (cond t (over w.memory start host) w.memory) in
        Replies (step (holding w.held next) (asking 0xC0 0x02 place start (length host))) host)
    go true e =
        let next : World = holding w.held (world w.bridge w.bytes (over w.memory start host)) in
        let long : length (over w.memory start host) ≡ length w.memory = over-length w.memory start host in
        let r = reads next place start (length host) k.configured k.placed (rw long k.fitted) (rw long right) in
        (r.0, r.1 ∙ rw e (over_read w.memory start host (rw e at fits)))
    go false e =
        let next : World = holding w.held (world w.bridge (over w.bytes start host) w.memory) in
        let r = reads next place start (length host) k.configured k.placed k.fitted right in
        (r.0, r.1 ∙ rw e (over_read w.bytes start host (rw e at fits)))

-- a write is accepted where no check of its place applies
pub writes : (w : World) (place start : ℕ) (host : List ℕ) → w.bridge.configured ≡ true → (in_bytes place || in_memory place) ≡ true
    → (in_memory place && eqb (size_of w.memory) 0) ≡ false → address true (size_of w.memory) place start (length host) ≡ true
    → (in_memory place && not (at_eight start)) ≡ false → (in_memory place && not (one_page (page_in w) start (length host))) ≡ false
    → (step w (Control (wire 0x40 0x01 place start (length host)) host 0)).answer ≡ 0
unfolding step request_of request_answer
writes w place start host c p f a e g =
    let n : ℕ = length host in
    rw (c, whole place, whole start, whole n, p, f, a, e, g, eq-eqb n n refl)

pub writable_is_written : WritableIsWritten rules
unfolding address
writable_is_written w host start page row c some = (
  λ l h. writes w 0x0000 start host c refl refl (rw (le-leb 2 start l, le-leb start 15 (omega arith), le-leb (start + length host) 16 h)) refl refl,
  λ l h.
      let n : ℕ = length host in
      let m : ℕ = size_of w.memory in
      let size : ℕ = page_in w in
      let at : ℕ = row_of size page row in
      let inner : at % size ≡ 8 * row = mul-add-mod_self_left size page (8 * row) ∙ mod-eq_of_lt (omega arith) in
      let eights : at % 8 ≡ 0 = sym (mod-mod_of_dvd 8 at (eights_in w.bridge.dock.page)) ∙ rw inner (mul-mod_right 8 row) in
      writes w 0x0002 at host c refl (ne_eqb m 0 (λ z. omega arith))
      (rw (lt-ltb at m (omega arith), le-leb (at + n) m h))
      (rw eights)
      (rw (within_page size at n (some_bytes w.bridge.dock.page), inner, le-leb (8 * row + n) size l)),
)

-- a start at a multiple of eight, by its page and its row of eight there
rowed : (page : PageSize) (start : ℕ) → start % 8 ≡ 0
    → (start ≡ row_of (page_bytes page) (start / page_bytes page) (start % page_bytes page / 8)) × (8 * (start % page_bytes page / 8) ≡ start % page_bytes page)
rowed page start e =
    let size : ℕ = page_bytes page in
    let eights : start % size % 8 ≡ 0 = mod-mod_of_dvd 8 start (eights_in page) ∙ e in
    let rows : 8 * (start % size / 8) ≡ start % size = omega arith in
    (omega (arith, div-add-mod start size), rows)

pub written_was_writable : WrittenWasWritable rules
unfolding address
written_was_writable w place start host room some a = go (in_memory place) refl k.placed k.inside k.eight k.page
  where
    k : Wrote w place start host room
    k = wrote w place start host room a

    n : ℕ
    n = length host

    m : ℕ
    m = size_of w.memory

    size : ℕ
    size = page_in w

    go : (t : Bool) → in_memory place ≡ t → (in_bytes place || t) ≡ true
        → cond t (ltb start m && leb (start + n) m) (leb 2 start && leb start 15 && leb (start + n) 16) ≡ true
        → (t && not (at_eight start)) ≡ false → (t && not (one_page size start n)) ≡ false
        → ((place ≡ 0x0000) × (2 ≤ start) × (start + n ≤ 16))
        ⊎ ((place ≡ 0x0002) × ((page : ℕ) × (row : ℕ) × (start ≡ row_of size page row) × (8 * row + n ≤ size) × (start + n ≤ m)))
    go true e p i eights pages =
        let r = rowed w.bridge.dock.page start (eqb-true _ 0 (not-false (at_eight start) eights)) in
        let l = leb-true _ size (sym (within_page size start n (some_bytes w.bridge.dock.page)) ∙ not-false _ pages) in
        inr (eqb-true place 2 e, (start / size, start % size / 8, r.0, omega (arith, r.1), leb-true (start + n) m ((and-eq-true_iff (ltb start m) _).0 i).1))
    go false e p i eights pages =
        let b = (and-eq-true_iff (leb 2 start && leb start 15) (leb (start + n) 16)).0 i in
        let c = (and-eq-true_iff (leb 2 start) (leb start 15)).0 b.0 in
        inl (eqb-true place 0 (rw or-false at p), leb-true 2 start c.0, leb-true (start + n) 16 b.1)
