-- Demand 2, requests, proved.
use mathlib.Core.Path.{◌≡◌, refl, ap, ◌∙◌}
use mathlib.Core.Logic.{◌⊎◌, inl, inr}
use mathlib.Core.Bool.{Bool, true, false, cond, not, ◌&&◌, ◌||◌, false≢true, and-eq-true_iff, or-true}
use mathlib.Core.List.{List, ◌++◌}
use Prim.Native.Nat.{ℕ, ◌+◌, ◌-◌, ◌*◌, ◌/◌, ◌%◌, ◌<◌, ◌≤◌}
use native.Mathlib.Omega.{arith}
use lib.ListN.{length, take, drop, length-drop, get_or-append}
use lib.Seq.{paste, length-paste, length_paste_head, length-take-le, get_or-take, get_or-drop, get_or-append-add}
use lib.Dec.{eqb, leb, ltb}
use borrow.Author.Tests.{eq-eqb, eqb-true, ltb-true, ltb-false, leb-true, leb-false, not-true}
use Rattle.rules.specs.declared.Request.TheVariants.{LoadConfigData, ReadConfigData}
use Rattle.rules.specs.declared.Setup.{Setup}
use Rattle.rules.specs.Words.{byte, word, over}
use Rattle.rules.specs.Held.{World, size_of}
use Rattle.rules.specs.Requests.{Known, setup_of, request_of, needs_configuration, in_bytes, in_memory, address, is_a, store_of}
use Rattle.rules.specs.Answers.{seen_of, request_answer, packet_answer, report_answer, status_answer}
use Rattle.rules.specs.Step.{Event, BusReset, Control, Packet, Report, StatusRequest, Burst, EndMark, answer, bytes_done, memory_done, done, change, step, rules}
use Rattle.rules.specs.Demands.Requests.{WholeFields, Unconfigured, Holds, ExactWrites, NoOtherWrites, ExactReads}
use Rattle.rules.proofs.Checks.{request_has, accepted_write}
use Rattle.rules.proofs.Rows.{over_pastes}
use Rattle.rules.proofs.Replies.{read_inside}

pub whole : (x : ℕ) → x % 256 + 256 * (x / 256) ≡ x
whole x = omega arith

pub whole_fields : WholeFields setup_of
whole_fields kind code value index n v i l = simp whole

needs : (kind : ℕ) → (kind / 32 % 4 ≡ 1) ⊎ ((kind / 32 % 4 ≡ 2) ⊎ (kind % 32 ≡ 2)) → needs_configuration kind ≡ true
needs kind (inl h) = rw h
needs kind (inr (inl h)) = rw h
needs kind (inr (inr h)) = rw h (simp or-true)

pub unconfigured : Unconfigured rules
unfolding step change request_answer packet_answer report_answer status_answer
unconfigured w BusReset c g = absurd g
unconfigured w (Control setup host room) c g = rw (c, eq-eqb _ _ g.0, needs (byte 0 setup) g.1)
unconfigured w (Packet p room) c g = rw c
unconfigured w (Report direction failed amount) c g = rw c
unconfigured w (StatusRequest room) c g = rw c
unconfigured w (Burst bytes) c g = absurd g
unconfigured w (EndMark room) c g = rw c

-- ---- exact writes

-- the pair 40, 01 names LOAD_CONFIG_DATA
pub is_load : (s : Setup) → s.kind ≡ 0x40 → s.code ≡ 0x01 → request_of s ≡ Known LoadConfigData
unfolding request_of
is_load s k c = rw (k, c)

-- byte k of a store into which n bytes were pasted
pasted : (store host : List ℕ) (start n : ℕ) → start + n ≤ length store → length host ≡ n → Holds true start n host store (paste store start host n)
pasted store host start n fits h = (length-paste store start host n fits (omega arith), λ k. at k (leb start k) refl (ltb k (start + n)) refl)
  where
    head : length (take start store) ≡ start
    head = length-take-le start store (omega arith)

    front : length (take start store ++ take n host) ≡ start + n
    front = length_paste_head store start host n (omega arith) (omega arith)

    at : (k : ℕ) (t : Bool) → leb start k ≡ t → (u : Bool) → ltb k (start + n) ≡ u
        → byte k (paste store start host n) ≡ cond (t && u) (byte (k - start) host) (byte k store)
    at k false e u f =
        let l : k < start = leb-false start k e in
        get_or-append (take start store ++ take n host) (drop (start + n) store) 0 k (omega (arith, front))
        ∙ get_or-append (take start store) (take n host) 0 k (omega (arith, head))
        ∙ get_or-take start store k 0 l
    at k true e true f =
        let l : k < start + n = ltb-true k (start + n) f in
        let g : start ≤ k = leb-true start k e in
        let i : k ≡ length (take start store) + (k - start) = omega (arith, head) in
        get_or-append (take start store ++ take n host) (drop (start + n) store) 0 k (omega (arith, front))
        ∙ ap (λ (j : ℕ). byte j (take start store ++ take n host)) i
        ∙ get_or-append-add (take start store) (take n host) (k - start) 0
        ∙ get_or-take n host (k - start) 0 (omega arith)
    at k true e false f =
        let g : start + n ≤ k = ltb-false k (start + n) f in
        let i : k ≡ length (take start store ++ take n host) + (k - (start + n)) = omega (arith, front) in
        let j : start + n + (k - (start + n)) ≡ k = omega arith in
        ap (λ (j : ℕ). byte j (paste store start host n)) i
        ∙ get_or-append-add (take start store ++ take n host) (drop (start + n) store) (k - (start + n)) 0
        ∙ get_or-drop (start + n) store (k - (start + n)) 0
        ∙ ap (λ (x : ℕ). byte x store) j

-- .. and so is one over which the host's bytes are laid
written : (store host : List ℕ) (start n : ℕ) → start + n ≤ length store → length host ≡ n → Holds true start n host store (over store start host)
written store host start n fits h =
    rw (over_pastes store start host n (omega arith)) (pasted store host start n fits h)

two_places : (place : ℕ) → in_bytes place ≡ true → in_memory place ≡ true → ⊥
two_places place p q = let a : place ≡ 0 = eqb-true place 0 p in let b : place ≡ 2 = eqb-true place 2 q in omega arith

-- a write at an address that is right changes the bytes or the memory
module _ (m : ℕ) (place start n : ℕ) (bytes memory host : List ℕ) (sixteen : length bytes ≡ 16) (size : m ≤ length memory) (long : length host ≡ n) where
  held : (in_bytes place || in_memory place) ≡ true → address true m place start n ≡ true
      → Holds (in_bytes place) start n host bytes (cond (not (in_memory place)) (over bytes start host) bytes)
      × Holds (in_memory place) start n host memory (cond (in_memory place) (over memory start host) memory)
  unfolding address
  held p a = go (in_bytes place) refl (in_memory place) refl p a
    where
      go : (x : Bool) → in_bytes place ≡ x → (y : Bool) → in_memory place ≡ y → (x || y) ≡ true
          → cond y (ltb start m && leb (start + n) m) (leb 2 start && leb start 15 && leb (start + n) 16) ≡ true
          → Holds x start n host bytes (cond (not y) (over bytes start host) bytes) × Holds y start n host memory (cond y (over memory start host) memory)
      go true ex true ey p a = absurd (two_places place ex ey)
      go false ex true ey p a =
          let l : start + n ≤ m = leb-true (start + n) m ((and-eq-true_iff (ltb start m) (leb (start + n) m)).0 a).1 in
          ((refl, λ k. refl), written memory host start n (omega arith) long)
      go true ex false ey p a =
          let l : start + n ≤ 16 = leb-true (start + n) 16 ((and-eq-true_iff (leb 2 start && leb start 15) (leb (start + n) 16)).0 a).1 in
          (written bytes host start n (omega arith) long, (refl, λ k. refl))
      go false ex false ey p a = absurd (false≢true p)

pub exact_writes : ExactWrites rules
unfolding step change
exact_writes w setup host room sixteen i a =
    let pair = (and-eq-true_iff (eqb (byte 0 setup) 0x40) (eqb (byte 1 setup) 0x01)).0 i in
    let load : request_of (setup_of setup) ≡ Known LoadConfigData = is_load (setup_of setup) (eqb-true _ _ pair.0) (eqb-true _ _ pair.1) in
    let p = accepted_write (seen_of w) w.memory setup (length host) room load a in
    rw (a, load)
    (held (size_of w.memory) (word 2 setup) (word 4 setup) (word 6 setup) w.bytes w.memory host sixteen (omega arith) p.2 p.0 p.1)

-- ---- no other writes

-- any other pair names another request
not_load : (s : Setup) → (eqb s.kind 0x40 && eqb s.code 0x01) ≡ false → is_a LoadConfigData (request_of s) ≡ false
not_load s h =
    not-true _ (request_has (λ kind code. not (eqb kind 0x40 && eqb code 0x01)) (λ r. not (is_a LoadConfigData r)) s (rw h) refl)

-- an event that, done, keeps both places keeps them whatever its answer
untouched : (w : World) (e : Event) → bytes_done w.bytes e ≡ w.bytes → memory_done w.memory e ≡ w.memory
    → ((step w e).next.bytes ≡ w.bytes) × ((step w e).next.memory ≡ w.memory)
unfolding step change
untouched w e b m = (kept (done (answer w e)) b, kept (done (answer w e)) m)
  where
    kept : (t : Bool) {next now : List ℕ} → next ≡ now → cond t next now ≡ now
    kept true h = h
    kept false h = refl

pub no_other_writes : NoOtherWrites rules
no_other_writes w BusReset h = untouched w BusReset refl refl
no_other_writes w (Control setup host room) h =
    let r : is_a LoadConfigData (request_of (setup_of setup)) ≡ false = not_load (setup_of setup) h in
    untouched w (Control setup host room) (rw r) (rw r)
no_other_writes w (Packet p room) h = untouched w (Packet p room) refl refl
no_other_writes w (Report direction failed amount) h = untouched w (Report direction failed amount) refl refl
no_other_writes w (StatusRequest room) h = untouched w (StatusRequest room) refl refl
no_other_writes w (Burst bytes) h = untouched w (Burst bytes) refl refl
no_other_writes w (EndMark room) h = untouched w (EndMark room) refl refl

-- ---- exact reads

-- the pair C0, 02 names READ_CONFIG_DATA
is_read : (s : Setup) → s.kind ≡ 0xC0 → s.code ≡ 0x02 → request_of s ≡ Known ReadConfigData
unfolding request_of
is_read s k c = rw (k, c)

pub exact_reads : ExactReads rules
unfolding step change
exact_reads w setup host room sixteen kind code a =
    let read : request_of (setup_of setup) ≡ Known ReadConfigData = is_read (setup_of setup) kind code in
    let store : List ℕ = store_of (word 2 setup) w in
    let fits : word 4 setup + word 6 setup ≤ length store = read_inside w setup (length host) room sixteen a read in
    rw (a, read) (
      length-take-le (word 6 setup) (drop (word 4 setup) store) (simp length-drop (omega arith)),
      λ k l. get_or-take (word 6 setup) (drop (word 4 setup) store) k 0 l ∙ get_or-drop (word 4 setup) store k 0,
    )
