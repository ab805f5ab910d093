-- Request 6, proved: one check of the list depends on the page size, and a multiple of a size takes all that the size takes.
use mathlib.Core.Path.{◌≡◌, refl, sym, ap, subst, ◌∙◌}
use mathlib.Core.Logic.{◌⊎◌, inl, inr}
use mathlib.Core.Bool.{Bool, true, false, cond, not, ◌&&◌, ◌||◌, false≢true, and-eq-true_iff}
use mathlib.Core.List.{List}
use Prim.Native.Nat.{ℕ, ◌+◌, ◌-◌, ◌*◌, ◌/◌}
use native.Mathlib.Nat.{div-div-eq-div-mul}
use native.Mathlib.Omega.{arith}
use lib.Dec.{eqb, leb, ltb}
use lib.ListN.{length, take, drop}
use borrow.Author.Tests.{eq-eqb, eqb-true, ne_eqb, leb-true, leb-false, ltb-true, ltb-false, not-false}
use Rattle.rules.specs.declared.PageSize.{PageSize}
use Rattle.rules.specs.declared.PageSize.TheVariants.{Of32, Of64, Of128, Of256}
use Rattle.rules.specs.declared.Request.TheVariants.{LoadConfigData}
use Rattle.rules.specs.declared.Setup.{Setup}
use Rattle.rules.specs.Words.{byte, word, over, Check}
use Rattle.rules.specs.Held.{World, page_bytes, page_of}
use Rattle.rules.specs.Requests.{Known, setup_of, request_of, is_a, in_memory, one_page}
use Rattle.rules.specs.Answers.{seen_of, request_checks, request_answer, packet_answer, report_answer, status_answer}
use Rattle.rules.specs.Step.{Event, BusReset, Control, Packet, Report, StatusRequest, Burst, EndMark, answer, memory_done, done, step, rules}
use Rattle.rules.specs.Demands.Coherence.{page_in}
use Rattle.rules.specs.Demands.Requests.{is_write}
use Rattle.rules.specs.Demands.Pages.{NumbersAreTaken, MultiplesTakeMore, paged, SmallerPagesRefuseMore, LegalUnder256, RefusedBy32, OnePageIsTouched}
use Rattle.rules.proofs.Checks.{stricter, request_passed, accepted_write}
use Rattle.rules.proofs.Rows.{over_outside}
use Rattle.rules.proofs.Demands.Requests.{is_load, no_other_writes}
use Rattle.rules.proofs.Pages.{divides_256, in_32s, one_page_lem, some_bytes}

pub numbers_are_taken : NumbersAreTaken page_of
unfolding page_of
numbers_are_taken = (itself, λ n a b c. rw (ne_eqb n 64 a, ne_eqb n 128 b, ne_eqb n 256 c), refl)
  where
    itself : (page : PageSize) → page_of (page_bytes page) ≡ page
    itself Of32 = refl
    itself Of64 = refl
    itself Of128 = refl
    itself Of256 = refl

pub multiples_take_more : MultiplesTakeMore one_page
unfolding one_page
multiples_take_more page times start n h = go (eqb n 0) h
  where
    go : (t : Bool) → (t || eqb (start / page) ((start + n - 1) / page)) ≡ true → (t || eqb (start / (page * times)) ((start + n - 1) / (page * times))) ≡ true
    go true h = refl
    go false h =
        eq-eqb _ _
        (sym (div-div-eq-div-mul start page times) ∙ ap (λ (x : ℕ). x / times) (eqb-true _ _ h) ∙ div-div-eq-div-mul (start + n - 1) page times)

-- ---- two docks that differ in the page size alone

-- what crosses a page of a multiple of a size crosses one of that size
crosses : (a : Bool) (page times start n : ℕ) → (a && not (one_page (page * times) start n)) ≡ true → (a && not (one_page page start n)) ≡ true
crosses true page times start n h = go (one_page page start n) refl
  where
    go : (t : Bool) → one_page page start n ≡ t → not t ≡ true
    go true e = absurd (false≢true (rw (multiples_take_more page times start n e) at h))
    go false e = refl
crosses false page times start n h = h

wider_dock : (w : World) (e : Event) (page : PageSize) (times : ℕ) → page_bytes page ≡ page_in w * times
    → (answer (paged page w) e ≡ answer w e) ⊎ (answer w e ≡ 10)
unfolding request_answer packet_answer report_answer status_answer
wider_dock w BusReset page times k = inl refl
wider_dock w (Control setup host room) page times k =
    let s : Setup = setup_of setup in
    let checks : List Check = request_checks (seen_of w) w.memory (length setup) s (request_of s) (length host) room in
    let programs : Bool = is_a LoadConfigData (request_of s) && in_memory s.value in
    stricter (take 7 checks) (drop 8 checks) 10
    (programs && not (one_page (page_bytes page) s.index s.length))
    (programs && not (one_page (page_in w) s.index s.length))
    (λ h. crosses programs (page_in w) times s.index s.length (rw k at h))
wider_dock w (Packet p room) page times k = inl refl
wider_dock w (Report direction failed amount) page times k = inl refl
wider_dock w (StatusRequest room) page times k = inl refl
wider_dock w (Burst bytes) page times k = inl refl
wider_dock w (EndMark room) page times k = inl refl

pub smaller_pages_refuse_more : SmallerPagesRefuseMore rules
unfolding step
smaller_pages_refuse_more w wider e page times shows k =
    subst (λ (x : World). (answer x e ≡ answer w e) ⊎ (answer w e ≡ 10)) (sym shows) (wider_dock w e page times k)

pub legal_under_256 : LegalUnder256 rules
legal_under_256 w wider e shows a =
    go (smaller_pages_refuse_more w wider e Of256 (256 / page_in w) shows (divides_256 w.bridge.dock.page))
  where
    go : ((step wider e).answer ≡ (step w e).answer) ⊎ ((step w e).answer ≡ 10) → (step wider e).answer ≡ 0
    go (inl s) = s ∙ a
    go (inr ten) = absurd (let z = sym ten ∙ a in omega arith)

pub refused_by_32 : RefusedBy32 rules
refused_by_32 w safe e shows refused a =
    go (smaller_pages_refuse_more safe w e w.bridge.dock.page (page_in w / 32) (ap (paged w.bridge.dock.page) (sym shows))
    (in_32s w.bridge.dock.page ∙ ap (λ (x : ℕ). x * (page_in w / 32)) (sym (ap page_in shows))))
  where
    go : ((step w e).answer ≡ (step safe e).answer) ⊎ ((step safe e).answer ≡ 10) → ⊥
    go (inl s) = refused (s ∙ a)
    go (inr ten) = let z = sym ten ∙ a in omega arith

-- ---- the bytes that changed

-- a byte of the memory that an accepted write changed lies in the page of its start
touched : (w : World) (setup host : List ℕ) (room j : ℕ) → request_of (setup_of setup) ≡ Known LoadConfigData
    → answer w (Control setup host room) ≡ 0
    → (byte j (memory_done w.memory (Control setup host room)) ≡ byte j w.memory → ⊥) → j / page_in w ≡ word 4 setup / page_in w
touched w setup host room j load a changed =
    go (in_memory (word 2 setup)) refl (rw load at (request_passed (seen_of w) w.memory setup (length host) room a).1.1.1.1.1.1.1.0)
    (rw load at changed)
  where
    long : length host ≡ word 6 setup
    long = (accepted_write (seen_of w) w.memory setup (length host) room load a).2

    start : ℕ
    start = word 4 setup

    go : (t : Bool) → in_memory (word 2 setup) ≡ t → (t && not (one_page (page_in w) start (word 6 setup))) ≡ false
        → (byte j (cond t (over w.memory start host) w.memory) ≡ byte j w.memory → ⊥) → j / page_in w ≡ start / page_in w
    go false e pages changed = absurd (changed refl)
    go true e pages changed = within (leb start j) refl (ltb j (start + length host)) refl
      where
        within : (t : Bool) → leb start j ≡ t → (u : Bool) → ltb j (start + length host) ≡ u → j / page_in w ≡ start / page_in w
        within false f u g = absurd (changed (over_outside w.memory start host j (inl (leb-false start j f))))
        within true f false g = absurd (changed (over_outside w.memory start host j (inr (ltb-false j _ g))))
        within true f true g =
            one_page_lem (page_in w) start (word 6 setup) j (some_bytes w.bridge.dock.page) (not-false _ pages) (leb-true start j f)
            (let l = ltb-true j _ g in omega (arith, long))

memory_after : (w : World) (e : Event) → (step w e).next.memory ≡ cond (done (answer w e)) (memory_done w.memory e) w.memory
unfolding step
memory_after w e = refl

unwritten : (w : World) (e : Event) (j : ℕ) → is_write e ≡ false → (byte j (step w e).next.memory ≡ byte j w.memory → ⊥) → ⊥
unwritten w e j h changed = changed (ap (byte j) (no_other_writes w e h).1)

pub one_page_is_touched : OnePageIsTouched rules
one_page_is_touched w BusReset j k p q = absurd (unwritten w BusReset j refl p)
one_page_is_touched w (Control setup host room) j k p q = at j p ∙ sym (at k q)
  where
    e : Event
    e = Control setup host room

    at : (j : ℕ) → (byte j (step w e).next.memory ≡ byte j w.memory → ⊥) → j / page_in w ≡ word 4 setup / page_in w
    at j p = go (is_write e) refl (done (answer w e)) refl (subst (λ (m : List ℕ). byte j m ≡ byte j w.memory → ⊥) (memory_after w e) p)
      where
        go : (t : Bool) → is_write e ≡ t → (u : Bool) → done (answer w e) ≡ u
            → (byte j (cond u (memory_done w.memory e) w.memory) ≡ byte j w.memory → ⊥) → j / page_in w ≡ word 4 setup / page_in w
        go false h u d changed = absurd (unwritten w e j h p)
        go true h false d changed = absurd (changed refl)
        go true h true d changed =
            let pair = (and-eq-true_iff (eqb (byte 0 setup) 0x40) (eqb (byte 1 setup) 0x01)).0 h in
            touched w setup host room j (is_load (setup_of setup) (eqb-true _ _ pair.0) (eqb-true _ _ pair.1)) (eqb-true _ 0 d) changed
one_page_is_touched w (Packet bytes room) j k p q = absurd (unwritten w (Packet bytes room) j refl p)
one_page_is_touched w (Report direction failed amount) j k p q = absurd (unwritten w (Report direction failed amount) j refl p)
one_page_is_touched w (StatusRequest room) j k p q = absurd (unwritten w (StatusRequest room) j refl p)
one_page_is_touched w (Burst bytes) j k p q = absurd (unwritten w (Burst bytes) j refl p)
one_page_is_touched w (EndMark room) j k p q = absurd (unwritten w (EndMark room) j refl p)
