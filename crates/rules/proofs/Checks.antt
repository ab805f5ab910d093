-- Laws of the two tables that every event is read by: an ordered list of checks, and the request table.
use mathlib.Core.Path.{◌≡◌, refl}
use mathlib.Core.Logic.{◌⊎◌, inl, inr}
use mathlib.Core.Bool.{Bool, true, false, cond, not, ◌&&◌, ◌||◌, true≢false, false≢true, and-eq-true_iff}
use mathlib.Core.List.{List, [], ◌∷◌, ◌++◌}
use Prim.Native.Nat.{ℕ}
use lib.Dec.{eqb, ltb}
use lib.ListN.{length}
use borrow.Author.Tests.{eq-eqb, eqb-true, eqb-false, not-true, not-false}
use Rattle.rules.specs.declared.Request.TheVariants.{LoadConfigData}
use Rattle.rules.specs.declared.Seen.{Seen}
use Rattle.rules.specs.declared.Setup.{Setup}
use Rattle.rules.specs.declared.Stands.TheVariants.{InRoom}
use Rattle.rules.specs.Words.{Check, ◌if◌, first}
use Rattle.rules.specs.Held.{World, size_of}
use Rattle.rules.specs.Requests.{Named, Unknown, Known, is_unknown, Row, table, fits, lookup, setup_of, request_of, is_a, in_bytes, in_memory, address, sent}
use Rattle.rules.specs.Answers.{request_checks, request_answer}
use Rattle.rules.specs.Step.{Event, BusReset, Control, Packet, Report, StatusRequest, Burst, EndMark, answer, stands, done, damaged}

-- where both are the same, that is picked
pub both_same : {A : Type 0} (t : Bool) (x : A) → cond t x x ≡ x
both_same true x = refl
both_same false x = refl

-- what is picked by a test has a property that both have
picked : {A : Type 0} (has : A → Bool) (t : Bool) (x y : A) → (t ≡ true → has x ≡ true) → has y ≡ true → has (cond t x y) ≡ true
picked has true x y h k = h refl
picked has false x y h k = k

-- 0 and the number of every check have a property
abbrev pub all_numbers : (ℕ → Bool) → List Check → Bool
all_numbers has [] = has 0
all_numbers has (c ∷ cs) = has c.number && all_numbers has cs

-- so has the answer
pub answer_has : (has : ℕ → Bool) (cs : List Check) → all_numbers has cs ≡ true → has (first cs) ≡ true
answer_has has [] h = h
answer_has has (c ∷ cs) h =
    let k = (and-eq-true_iff _ _).0 h in
    picked has c.applies c.number (first cs) (λ _. k.0) (answer_has has cs k.1)

-- none of the checks applies
abbrev pub Passed : List Check → Type 0
Passed [] = Unit {0}
Passed (c ∷ cs) = (c.applies ≡ false) × Passed cs

abbrev pub numbered : List Check → Bool
numbered [] = true
numbered (c ∷ cs) = not (eqb c.number 0) && numbered cs

pub passed : (cs : List Check) → numbered cs ≡ true → first cs ≡ 0 → Passed cs
passed [] n h = tt
passed (c ∷ cs) n h = go c.applies refl (eqb c.number 0) refl n h (passed cs)
  where
    go : (t : Bool) → c.applies ≡ t → (z : Bool) → eqb c.number 0 ≡ z → (not z && numbered cs) ≡ true → cond t c.number (first cs) ≡ 0
        → (numbered cs ≡ true → first cs ≡ 0 → Passed cs) → (c.applies ≡ false) × Passed cs
    go true e true z n h ih = absurd (false≢true n)
    go true e false z n h ih = absurd (eqb-false _ 0 z h)
    go false e true z n h ih = absurd (false≢true n)
    go false e false z n h ih = (e, ih n h)

-- where the answer is n, no check before the first numbered n applies; and that one does, or the answer comes from those behind it
abbrev pub Decides : ℕ → List Check → Type 0
Decides n [] = 0 ≡ n
Decides n (c ∷ cs) = cond (eqb c.number n) ((c.applies ≡ true) ⊎ (first cs ≡ n)) ((c.applies ≡ false) × Decides n cs)

pub decides : (n : ℕ) (cs : List Check) → first cs ≡ n → Decides n cs
decides n [] h = h
decides n (c ∷ cs) h = go (eqb c.number n) refl c.applies refl h (decides n cs)
  where
    go : (z : Bool) → eqb c.number n ≡ z → (t : Bool) → c.applies ≡ t → cond t c.number (first cs) ≡ n → (first cs ≡ n → Decides n cs)
        → cond z ((c.applies ≡ true) ⊎ (first cs ≡ n)) ((c.applies ≡ false) × Decides n cs)
    go true e true f h ih = inl f
    go true e false f h ih = inr h
    go false e true f h ih = absurd (eqb-false _ n e h)
    go false e false f h ih = (f, ih h)

-- a check whose number no other behind it has applies where the answer is that number
pub sole : (n : ℕ) (t : Bool) (behind : List Check) → all_numbers (λ k. not (eqb k n)) behind ≡ true → (t ≡ true) ⊎ (first behind ≡ n) → t ≡ true
sole n t behind h (inl e) = e
sole n t behind h (inr e) =
    absurd (false≢true (rw (eq-eqb (first behind) n e) at (answer_has (λ k. not (eqb k n)) behind h)))

-- checks in two parts: where none of the first applies, the second decides
pub first_append : (cs ds : List Check) → numbered cs ≡ true → first (cs ++ ds) ≡ cond (eqb (first cs) 0) (first ds) (first cs)
first_append [] ds n = refl
first_append (c ∷ cs) ds n = go c.applies (eqb c.number 0) refl n (first_append cs ds)
  where
    go : (t z : Bool) → eqb c.number 0 ≡ z → (not z && numbered cs) ≡ true
        → (numbered cs ≡ true → first (cs ++ ds) ≡ cond (eqb (first cs) 0) (first ds) (first cs))
        → cond t c.number (first (cs ++ ds)) ≡ cond (eqb (cond t c.number (first cs)) 0) (first ds) (cond t c.number (first cs))
    go t true e n ih = absurd (false≢true n)
    go true false e n ih = rw e
    go false false e n ih = ih n

-- Of two lists that differ in the test of one check, which applies in the second where it applies in the first: both give one number, or the second
-- gives the number of that check.
pub stricter : (front behind : List Check) (number : ℕ) (t u : Bool) → (t ≡ true → u ≡ true)
    → (first (front ++ number if t ∷ behind) ≡ first (front ++ number if u ∷ behind)) ⊎ (first (front ++ number if u ∷ behind) ≡ number)
stricter [] behind number t true h = inr refl
stricter [] behind number false false h = inl refl
stricter [] behind number true false h = absurd (false≢true (h refl))
stricter (c ∷ front) behind number t u h = go c.applies (stricter front behind number t u h)
  where
    go : (a : Bool)
        → (first (front ++ number if t ∷ behind) ≡ first (front ++ number if u ∷ behind)) ⊎ (first (front ++ number if u ∷ behind) ≡ number)
        → (cond a c.number (first (front ++ number if t ∷ behind)) ≡ cond a c.number (first (front ++ number if u ∷ behind)))
        ⊎ (cond a c.number (first (front ++ number if u ∷ behind)) ≡ number)
    go true e = inl refl
    go false e = e

-- no control request is answered 13 or 14
pub request_undamaged : (seen : Seen) (memory setup : List ℕ) (host room : ℕ) → damaged (request_answer seen memory setup host room) ≡ false
unfolding request_answer
request_undamaged seen memory setup host room =
    not-true _
    (answer_has (λ n. not (damaged n)) (request_checks seen memory (length setup) (setup_of setup) (request_of (setup_of setup)) host room) refl)

-- the fields of a setup that fits a row
pub record Fits (r : Row) (s : Setup) : Type 0 where
  pub kind : s.kind ≡ r.kind
  pub code : s.code ≡ r.code
  pub value : r.value s.value ≡ true
  pub index : r.index s.index ≡ true
  pub length : r.length s.length ≡ true

fitted : (r : Row) (s : Setup) → fits r s ≡ true → Fits r s
fitted r s f =
    let a = (and-eq-true_iff _ (r.length s.length)).0 f in
    let b = (and-eq-true_iff _ (r.index s.index)).0 a.0 in
    let c = (and-eq-true_iff _ (r.value s.value)).0 b.0 in
    let d = (and-eq-true_iff (eqb s.kind r.kind) (eqb s.code r.code)).0 c.0 in
    record { kind = eqb-true _ _ d.0; code = eqb-true _ _ d.1; value = c.1; index = b.1; length = a.1 }

-- Unknown, and the request of every row whose kind and code pass a test, have a property
abbrev pub all_rows : (ℕ → ℕ → Bool) → (Named → Bool) → List Row → Bool
all_rows test has [] = has Unknown
all_rows test has (r ∷ rs) = (not (test r.kind r.code) || has r.names) && all_rows test has rs

-- a row that a setup fits passes every test of kind and code that the setup passes
row_passes : (test : ℕ → ℕ → Bool) (r : Row) (s : Setup) → fits r s ≡ true → test s.kind s.code ≡ true
    → test r.kind r.code ≡ true
row_passes test r s f h = rw ((fitted r s f).kind, (fitted r s f).code) at h

lookup_has : (test : ℕ → ℕ → Bool) (has : Named → Bool) (rs : List Row) (s : Setup) → test s.kind s.code ≡ true
    → all_rows test has rs ≡ true → has (lookup rs s) ≡ true
lookup_has test has [] s h k = k
lookup_has test has (r ∷ rs) s h k =
    let t = (and-eq-true_iff (not (test r.kind r.code) || has r.names) (all_rows test has rs)).0 k in
    picked has (fits r s) r.names (lookup rs s) (λ f. rw (row_passes test r s f h) at t.0) (lookup_has test has rs s h t.1)

-- so has the request that a setup makes, if its kind and code pass the test
pub request_has : (test : ℕ → ℕ → Bool) (has : Named → Bool) (s : Setup) → test s.kind s.code ≡ true
    → all_rows test has table ≡ true → has (request_of s) ≡ true
unfolding request_of
request_has test has s = lookup_has test has table s

-- what every row that a setup fits names has a property
abbrev pub EachRow : (Named → Type 0) → Setup → List Row → Type 0
EachRow P s [] = Unit {0}
EachRow P s (r ∷ rs) = (Fits r s → P r.names) × EachRow P s rs

-- .. a row at a time
infixr 20 ◌also◌
pub ◌also◌ : {A B : Type 0} → A → B → A × B
x also y = (x, y)

-- so has what it makes, if that is in the table
lookup_each : (P : Named → Type 0) (s : Setup) (rs : List Row) → EachRow P s rs → is_unknown (lookup rs s) ≡ false → P (lookup rs s)
lookup_each P s [] each u = absurd (true≢false u)
lookup_each P s (r ∷ rs) each u = go (fits r s) refl u (lookup_each P s rs each.1)
  where
    go : (t : Bool) → fits r s ≡ t → is_unknown (cond t r.names (lookup rs s)) ≡ false
        → (is_unknown (lookup rs s) ≡ false → P (lookup rs s)) → P (cond t r.names (lookup rs s))
    go true e u ih = each.0 (fitted r s e)
    go false e u ih = ih u

pub request_each : (P : Named → Type 0) (s : Setup) → EachRow P s table → is_unknown (request_of s) ≡ false → P (request_of s)
unfolding request_of
request_each P s each u = lookup_each P s table each u

-- ---- what an accepted request has passed

pub request_passed : (seen : Seen) (memory setup : List ℕ) (host room : ℕ) → request_answer seen memory setup host room ≡ 0
    → Passed (request_checks seen memory (length setup) (setup_of setup) (request_of (setup_of setup)) host room)
unfolding request_answer
request_passed seen memory setup host room h =
    passed (request_checks seen memory (length setup) (setup_of setup) (request_of (setup_of setup)) host room) refl h

-- LOAD_CONFIG_DATA goes out from the host
load_goes_out : (s : Setup) → request_of s ≡ Known LoadConfigData → ltb s.kind 0x80 ≡ true
load_goes_out s e = go (ltb s.kind 0x80) refl
  where
    go : (t : Bool) → ltb s.kind 0x80 ≡ t → t ≡ true
    go true h = refl
    go false h =
        absurd (false≢true (rw e at (request_has (λ kind code. not (ltb kind 0x80)) (λ r. not (is_a LoadConfigData r)) s (rw h) refl)))

-- an accepted write has a place and a writable address, and the host has sent it whole
pub accepted_write : (seen : Seen) (memory setup : List ℕ) (host room : ℕ)
    → (let s = setup_of setup in
    request_of s ≡ Known LoadConfigData → request_answer seen memory setup host room ≡ 0
    → ((in_bytes s.value || in_memory s.value) ≡ true) × (address true (size_of memory) s.value s.index s.length ≡ true) × (host ≡ s.length))
accepted_write seen memory setup host room e z =
    let s = setup_of setup in
    let p = request_passed seen memory setup host room z in
    let whole : host ≡ sent s = eqb-true host (sent s) (not-false _ p.1.1.1.1.1.1.1.1.1.1.1.1.0) in (
      not-false _ (rw e at p.1.1.1.0),
      not-false _ (rw e at p.1.1.1.1.1.0),
      rw (load_goes_out s e) at whole,
    )

-- ---- a refusal says nothing of the memory

pub in_room : (w : World) (e : Event) → done (answer w e) ≡ false → stands w e ≡ InRoom
in_room w BusReset d = refl
in_room w (Control setup host room) d = rw d
in_room w (Packet bytes room) d = refl
in_room w (Report direction failed amount) d = refl
in_room w (StatusRequest room) d = refl
in_room w (Burst bytes) d = refl
in_room w (EndMark room) d = refl
