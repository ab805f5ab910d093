-- The report rule does what BOT's thirteen cases say.
use mathlib.Core.Path.{◌≡◌, refl, sym, ◌∙◌}
use mathlib.Core.Bool.{Bool, true, false, cond, not, ◌&&◌, false≢true}
use mathlib.Core.List.{List, [], ◌∷◌}
use Prim.Native.Nat.{ℕ, ◌+◌, ◌≤◌}
use native.Mathlib.Nat.{sub-zero, sub_self}
use native.Mathlib.Omega.{arith}
use lib.Dec.{eqb, ltb}
use borrow.Author.Tests.{eqb-true, eqb-false, ltb-true, ltb-false, eq-eqb, ne_eqb, lt-ltb, le-ltb}
use Rattle.rules.specs.declared.Bridge.{Bridge}
use Rattle.rules.specs.declared.Direction.{Direction}
use Rattle.rules.specs.declared.Direction.TheVariants.{Out, In}
use Rattle.rules.specs.declared.Lun.{Lun}
use Rattle.rules.specs.declared.Phase.TheVariants.{Busy}
use Rattle.rules.specs.Words.{one}
use Rattle.rules.specs.Held.{World}
use Rattle.rules.specs.Changes.{made}
use Rattle.rules.specs.Reports.{malformed, mismatch, finished}
use Rattle.rules.specs.Answers.{report_answer}
use Rattle.rules.specs.Step.{Report, change, step, rules}
use Rattle.rules.specs.Demands.Cases.{Inwards, Outwards, Case, cases, moved, falls_under, fitting, case_leaves, Each, ThirteenCases}

-- ---- where one case fits, what holds of the first that fits holds of each that does

module _ (l : ℕ) (host : Direction) (direction amount : ℕ) (P : Case → Type 0) where
  abbrev First : List Case → Type 0
  First [] = Unit {0}
  First (c ∷ cs) = cond (falls_under l host direction amount c) (P c) (First cs)

  abbrev Every : List Case → Type 0
  Every cs = Each (λ c. falls_under l host direction amount c ≡ true → P c) cs

  -- of no case, where none fits
  none_fits : (cs : List Case) → fitting l host direction amount cs ≡ 0 → Every cs
  none_fits [] n = tt
  none_fits (c ∷ cs) n =
      (λ e. absurd (let k : 1 + fitting l host direction amount cs ≡ 0 = rw e at n in omega arith), none_fits cs (omega arith))

  one_fits : (cs : List Case) → fitting l host direction amount cs ≡ 1 → First cs → Every cs
  one_fits [] n h = tt
  one_fits (c ∷ cs) n h = go (falls_under l host direction amount c) refl n h (one_fits cs)
    where
      go : (t : Bool) → falls_under l host direction amount c ≡ t → one t + fitting l host direction amount cs ≡ 1 → cond t (P c) (First cs)
          → (fitting l host direction amount cs ≡ 1 → First cs → Every cs) → Every (c ∷ cs)
      go true e n h more = (λ x. h, none_fits cs (omega arith))
      go false e n h more = (λ x. absurd (false≢true (sym e ∙ x)), more (omega arith) h)

-- ---- what a report with legal numbers says, and how L compares with its amount

-- it is not malformed
pub legal : (direction failed amount : ℕ) → direction ≤ 2 → failed ≤ 1 → (direction ≡ 0 → amount ≡ 0) → malformed direction failed amount ≡ false
unfolding malformed
legal direction failed amount d f a = rw (le-ltb 2 direction, le-ltb 1 failed) (go (eqb direction 0) refl)
  where
    go : (t : Bool) → eqb direction 0 ≡ t → (t && ltb 0 amount) ≡ false
    go true e = rw (a (eqb-true direction 0 e))
    go false e = refl

-- a number that is not 0 is above 0
positive : (n : ℕ) (t : Bool) → eqb n 0 ≡ t → ltb 0 n ≡ not t
positive n true e = rw (eqb-true n 0 e)
positive n false e = lt-ltb 0 n (omega (arith, eqb-false n 0 e))

-- what the drive moved: nothing, or some in a direction
data Drove (direction amount : ℕ) : Type 0 where
  still : amount ≡ 0 → Drove direction amount
  inward : direction ≡ 1 → ltb 0 amount ≡ true → moved direction amount ≡ Inwards → Drove direction amount
  outward : direction ≡ 2 → ltb 0 amount ≡ true → moved direction amount ≡ Outwards → Drove direction amount

drove : (direction amount : ℕ) → direction ≤ 2 → (direction ≡ 0 → amount ≡ 0) → Drove direction amount
drove direction amount d a = go (eqb amount 0) (eqb direction 1) refl refl
  where
    go : (z t : Bool) → eqb amount 0 ≡ z → eqb direction 1 ≡ t → Drove direction amount
    go true t e k = still (eqb-true amount 0 e)
    go false true e k = inward (eqb-true direction 1 k) (positive amount false e) (rw (e, k))
    go false false e k =
        let some : direction ≡ 0 → ⊥ = λ q. eqb-false amount 0 e (a q) in
        outward (omega (arith, eqb-false direction 1 k)) (positive amount false e) (rw (e, k))

-- L is more than the amount, equal or fewer
data Compared (l amount : ℕ) : Type 0 where
  more : ltb amount l ≡ true → eqb l amount ≡ false → ltb l amount ≡ false → Compared l amount
  equal : l ≡ amount → ltb amount l ≡ false → eqb l amount ≡ true → ltb l amount ≡ false → Compared l amount
  fewer : ltb amount l ≡ false → eqb l amount ≡ false → ltb l amount ≡ true → Compared l amount

compared : (l amount : ℕ) → Compared l amount
compared l amount = go (ltb amount l) (ltb l amount) refl refl
  where
    go : (t u : Bool) → ltb amount l ≡ t → ltb l amount ≡ u → Compared l amount
    go true u p q = more p (ne_eqb l amount (omega (arith, ltb-true))) (le-ltb l amount (omega (arith, ltb-true)))
    go false true p q = fewer p (ne_eqb l amount (omega (arith, ltb-true))) q
    go false false p q = let e : l ≡ amount = omega (arith, ltb-false) in equal e p (eq-eqb l amount e) q

-- ---- the thirteen cases

module _ (tag l failed direction amount : ℕ) (b next : Bridge) where
  -- the bridge is left as a case says
  abbrev Right : Direction → Case → Type 0
  Right host c = next ≡ case_leaves c host tag l failed amount b

  abbrev Settled : Direction → Type 0
  Settled host =
      (fitting l host direction amount cases ≡ 1) × First l host direction amount (Right host) cases

  abbrev Finished : Direction → Bool → Type 0
  Finished host wrong = next ≡ made (finished wrong host tag l failed amount) b

  -- one case fits, and the first that fits is right: with L = 0 one of the first three, which go by the drive alone
  settle_none : (host : Direction) → Finished host (mismatch l host direction amount) → l ≡ 0 → Drove direction amount → Settled host
  unfolding mismatch
  settle_none Out x n (still z) = rw (x, n, z) (refl, refl)
  settle_none Out x n (inward d q m) = rw (n, m) (refl, rw (n, d, q) at x)
  settle_none Out x n (outward d q m) = rw (n, m) (refl, rw (n, d, q) at x)
  settle_none In x n (still z) = rw (x, n, z) (refl, refl)
  settle_none In x n (inward d q m) = rw (n, m) (refl, rw (n, d, q) at x)
  settle_none In x n (outward d q m) = rw (n, m) (refl, rw (n, d, q) at x)

  -- .. else one of the ten, a line for each
  settle : (host : Direction) → Finished host (mismatch l host direction amount) → eqb l 0 ≡ false → ltb 0 l ≡ true
      → Drove direction amount → Compared l amount → Settled host
  unfolding mismatch
  settle In x n p (still z) h = rw (n, z) (refl, rw (n, z, p, le-ltb l 0 (omega arith), sub-zero) at x)
  settle In x n p (inward d q m) (more r s t) = rw (n, m, r, s, t) (refl, rw (n, d, q, p, r, t) at x)
  settle In x n p (inward d q m) (equal e r s t) = rw (n, m, r, s, t) (refl, rw (n, d, q, p, r, t, e, sub_self) at x)
  settle In x n p (inward d q m) (fewer r s t) = rw (n, m, r, s, t) (refl, rw (n, d, q, p, r, t) at x)
  settle In x n p (outward d q m) h = rw (n, m) (refl, rw (n, d, q, p) at x)
  settle Out x n p (still z) h = rw (n, z) (refl, rw (n, z, p, le-ltb l 0 (omega arith), sub-zero) at x)
  settle Out x n p (inward d q m) h = rw (n, m) (refl, rw (n, d, q, p) at x)
  settle Out x n p (outward d q m) (more r s t) = rw (n, m, r, s, t) (refl, rw (n, d, q, p, r, t) at x)
  settle Out x n p (outward d q m) (equal e r s t) = rw (n, m, r, s, t) (refl, rw (n, d, q, p, r, t, e, sub_self) at x)
  settle Out x n p (outward d q m) (fewer r s t) = rw (n, m, r, s, t) (refl, rw (n, d, q, p, r, t) at x)

-- a report that is not malformed is answered 0, and finishes the command
pub report_taken : (w : World) (host : Direction) (lun : Lun) (tag l : ℕ) (direction failed amount : ℕ) → w.bridge.configured ≡ true
    → w.bridge.phase ≡ Busy host lun tag l → malformed direction failed amount ≡ false
    → ((step w (Report direction failed amount)).answer ≡ 0)
    × ((step w (Report direction failed amount)).next.bridge
    ≡ made (finished (mismatch l host direction amount) host tag l failed amount) w.bridge)
unfolding step change report_answer
report_taken w host lun tag l direction failed amount c p m = (rw (c, p, m), rw (c, p, m))

pub thirteen_cases : ThirteenCases rules
thirteen_cases w host lun tag l direction failed amount c p d f a =
    let b : Bridge = w.bridge in
    let next : Bridge = (step w (Report direction failed amount)).next.bridge in
    let r = report_taken w host lun tag l direction failed amount c p (legal direction failed amount d f a) in
    let s = by (eqb l 0) refl r.1 in
    (s.0, r.0, one_fits l host direction amount (Right tag l failed direction amount b next host) cases s.0 s.1)
  where
    by : (t : Bool) → eqb l 0 ≡ t
        → (step w (Report direction failed amount)).next.bridge ≡ made (finished (mismatch l host direction amount) host tag l failed amount) w.bridge
        → Settled tag l failed direction amount w.bridge (step w (Report direction failed amount)).next.bridge host
    by true n x = settle_none tag l failed direction amount w.bridge _ host x (eqb-true l 0 n) (drove direction amount d a)
    by false n x = settle tag l failed direction amount w.bridge _ host x n (positive l _ n) (drove direction amount d a) (compared l amount)
