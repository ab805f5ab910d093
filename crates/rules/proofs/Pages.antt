-- Laws of the page rule, over every page size as a number; and of the four sizes.
use mathlib.Core.Path.{◌≡◌, refl, sym, ap, ◌∙◌}
use mathlib.Core.Bool.{Bool, true, false, ◌||◌}
use Prim.Native.Nat.{ℕ, ◌+◌, ◌-◌, ◌*◌, ◌/◌, ◌%◌, ◌<◌, ◌≤◌, ◌∣◌}
use native.Mathlib.Nat.{dvd_of_mod-eq-zero, div-add-mod, div-eq_of_lt, le-div_iff_mul-le, mod-lt, mul-add-div, one-mul}
use native.Mathlib.Omega.{arith}
use lib.Dec.{eqb, leb}
use borrow.Author.Tests.{eq-eqb, eqb-true, eqb-false, leb-true, leb-false, ne_eqb}
use Rattle.rules.specs.declared.PageSize.{PageSize}
use Rattle.rules.specs.declared.PageSize.TheVariants.{Of32, Of64, Of128, Of256}
use Rattle.rules.specs.Held.{page_bytes}
use Rattle.rules.specs.Requests.{one_page}

-- what lies so far behind the start of the page of a byte lies in it, as long as that is within the page
pub same_page : (page start k : ℕ) → 0 < page → start % page + k < page → (start + k) / page ≡ start / page
same_page page start k some h =
    let at : start + k ≡ page * (start / page) + (start % page + k) = omega (arith, div-add-mod start page) in
    ap (λ (x : ℕ). x / page) at ∙ mul-add-div some (start / page) (start % page + k) ∙ rw (div-eq_of_lt h) (omega arith)

-- .. and from its end on it does not
next_page : (page start k : ℕ) → 0 < page → page ≤ start % page + k → start / page < (start + k) / page
next_page page start k some h =
    let at : start + k ≡ page * (start / page) + (start % page + k) = omega (arith, div-add-mod start page) in
    let one : 1 ≤ (start % page + k) / page = (le-div_iff_mul-le some).1 (rw one-mul h) in
    rw at (rw (mul-add-div some (start / page) (start % page + k)) (omega arith))

-- n bytes lie in one page where they and what the page has before them are no more than a page
pub within_page : (page start n : ℕ) → 0 < page → one_page page start n ≡ leb (start % page + n) page
unfolding one_page
within_page page start n some = go (eqb n 0) refl (leb (start % page + n) page) refl
  where
    go : (t : Bool) → eqb n 0 ≡ t → (u : Bool) → leb (start % page + n) page ≡ u → (t || eqb (start / page) ((start + n - 1) / page)) ≡ u
    go true e true f = refl
    go true e false f = let z = eqb-true n 0 e in let l = leb-false _ page f in let r = mod-lt start some in absurd (omega arith)
    go false e true f =
        let n-some : 0 < n = omega (arith, eqb-false n 0 e) in
        let l = leb-true _ page f in
        let last : start + n - 1 ≡ start + (n - 1) = omega arith in
        eq-eqb _ _ (sym (ap (λ (x : ℕ). x / page) last ∙ same_page page start (n - 1) some (omega arith)))
    go false e false f =
        let n-some : 0 < n = omega (arith, eqb-false n 0 e) in
        let l = leb-false _ page f in
        let last : start + n - 1 ≡ start + (n - 1) = omega arith in
        let further = next_page page start (n - 1) some (omega arith) in
        ne_eqb _ _ (λ q. let s : start / page ≡ (start + (n - 1)) / page = q ∙ ap (λ (x : ℕ). x / page) last in omega arith)

-- a byte of a write that lies in one page lies in the page of its start
pub one_page_lem : (page start n j : ℕ) → 0 < page → one_page page start n ≡ true → start ≤ j → j < start + n → j / page ≡ start / page
one_page_lem page start n j some h from to =
    let l = leb-true _ page (sym (within_page page start n some) ∙ h) in
    let at : j ≡ start + (j - start) = omega arith in
    ap (λ (x : ℕ). x / page) at ∙ same_page page start (j - start) some (omega arith)

-- ---- the four sizes

pub some_bytes : (page : PageSize) → 0 < page_bytes page
some_bytes Of32 = omega arith
some_bytes Of64 = omega arith
some_bytes Of128 = omega arith
some_bytes Of256 = omega arith

-- each is a multiple of eight
pub eights_in : (page : PageSize) → 8 ∣ page_bytes page
eights_in Of32 = dvd_of_mod-eq-zero 8 refl
eights_in Of64 = dvd_of_mod-eq-zero 8 refl
eights_in Of128 = dvd_of_mod-eq-zero 8 refl
eights_in Of256 = dvd_of_mod-eq-zero 8 refl

-- .. and of 32, and divides 256
pub in_32s : (page : PageSize) → page_bytes page ≡ 32 * (page_bytes page / 32)
in_32s Of32 = refl
in_32s Of64 = refl
in_32s Of128 = refl
in_32s Of256 = refl

pub divides_256 : (page : PageSize) → 256 ≡ page_bytes page * (256 / page_bytes page)
divides_256 Of32 = refl
divides_256 Of64 = refl
divides_256 Of128 = refl
divides_256 Of256 = refl
