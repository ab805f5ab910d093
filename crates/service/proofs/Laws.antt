-- A law of what the call that mends lists.
use Prim.Native.Nat.{ℕ, ◌≤◌}
use mathlib.Core.Path.{◌≡◌, refl, ap, ◌∙◌}
use mathlib.Core.Bool.{Bool, true, false}
use mathlib.Core.List.{List}
use native.Mathlib.Omega.{arith}
use lib.ListN.{length}
use lib.Dec.{ltb}
use borrow.Author.Tests.{ltb-true, ltb-false}
use Rattle.mend.specs.Mend.{Mending, changes, Left, left, mends}
use Rattle.mend.proofs.Answers.{refused_is_as_found}
use Rattle.mend.proofs.Listed.{thirteen_at_most}

-- of a mending thirteen changes are listed at most
pub few_listed : (image list : List ℕ) {m : Mending} {after now : List ℕ} → left m after now ≡ mends image list → m.changes ≤ 13
few_listed image list {m} says = go (ltb (length image) 0x89) refl (ltb (length list) (length (changes image))) refl
  where
    listed : {l : Left} → mends image list ≡ l → m.changes ≡ l.comes_to.changes
    listed e = ap (λ (l : Left). l.comes_to.changes) (says ∙ e)

    go : (t : Bool) → ltb (length image) 0x89 ≡ t → (u : Bool) → ltb (length list) (length (changes image)) ≡ u → m.changes ≤ 13
    go true e u f = omega (arith, listed ((refused_is_as_found image list).0 (ltb-true (length image) 0x89 e)))
    go false e true f =
        let long = ltb-false (length image) 0x89 e in
        omega (arith, listed ((refused_is_as_found image list).1 long (ltb-true (length list) (length (changes image)) f)))
    go false e false f =
        let long = ltb-false (length image) 0x89 e in
        omega (arith, listed ((refused_is_as_found image list).2 long (ltb-false (length list) (length (changes image)) f)), thirteen_at_most image long)
