-- The reply of an accepted request that is done is wLength bytes, so there is room for it; and a read lies in its place.
use mathlib.Core.Path.{◌≡◌, refl}
use mathlib.Core.Bool.{Bool, true, false, cond, ◌&&◌, and-eq-true_iff}
use mathlib.Core.List.{List}
use Prim.Native.Nat.{ℕ, ◌+◌, ◌≤◌}
use native.Mathlib.Omega.{arith}
use lib.Dec.{leb, ltb}
use lib.ListN.{length, drop, length-drop, length-replicate}
use lib.Seq.{length-take-le}
use borrow.Author.Tests.{eqb-true, leb-true, ltb-false, not-false}
use Rattle.rules.specs.declared.Request.{Request}
use Rattle.rules.specs.declared.Request.TheVariants.{SetConfiguration, GetConfiguration, ClearFeature, GetStatus, GetMaxLun, MassStorageReset, LoadConfigData, ReadConfigData, SoftReset, BogusRead}
use Rattle.rules.specs.declared.Setup.{Setup}
use Rattle.rules.specs.Held.{World, size_of}
use Rattle.rules.specs.Requests.{Named, Unknown, Known, Describes, is_unknown, table, setup_of, request_of, in_memory, address, returned, store_of, reply_to, replies}
use Rattle.rules.specs.Answers.{seen_of, request_answer}
use Rattle.rules.proofs.Checks.{EachRow, ◌also◌, request_each, request_passed}

-- what a setup makes that is to be done replies what wLength says
abbrev Replying : Setup → Named → Type 0
Replying s Unknown = Unit {0}
Replying s (Known r) = returned false s ≡ replies r s
Replying s Describes = Unit {0}

request_replies : (s : Setup) → is_unknown (request_of s) ≡ false → Replying s (request_of s)
request_replies s u = request_each (Replying s) s rows u
  where
    rows : EachRow (Replying s) s table
    rows =
        (λ h. rw h.kind)
        also (λ h. rw h.kind (eqb-true _ _ h.length))
        also (λ h. rw h.kind)
        also (λ h. rw h.kind (eqb-true _ _ h.length))
        also (λ h. rw h.kind (eqb-true _ _ h.length))
        also (λ h. rw h.kind)
        also (λ h. rw h.kind)
        also (λ h. rw h.kind)
        also (λ h. rw h.kind)
        also (λ h. rw h.kind)
        also (λ h. tt)
        also tt

-- an address that is right lies in its place
pub inside : (writes : Bool) (w : World) (place start n : ℕ) → length w.bytes ≡ 16 → address writes (size_of w.memory) place start n ≡ true
    → start + n ≤ length (store_of place w)
unfolding address
inside writes w place start n sixteen a = go (in_memory place) a
  where
    go : (y : Bool) → cond y (ltb start (size_of w.memory) && leb (start + n) (size_of w.memory)) (leb (cond writes 2 0) start && leb start 15 && leb (start + n) 16) ≡ true
        → start + n ≤ length (cond y w.memory w.bytes)
    go true a =
        let l : start + n ≤ size_of w.memory = leb-true _ _ ((and-eq-true_iff (ltb start (size_of w.memory)) _).0 a).1 in
        omega arith
    go false a =
        let l : start + n ≤ 16 = leb-true _ _ ((and-eq-true_iff (leb (cond writes 2 0) start && leb start 15) _).0 a).1 in
        omega arith

-- ---- what an accepted request has

module _ (w : World) (setup : List ℕ) (host room : ℕ) (sixteen : length w.bytes ≡ 16)
    (accepted : request_answer (seen_of w) w.memory setup host room ≡ 0) where
  abbrev s : Setup
  s = setup_of setup

  pub read_inside : request_of s ≡ Known ReadConfigData → s.index + s.length ≤ length (store_of s.value w)
  read_inside e =
      let p = request_passed (seen_of w) w.memory setup host room accepted in
      inside false w s.value s.index s.length sixteen
      (not-false (address false (size_of w.memory) s.value s.index s.length) (rw e at p.1.1.1.1.1.0))

  module _ (r : Request) (named : request_of s ≡ Known r) where
    pub reply_count : length (reply_to (Known r) s w) ≡ replies r s
    reply_count = go r named
      where
        go : (r : Request) → request_of s ≡ Known r → length (reply_to (Known r) s w) ≡ replies r s
        go SetConfiguration h = refl
        go GetConfiguration h = refl
        go ClearFeature h = refl
        go GetStatus h = refl
        go GetMaxLun h = refl
        go MassStorageReset h = refl
        go LoadConfigData h = refl
        go ReadConfigData h =
            let k : s.index + s.length ≤ length (store_of s.value w) = read_inside h in
            length-take-le s.length (drop s.index (store_of s.value w)) (rw length-drop (omega arith))
        go SoftReset h = refl
        go BogusRead h = length-replicate s.length 0

    pub reply_fits : length (reply_to (Known r) s w) ≤ room
    reply_fits =
        let p = request_passed (seen_of w) w.memory setup host room accepted in
        let n : length (reply_to (Known r) s w) ≡ replies r s = reply_count in
        let k : returned false s ≡ replies r s = rw named at (request_replies s p.1.1.0) in
        let l : returned false s ≤ room = ltb-false room (returned false s) (rw named at p.1.1.1.1.1.1.1.1.1.1.1.1.1.0) in
        omega arith
