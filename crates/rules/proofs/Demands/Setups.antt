-- A setup that a host made is taken for what it asks, and what is accepted was so made.
use mathlib.Core.Path.{◌≡◌, refl, sym, subst, ◌∙◌}
use mathlib.Core.Logic.{◌⊎◌, inl, inr}
use mathlib.Core.Bool.{Bool, true, false, ◌||◌, false≢true}
use mathlib.Core.List.{List, ◌∷◌}
use Prim.Native.Nat.{ℕ, ◌+◌, ◌/◌, ◌%◌}
use native.Mathlib.Omega.{arith}
use lib.ListN.{length, drop_of_length-le}
use lib.Dec.{eqb}
use borrow.Author.Tests.{eqb-true, not-false}
use Rattle.rules.specs.declared.Setup.{Setup}
use Rattle.rules.specs.Words.{byte, word}
use Rattle.rules.specs.Requests.{Named, table, setup_of, request_of, is_unknown}
use Rattle.rules.specs.Answers.{seen_of}
use Rattle.rules.specs.Step.{step, rules}
use Rattle.rules.specs.Demands.Requests.{wire}
use Rattle.rules.specs.Demands.WellFormed.{Bytes}
use Rattle.rules.specs.Demands.Makers.{Asks, set_configuration, get_configuration, clear_feature, get_status, get_max_lun, mass_storage_reset, load_config_data, read_config_data, soft_reset, bogus_read, get_descriptor, AskedIsFound, AcceptedWasAsked}
use Rattle.rules.proofs.Checks.{EachRow, ◌also◌, request_each, request_passed}
use Rattle.rules.proofs.Rows.{in_parts}

pub asked_is_found : AskedIsFound (λ setup. request_of (setup_of setup))
unfolding request_of
asked_is_found setup q (set_configuration v (inl e)) = rw e
asked_is_found setup q (set_configuration v (inr e)) = rw e
asked_is_found setup q get_configuration = refl
asked_is_found setup q (clear_feature i (inl e)) = rw e
asked_is_found setup q (clear_feature i (inr e)) = rw e
asked_is_found setup q (get_status i (inl e)) = rw e
asked_is_found setup q (get_status i (inr e)) = rw e
asked_is_found setup q get_max_lun = refl
asked_is_found setup q mass_storage_reset = refl
asked_is_found setup q (load_config_data place start n) = refl
asked_is_found setup q (read_config_data place start n) = refl
asked_is_found setup q soft_reset = refl
asked_is_found setup q (bogus_read value index n) = refl
asked_is_found setup q (get_descriptor value index n) = refl

pub asked_known : {setup : List ℕ} {q : Named} → Asks setup q → is_unknown q ≡ false
asked_known (set_configuration value e) = refl
asked_known get_configuration = refl
asked_known (clear_feature index e) = refl
asked_known (get_status index e) = refl
asked_known get_max_lun = refl
asked_known mass_storage_reset = refl
asked_known (load_config_data place start n) = refl
asked_known (read_config_data place start n) = refl
asked_known soft_reset = refl
asked_known (bogus_read value index n) = refl
asked_known (get_descriptor value index n) = refl

-- eight bytes are the wire form of their fields
rewired : (setup : List ℕ) → Bytes setup → length setup ≡ 8
    → setup ≡ wire (byte 0 setup) (byte 1 setup) (word 2 setup) (word 4 setup) (word 6 setup)
rewired setup h n =
    in_parts 0 8 setup (omega arith)
    ∙ λ i. byte 0 setup ∷ byte 1 setup ∷ low 2 i ∷ high 2 i ∷ low 4 i ∷ high 4 i ∷ low 6 i ∷ high 6 i ∷ drop_of_length-le setup {i = 8} (omega arith) i
  where
    low : (k : ℕ) → byte k setup ≡ word k setup % 256
    low k = omega (arith, h k)

    high : (k : ℕ) → byte (k + 1) setup ≡ word k setup / 256
    high k = omega (arith, h k)

pub one_of : (x m n : ℕ) → (eqb x m || eqb x n) ≡ true → (x ≡ m) ⊎ (x ≡ n)
one_of x m n h = go (eqb x m) refl (eqb x n) refl h
  where
    go : (t : Bool) → eqb x m ≡ t → (u : Bool) → eqb x n ≡ u → (t || u) ≡ true → (x ≡ m) ⊎ (x ≡ n)
    go true e u f h = inl (eqb-true x m e)
    go false e true f h = inr (eqb-true x n f)
    go false e false f h = absurd (false≢true h)

module _ (setup : List ℕ) (whole : setup ≡ wire (byte 0 setup) (byte 1 setup) (word 2 setup) (word 4 setup) (word 6 setup)) where
  abbrev s : Setup
  s = setup_of setup

  -- a request that is made as the wire form of a setup's fields is made as the setup
  asks : {q : Named} {k c v i n : ℕ} → s.kind ≡ k → s.code ≡ c → s.value ≡ v → s.index ≡ i → s.length ≡ n → Asks (wire k c v i n) q → Asks setup q
  asks {q} k c v i n a = subst (λ (x : List ℕ). Asks x q) (sym (whole ∙ λ j. wire (k j) (c j) (v j) (i j) (n j))) a

  each_asks : EachRow (Asks setup) s table
  each_asks =
      (λ h. asks h.kind h.code refl (fixed h.index) (fixed h.length) (set_configuration s.value (one_of _ 0 2 h.value)))
      also (λ h. asks h.kind h.code (fixed h.value) (fixed h.index) (fixed h.length) get_configuration)
      also (λ h. asks h.kind h.code (fixed h.value) refl (fixed h.length) (clear_feature s.index (one_of _ 0x01 0x82 h.index)))
      also (λ h. asks h.kind h.code (fixed h.value) refl (fixed h.length) (get_status s.index (one_of _ 0x01 0x82 h.index)))
      also (λ h. asks h.kind h.code (fixed h.value) (fixed h.index) (fixed h.length) get_max_lun)
      also (λ h. asks h.kind h.code (fixed h.value) (fixed h.index) (fixed h.length) mass_storage_reset)
      also (λ h. asks h.kind h.code refl refl refl (load_config_data s.value s.index s.length))
      also (λ h. asks h.kind h.code refl refl refl (read_config_data s.value s.index s.length))
      also (λ h. asks h.kind h.code (fixed h.value) (fixed h.index) (fixed h.length) soft_reset)
      also (λ h. asks h.kind h.code refl refl refl (bogus_read s.value s.index s.length))
      also (λ h. asks h.kind h.code refl refl refl (get_descriptor s.value s.index s.length))
      also tt
    where
      fixed : {x n : ℕ} → eqb x n ≡ true → x ≡ n
      fixed e = eqb-true _ _ e

pub accepted_was_asked : AcceptedWasAsked rules
unfolding step
accepted_was_asked w setup host room h a =
    let k = request_passed (seen_of w) w.memory setup (length host) room a in
    let s : Setup = setup_of setup in
    (request_of s, request_each (Asks setup) s (each_asks setup (rewired setup h (eqb-true _ 8 (not-false _ k.0)))) k.1.1.0)
