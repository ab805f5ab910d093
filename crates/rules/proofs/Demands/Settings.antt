-- Settings at power-on, and put back there.
use mathlib.Core.Path.{◌≡◌, refl, sym, ap, ◌∙◌}
use mathlib.Core.Bool.{Bool, true, false, cond, not, ◌&&◌, and-eq-true_iff}
use mathlib.Core.List.{List, [], ◌∷◌, ◌++◌}
use Prim.Native.Nat.{ℕ, zero, suc, ◌+◌, ◌≤◌}
use native.Mathlib.Omega.{arith}
use lib.Dec.{eqb, leb}
use lib.ListN.{length, take, drop, length-drop, take-append-drop}
use lib.Seq.{take_all}
use borrow.Author.Tests.{eqb-true, leb-true}
use Rattle.rules.specs.declared.Request.TheVariants.{LoadConfigData}
use Rattle.rules.specs.Words.{byte, word, over}
use Rattle.rules.specs.Held.{World, powered, power_on_bytes}
use Rattle.rules.specs.Requests.{Named, Known, setup_of, request_of, is_a, in_memory, address, bytes_after}
use Rattle.rules.specs.Answers.{seen_of, request_answer}
use Rattle.rules.specs.Step.{Event, BusReset, Control, Packet, Report, StatusRequest, Burst, EndMark, answer, bytes_done, done, change, step, rules, after}
use Rattle.rules.specs.Demands.Requests.{is_write}
use Rattle.rules.specs.Demands.Settings.{SettingsAreRead, OnlySettings, SettingsAreAsWritten, SavedIsRestored}
use Rattle.rules.proofs.Checks.{accepted_write}
use Rattle.rules.proofs.Rows.{over-length, over_all}
use Rattle.rules.proofs.Demands.Requests.{is_load, no_other_writes}

-- of fourteen bytes, all stand at their addresses
pub addressed : (settings : List ℕ) → length settings ≡ 14 → over power_on_bytes 2 settings ≡ 0 ∷ 0 ∷ settings
unfolding over
addressed settings h = ap (λ (l : List ℕ). 0 ∷ 0 ∷ l) (over_all (drop 2 power_on_bytes) settings h)

pub only_settings : OnlySettings rules
unfolding over
only_settings start memory = (refl, refl, refl, refl)

pub settings_are_read : SettingsAreRead rules
unfolding step change request_of request_answer address
settings_are_read start memory h =
    (refl, ap (take 16) (addressed start.settings h) ∙ ap (λ (l : List ℕ). 0 ∷ 0 ∷ l) (take_all 14 start.settings (omega arith)))

pub settings_are_as_written : SettingsAreAsWritten rules
unfolding step change request_of request_answer address over
settings_are_as_written start memory h = rw h refl

-- ---- what a dock holds can be put back, for nothing writes its first two bytes

first_two : (row : List ℕ) (at : ℕ) (xs : List ℕ) → 2 ≤ at → take 2 (over row at xs) ≡ take 2 row
unfolding over
first_two row zero xs h = absurd (omega arith)
first_two row (suc zero) xs h = absurd (omega arith)
first_two [] (suc (suc at)) xs h = refl
first_two (r ∷ []) (suc (suc at)) xs h = refl
first_two (r ∷ q ∷ row) (suc (suc at)) xs h = refl

-- a write to the configuration bytes starts behind them
module _ (w : World) (setup host : List ℕ) (room : ℕ) (load : request_of (setup_of setup) ≡ Known LoadConfigData)
    (a : request_answer (seen_of w) w.memory setup (length host) room ≡ 0) where
  behind : in_memory (word 2 setup) ≡ false → 2 ≤ word 4 setup
  unfolding address
  behind e =
      let inside = rw e at (accepted_write (seen_of w) w.memory setup (length host) room load a).1 in
      let start = ((and-eq-true_iff (leb 2 (word 4 setup) && leb (word 4 setup) 15) (leb (word 4 setup + word 6 setup) 16)).0 inside).0 in
      leb-true 2 (word 4 setup) ((and-eq-true_iff (leb 2 (word 4 setup)) (leb (word 4 setup) 15)).0 start).0

  write_keeps : take 2 (bytes_after (Known LoadConfigData) (setup_of setup) host w.bytes) ≡ take 2 w.bytes
  write_keeps = go (in_memory (word 2 setup)) refl
    where
      go : (t : Bool) → in_memory (word 2 setup) ≡ t → take 2 (cond (not t) (over w.bytes (word 4 setup) host) w.bytes) ≡ take 2 w.bytes
      go true e = refl
      go false e = first_two w.bytes (word 4 setup) host (behind e)

  step_keeps_write : take 2 (step w (Control setup host room)).next.bytes ≡ take 2 w.bytes
  unfolding step
  step_keeps_write = rw a (ap (λ (r : Named). take 2 (bytes_after r (setup_of setup) host w.bytes)) load ∙ write_keeps)

keeps_two : (w : World) (e : Event) → take 2 (step w e).next.bytes ≡ take 2 w.bytes
unfolding step
keeps_two w BusReset = refl
keeps_two w (Control setup host room) = go (is_write (Control setup host room)) refl (done (answer w (Control setup host room))) refl
  where
    go : (t : Bool) → is_write (Control setup host room) ≡ t → (u : Bool) → done (answer w (Control setup host room)) ≡ u
        → take 2 (step w (Control setup host room)).next.bytes ≡ take 2 w.bytes
    go false e u f = ap (take 2) (no_other_writes w (Control setup host room) e).0
    go true e false f = rw f refl
    go true e true f =
        let pair = (and-eq-true_iff (eqb (byte 0 setup) 0x40) (eqb (byte 1 setup) 0x01)).0 e in
        step_keeps_write w setup host room (is_load (setup_of setup) (eqb-true (byte 0 setup) 0x40 pair.0) (eqb-true (byte 1 setup) 0x01 pair.1))
        (eqb-true (answer w (Control setup host room)) 0 f)
keeps_two w (Packet p room) = ap (take 2) (no_other_writes w (Packet p room) refl).0
keeps_two w (Report direction failed amount) = ap (take 2) (no_other_writes w (Report direction failed amount) refl).0
keeps_two w (StatusRequest room) = ap (take 2) (no_other_writes w (StatusRequest room) refl).0
keeps_two w (Burst bytes) = ap (take 2) (no_other_writes w (Burst bytes) refl).0
keeps_two w (EndMark room) = ap (take 2) (no_other_writes w (EndMark room) refl).0

-- nor do they become more or fewer
written : (bytes : List ℕ) (e : Event) → length (bytes_done bytes e) ≡ length bytes
written bytes BusReset = refl
written bytes (Control setup host room) = go (is_a LoadConfigData (request_of (setup_of setup)) && not (in_memory (word 2 setup)))
  where
    go : (t : Bool) → length (cond t (over bytes (word 4 setup) host) bytes) ≡ length bytes
    go true = over-length bytes (word 4 setup) host
    go false = refl
written bytes (Packet p room) = refl
written bytes (Report direction failed amount) = refl
written bytes (StatusRequest room) = refl
written bytes (Burst burst) = refl
written bytes (EndMark room) = refl

pub keeps_count : (w : World) (e : Event) → length (step w e).next.bytes ≡ length w.bytes
unfolding step
keeps_count w e = go (done (answer w e))
  where
    go : (t : Bool) → length (cond t (bytes_done w.bytes e) w.bytes) ≡ length w.bytes
    go true = written w.bytes e
    go false = refl

-- as at power-on
record Fronted (w : World) : Type 0 where
  sixteen : length w.bytes ≡ 16
  front : take 2 w.bytes ≡ 0 ∷ 0 ∷ []

fronted : (w : World) (history : List Event) → Fronted w → Fronted (after rules w history)
fronted w [] f = f
fronted w (e ∷ es) f =
    fronted (step w e).next es (record { sixteen = keeps_count w e ∙ f.sixteen; front = keeps_two w e ∙ f.front })

pub saved_is_restored : SavedIsRestored rules
unfolding over
saved_is_restored start memory history =
    let w : World = after rules (powered start memory) history in
    let f = fronted (powered start memory) history (record { sixteen = over-length power_on_bytes 2 start.settings; front = refl }) in
    addressed (drop 2 w.bytes) (length-drop 2 w.bytes ∙ omega (arith, f.sixteen))
    ∙ ap (λ (l : List ℕ). l ++ drop 2 w.bytes) (sym f.front) ∙ take-append-drop 2 w.bytes
