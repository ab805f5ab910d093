-- Each shut-out bridge breaks its demand, at one event that is computed.
use mathlib.Core.Path.{◌≡◌, refl, sym, ap, ◌∙◌}
use mathlib.Core.Bool.{Bool, true, false, true≢false, false≢true}
use mathlib.Core.List.{List, [], ◌∷◌}
use Prim.Native.Nat.{ℕ}
use native.Mathlib.Omega.{arith}
use lib.Dec.{eqb}
use lib.ListN.{length}
use Rattle.rules.specs.declared.Dock.{Dock}
use Rattle.rules.specs.declared.Drives.TheVariants.{One}
use Rattle.rules.specs.declared.PageSize.TheVariants.{Of256}
use Rattle.rules.specs.Words.{over}
use Rattle.rules.specs.Held.{World, Start, docked, by_default, is_awaiting}
use Rattle.rules.specs.Requests.{request_of, address, one_page}
use Rattle.rules.specs.Packets.{valid, sensible, meaningful, recognised}
use Rattle.rules.specs.Operations.{operations_of}
use Rattle.rules.specs.Reports.{malformed, mismatch}
use Rattle.rules.specs.Answers.{request_answer, packet_answer, report_answer, status_answer}
use Rattle.rules.specs.Step.{BusReset, Packet, Report, StatusRequest, change, step, rules, reached}
use Rattle.rules.specs.Demands.Requests.{wire}
use Rattle.rules.specs.Demands.Boundary.{Ready}
use Rattle.rules.specs.Demands.Examples.{configure, identify, identifying}
use Rattle.rules.specs.Demands.ShutOut.{performs_first, ShutOut}

-- any dock will do
abbrev dock : Dock
dock = docked false Of256 One

abbrev start : Start
start = by_default dock

abbrev configured : World
configured = reached rules start [] (configure ∷ [])

-- a bridge that has performed its first command
abbrev performed : World × Bool
performed = reached performs_first start [] (configure ∷ identify 0x80 ∷ Report 1 0 512 ∷ StatusRequest 13 ∷ [])

-- a bridge that a damaged packet finds ready
calm : Ready configured
unfolding step change request_of request_answer
calm = record { configured = refl; awaits = refl; out_runs = refl; in_runs = refl }

abbrev waits : World → Bool
waits w = is_awaiting w.bridge.phase

differ : {A : Type 0} (test : A → Bool) {x y : A} → x ≡ y → test x ≡ true → test y ≡ false → ⊥
differ test e p q = true≢false (sym p ∙ ap test e ∙ q)

pub shut_out : ShutOut
unfolding over step change request_of address one_page request_answer packet_answer report_answer status_answer valid sensible meaningful recognised operations_of malformed mismatch
shut_out = (
  λ h. false≢true (h dock),
  λ h. differ (eqb 0) ((h configured (wire 0xC0 0x02 0 4 1) [] 1 refl refl refl refl).1 0 (omega arith)) refl refl,
  λ h. differ (eqb 0x24) ((h configured (wire 0x40 0x01 0 4 1) (0x25 ∷ []) 0 refl refl refl).0.1 4) refl refl,
  λ h. differ (λ (l : List ℕ). eqb (length l) 0) (h performed (identifying 0x80) 11 refl) refl refl,
  λ h. differ (λ (l : List ℕ). eqb (length l) 5) (h start [] (configure ∷ []) (Packet [] 0) (identify 0x80 ∷ []) (record { ready = calm; damages = refl; lasts = refl })).2.0 refl refl,
  λ h. differ waits (sym (h start [] (configure ∷ []) (Packet [] 0) [] BusReset (record { ready = calm; damages = refl; lasts = refl }) refl)) refl refl,
  λ h. differ (λ (l : List ℕ). eqb (length l) 6) (h configured (identifying 0x80) 11 refl) refl refl,
)
