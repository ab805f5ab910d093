-- No second outcome: each public function's own contract has one.
use mathlib.Core.Path.{◌≡◌, refl, sym, ap}
use Rattle.std.specs.Prelude.{Result, Ok, Err}
use Rattle.std.specs.Result.{result_unwrap_or}
use Rattle.rules.specs.declared.refusals.Refusal.{Refusal}
use Rattle.rules.specs.Numbered.{answer_of}
use Rattle.rules.proofs.Numbered.{refusal_tells, not_done}
use Rattle.rules.specs.OneOutcome.{OneOutcome}
use Rattle.rules.proofs.Unique.{only}
use Rattle.settings.specs.Store.{Reading, hidden, Written}
use Rattle.settings.proofs.SettingsDefault.default as SettingsDefault
use Rattle.settings.proofs.read as Read
use Rattle.settings.proofs.write as Write

-- a result is known by its number and by its value, if it has one
tells : {A : Type 0} (none : A) (r s : Result A Refusal) → answer_of r ≡ answer_of s → result_unwrap_or r none ≡ result_unwrap_or s none → r ≡ s
tells none (Ok x) (Ok y) same values = ap Ok values
tells none (Ok x) (Err e) same values = absurd (not_done e (sym same))
tells none (Err d) (Ok y) same values = absurd (not_done d same)
tells none (Err d) (Err e) same values = ap Err (refusal_tells d e same)

pub «SettingsDefault::default» : OneOutcome SettingsDefault.Kinds.ps SettingsDefault.Kinds.r SettingsDefault.Reads.Post
«SettingsDefault::default» κs a r r' left left' p q = (only p q, refl)

pub read : OneOutcome Read.Kinds.ps Read.Kinds.r Read.Reads.Post
read κs a r r' left left' p q = (tells hidden r r' (ap (λ (s : Reading). s.answer) (only p q)) (ap (λ (s : Reading). s.settings) (only p q)), refl)

pub write : OneOutcome Write.Kinds.ps Write.Kinds.r Write.Reads.Post
write κs a r r' left left' p q = (tells tt r r' (ap (λ (w : Written). w.answer) (only p q)) refl, ap (λ (w : Written). (tt, (w.room, tt))) (only p q))
