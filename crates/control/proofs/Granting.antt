-- From the judgement of a request to what it leaves: refused, granted and served, or found.
use mathlib.Core.Path.{◌≡◌, refl, sym, subst}
use mathlib.Core.Bool.{Bool, true, false, true≢false}
use mathlib.Core.List.{List}
use Prim.Native.Nat.{ℕ}
use Rattle.std.specs.Prelude.{Result, Ok, Err}
use lib.ListN.{length}
use borrow.Author.Tests.{eqb-true}
use Rattle.rules.specs.declared.Change.TheVariants.{Nothing}
use Rattle.rules.specs.declared.Setup.{Setup}
use Rattle.rules.specs.declared.Stands.TheVariants.{InMemory}
use Rattle.rules.specs.Held.{World}
use Rattle.rules.specs.Requests.{Named, Unknown, Known, Describes, setup_of, request_of, is_unknown}
use Rattle.rules.specs.Answers.{seen_of}
use Rattle.rules.specs.Step.{Control, done}
use Rattle.rules.specs.Promise.{left_at, left, leaves, served}
use Rattle.rules.proofs.Checks.{request_undamaged, request_passed}
use Rattle.rules.proofs.Promises.{control_answer, control_refused, control_done, control_found}
use Rattle.requests.specs.declared.Granted.{Granted}
use Rattle.requests.specs.declared.Granted.TheVariants.{Request, Descriptor}
use Rattle.requests.specs.Judgements.{judged, judged_as}

module _ (w : World) (setup host room : List ℕ) where
  -- what the bridge leaves, by the judgement
  abbrev By : Result Granted ℕ → Type 0
  By (Err n) = left n 0 Nothing w.bytes w.memory room ≡ leaves w (Control setup host) room
  By (Ok (Request r s)) = length w.bytes ≡ 16 → served r s host w room ≡ leaves w (Control setup host) room
  By (Ok (Descriptor part)) = left_at (InMemory part.start) 0 part.length Nothing w.bytes w.memory room ≡ leaves w (Control setup host) room

  right : By (judged (seen_of w) w.memory (control_answer w setup host room) (setup_of setup))
  right = go (request_of s) refl (done answer) refl
    where
      s : Setup
      s = setup_of setup

      answer : ℕ
      answer = control_answer w setup host room

      refuses : done answer ≡ false → By (Err answer)
      refuses d =
          rw (request_undamaged (seen_of w) w.memory setup (length host) (length room))
          at (control_refused w setup host room answer refl d)

      known : answer ≡ 0 → is_unknown (request_of s) ≡ false
      known z = (request_passed (seen_of w) w.memory setup (length host) (length room) z).1.1.0

      go : (q : Named) → request_of s ≡ q → (t : Bool) → done answer ≡ t → By (judged_as (seen_of w) w.memory q s answer)
      go Unknown e true d = absurd (true≢false (rw e at (known (eqb-true answer 0 d))))
      go Unknown e false d = refuses d
      go (Known r) e true d = rw d (λ sixteen. control_done w setup host room r e sixteen (eqb-true answer 0 d))
      go (Known r) e false d = rw d (refuses d)
      go Describes e true d = rw d (control_found w setup host room e (eqb-true answer 0 d))
      go Describes e false d = rw d (refuses d)

  pub by_judgement : {j : Result Granted ℕ} → j ≡ judged (seen_of w) w.memory (control_answer w setup host room) (setup_of setup) → By j
  by_judgement e = subst By (sym e) right
