-- "No second outcome": what is said of each public function's own contract, as the toolchain reads it from the source.
use Rattle.std.specs.Prelude.{◌≡◌, List, ℕ}
use contract.Lifetimes.{Lfts}
use Rattle.std.specs.Borrow.{Bor}
use denote.Triple.Clauses.{Lasts, at_exit}
use borrow.Fn.Kinds.{ParamKind, ResultKind, Out, Dens, res_t, ended_of}

-- Of n lifetimes, the parameters' kinds and the result's kind, and an `ensures`: two results, each with what every `&mut` parameter has behind it
-- at the end, that satisfy it of the same arguments, are the same.
abbrev pub OneOutcome : {n : ℕ} (parameters : List (ParamKind n)) (result : ResultKind n) → Out n parameters result → Type 0
OneOutcome {n} parameters result ensures =
    (κs : Lfts n) (arguments : Dens κs parameters) (r r' : (res_t result κs).Denot) (left left' : Lasts (ended_of n parameters result) κs arguments)
    → (let exit = at_exit (ended_of n parameters result) κs arguments in
    ensures κs arguments r (exit left) → ensures κs arguments r' (exit left') → (r ≡ r') × (left ≡ left'))

-- .. of a function that gives back a slice of bytes: the two point to the same place and have the same bytes there. Under which name the logic keeps a
-- reference is no outcome, and no program sees it.
abbrev pub OnePart : {n : ℕ} (parameters : List (ParamKind n)) (result : ResultKind n) → ((κs : Lfts n) → (res_t result κs).Denot → Bor (List ℕ)) → Out n parameters result → Type 0
OnePart {n} parameters result slice ensures =
    (κs : Lfts n) (arguments : Dens κs parameters) (r r' : (res_t result κs).Denot) (left left' : Lasts (ended_of n parameters result) κs arguments)
    → (let exit = at_exit (ended_of n parameters result) κs arguments in
    ensures κs arguments r (exit left) → ensures κs arguments r' (exit left')
    → ((slice κs r).ref_ptr ≡ (slice κs r').ref_ptr) × ((slice κs r).now ≡ (slice κs r').now) × (left ≡ left'))
