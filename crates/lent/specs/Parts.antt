-- A part of a lent slice, as a reference: the caller's own bytes, and not a copy of them.
use Rattle.std.specs.Prelude.{◌≡◌, List, ℕ, ◌+◌, min, length, take, drop}
use Rattle.std.specs.Borrow.{Bor}

-- r is n bytes of s, from a place on and as far as s goes; and it points to where they lie in s, or to its end
pub record PartOf (s : Bor (List ℕ)) (from n : ℕ) (r : Bor (List ℕ)) : Type 0 where
  pub bytes : r.now ≡ take n (drop from s.now)
  pub points : r.ref_ptr ≡ (s.ref_ptr.0, min from (length s.now) + s.ref_ptr.1)
