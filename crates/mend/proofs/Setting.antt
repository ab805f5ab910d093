-- Laws of the loop that sets and lists: what is so at each of its turns.
use Prim.Native.Nat.{ℕ, ◌+◌, ◌<◌, ◌≤◌}
use mathlib.Core.Path.{◌≡◌, sym, ap, ◌∙◌}
use mathlib.Core.List.{List, [], ◌∷◌, ◌++◌, map, map-append, append_assoc}
use native.Mathlib.Omega.{arith}
use lib.ListN.{length, set, drop, length-append, length-map}
use lib.Seq.{set-get_or, set_at}
use Rattle.std.proofs.lemmas.List.{drop_more}
use Rattle.rules.specs.Words.{byte, laid}
use Rattle.mend.specs.Mend.{mended, changed, changes, entry, entries}
use Rattle.mend.specs.Wanted.{wanted_at}
use Rattle.mend.proofs.Bytes.{mended-byte, half, half_length, half_ahead, half-set, half_still, half_all}
use Rattle.mend.proofs.Changes.{changes_to, front_all, front_most, same_more, changed_more}

-- one more is laid
laid_more : (xs row : List ℕ) (n e : ℕ) → n ≡ length xs → n < length row → set (laid xs row) n e ≡ laid (xs ++ e ∷ []) row
laid_more xs row n e same room =
    rw (length-append, append_assoc, ← same, drop_more row n 0 room) (set_at xs (byte n row) (drop (n + 1) row) e n (sym same))

-- at an address: what lies before it is mended and listed, n changes so far, and what lies behind it is as it was
pub record So (image₀ list₀ image list : List ℕ) (n at : ℕ) : Type 0 where
  pub half_way : image ≡ half image₀ at
  pub listed : list ≡ laid (map entry (changes_to image₀ at)) list₀
  pub so_many : n ≡ length (changes_to image₀ at)

module _ {image₀ list₀ image list : List ℕ} {n at : ℕ} (so : So image₀ list₀ image list n at) where
  module _ (inside : at < length image₀) {new : ℕ} (is : new ≡ wanted_at image at (byte at image)) where
    before : byte at image ≡ byte at image₀
    before = ap (byte at) so.half_way ∙ half_ahead image₀ at (omega arith) at (omega arith)

    found : new ≡ byte at (mended image₀)
    unfolding wanted_at
    found =
        is
        ∙ sym (mended-byte image at (omega (arith, ap length so.half_way, half_length image₀ at (omega arith))))
        ∙ ap (λ (l : List ℕ). byte at (mended l)) so.half_way
        ∙ ap (byte at) (half_still image₀ at (omega arith))

    set_there : set image at new ≡ half image₀ (at + 1)
    set_there = rw (so.half_way, found) (half-set image₀ at (omega arith) inside)

    pub skips : new ≡ byte at image → So image₀ list₀ image list n (at + 1)
    skips e =
        let same = sym (same_more image₀ at inside (sym found ∙ e ∙ before)) in
        record {
          half_way = sym (set-get_or image at 0) ∙ ap (set image at) (sym e) ∙ set_there;
          listed = so.listed ∙ ap (λ cs. laid (map entry cs) list₀) same;
          so_many = so.so_many ∙ ap length same;
        }

    module _ (differs : new ≡ byte at image → ⊥) (fits : length (changes image₀) ≤ length list₀) where
      one_more : changes_to image₀ (at + 1) ≡ changes_to image₀ at ++ changed at (byte at image) new ∷ []
      one_more = changed_more image₀ at inside (λ z. differs (found ∙ z ∙ sym before)) ∙ rw (before, found)

      so_many_more : n + 1 ≡ length (changes_to image₀ (at + 1))
      so_many_more = omega (arith, so.so_many, ap length one_more, length-append (changes_to image₀ at) (changed at (byte at image) new ∷ []))

      pub has_room : n < length list₀
      has_room = omega (arith, so_many_more, front_most image₀ (at + 1) (omega (arith, inside)))

      pub takes : {e : ℕ} → e ≡ entry (changed at (byte at image) new) → So image₀ list₀ (set image at new) (set list n e) (n + 1) (at + 1)
      takes {e} is = record {
        half_way = set_there;
        listed =
            rw (so.listed, one_more, map-append, ← is)
            (laid_more (map entry (changes_to image₀ at)) list₀ n e (so.so_many ∙ sym (length-map (changes_to image₀ at) entry)) has_room);
        so_many = so_many_more;
      }

  -- at the end
  pub ended : 0x89 ≤ length image₀ → at ≡ 0x89 → (n ≡ length (changes image₀)) × (image ≡ mended image₀) × (list ≡ laid (entries image₀) list₀)
  ended long end =
      let all = ap (changes_to image₀) end ∙ front_all image₀ long in (
        so.so_many ∙ ap length all,
        so.half_way ∙ ap (half image₀) end ∙ half_all image₀,
        so.listed ∙ ap (λ cs. laid (map entry cs) list₀) all,
      )
