-- Laws of the exported calls: what is left in the image and returned, from what the event promises.
use mathlib.Core.Path.{◌≡◌, refl, sym, ap, ◌∙◌}
use mathlib.Core.Bool.{false}
use mathlib.Core.List.{List, ◌++◌}
use Prim.Native.Nat.{ℕ, ◌≤◌}
use native.Mathlib.Omega.{arith}
use lib.ListN.{length, take, drop, take-append-drop, length-take, length-drop}
use lib.Seq.{length-take-le}
use Rattle.std.specs.Prelude.{Err}
use Rattle.rules.specs.declared.Bridge.{Bridge}
use Rattle.rules.specs.declared.Request.{Request}
use Rattle.rules.specs.declared.Change.TheVariants.{Nothing, Drops}
use Rattle.rules.specs.declared.Setup.{Setup}
use Rattle.rules.specs.declared.Stands.TheVariants.{InMemory}
use Rattle.rules.specs.declared.addresses.Address.{Address}
use Rattle.rules.specs.declared.refusals.Refusal.{Refusal}
use Rattle.rules.specs.Numbered.{refusal_number, by_number, checked}
use Rattle.rules.specs.Words.{byte, first}
use Rattle.rules.specs.Held.{world}
use Rattle.rules.specs.Packets.{signature_of}
use Rattle.rules.specs.Bursts.{kept}
use Rattle.rules.specs.Answers.{unawaited_checks}
use Rattle.rules.specs.Step.{Event, Control, Packet, EndMark}
use Rattle.rules.specs.Promise.{left_at, leaves, served}
use Rattle.rules.specs.Demands.Bursts.{is_end_mark}
use Rattle.rules.proofs.Numbered.{not_done}
use Rattle.rules.proofs.Promises.{packet_unawaited}
use Rattle.rules.proofs.Bursts.{leaves_unheld, served_unheld, end_mark_leaves}
use Rattle.outcomes.specs.declared.Outcome.{Outcome}
use Rattle.outcomes.specs.Outcomes.{outcome, left_by}
use Rattle.packets.proofs.Commands.{checked_err}
use Rattle.image.specs.Image.{bytes_of, held_of, decode, world_of}
use Rattle.image.proofs.Holding.{counted_of_image}
use Rattle.thrandue.specs.Calls.{called, returns, LeftInImage, holds, in_image, calls, CallTold}

module _ (image memory : List ℕ) (event : ℕ → Event) (room : List ℕ) (o : Outcome Refusal) {memory' room' : List ℕ} where
  -- with the configuration bytes written
  pub written : {bytes now : List ℕ} → left_by o bytes memory' room' ≡ leaves (world_of image memory) event room
      → now ≡ holds (event (length room)) (bytes ++ drop 16 image)
      → {returned : ℕ} {image' : List ℕ} → LeftInImage o now returned image'
      → called returned image' memory' room' ≡ calls image memory event room
  written l n r = rw (r.0, r.1, n) (ap (in_image (event (length room)) image) l)

  -- .. or as they were
  pub unwritten : left_by o (bytes_of image) memory' room' ≡ leaves (world_of image memory) event room
      → {returned : ℕ} {image' : List ℕ} → LeftInImage o (holds (event (length room)) image) returned image'
      → called returned image' memory' room' ≡ calls image memory event room
  unwritten l r = written l (ap (holds (event (length room))) (sym (take-append-drop 16 image))) r

  -- .. by a promise that says nothing of what is held, which only an end mark looks at
  pub told : is_end_mark (event (length room)) ≡ false
      → left_by o (bytes_of image) memory' room' ≡ leaves (world (decode image) (bytes_of image) memory) event room
      → {returned : ℕ} {image' : List ℕ} → LeftInImage o (holds (event (length room)) image) returned image'
      → called returned image' memory' room' ≡ calls image memory event room
  told h l r = unwritten (l ∙ sym (leaves_unheld (world (decode image) (bytes_of image) memory) (held_of image) (event (length room)) room h)) r

module _ (image memory : List ℕ) (setup host room : List ℕ) where
  -- with what a granted request leaves, of the state as it was loaded
  pub granted : (o : Outcome Refusal) {memory' room' : List ℕ} (q : Request) (s : Setup) {bytes now : List ℕ} {b : Bridge} → b ≡ decode image
      → left_by o bytes memory' room' ≡ served q s host (world b (bytes_of image) memory) room
      → served q s host (world_of image memory) room ≡ leaves (world_of image memory) (Control setup host) room → now ≡ bytes ++ drop 16 image
      → {returned : ℕ} {image' : List ℕ} → LeftInImage o now returned image'
      → called returned image' memory' room' ≡ calls image memory (Control setup host) room
  granted o q s e l g n r =
      written image memory (Control setup host) room o
      (rw e at l ∙ sym (served_unheld q s host (world (decode image) (bytes_of image) memory) (held_of image) room) ∙ g) n r

  -- a descriptor that is found leaves everything as it was
  pub found_there : (at : Address) (n : ℕ)
      → left_at (InMemory at) 0 n Nothing (bytes_of image) memory room ≡ leaves (world_of image memory) (Control setup host) room
      → {returned : ℕ} → returned ≡ returns 0 n (InMemory at) → called returned image memory room ≡ calls image memory (Control setup host) room
  found_there at n l r =
      rw r
      (ap (λ (i : List ℕ). called (returns 0 n (InMemory at)) i memory room) (sym (take-append-drop 16 image))
      ∙ ap (in_image (Control setup host (length room)) image) l)

-- ---- a packet, by what the checks of the bridge alone say, of the state as it was loaded

module _ (image : List ℕ) {b : Bridge} (loaded : b ≡ decode image) where
  pub unawaited_told : (e : Refusal) → by_number {A = Unit {0}} (Err e) ≡ checked (tt {0}) (first (unawaited_checks b)) → (p room : List ℕ) → {returned : ℕ} {image' : List ℕ}
      → LeftInImage (outcome (Err e) Drops) image returned image' → CallTold image (Packet p) room returned image' room
  unawaited_told e says p room r memory =
      told image memory (Packet p) room (outcome (Err e) Nothing) refl
      (packet_unawaited (decode image) (signature_of (bytes_of image)) p room (refusal_number e) (rw loaded at (checked_err tt (first (unawaited_checks b)) e says)) (not_done e)
      (bytes_of image) memory refl)
      r

-- ---- a packet in bursts

-- an end mark, where what is held was judged as a packet
pub end_mark_told : (image p room : List ℕ) → held_of image ≡ kept p → {returned : ℕ} {image' room' : List ℕ}
    → CallTold image (Packet p) room returned image' room' → CallTold image EndMark room returned image' room'
end_mark_told image p room h t memory =
    t memory ∙ ap (in_image (EndMark (length room)) image) (sym (end_mark_leaves (world_of image memory) p room h))

-- the configuration bytes are sixteen
pub sixteen : (image : List ℕ) → 16 ≤ length image → length (bytes_of image) ≡ 16
sixteen image h = length-take-le 16 image h

-- an image is its configuration bytes and the others
pub ruleset whole_image = (take-append-drop)

-- as many bytes are held as count
pub all_held : (image : List ℕ) → length image ≡ 62 → length (take (length (held_of image)) (drop 30 image)) ≡ length (held_of image)
all_held image h =
    let tail : List ℕ = drop 30 image in
    omega (arith, counted_of_image image h, length-take (byte 61 image) tail, length-take (length (held_of image)) tail, length-drop 30 image)
