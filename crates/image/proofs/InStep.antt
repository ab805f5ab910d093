-- The image stays in step with the rules: at power-on, and with whatever change is put into it.
use mathlib.Core.Path.{◌≡◌, refl, ap, ◌∙◌}
use mathlib.Core.Bool.{Bool, true, false, cond}
use mathlib.Core.List.{List, [], ◌∷◌, ◌++◌}
use Prim.Native.Nat.{ℕ}
use native.Mathlib.Omega.{arith}
use lib.ListN.{length, drop, replicate, length-set, length-append}
use lib.Seq.{take-set-le}
use Rattle.rules.specs.declared.Change.{Change}
use Rattle.rules.specs.declared.Change.TheVariants.{Nothing, Sets, Awaits, Resets, Drops, Begins, Finishes, Stops, Notes, Clears, Ends}
use Rattle.rules.specs.declared.Direction.TheVariants.{Out, In}
use Rattle.rules.specs.declared.Dock.{Dock}
use Rattle.rules.specs.declared.Drives.{Drives}
use Rattle.rules.specs.declared.Drives.TheVariants.{One, Two}
use Rattle.rules.specs.declared.Lun.TheVariants.{Lun0, Lun1}
use Rattle.rules.specs.declared.PageSize.{PageSize}
use Rattle.rules.specs.declared.PageSize.TheVariants.{Of32, Of64, Of128, Of256}
use Rattle.rules.specs.Words.{over}
use Rattle.rules.specs.Held.{Start, world, holding, docked, power_on, power_on_bytes, start_bytes, starting, by_default}
use Rattle.rules.specs.Changes.{made, drops}
use Rattle.rules.specs.Bursts.{kept}
use Rattle.rules.specs.Demands.Sizes.{Sized}
use Rattle.rules.proofs.Rows.{over-length, four_bytes}
use Rattle.rules.proofs.Demands.Boundary.{none_given}
use Rattle.image.proofs.Rows.{row, row-set, by_bytes, over-front}
use Rattle.image.specs.Image.{bytes_of, decode, held_of, world_of, dock_byte, powered, dropped, put, PowersOn, InStep}

-- a dock's image at power-on, with any sixteen bytes, stands for its world
abbrev On : Dock → List ℕ → List ℕ → Type 0
On dock memory bytes = world_of (bytes ++ replicate 13 0 ++ dock_byte dock ∷ replicate 32 0) memory ≡ world (power_on dock) bytes memory

on_bytes : (powered : Bool) (page : PageSize) (drives : Drives) (memory bytes : List ℕ) → On (docked powered page drives) memory (row 0 16 bytes)
unfolding kept
on_bytes true Of32 One memory bytes = refl
on_bytes true Of64 One memory bytes = refl
on_bytes true Of128 One memory bytes = refl
on_bytes true Of256 One memory bytes = refl
on_bytes false Of32 One memory bytes = refl
on_bytes false Of64 One memory bytes = refl
on_bytes false Of128 One memory bytes = refl
on_bytes false Of256 One memory bytes = refl
on_bytes true Of32 Two memory bytes = refl
on_bytes true Of64 Two memory bytes = refl
on_bytes true Of128 Two memory bytes = refl
on_bytes true Of256 Two memory bytes = refl
on_bytes false Of32 Two memory bytes = refl
on_bytes false Of64 Two memory bytes = refl
on_bytes false Of128 Two memory bytes = refl
on_bytes false Of256 Two memory bytes = refl

pub powers_on : PowersOn
powers_on start memory =
    let bytes : List ℕ = start_bytes start in
    by_bytes 16 bytes (over-length power_on_bytes 2 start.settings) (On start.dock memory)
    (on_bytes start.dock.bus_powered start.dock.page start.dock.drives memory bytes)

pub powered-length : (start : Start) → length (powered start) ≡ 62
powered-length start =
    let bytes : List ℕ = start_bytes start in
    length-append (bytes ++ replicate 13 0) (dock_byte start.dock ∷ replicate 32 0)
    ∙ omega (arith, length-append bytes (replicate 13 0), over-length power_on_bytes 2 start.settings)

-- settings, copied over the defaults
pub settled : (dock : Dock) (settings : List ℕ) → length settings ≡ 14 → over (powered (by_default dock)) 2 settings ≡ powered (starting dock settings)
unfolding over
settled dock settings h =
    let front : List ℕ = power_on_bytes ++ replicate 13 0 in
    let rest : List ℕ = dock_byte dock ∷ replicate 32 0 in
    over-front front rest 2 settings (omega arith)
    ∙ ap (λ (l : List ℕ). l ++ rest) (over-front power_on_bytes (replicate 13 0) 2 settings (omega arith))

-- ---- a change, put into an image whose configuration bytes were written

abbrev Puts : Change → List ℕ → List ℕ → List ℕ → Type 0
Puts c bytes image memory =
    world_of (put c (bytes ++ drop 16 image)) memory ≡ holding (cond (drops c) [] (held_of image)) (world (made c (decode image)) bytes memory)

module _ (b i : List ℕ) where
  abbrev bytes : List ℕ
  bytes = row 0 16 b

  abbrev image : List ℕ
  image = row 0 62 i

  put_bytes : (c : Change) → Sized c → (memory : List ℕ) → Puts c bytes image memory
  unfolding over kept
  put_bytes Nothing z memory = refl
  put_bytes (Sets true) z memory = refl
  put_bytes (Sets false) z memory = refl
  put_bytes Awaits z memory = refl
  put_bytes Resets z memory = refl
  put_bytes Drops z memory = refl
  put_bytes (Begins Out Lun0 tag l) z memory = rw (four_bytes tag z.0, four_bytes l z.1)
  put_bytes (Begins Out Lun1 tag l) z memory = rw (four_bytes tag z.0, four_bytes l z.1)
  put_bytes (Begins In Lun0 tag l) z memory = rw (four_bytes tag z.0, four_bytes l z.1)
  put_bytes (Begins In Lun1 tag l) z memory = rw (four_bytes tag z.0, four_bytes l z.1)
  put_bytes (Finishes Out true status tag residue) z memory = rw (four_bytes tag z.0, four_bytes residue z.1)
  put_bytes (Finishes Out false status tag residue) z memory = rw (four_bytes tag z.0, four_bytes residue z.1)
  put_bytes (Finishes In true status tag residue) z memory = rw (four_bytes tag z.0, four_bytes residue z.1)
  put_bytes (Finishes In false status tag residue) z memory = rw (four_bytes tag z.0, four_bytes residue z.1)
  put_bytes Stops z memory = refl
  put_bytes Notes z memory = refl
  put_bytes (Clears Out) z memory = refl
  put_bytes (Clears In) z memory = refl
  put_bytes Ends z memory = refl

pub in_step : InStep
in_step c bytes image memory n h z =
    by_bytes 16 bytes n (λ b. Puts c b image memory)
    (by_bytes 62 image h (λ i. Puts c (row 0 16 bytes) i memory) (put_bytes bytes image c z memory))

-- ---- where what is held was dropped before

dropped_apart : (bytes image : List ℕ) → length bytes ≡ 16 → length image ≡ 62 → dropped (bytes ++ drop 16 image) ≡ bytes ++ drop 16 (dropped image)
dropped_apart bytes image n h =
    by_bytes 16 bytes n (λ b. dropped (b ++ drop 16 image) ≡ b ++ drop 16 (dropped image))
    (by_bytes 62 image h (λ i. dropped (row 0 16 bytes ++ drop 16 i) ≡ row 0 16 bytes ++ drop 16 (dropped i)) refl)

-- the bridge and its configuration bytes stand before what is held
pub dropped_decodes : (image : List ℕ) → decode (dropped image) ≡ decode image
dropped_decodes image = ap (λ (r : List ℕ). decode (replicate 16 0 ++ r)) (row-set 16 14 61 0 image (omega arith))

pub dropped_bytes : (image : List ℕ) → bytes_of (dropped image) ≡ bytes_of image
dropped_bytes image = take-set-le 16 image 61 0 (omega arith)

dropped_holds : (image : List ℕ) → length image ≡ 62 → held_of (dropped image) ≡ []
unfolding kept
dropped_holds image h = by_bytes 62 image h (λ i. held_of (dropped i) ≡ []) refl

pub dropped_in_step : (c : Change) (bytes image memory : List ℕ) → length bytes ≡ 16 → length image ≡ 62 → Sized c
    → world_of (put c (dropped (bytes ++ drop 16 image))) memory ≡ world (made c (decode image)) bytes memory
dropped_in_step c bytes image memory n h z =
    ap (λ (i : List ℕ). world_of (put c i) memory) (dropped_apart bytes image n h)
    ∙ in_step c bytes (dropped image) memory n (length-set image 61 0 ∙ h) z
    ∙ rw (dropped_holds image h, dropped_decodes image, none_given)

-- ---- and it stays an image

pub put_length : (c : Change) (image : List ℕ) → length image ≡ 62 → length (put c image) ≡ 62
unfolding over
put_length c image h = by_bytes 62 image h (λ i. length (put c i) ≡ 62) (go c)
  where
    go : (c : Change) → length (put c (row 0 62 image)) ≡ 62
    go Nothing = refl
    go (Sets configured) = refl
    go Awaits = refl
    go Resets = refl
    go Drops = refl
    go (Begins direction lun tag l) = refl
    go (Finishes Out true status tag residue) = refl
    go (Finishes In true status tag residue) = refl
    go (Finishes direction false status tag residue) = refl
    go Stops = refl
    go Notes = refl
    go (Clears Out) = refl
    go (Clears In) = refl
    go Ends = refl
