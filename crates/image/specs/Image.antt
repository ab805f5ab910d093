-- The image of a bridge: sixty-two bytes that stand for its state and hold its configuration bytes. Any sixty-two bytes stand for some state.
use Rattle.std.specs.Prelude.{ℕ, ◌+◌, ◌*◌, ◌/◌, ◌%◌, ◌≤◌, ◌≡◌, Bool, cond, not, List, [], ◌∷◌, ◌++◌, length, set, take, drop, replicate, eqb, ltb}
use Rattle.rules.specs.declared.Bridge.{Bridge}
use Rattle.rules.specs.declared.Change.{Change}
use Rattle.rules.specs.declared.Change.TheVariants.{Nothing, Sets, Awaits, Resets, Drops, Begins, Finishes, Stops, Notes, Clears, Ends}
use Rattle.rules.specs.declared.Direction.{Direction}
use Rattle.rules.specs.declared.Direction.TheVariants.{Out, In}
use Rattle.rules.specs.declared.Dock.{Dock}
use Rattle.rules.specs.declared.Drives.{Drives}
use Rattle.rules.specs.declared.Drives.TheVariants.{One, Two}
use Rattle.rules.specs.declared.Lun.{Lun}
use Rattle.rules.specs.declared.Lun.TheVariants.{Lun0, Lun1}
use Rattle.rules.specs.declared.PageSize.{PageSize}
use Rattle.rules.specs.declared.PageSize.TheVariants.{Of32, Of64, Of128, Of256}
use Rattle.rules.specs.declared.Phase.{Phase}
use Rattle.rules.specs.declared.Phase.TheVariants.{Awaiting, Busy, StatusWaiting, Stopped}
use Rattle.rules.specs.Words.{byte, long, bytes4, one, over}
use Rattle.rules.specs.Held.{World, Start, max_lun, lun_number, world, holding, docked, start_bytes, marks}
use Rattle.rules.specs.Held.{powered as at_power_on}
use Rattle.rules.specs.Changes.{made, drops}
use Rattle.rules.specs.Packets.{inward}
use Rattle.rules.specs.Bursts.{kept}
use Rattle.rules.specs.Demands.Sizes.{Sized}
use Rattle.image.specs.declared.Fragments.{Fragments}

-- ---- read: at 0 the configuration bytes, at 16 the tag, at 20 L or the residue; at 24, 25 and 26 a mark each, set where it is not 0: configured, bulk
-- out halted, bulk in halted; at 27 the phase, 0 awaiting, 1 busy, 2 status waiting, else stopped; at 28 its direction in bit 0 and its LUN in bit 1, its
-- status, or whether a Mass Storage Reset has come; at 29 what is fixed at power-on: the page size in its two low bits, how often 32 is doubled, bus powered
-- in the next, and whether there are two drives behind it; at 30 the bytes that are held, and at 61 how many of them, where more than 31 says that it is
-- too long

abbrev pub bytes_of : List ℕ → List ℕ
bytes_of image = take 16 image

abbrev pub is_marked : ℕ → Bool
is_marked mark = not (eqb mark 0)

abbrev pub is_odd : ℕ → Bool
is_odd detail = eqb (detail % 2) 1

abbrev pub direction_from : ℕ → Direction
direction_from detail = cond (is_odd detail) In Out

abbrev pub lun_from : ℕ → Lun
lun_from bits = cond (is_odd bits) Lun1 Lun0

abbrev pub phase_from : ℕ → ℕ → ℕ → ℕ → Phase
phase_from kind detail tag amount =
    cond (eqb kind 0) Awaiting
    (cond (eqb kind 1) (Busy (direction_from detail) (lun_from (detail / 2)) tag amount)
    (cond (eqb kind 2) (StatusWaiting tag amount detail)
    (Stopped (is_odd detail))))

abbrev pub page_from : ℕ → PageSize
page_from code = cond (eqb code 0) Of32 (cond (eqb code 1) Of64 (cond (eqb code 2) Of128 Of256))

abbrev pub drives_from : ℕ → Drives
drives_from bits = cond (is_odd bits) Two One

abbrev pub dock_of : List ℕ → Dock
dock_of image = docked (is_odd (byte 29 image / 4)) (page_from (byte 29 image % 4)) (drives_from (byte 29 image / 8))

abbrev pub decode : List ℕ → Bridge
decode image =
    record {
      dock = dock_of image;
      configured = is_marked (byte 24 image);
      phase = phase_from (byte 27 image) (byte 28 image) (long 16 image) (long 20 image);
      halts = marks (is_marked (byte 25 image)) (is_marked (byte 26 image));
    }

-- as many bytes as are counted; where that is more than a packet's, the count itself is the byte too many
abbrev pub held_of : List ℕ → List ℕ
held_of image = kept (take (byte 61 image) (drop 30 image))

abbrev pub world_of : List ℕ → List ℕ → World
world_of image memory = holding (held_of image) (world (decode image) (bytes_of image) memory)

-- what is held, by value
abbrev pub held_in : List ℕ → Fragments
held_in image = record { bytes = drop 30 image; count = length (held_of image) }

-- ---- written: at power-on, by each change, and by a burst. What an earlier phase left where this one has nothing stays, and so do bytes that are dropped.

abbrev pub page_code : PageSize → ℕ
page_code Of32 = 0
page_code Of64 = 1
page_code Of128 = 2
page_code Of256 = 3

abbrev pub dock_byte : Dock → ℕ
dock_byte dock = page_code dock.page + 4 * one dock.bus_powered + 8 * max_lun dock.drives

abbrev pub powered : Start → List ℕ
powered start = start_bytes start ++ replicate 13 0 ++ dock_byte start.dock ∷ replicate 32 0

abbrev pub numbered : ℕ → ℕ → List ℕ → List ℕ
numbered tag amount image = over (over image 16 (bytes4 tag)) 20 (bytes4 amount)

abbrev pub phased : ℕ → ℕ → List ℕ → List ℕ
phased kind detail image = set (set image 27 kind) 28 detail

abbrev pub marked : Direction → ℕ → List ℕ → List ℕ
marked Out mark image = set image 25 mark
marked In mark image = set image 26 mark

abbrev pub dropped : List ℕ → List ℕ
dropped image = set image 61 0

abbrev pub calm : List ℕ → List ℕ
calm image = dropped (set (set (set image 25 0) 26 0) 27 0)

abbrev pub put : Change → List ℕ → List ℕ
put Nothing image = image
put (Sets c) image = calm (set image 24 (one c))
put Awaits image = set image 27 0
put Resets image = dropped (set image 27 0)
put Drops image = dropped image
put (Begins direction lun tag l) image = numbered tag l (phased 1 (one (inward direction) + 2 * lun_number lun) image)
put (Finishes direction halts status tag residue) image =
    let now = phased 2 status (numbered tag residue image) in
    cond halts (marked direction 1 now) now
put Stops image = phased 3 0 (set (set image 25 1) 26 1)
put Notes image = dropped (phased 3 1 image)
put (Clears direction) image = marked direction 0 image
put Ends image = calm image

abbrev pub added : List ℕ → List ℕ → List ℕ
added burst image =
    let n : ℕ = byte 61 image in
    cond (ltb 31 (n + length burst)) (set image 61 32) (set (over image 30 (over (drop 30 image) n burst)) 61 (n + length burst))

-- ---- what was put is read back, proved in proofs/InStep

-- the image at power-on stands for the world at power-on
abbrev pub PowersOn : Type 0
PowersOn = (start : Start) (memory : List ℕ) → world_of (powered start) memory ≡ at_power_on start memory

-- an image whose configuration bytes were written and where a change with numbers of 32 bits was put stands for those bytes and the bridge with the change
-- made, holding what it held or nothing
abbrev pub InStep : Type 0
InStep =
    (c : Change) (bytes image memory : List ℕ) → length bytes ≡ 16 → length image ≡ 62 → Sized c
    → world_of (put c (bytes ++ drop 16 image)) memory ≡ holding (cond (drops c) [] (held_of image)) (world (made c (decode image)) bytes memory)

-- one to which a burst was added stands for the same world, holding the burst too
abbrev pub BurstInStep : Type 0
BurstInStep =
    (burst image memory : List ℕ) → length image ≡ 62
    → world_of (added burst image) memory ≡ holding (kept (held_of image ++ burst)) (world_of image memory)

-- what lies behind the count stands for nothing, and of what is too long no byte does: two images that differ there alone stand for one world
abbrev pub BehindTheCount : Type 0
BehindTheCount =
    (front held held' memory : List ℕ) (count : ℕ) → length front ≡ 30 → length held ≡ 31 → length held' ≡ 31
    → (count ≤ 31 → take count held ≡ take count held')
    → world_of (front ++ held ++ count ∷ []) memory ≡ world_of (front ++ held' ++ count ∷ []) memory
