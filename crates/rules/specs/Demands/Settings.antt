-- Request 5, of the bridge: settings, as they reach it at power-on.
use Rattle.std.specs.Prelude.{◌≡◌, List, [], ◌∷◌, ℕ, length, take, drop}
use Rattle.rules.specs.Held.{World, Start, starting, by_default}
use Rattle.rules.specs.Step.{Event, BusReset, Control, Machine, reached}
use Rattle.rules.specs.Demands.Requests.{wire, asking, ordering}
use Rattle.rules.specs.Demands.Coherence.{Replies}

-- "fourteen bytes for addresses 2 to F", as a host reads all sixteen once it has configured the bridge
abbrev pub SettingsAreRead : Machine → Type 0
SettingsAreRead m =
    (start : Start) (memory : List ℕ) → length start.settings ≡ 14
    → Replies (m.takes (reached m start memory (ordering 0x00 0x09 2 0 ∷ [])) (asking 0xC0 0x02 0 0 16)) (0 ∷ 0 ∷ start.settings)

-- Everything but the fourteen bytes is as it is at power-on without a store.
abbrev pub OnlySettings : Machine → Type 0
OnlySettings m =
    (start : Start) (memory : List ℕ)
    → (let w : World = m.shows (m.on start memory) in
    let without : World = m.shows (m.on (by_default start.dock) memory) in
    (w.bridge ≡ without.bridge) × (take 2 w.bytes ≡ take 2 without.bytes) × (w.memory ≡ without.memory) × (w.held ≡ without.held))

-- the dock is configured, service writes the settings to their place, and the bus is reset
abbrev pub writing : List ℕ → List Event
writing settings = ordering 0x00 0x09 2 0 ∷ Control (wire 0x40 0x01 0 2 14) settings 0 ∷ BusReset ∷ []

-- A store does at power-on what a LOAD_CONFIG_DATA of its fourteen bytes does later, and no more.
abbrev pub SettingsAreAsWritten : Machine → Type 0
SettingsAreAsWritten m =
    (start : Start) (memory : List ℕ) → length start.settings ≡ 14
    → m.shows (reached m start memory []) ≡ m.shows (reached m (by_default start.dock) memory (writing start.settings))

-- Settings are kept and put back: a dock that is powered on anew with the fourteen bytes that it held, after any history, has all its sixteen again.
abbrev pub SavedIsRestored : Machine → Type 0
SavedIsRestored m =
    (start : Start) (memory : List ℕ) (history : List Event)
    → (let w : World = m.shows (reached m start memory history) in
    (m.shows (m.on (starting w.bridge.dock (drop 2 w.bytes)) memory)).bytes ≡ w.bytes)
