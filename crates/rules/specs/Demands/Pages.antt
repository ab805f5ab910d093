-- Request 6 of document 02: the page rule over every size, and the size in force.
use Rattle.std.specs.Prelude.{◌≡◌, ◌⊎◌, Bool, true, ℕ, ◌*◌, ◌/◌}
use Rattle.rules.specs.declared.Bridge.{Bridge}
use Rattle.rules.specs.declared.Dock.{Dock}
use Rattle.rules.specs.declared.PageSize.{PageSize}
use Rattle.rules.specs.declared.PageSize.TheVariants.{Of32, Of256}
use Rattle.rules.specs.Words.{byte}
use Rattle.rules.specs.Held.{World, world, holding, page_bytes, docked}
use Rattle.rules.specs.Step.{Event, Machine}
use Rattle.rules.specs.Demands.Coherence.{page_in}

-- "pages of 32, 64, 128 or 256 bytes .. another number is taken as 32, the safe one"
abbrev pub NumbersAreTaken : (ℕ → PageSize) → Type 0
NumbersAreTaken of =
    ((page : PageSize) → of (page_bytes page) ≡ page)
    × ((n : ℕ) → (n ≡ 64 → ⊥) → (n ≡ 128 → ⊥) → (n ≡ 256 → ⊥) → of n ≡ Of32)
    × (page_bytes Of32 ≡ 32)

-- "Show the rule once for all sizes": bytes in one page lie in one page of any multiple of its size. So for every page size that divides 256 a write that
-- is legal under it is legal under 256.
abbrev pub MultiplesTakeMore : (ℕ → ℕ → ℕ → Bool) → Type 0
MultiplesTakeMore one_page = (page times start n : ℕ) → one_page page start n ≡ true → one_page (page * times) start n ≡ true

-- the same dock but for its page size
abbrev pub paged : PageSize → World → World
paged page w =
    let b : Bridge = w.bridge in
    let dock : Dock = docked b.dock.bus_powered page b.dock.drives in
    holding w.held (world (record { dock = dock; configured = b.configured; phase = b.phase; halts = b.halts }) w.bytes w.memory)

-- A dock with smaller pages refuses more, by 10, and accepts nothing new: with a multiple of its page size every event is answered as before, or was
-- answered 10.
abbrev pub SmallerPagesRefuseMore : Machine → Type 0
SmallerPagesRefuseMore m =
    (s wider : m.State) (e : Event) (page : PageSize) (times : ℕ)
    → m.shows wider ≡ paged page (m.shows s) → page_bytes page ≡ page_in (m.shows s) * times
    → ((m.takes wider e).answer ≡ (m.takes s e).answer) ⊎ ((m.takes s e).answer ≡ 10)

-- What is accepted under any of the four is accepted under 256.
abbrev pub LegalUnder256 : Machine → Type 0
LegalUnder256 m =
    (s wider : m.State) (e : Event) → m.shows wider ≡ paged Of256 (m.shows s) → (m.takes s e).answer ≡ 0 → (m.takes wider e).answer ≡ 0

-- 32 refuses all that any of the four refuses.
abbrev pub RefusedBy32 : Machine → Type 0
RefusedBy32 m =
    (s safe : m.State) (e : Event) → m.shows safe ≡ paged Of32 (m.shows s)
    → ((m.takes s e).answer ≡ 0 → ⊥) → (m.takes safe e).answer ≡ 0 → ⊥

-- No accepted memory write touches two pages of the size in force: of any event, two bytes of the memory that changed lie in one.
abbrev pub OnePageIsTouched : Machine → Type 0
OnePageIsTouched m =
    (s : m.State) (e : Event) (j k : ℕ)
    → (let before = (m.shows s).memory in
    let now = (m.shows (m.takes s e).next).memory in
    (byte j now ≡ byte j before → ⊥) → (byte k now ≡ byte k before → ⊥) → j / page_in (m.shows s) ≡ k / page_in (m.shows s))
