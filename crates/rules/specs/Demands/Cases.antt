-- BOT's thirteen cases (BOT 6.7), as a table that does not mention the report rule.
use Rattle.std.specs.Prelude.{◌≡◌, Bool, true, false, cond, ◌&&◌, ◌||◌, List, [], ◌∷◌, ℕ, ◌+◌, ◌-◌, ◌≤◌, eqb, ltb}
use Rattle.rules.specs.declared.Bridge.{Bridge}
use Rattle.rules.specs.declared.Direction.{Direction}
use Rattle.rules.specs.declared.Direction.TheVariants.{Out, In}
use Rattle.rules.specs.declared.Halts.{Halts}
use Rattle.rules.specs.declared.Lun.{Lun}
use Rattle.rules.specs.declared.Phase.TheVariants.{Busy, StatusWaiting}
use Rattle.rules.specs.Words.{one}
use Rattle.rules.specs.Step.{Report, Machine}

-- data goes no way, in, or out
pub data Way : Type 0 where
  No : Way
  Inwards : Way
  Outwards : Way

-- What the host expects (Hn, Hi, Ho), what the drive did (Dn, Di, Do), how L compares with the amount; then whether the status is the
-- drive's own or a phase error, the residue, and whether the host direction's pipe is halted.
pub record Case : Type 0 where
  pub host : Way
  pub drive : Way
  pub compares : ℕ → ℕ → Bool
  pub own : Bool
  pub residue : ℕ → ℕ → ℕ
  pub halts : Bool

abbrev pub case : Way → Way → (ℕ → ℕ → Bool) → Bool → (ℕ → ℕ → ℕ) → Bool → Case
case h d c o r k = record { host = h; drive = d; compares = c; own = o; residue = r; halts = k }

abbrev pub more : ℕ → ℕ → Bool
more l amount = ltb amount l

abbrev pub equal : ℕ → ℕ → Bool
equal l amount = eqb l amount

abbrev pub fewer : ℕ → ℕ → Bool
fewer l amount = ltb l amount

abbrev pub any_amount : ℕ → ℕ → Bool
any_amount l amount = true

abbrev pub whole : ℕ → ℕ → ℕ
whole l amount = l

abbrev pub rest : ℕ → ℕ → ℕ
rest l amount = l - amount

abbrev pub none : ℕ → ℕ → ℕ
none l amount = 0

abbrev pub cases : List Case
cases =
    case No No any_amount true none false ∷  -- 1  Hn = Dn
    case No Inwards any_amount false none false ∷  -- 2  Hn < Di
    case No Outwards any_amount false none false ∷  -- 3  Hn < Do
    case Inwards No any_amount true whole true ∷  -- 4  Hi > Dn
    case Inwards Inwards more true rest true ∷  -- 5  Hi > Di
    case Inwards Inwards equal true none false ∷  -- 6  Hi = Di
    case Inwards Inwards fewer false whole true ∷  -- 7  Hi < Di
    case Inwards Outwards any_amount false whole true ∷  -- 8  Hi <> Do
    case Outwards No any_amount true whole true ∷  -- 9  Ho > Dn
    case Outwards Inwards any_amount false whole true ∷  -- 10 Ho <> Di
    case Outwards Outwards more true rest true ∷  -- 11 Ho > Do
    case Outwards Outwards equal true none false ∷  -- 12 Ho = Do
    case Outwards Outwards fewer false whole true ∷  -- 13 Ho < Do
    []

-- the host expects nothing, or L bytes in a direction
abbrev pub way_of : Direction → Way
way_of Out = Outwards
way_of In = Inwards

abbrev pub expected : ℕ → Direction → Way
expected l host = cond (eqb l 0) No (way_of host)

-- the drive moved nothing, or so much in a direction
abbrev pub moved : ℕ → ℕ → Way
moved direction amount = cond (eqb amount 0) No (cond (eqb direction 1) Inwards Outwards)

abbrev pub same_way : Way → Way → Bool
same_way No No = true
same_way No Inwards = false
same_way No Outwards = false
same_way Inwards No = false
same_way Inwards Inwards = true
same_way Inwards Outwards = false
same_way Outwards No = false
same_way Outwards Inwards = false
same_way Outwards Outwards = true

abbrev pub falls_under : ℕ → Direction → ℕ → ℕ → Case → Bool
falls_under l host direction amount c = same_way (expected l host) c.host && same_way (moved direction amount) c.drive && c.compares l amount

abbrev pub fitting : ℕ → Direction → ℕ → ℕ → List Case → ℕ
fitting l host direction amount [] = 0
fitting l host direction amount (c ∷ cs) = one (falls_under l host direction amount c) + fitting l host direction amount cs

-- the pipe that data goes by is halted too, if told so
abbrev pub also_halted : Bool → Way → Halts → Halts
also_halted halts way h =
    record { outward = (halts && same_way way Outwards) || h.outward; inward = (halts && same_way way Inwards) || h.inward }

-- the bridge that a case leaves
abbrev pub case_leaves : Case → Direction → ℕ → ℕ → ℕ → ℕ → Bridge → Bridge
case_leaves c host tag l failed amount b =
    record {
      dock = b.dock;
      configured = b.configured;
      phase = StatusWaiting tag (c.residue l amount) (cond c.own failed 2);
      halts = also_halted c.halts (way_of host) b.halts;
    }

abbrev pub Each : (Case → Type 0) → List Case → Type 0
Each P [] = Unit {0}
Each P (c ∷ cs) = P c × Each P cs

-- "These are BOT's thirteen cases": of a configured busy bridge, a report that is not malformed falls under one case, and is answered 0 and leaves
-- what that case says.
abbrev pub ThirteenCases : Machine → Type 0
ThirteenCases m =
    (s : m.State) (host : Direction) (lun : Lun) (tag l : ℕ) (direction failed amount : ℕ)
    → (m.shows s).bridge.configured ≡ true → (m.shows s).bridge.phase ≡ Busy host lun tag l
    → direction ≤ 2 → failed ≤ 1 → (direction ≡ 0 → amount ≡ 0)
    → (fitting l host direction amount cases ≡ 1)
    × ((m.takes s (Report direction failed amount)).answer ≡ 0)
    × Each
    (λ c. falls_under l host direction amount c ≡ true
    → (m.shows (m.takes s (Report direction failed amount)).next).bridge ≡ case_leaves c host tag l failed amount (m.shows s).bridge)
    cases
