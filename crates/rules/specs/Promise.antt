-- What a call promises: everything that it leaves, as one equation with the rules.
use Rattle.std.specs.Prelude.{◌≡◌, List, ℕ, length}
use Rattle.rules.specs.declared.Bridge.{Bridge}
use Rattle.rules.specs.declared.Change.{Change}
use Rattle.rules.specs.declared.Request.{Request}
use Rattle.rules.specs.declared.Setup.{Setup}
use Rattle.rules.specs.declared.Stands.{Stands}
use Rattle.rules.specs.declared.Stands.TheVariants.{InRoom, InMemory}
use Rattle.rules.specs.Words.{laid, over}
use Rattle.rules.specs.Held.{World, world}
use Rattle.rules.specs.Requests.{Known, reply_to, replies, change_by, bytes_after, memory_after}
use Rattle.rules.specs.Packets.{signature_of}
use Rattle.rules.specs.Step.{Event, BusReset, Control, Packet, Report, StatusRequest, Burst, EndMark, Outcome, change, step}

-- the answer, how many bytes or operations were handed out and where they stand, what is changed of the bridge, and the configuration bytes, the memory
-- and the lent room
pub record Left : Type 0 where
  pub answer : ℕ
  pub count : ℕ
  pub stands : Stands
  pub change : Change
  pub bytes : List ℕ
  pub memory : List ℕ
  pub room : List ℕ

abbrev pub left_at : Stands → ℕ → ℕ → Change → List ℕ → List ℕ → List ℕ → Left
left_at stands answer count change bytes memory room =
    record { answer = answer; count = count; stands = stands; change = change; bytes = bytes; memory = memory; room = room }

abbrev pub left : ℕ → ℕ → Change → List ℕ → List ℕ → List ℕ → Left
left answer count change bytes memory room = left_at InRoom answer count change bytes memory room

-- what goes into the lent room: the operations of a packet or an end mark, the reply to anything else
abbrev pub handed_out : Event → Outcome World → List ℕ
handed_out BusReset o = o.reply
handed_out (Control setup host room) o = o.reply
handed_out (Packet p room) o = o.operations
handed_out (Report direction failed amount) o = o.reply
handed_out (StatusRequest room) o = o.reply
handed_out (Burst bytes) o = o.reply
handed_out (EndMark room) o = o.operations

-- the room with what is handed out at its front; where that stands in the memory, "the reply buffer is then unchanged"
abbrev pub room_with : Stands → List ℕ → List ℕ → List ℕ
room_with InRoom out room = laid out room
room_with (InMemory at) out room = room

-- what the rules leave of a world, an event and the room that is lent to it
abbrev pub leaves : World → (ℕ → Event) → List ℕ → Left
leaves w event room =
    let e : Event = event (length room) in
    let o : Outcome World = step w e in
    left_at o.stands o.answer (length (handed_out e o)) (change w e) o.next.bytes o.next.memory
    (room_with o.stands (handed_out e o) room)

-- a call that is lent neither bytes nor memory promises the same with all of them, and leaves them as they are; what is held it does not see, since by
-- Demands.Bursts.HeldEntersNothing it enters an end mark alone
abbrev pub Told : Bridge → (ℕ → Event) → List ℕ → ℕ → ℕ → Change → List ℕ → Type 0
Told b event room answer count change now =
    (bytes memory : List ℕ) → left answer count change bytes memory now ≡ leaves (world b bytes memory) event room

-- .. and one that is told the command signature, with all bytes that hold it
abbrev pub ToldOf : Bridge → ℕ → (ℕ → Event) → List ℕ → ℕ → ℕ → Change → List ℕ → Type 0
ToldOf b signature event room answer count change now =
    (bytes memory : List ℕ) → signature_of bytes ≡ signature → left answer count change bytes memory now ≡ leaves (world b bytes memory) event room

-- what a control request leaves that is done and that no check refuses
abbrev pub served : Request → Setup → List ℕ → World → List ℕ → Left
served r s host w room =
    let q = Known r in
    left 0 (replies r s) (change_by q s w.bridge) (bytes_after q s host w.bytes) (memory_after q s host w.memory) (over room 0 (reply_to q s w))
