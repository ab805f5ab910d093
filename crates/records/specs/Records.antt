-- Records: "payload length (2, low first), kind (2), payload".
use Rattle.std.specs.Prelude.{ℕ, ◌+◌, Bool, cond, not, ◌&&◌, ◌||◌, List, length, take, drop, eqb, leb, ltb}
use Rattle.rules.specs.Words.{byte, word, long}
use Rattle.rules.specs.Step.{Event, BusReset, Control, Packet, Report, StatusRequest}

-- how a stream begins: with a whole record, a torn one, or a part of which more may come
pub data Head : Type 0 where
  Whole : Head
  Torn : Head
  Part : Head

abbrev pub length_of : List ℕ → ℕ
length_of s = word 0 s

abbrev pub kind_of : List ℕ → ℕ
kind_of s = word 2 s

abbrev pub payload_of : List ℕ → List ℕ
payload_of s = take (length_of s) (drop 4 s)

-- "Payload over 520, a reset or status payload that isn't empty, a report payload that isn't 6 bytes, an unknown kind"
unfoldable pub torn : ℕ → ℕ → Bool
torn kind n =
    ltb 520 n
    || (eqb kind 1 || eqb kind 5) && not (eqb n 0)
    || eqb kind 4 && not (eqb n 6)
    || not (leb 1 kind && leb kind 5)

-- "Its reply room 4,096, its operation room 11." "Kinds 1 to 5 are the events in this page's order; a setup record holds 8 bytes (all there
-- are, if fewer), then host data; a report holds direction, failed, amount (4)."
unfoldable pub event_of : ℕ → List ℕ → Event
event_of kind p =
    cond (eqb kind 1) BusReset
    (cond (eqb kind 2) (Control (take 8 p) (drop 8 p) 4096)
    (cond (eqb kind 3) (Packet p 11)
    (cond (eqb kind 4) (Report (byte 0 p) (byte 1 p) (long 2 p)) (StatusRequest 4096))))

-- a record of which more may come: "a cut record" where the stream has ended in it
abbrev pub unfinished : Bool → ℕ → Head
unfinished last n = cond (last && not (eqb n 0)) Torn Part

-- how a stream begins
unfoldable pub head_of : Bool → List ℕ → Head
head_of last s =
    cond (ltb (length s) 4) (unfinished last (length s))
    (cond (torn (kind_of s) (length_of s)) Torn
    (cond (ltb (length s) (4 + length_of s)) (unfinished last (length s)) Whole))
