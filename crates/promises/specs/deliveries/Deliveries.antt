-- What is promised of a packet that arrives in deliveries, however it was cut.
use Rattle.std.specs.Prelude.{◌≡◌, true, false, ℕ, ◌+◌, length, drop}
use mathlib.Core.List.{List, [], ◌∷◌, ◌++◌, flatten}
use Rattle.grammar.specs.link.Link.{from_either_packet}
use Rattle.convert.specs.Convert.{refused_with, packet_to_sheet}
use Rattle.intake.specs.declared.Intake.{Intake}
use Rattle.intake.specs.Intake.{gathering, judged_as, holds, Delivered, delivered, judged_of, completed, asked}

-- "several deliveries, some with no bytes": one after another, into one room
abbrev pub delivered_all : Intake → List (List ℕ) → List ℕ → Delivered
delivered_all i [] room = record { intake = i; room = room }
delivered_all i (d ∷ ds) room = delivered_all (delivered i d room).intake ds (delivered i d room).room

-- "After a verdict the next packet starts afresh"
pub data Afresh (i : Intake) : Type 0 where
  fresh : i ≡ gathering 0 → Afresh i
  after_verdict : i.phase ≡ 2 → Afresh i

module _ (i : Intake) (ds : List (List ℕ)) (room : List ℕ) where
  -- the room after all deliveries
  abbrev pub room_after : List ℕ
  room_after = (delivered_all i ds room).room

  -- the state with the verdict at completion
  abbrev pub verdict_after : Intake
  verdict_after = completed (delivered_all i ds room).intake room_after

  -- "However it was cut, verdict and sheet equal those of the joined bytes given at once"; what was in the room past the bytes taken stays
  pub record AsJoined : Type 0 where
    pub verdict : verdict_after ≡ judged_of (length (flatten ds)) (from_either_packet (flatten ds))
    pub sheet : (out : List ℕ) → asked verdict_after room_after out ≡ packet_to_sheet (flatten ds) out
    pub stays : room_after ≡ flatten ds ++ drop (length (flatten ds)) room

  -- "8 at completion, before all others, if the deliveries together exceeded the room", and asking returns it again.
  -- "A delivery that would pass the room's end, and each after it, writes nothing until completion": the room begins with the deliveries before the first that passes its end
  pub record TooLong : Type 0 where
    pub verdict : verdict_after ≡ judged_as 0 8 0
    pub sheet : (out : List ℕ) → asked verdict_after room_after out ≡ refused_with 8 0 out
    pub before : List (List ℕ)
    pub first : List ℕ
    pub after : List (List ℕ)
    pub split : ds ≡ before ++ first ∷ after
    pub fits : holds room (length (flatten before)) ≡ true
    pub passes : holds room (length (flatten before) + length first) ≡ false
    pub stays : room_after ≡ flatten before ++ drop (length (flatten before)) room
