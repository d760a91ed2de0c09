-- The intake of a packet in deliveries: a delivery, the completion and the question for the sheet, each a total function of the state and of every byte of the room.
use Rattle.std.specs.Prelude.{Bool, true, cond, ◌&&◌, ◌||◌, List, ◌++◌, ℕ, ◌+◌, eqb, leb, length, take, drop}
use Rattle.format.specs.Format.{Read, accepted, refused}
use Rattle.grammar.specs.link.Link.{from_either_packet}
use Rattle.convert.specs.Convert.{Outcome, refused_with, packet_to_sheet}
use Rattle.intake.specs.declared.Intake.{Intake}

-- the state of phase 0: n bytes are in the room, and the next delivery is written after them; with n = 0 it is the fresh state
abbrev pub gathering : ℕ → Intake
gathering n = record { phase = 0; length = n; refusal = 0; place = 0 }

-- the state of phase 1: the deliveries passed the room's end
abbrev pub passed : Intake
passed = record { phase = 1; length = 0; refusal = 0; place = 0 }

-- the state of phase 2: a packet of n bytes was judged, with r and `place` as its verdict; both are 0 for an accepted packet
abbrev pub judged_as : ℕ → ℕ → ℕ → Intake
judged_as n r place = record { phase = 2; length = n; refusal = r; place = place }

-- "After a verdict the next packet starts afresh": how many bytes are in the room; a phase above 2 counts as phase 0
abbrev pub gathered : Intake → ℕ
gathered i = cond (eqb i.phase 2) 0 i.length

-- "into a lent room": the state after a delivery, and every byte of the room
pub record Delivered : Type 0 where
  pub intake : Intake
  pub room : List ℕ

-- whether the room holds n bytes, and a state can count them
abbrev pub holds : List ℕ → ℕ → Bool
holds room n = leb n (length room) && leb n 4294967295

-- "A delivery that would pass the room's end .. writes nothing"; any other is written after the n bytes that are in the room
abbrev pub gathers_at : ℕ → List ℕ → List ℕ → Delivered
gathers_at n delivery room =
    cond (holds room (n + length delivery))
    (record { intake = gathering (n + length delivery); room = take n room ++ (delivery ++ drop (n + length delivery) room) })
    (record { intake = passed; room = room })

-- "several deliveries, some with no bytes": a delivery of no bytes changes nothing; one that would pass the room's end, "and each after it, writes nothing until completion"
unfoldable pub delivered : Intake → List ℕ → List ℕ → Delivered
delivered i delivery room =
    cond (eqb (length delivery) 0) (record { intake = i; room = room })
    (cond (eqb i.phase 1) (record { intake = passed; room = room }) (gathers_at (gathered i) delivery room))

-- "judged when the radio says the packet is complete": the verdict on a packet of n bytes
abbrev pub judged_of : ℕ → Read → Intake
judged_of n (refused r place) = judged_as n r place
judged_of n (accepted l) = judged_as n 0 0

-- "8 at completion, before all others, if the deliveries together exceeded the room", with the length 0; 8 is also given where the state counts more bytes than the room has
unfoldable pub completed : Intake → List ℕ → Intake
completed i room =
    cond (eqb i.phase 1) (judged_as 0 8 0) (cond (leb (gathered i) (length room)) (judged_of (gathered i) (from_either_packet (take (gathered i) room))) (judged_as 0 8 0))

-- a completion gives no refusal but 0 to 8 and 13, and no place but 0 with 0, 1, 2, 3 and 8
abbrev pub is_verdict : ℕ → ℕ → Bool
is_verdict r place = cond (leb r 8) (cond (leb r 3 || eqb r 8) (eqb place 0) true) (eqb r 13)

-- the sheet of the packet of n bytes that was judged: "14 .. after a verdict that was no refusal, with the packet's room cut short"
abbrev pub judged_sheet : ℕ → List ℕ → List ℕ → Outcome
judged_sheet n taken room = cond (leb n (length taken)) (packet_to_sheet (take n taken) room) (refused_with 14 0 room)

-- "14 asked too early": before a verdict; "where the verdict was a refusal, asking returns that number again"
unfoldable pub asked : Intake → List ℕ → List ℕ → Outcome
asked i taken room =
    cond (eqb i.phase 2 && is_verdict i.refusal i.place) (cond (eqb i.refusal 0) (judged_sheet i.length taken room) (refused_with i.refusal i.place room))
    (refused_with 14 0 room)
