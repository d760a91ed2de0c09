-- "Longer or slower never means faster", in the words of the question: bytes that are raised, trains, and what is promised of two answers.
use Rattle.std.specs.Prelude.{◌≡◌, Bool, false, List, [], ◌∷◌, ℕ, ◌≤◌}
use Rattle.grammar.specs.segment.Segment.{sheet_fields, wire_changes}
use Rattle.speed.specs.declared.Train.{Train}
use Rattle.speed.specs.Run.{EachTwo}
use Rattle.speed.specs.Faster.{Raising}
use Rattle.speed.specs.Desk.{train_of}
use Rattle.speed_question.specs.declared.Speed.{Speed}
use Rattle.speed_question.specs.Question.{Brought, medium_of, permitted_speed}
use Rattle.convert.specs.Convert.{sheet_to_packet}
use Rattle.promises.specs.Promised.{SegmentOfValues}
use Rattle.promises.specs.desk.Desk.{room, entries_sheet}

-- "both questions accepted": then the first answer's speed is not above the second's
abbrev pub NotFaster : Speed → Speed → Type 0
NotFaster a b = a.refusal ≡ 0 → b.refusal ≡ 0 → a.speed ≤ b.speed

-- "a longer train", "With all else equal": the train with the length n, in cm
abbrev pub with_length : ℕ → Train → Train
with_length n t = record { length = n; cant = t.cant; maximum = t.maximum; freight_p = t.freight_p; freight_g = t.freight_g; passenger = t.passenger }

-- "raising any speed in the sheet": two packets or two sheets of good values, those of the second with speeds raised and nothing else changed
pub record RaisedSegment (b : Brought) (s t : List ℕ) : Type 0 where
  pub values : SegmentOfValues b s
  pub higher : SegmentOfValues b t
  pub raising : Raising (sheet_fields wire_changes) values.values higher.values

-- "raising any speed in the sheet", of any segment of a run and of any number of them at once
abbrev pub RaisedRun : Brought → List (List ℕ) → List (List ℕ) → Type 0
RaisedRun b r s = EachTwo (RaisedSegment b) r s

-- "a replacing entry may be faster": 100 km/h; instead 130 in P position and 90 in G position
abbrev pub replacing_sheet : List ℕ
replacing_sheet = entries_sheet 2 (0x01 ∷ 0x00 ∷ 0x82 ∷ 0x01 ∷ 0x01 ∷ 0x01 ∷ 0x5A ∷ [])

-- the sheet, and its packet of 42 bytes
abbrev pub replacing : Brought → List ℕ
replacing Brought.packet = (sheet_to_packet replacing_sheet (room 42)).room
replacing Brought.sheet = replacing_sheet

-- "a train that joins a category": the answer to a train of 200 cm, by whether it is freight in P position and freight in G position
abbrev pub joining : Brought → Bool → Bool → Speed
joining b p g = permitted_speed (medium_of b) 1 (replacing b) [] [] [] (train_of 200 80 p g false) 0
