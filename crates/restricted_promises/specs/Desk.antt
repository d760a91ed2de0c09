-- Desk cases of the restricted speed, in one table: questions by their numbers and by their bytes, each with its answer.
use Rattle.std.specs.Prelude.{true, false, List, [], ◌∷◌, ◌++◌, map, ℕ, length, replicate}
use Rattle.kinds.specs.declared.Item.{Item}
use Rattle.speed.specs.declared.Train.{Train}
use Rattle.speed.specs.Desk.{train_up_to}
use Rattle.speed_question.specs.declared.Speed.{Speed}
use Rattle.speed_question.specs.Question.{Brought, medium_of}
use Rattle.promises.specs.Samples.{asked_run}
use Rattle.legs.specs.Legs.{journey_legs}
use Rattle.restricted.specs.Question.{restricted_on}
use Rattle.restricted_promises.specs.Samples.{asked_on, constraint, journey_with, restricted_leg, brought_as, first}

-- what is answered, and the refusal and the speed that are due; no place is due with these refusals
pub record RestrictedCase : Type 0 where
  pub said : Speed
  pub refusal : ℕ
  pub speed : ℕ

-- ---- by their numbers

-- items with these numbers in the sheet; the packet's play no part
abbrev items : List ℕ → List Item
items s = map (λ n. record { sheet = n; packet = n }) s

-- a run of segments and a journey by the numbers of their sheets
abbrev over : List (List ℕ) → List ℕ → ℕ → Train → ℕ → ℕ → ℕ → RestrictedCase
over run journey leg t x r v = record { said = restricted_on (length run) leg t x (map items run) (journey_legs journey); refusal = r; speed = v }

-- a segment of 100 m with this NID_SP and version, 140 km/h all along
abbrev segment : ℕ → ℕ → ℕ → List ℕ
segment id major minor = 6 ∷ replicate 6 0 ++ id ∷ major ∷ minor ∷ 10000 ∷ replicate 3 0 ++ 140 ∷ replicate 8 0

-- a train of so many cm with this maximum
abbrev train : ℕ → ℕ → Train
train n maximum = train_up_to maximum n 80 false false false

-- a journey's segment with this NID_SP, version 1.0 and this direction, a timing point, and no constraint, one or two
abbrev free : ℕ → ℕ → List ℕ
free id direction = 0 ∷ id ∷ 1 ∷ 0 ∷ direction ∷ 1 ∷ replicate 16 0 ++ 0 ∷ []

abbrev held : ℕ → List ℕ → List ℕ
held id c = 0 ∷ id ∷ 1 ∷ 0 ∷ 1 ∷ 1 ∷ replicate 16 0 ++ 1 ∷ c

abbrev held_twice : ℕ → List ℕ → List ℕ → List ℕ
held_twice id c d = 0 ∷ id ∷ 1 ∷ 0 ∷ 1 ∷ 1 ∷ replicate 16 0 ++ 2 ∷ c ++ d

abbrev one : List (List ℕ)
one = segment 1 1 0 ∷ []

abbrev two : List (List ℕ)
two = segment 1 1 0 ∷ segment 2 1 0 ∷ []

abbrev three : List (List ℕ)
three = segment 1 1 0 ∷ segment 2 1 0 ∷ segment 3 1 0 ∷ []

-- a restriction to 30 from 20 m to 45 m, with this Q_FRONT
abbrev thirty : ℕ → List ℕ
thirty front = journey_with 1 (held 1 (constraint 0 2 2000 4500 front 30))

-- Starts at 90 m to 30, the whole segment to 40, Ends at 10 m to 50, all with the delay
abbrev across : List ℕ
across = journey_with 3 (held 1 (constraint 0 0 9000 0 0 30) ++ held 2 (constraint 0 3 0 0 0 40) ++ held 3 (constraint 0 1 0 1000 0 50))

-- a journey of one segment with this constraint
abbrev with : List ℕ → List ℕ
with c = journey_with 1 (held 1 c)

abbrev pub by_numbers : List RestrictedCase
by_numbers =
    -- from 20 m on, and with the delay to 45 m and the train's 15 m
    over one (thirty 0) 0 (train 1500 600) 1999 0 140 ∷ over one (thirty 0) 0 (train 1500 600) 2000 0 30
    ∷ over one (thirty 0) 0 (train 1500 600) 5999 0 30 ∷ over one (thirty 0) 0 (train 1500 600) 6000 0 140
    -- without the delay to 45 m
    ∷ over one (thirty 1) 0 (train 1500 600) 4499 0 30 ∷ over one (thirty 1) 0 (train 1500 600) 4500 0 140
    -- under a maximum of 83, and of 20
    ∷ over one (thirty 1) 0 (train 1500 83) 4500 0 83 ∷ over one (thirty 1) 0 (train 1500 20) 4499 0 20
    -- the lowest of two that hold, each with its own delay
    ∷ over one (journey_with 1 (held_twice 1 (constraint 0 2 2000 4500 1 30) (constraint 0 2 2000 4500 0 50))) 0 (train 1500 600) 4499 0 30
    ∷ over one (journey_with 1 (held_twice 1 (constraint 0 2 2000 4500 1 30) (constraint 0 2 2000 4500 0 50))) 0 (train 1500 600) 4500 0 50
    -- other types restrict nothing, wherever they lie
    ∷ over one (with (constraint 1 3 0 0 0 0)) 0 (train 1500 600) 0 0 140 ∷ over one (with (constraint 2 0 10000 0 0 0)) 0 (train 1500 600) 0 0 140
    -- Starts, whole segment, Ends: the tail in the first leg, in the second, and in the third
    ∷ over one across 0 (train 3000 600) 8999 0 140 ∷ over one across 0 (train 3000 600) 9000 0 30
    ∷ over two across 1 (train 3000 600) 2999 0 30 ∷ over two across 1 (train 3000 600) 3000 0 40
    ∷ over three across 2 (train 3000 600) 0 0 40 ∷ over three across 2 (train 3000 600) 2999 0 40
    ∷ over three across 2 (train 3000 600) 3000 0 50 ∷ over three across 2 (train 3000 600) 3999 0 50 ∷ over three across 2 (train 3000 600) 4000 0 140
    -- a constraint of a leg that the run does not travel plays no part
    ∷ over (segment 3 1 0 ∷ []) across 2 (train 3000 600) 4000 0 140
    -- 26: the tail may stand before a run that does not begin at leg 0; at leg 0 a train that is longer than all that is lent is answered
    ∷ over (segment 2 1 0 ∷ []) across 1 (train 3000 600) 2999 26 0 ∷ over (segment 2 1 0 ∷ []) across 1 (train 3000 600) 3000 0 40
    ∷ over (segment 2 1 0 ∷ segment 3 1 0 ∷ []) across 2 (train 12000 600) 1999 26 0 ∷ over (segment 2 1 0 ∷ segment 3 1 0 ∷ []) across 2 (train 12000 600) 2000 0 40
    ∷ over one across 0 (train 150000 600) 0 0 140
    -- 25: a start at L_SP, an end of 0, an end past L_SP; the last centimetre, and an end at L_SP, are allowed
    ∷ over one (with (constraint 0 0 10000 0 0 30)) 0 (train 1500 600) 0 25 0 ∷ over one (with (constraint 0 0 9999 0 0 30)) 0 (train 1500 600) 9999 0 30
    ∷ over one (with (constraint 0 1 0 0 0 30)) 0 (train 1500 600) 0 25 0 ∷ over one (with (constraint 0 1 0 10001 0 30)) 0 (train 1500 600) 0 25 0
    ∷ over one (with (constraint 0 2 9000 10001 0 30)) 0 (train 1500 600) 0 25 0 ∷ over one (with (constraint 0 2 9000 10000 0 30)) 0 (train 1500 600) 9000 0 30
    -- 22: a leg past the journey, and a run that would begin before it
    ∷ over three across 3 (train 3000 600) 0 22 0 ∷ over three across 1 (train 3000 600) 0 22 0
    -- 23: another major version, another minor version, another segment
    ∷ over (segment 1 2 0 ∷ []) across 0 (train 3000 600) 0 23 0 ∷ over (segment 1 1 1 ∷ []) across 0 (train 3000 600) 0 23 0
    ∷ over (segment 2 1 0 ∷ []) across 0 (train 3000 600) 0 23 0
    -- 24: a segment that is travelled in reverse, in the run and not before it
    ∷ over two (journey_with 2 (free 1 0 ++ free 2 1)) 1 (train 3000 600) 0 24 0
    ∷ over (segment 2 1 0 ∷ []) (journey_with 2 (free 1 0 ++ free 2 1)) 1 (train 3000 600) 3000 0 140
    -- 22 before 23; the first segment's 25 before the second's 23; 23 before 10; 10 before 11; 11 before 26
    ∷ over (segment 1 2 0 ∷ []) across 3 (train 3000 600) 0 22 0
    ∷ over (segment 1 1 0 ∷ segment 9 1 0 ∷ []) (journey_with 2 (held 1 (constraint 0 1 0 0 0 30) ++ free 2 0)) 1 (train 3000 600) 0 25 0
    ∷ over (segment 1 2 0 ∷ []) across 0 (train 0 600) 0 23 0 ∷ over one (thirty 0) 0 (train 1500 0) 10000 10 0
    ∷ over one (thirty 0) 0 (train 1500 601) 0 10 0 ∷ over (segment 2 1 0 ∷ []) across 1 (train 150000 600) 10000 11 0
    ∷ []

-- ---- by their bytes

-- the segment of the project's sample, `examples/sample.packet`: NID_C 85, NID_SP 2026, 120 m; 60 km/h up to 30 m
abbrev pub sample_packet : List ℕ
sample_packet =
    0x06 ∷ 0x01 ∷ 0xA4 ∷ 0x00 ∷ 0x01 ∷ 0x23 ∷ 0x45 ∷ 0x00 ∷ 0x00 ∷ 0x01 ∷ 0x2E ∷ 0xE0 ∷ 0xA8 ∷ 0xC0 ∷ 0x07 ∷ 0x15
    ∷ 0x40 ∷ 0x00 ∷ 0x01 ∷ 0xFA ∷ 0x80 ∷ 0x41 ∷ 0x00 ∷ 0x0B ∷ 0xB8 ∷ 0x00 ∷ 0x00 ∷ 0x00 ∷ 0x1A ∷ 0x0C ∷ 0x2D ∷ 0x30
    ∷ 0xC0 ∷ 0x06 ∷ 0x00 ∷ 0x17 ∷ 0x70 ∷ 0x52 ∷ 0x30 ∷ 0xCB ∷ 0x22 ∷ 0x42 ∷ 0x02 ∷ 0x40 ∷ 0x03 ∷ 0xA9 ∷ 0x82 ∷ 0x01
    ∷ 0x88 ∷ 0x30 ∷ 0x01 ∷ 0x38 ∷ 0x81 ∷ 0x00 ∷ 0x14 ∷ 0x07 ∷ 0x08 ∷ 0x01 ∷ 0x19 ∷ 0x42 ∷ 0x01 ∷ 0x9F ∷ 0xF8 ∷ 0x40
    ∷ 0x03 ∷ 0xE8 ∷ 0x02 ∷ 0x80 ∷ []

-- the journey of the project's sample, `examples/journey.packet`: segment 85/2026 restricted to 30 km/h from 20 to 45 m, then 85/2027 in reverse
abbrev pub sample_journey : List ℕ
sample_journey =
    0x04 ∷ 0x02 ∷ 0x61 ∷ 0x00 ∷ 0x01 ∷ 0x23 ∷ 0x45 ∷ 0x00 ∷ 0x00 ∷ 0x01 ∷ 0x2E ∷ 0xE0 ∷ 0xA8 ∷ 0xC0 ∷ 0x08 ∷ 0x20
    ∷ 0x42 ∷ 0xA8 ∷ 0x00 ∷ 0x00 ∷ 0x3F ∷ 0x50 ∷ 0x08 ∷ 0x24 ∷ 0x40 ∷ 0x00 ∷ 0x00 ∷ 0x0C ∷ 0xA5 ∷ 0xDC ∷ 0x15 ∷ 0x1F
    ∷ 0x80 ∷ 0xF2 ∷ 0x06 ∷ 0x17 ∷ 0x70 ∷ 0x54 ∷ 0x9C ∷ 0x05 ∷ 0x10 ∷ 0x00 ∷ 0x00 ∷ 0x06 ∷ 0x62 ∷ 0xEE ∷ 0x0A ∷ 0x97
    ∷ 0x40 ∷ 0x00 ∷ 0x80 ∷ 0x00 ∷ 0x00 ∷ 0x00 ∷ 0x00 ∷ 0x00 ∷ 0x00 ∷ 0x48 ∷ 0x00 ∷ 0x1F ∷ 0x40 ∷ 0x00 ∷ 0x46 ∷ 0x50
    ∷ 0x18 ∷ 0x7F ∷ 0xE2 ∷ 0xA8 ∷ 0x00 ∷ 0x00 ∷ 0x3F ∷ 0x58 ∷ 0x08 ∷ 0x00 ∷ 0x20 ∷ 0x00 ∷ 0x00 ∷ 0x0C ∷ 0xE5 ∷ 0xDC
    ∷ 0x2A ∷ 0x30 ∷ 0x01 ∷ 0xE4 ∷ 0x2C ∷ 0x97 ∷ 0x71 ∷ 0x00 ∷ 0x00 ∷ 0x00 ∷ 0x00 ∷ 0x00 ∷ []

-- a passenger train of 15 m for 150 mm, with the maximum 160
abbrev passengers : Train
passengers = train_up_to 160 1500 150 false false true

abbrev told : Speed → ℕ → ℕ → RestrictedCase
told said r v = record { said = said; refusal = r; speed = v }

-- document 01's first packet or sheet, 80 km/h, on a journey that restricts it to 34 km/h, to a train of 2 m with this maximum
abbrev asked : Brought → ℕ → Speed
asked b maximum = asked_on (medium_of b) (first b ∷ []) (brought_as b (journey_with 1 restricted_leg)) 0 (train 200 maximum) 0

abbrev pub by_bytes : List RestrictedCase
by_bytes =
    -- the two samples of the project are a pair: at 25 m permitted 60, restricted 30; at 10 m both 60; restricted with the delay to 60 m
    told (asked_run 0 (sample_packet ∷ []) passengers 2500) 0 60 ∷ told (asked_on 0 (sample_packet ∷ []) sample_journey 0 passengers 2500) 0 30
    ∷ told (asked_run 0 (sample_packet ∷ []) passengers 1000) 0 60 ∷ told (asked_on 0 (sample_packet ∷ []) sample_journey 0 passengers 1000) 0 60
    ∷ told (asked_on 0 (sample_packet ∷ []) sample_journey 0 passengers 5999) 0 30 ∷ told (asked_on 0 (sample_packet ∷ []) sample_journey 0 passengers 6000) 0 110
    -- it is the journey's first segment, and not its second
    ∷ told (asked_on 0 (sample_packet ∷ []) sample_journey 1 passengers 2500) 23 0
    -- from a sheet its own 34, from the packet 30; under a maximum of 20 both 20
    ∷ told (asked Brought.sheet 600) 0 34 ∷ told (asked Brought.packet 600) 0 30 ∷ told (asked Brought.sheet 20) 0 20 ∷ told (asked Brought.packet 20) 0 20
    ∷ []

abbrev pub restricted_cases : List RestrictedCase
restricted_cases = by_numbers ++ by_bytes
