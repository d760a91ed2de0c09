-- Questions on the restricted speed for each refusal, in the order in which they are judged, of packets and of sheets.
use Rattle.std.specs.Prelude.{false, List, [], ◌∷◌, ◌++◌, map, ℕ, length, get_or, replicate}
use Rattle.grammar.specs.segment.Desk.{first_packet, first_sheet}
use Rattle.speed.specs.declared.Train.{Train}
use Rattle.speed.specs.Desk.{train_of, plain}
use Rattle.speed_question.specs.declared.Speed.{Speed}
use Rattle.speed_question.specs.Question.{Brought, packet, sheet, medium_of}
use Rattle.convert.specs.Convert.{sheet_to_packet}
use Rattle.promises.specs.Promised.{result}
use Rattle.promises.specs.Samples.{refused_packets, refused_sheets, converted_sheets}
use Rattle.restricted.specs.Question.{restricted_speed}

-- the question about a run of these segments on a journey; past them no byte is lent
abbrev pub asked_on : ℕ → List (List ℕ) → List ℕ → ℕ → Train → ℕ → Speed
asked_on medium run journey leg t x = restricted_speed medium (length run) (get_or run 0 []) (get_or run 1 []) (get_or run 2 []) (get_or run 3 []) journey leg t x

-- ---- journeys over document 01's first packet, a segment of 1 cm whose NID_C, NID_SP and version are 0

-- a constraint by its type, range, start, end, Q_FRONT and speed
abbrev pub constraint : ℕ → ℕ → ℕ → ℕ → ℕ → ℕ → List ℕ
constraint type range start end front v = type ∷ range ∷ start ∷ end ∷ front ∷ v ∷ 0 ∷ 0 ∷ []

-- a journey's segment with this NID_SP, version 0.0 and this direction, without a timing point, and with so many constraints
abbrev pub leg_with : ℕ → ℕ → ℕ → List ℕ → List ℕ
leg_with id direction n constraints = 0 ∷ id ∷ 0 ∷ 0 ∷ direction ∷ 0 ∷ n ∷ constraints

-- the sheet of a journey of so many segments; each number is below 128 and has one byte
abbrev pub journey_with : ℕ → List ℕ → List ℕ
journey_with n legs = 0x04 ∷ replicate 6 0 ++ n ∷ legs

-- a segment that is restricted whole, to 34 km/h
abbrev pub restricted_leg : List ℕ
restricted_leg = leg_with 0 1 1 (constraint 0 3 0 0 1 34)

-- a start that is not below the end
abbrev crossed : List ℕ
crossed = journey_with 1 (leg_with 0 1 1 (constraint 0 2 1 1 0 34))

-- a journey's sheet as it is brought, as a sheet or as its packet
abbrev pub brought_as : Brought → List ℕ → List ℕ
brought_as packet s = result (sheet_to_packet s (replicate 64 0))
brought_as sheet s = s

abbrev pub first : Brought → List ℕ
first packet = first_packet
first sheet = first_sheet

-- ---- refused

-- a journey for each refusal of its own. 1: no byte. 2: a segment. 3: a body of 1 bit in no byte. 4: the digit A. 5: a start at the end. 6: a body of no bit. 7: a bit of the padding.
-- 13: a bit left. Of sheets 2, 4, 5, 9 for no byte, and 12 for too many bits
abbrev pub refused_journeys : Brought → List (List ℕ)
refused_journeys packet =
    [] ∷ first_packet ∷ (4 ∷ 0 ∷ 1 ∷ replicate 12 0) ∷ (4 ∷ 0 ∷ 0 ∷ 0xA0 ∷ replicate 11 0)
    ∷ (0x04 ∷ 0x00 ∷ 0x99 ∷ replicate 13 0 ++ 0x20 ∷ replicate 6 0 ++ 0x04 ∷ 0x01 ∷ 0x20 ∷ 0x00 ∷ 0x00 ∷ 0x10 ∷ 0x00 ∷ 0x00 ∷ 0x10 ∷ 0x61 ∷ 0xFF ∷ 0x80 ∷ [])
    ∷ (4 ∷ replicate 14 0) ∷ (4 ∷ 0 ∷ 11 ∷ replicate 13 0 ++ 1 ∷ []) ∷ (4 ∷ 0 ∷ 12 ∷ replicate 14 0) ∷ []
refused_journeys sheet = first_sheet ∷ (4 ∷ 10 ∷ []) ∷ crossed ∷ [] ∷ get_or converted_sheets 5 [] ∷ []

abbrev pub refused_segments : Brought → List (List ℕ)
refused_segments packet = refused_packets
refused_segments sheet = refused_sheets ++ [] ∷ []

-- a train of no length, which is judged late
abbrev pub no_train : Train
no_train = train_of 0 80 false false false

-- each with all that is judged later wrong too: a segment's own; the journey's own; 22 for leg 1 of one; 23 for another NID_SP on a reverse leg; 24 with a constraint outside; 25; 10; 11; 26
abbrev pub refused_of : Brought → List Speed
refused_of b =
    let medium : ℕ = medium_of b in
    let one : List (List ℕ) = first b ∷ [] in
    map (λ s. asked_on medium (s ∷ []) [] 9 no_train 9) (refused_segments b)
    ++ map (λ j. asked_on medium one j 9 no_train 9) (refused_journeys b)
    ++ asked_on medium one (brought_as b (journey_with 1 (leg_with 7 0 0 []))) 1 no_train 9
    ∷ asked_on medium one (brought_as b (journey_with 2 (leg_with 0 1 0 [] ++ leg_with 7 0 1 (constraint 0 0 1 0 0 34)))) 1 no_train 9
    ∷ asked_on medium one (brought_as b (journey_with 2 (leg_with 0 1 0 [] ++ leg_with 0 0 1 (constraint 0 0 1 0 0 34)))) 1 no_train 9
    ∷ asked_on medium one (brought_as b (journey_with 2 (leg_with 0 1 0 [] ++ leg_with 0 1 1 (constraint 0 0 1 0 0 34)))) 1 no_train 9
    ∷ asked_on medium one (brought_as b (journey_with 2 (leg_with 0 1 0 [] ++ restricted_leg))) 1 no_train 9
    ∷ asked_on medium one (brought_as b (journey_with 2 (leg_with 0 1 0 [] ++ restricted_leg))) 1 plain 9
    ∷ asked_on medium one (brought_as b (journey_with 2 (leg_with 0 1 0 [] ++ restricted_leg))) 1 plain 0
    ∷ []

-- 15 and 16, and then those of packets and of sheets
abbrev pub asked_restricted : List Speed
asked_restricted = asked_on 2 [] [] 9 no_train 9 ∷ asked_on 0 [] [] 9 no_train 9 ∷ asked_on 1 (replicate 5 []) [] 9 no_train 9 ∷ refused_of packet ++ refused_of sheet
