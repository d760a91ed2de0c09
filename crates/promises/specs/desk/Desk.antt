-- The desk cases of document 01 that are marked (P), in one table: what a public operation says, and what it must say.
use Rattle.std.specs.Prelude.{false, List, [], ◌∷◌, ◌++◌, map, ℕ, zero, suc, ◌+◌, pos, negsuc, length, replicate, take, drop}
use Rattle.grammar.specs.segment.Desk.{Question, ask_sheet_of, ask_packet_of, Reply, bytes, refusal, packet_with, first_packet, first_sheet, conversions}
use Rattle.speed.specs.declared.Train.{Train}
use Rattle.speed.specs.Desk.{train_up_to, train_of, plain, canted}
use Rattle.convert.specs.Convert.{Outcome, packet_to_sheet, sheet_to_packet}
use Rattle.speed_question.specs.declared.Speed.{Speed}
use Rattle.speed_question.specs.Question.{Brought, permitted_speed}
use Rattle.altitude.specs.declared.Altitude.{Altitude}
use Rattle.altitude.specs.Altitude.{altitude_of}
use Rattle.promises.specs.Samples.{asked_run}

-- "Five public operations": what one of them says
pub data Said : Type 0 where
  conversion_said : Outcome → Said
  speed_said : Speed → Said
  altitude_said : Altitude → Said

-- "Marked (P): to be proved": what is said, and what is due
pub record Case : Type 0 where
  pub said : Said
  pub due : Said

-- a "lent room" of n bytes, none of them 0
abbrev pub room : ℕ → List ℕ
room n = replicate n 0xAA

-- "Success returns the length", and fills a room of its size; a refusal's room "keeps every byte it had"
abbrev pub converts_to : (List ℕ → List ℕ → Outcome) → List ℕ → Reply → Case
converts_to operation s (bytes b) =
    record { said = conversion_said (operation s (room (length b))); due = conversion_said (record { answer = record { refusal = 0; place = 0; length = length b }; room = b }) }
converts_to operation s (refusal r place) =
    record { said = conversion_said (operation s (room 3)); due = conversion_said (record { answer = record { refusal = r; place = place; length = 0 }; room = room 3 }) }

-- "packet to sheet, sheet to packet"
abbrev pub converts : Question → Reply → Case
converts (ask_sheet_of s) r = converts_to packet_to_sheet s r
converts (ask_packet_of s) r = converts_to sheet_to_packet s r

-- the sheet of a segment of 1,000 cm: its bytes up to the speed profile, and then `rest`
abbrev pub ten_metres : List ℕ → List ℕ
ten_metres rest = 0x06 ∷ 0xC5 ∷ 0xC6 ∷ 0x04 ∷ 0x01 ∷ 0x00 ∷ 0x00 ∷ 0x07 ∷ replicate 4 0 ++ 0xE8 ∷ 0x07 ∷ replicate 3 0 ++ rest

-- "Length 1,000 cm, 100 km/h with Q_FRONT 0, change at 500 to 140", with Q_FRONT `front` before the change and `next` after it
abbrev pub change_sheet : ℕ → ℕ → List ℕ
change_sheet front next = ten_metres (0x64 ∷ front ∷ 0x00 ∷ 0x01 ∷ 0xF4 ∷ 0x03 ∷ 0x8C ∷ 0x01 ∷ next ∷ replicate 6 0)

-- "sheet to packet": the packet of `change_sheet`, 43 bytes
abbrev pub change_packet : ℕ → ℕ → List ℕ
change_packet front next = (sheet_to_packet (change_sheet front next) (room 43)).room

-- "one question": its medium, run, train and x, and the refusal, its place and the speed that are due
abbrev pub told_run : ℕ → List (List ℕ) → Train → ℕ → ℕ → ℕ → ℕ → Case
told_run medium run t x r place v = record { said = speed_said (asked_run medium run t x); due = speed_said (record { refusal = r; place = place; speed = v }) }

-- a run of one segment, and a refusal without a place
abbrev pub told : ℕ → List ℕ → Train → ℕ → ℕ → ℕ → Case
told medium s t x r v = told_run medium (s ∷ []) t x r 0 v

-- ---- A4: "Cant deficiency falls to the next lower class"

-- a segment of 1,000 cm with one element: 100 km/h, and n entries
abbrev pub entries_sheet : ℕ → List ℕ → List ℕ
entries_sheet n entries = ten_metres (0x64 ∷ 0x00 ∷ n ∷ entries ++ replicate 6 0)

-- "entries for 100 and 165": 120 and 140 km/h
abbrev pub two_sheet : List ℕ
two_sheet = entries_sheet 2 (0x00 ∷ 0x64 ∷ 0x78 ∷ 0x00 ∷ 0xA5 ∷ 0x01 ∷ 0x8C ∷ 0x01 ∷ [])

-- 90 km/h for 100 mm; 115, 112 and 125 for 130 mm; 140 for 165 mm
abbrev pub several_sheet : List ℕ
several_sheet =
    entries_sheet 5
    (0x00 ∷ 0x82 ∷ 0x01 ∷ 0x73 ∷ 0x00 ∷ 0xA5 ∷ 0x01 ∷ 0x8C ∷ 0x01 ∷ 0x00 ∷ 0x82 ∷ 0x01 ∷ 0x70 ∷ 0x00 ∷ 0x64 ∷ 0x5A ∷ 0x00 ∷ 0x82 ∷ 0x01 ∷ 0x7D ∷ [])

-- the speeds from `two_sheet` and its packet of 42 bytes, and from `several_sheet` and its packet of 47 bytes
abbrev pub cants : List Case
cants =
    -- "A 150 mm train with entries for 100 and 165 uses the 100 entry"
    told 1 two_sheet (canted 150) 0 0 120 ∷ told 0 (sheet_to_packet two_sheet (room 42)).room (canted 150) 0 0 120
    -- entries for the train's own figure and a lower one; for no figure at or below its own
    ∷ told 1 two_sheet (canted 165) 0 0 140 ∷ told 0 (sheet_to_packet two_sheet (room 42)).room (canted 165) 0 0 140
    ∷ told 1 two_sheet (canted 80) 0 0 100 ∷ told 0 (sheet_to_packet two_sheet (room 42)).room (canted 80) 0 0 100
    -- "the lowest speed of them"; a packet's speeds are multiples of 5
    ∷ told 1 several_sheet (canted 150) 0 0 112 ∷ told 0 (sheet_to_packet several_sheet (room 47)).room (canted 150) 0 0 110
    ∷ told 1 several_sheet (canted 130) 0 0 112 ∷ told 0 (sheet_to_packet several_sheet (room 47)).room (canted 130) 0 0 110
    ∷ []

-- ---- A1: "the journey on the same link, as packet number 4"

-- the packet of a journey of no segment: a body of 11 bits
abbrev pub journey_packet : List ℕ
journey_packet = 0x04 ∷ 0x00 ∷ 0x0B ∷ replicate 14 0

-- the sheet of a journey of no segment: 8 numbers
abbrev pub journey_sheet_bytes : List ℕ
journey_sheet_bytes = 0x04 ∷ replicate 7 0

-- a journey of one segment with one timing point: the bytes of its latest arrival's seconds, its Q_Stop_Skip_Passes, and the bytes after the daylight saving
abbrev pub point_sheet : List ℕ → ℕ → List ℕ → List ℕ
point_sheet seconds stop_skip_passes rest = 0x04 ∷ replicate 6 0 ++ 0x01 ∷ replicate 5 0 ++ 0x01 ∷ 0x00 ∷ 0x00 ∷ seconds ++ 0x00 ∷ 0x00 ∷ stop_skip_passes ∷ 0x00 ∷ 0x00 ∷ rest

-- a journey with different values in its fields: two segments, three timing points, and a constraint of each type.
-- Any two fields of a timing point that have equal widths differ in one of the three points.
abbrev pub whole_journey_sheet : List ℕ
whole_journey_sheet =
    -- the header: NID_OPERATIONAL 12345678, NID_ENGINE 9ABCDE, both hexadecimal, date 5,000, seconds 70,000, packet counter 201; Q_JP_Status 3, 2 segments
    0x04 ∷ 0xF8 ∷ 0xAC ∷ 0xD1 ∷ 0x91 ∷ 0x01 ∷ 0xDE ∷ 0xF9 ∷ 0xEA ∷ 0x04 ∷ 0x88 ∷ 0x27 ∷ 0xF0 ∷ 0xA2 ∷ 0x04 ∷ 0xC9 ∷ 0x01 ∷ 0x03 ∷ 0x02
    -- NID_C 345, NID_SP 89ABCDEF (hexadecimal), version 17.130, Q_SP_DIR 1, 3 timing points
    ∷ 0xD9 ∷ 0x02 ∷ 0xEF ∷ 0x9B ∷ 0xAF ∷ 0xCD ∷ 0x08 ∷ 0x11 ∷ 0x82 ∷ 0x01 ∷ 0x01 ∷ 0x03
    -- a stopping point: NID_TP 76543210 (hexadecimal), date 12,345, seconds 86,400, window 601, alignment 2, stop kind 0, information 1, daylight saving 0
    ∷ 0x90 ∷ 0xE4 ∷ 0xD0 ∷ 0xB2 ∷ 0x07 ∷ 0xB9 ∷ 0x60 ∷ 0x80 ∷ 0xA3 ∷ 0x05 ∷ 0xD9 ∷ 0x04 ∷ 0x02 ∷ 0x00 ∷ 0x01 ∷ 0x00
    -- door side 3, centralised opening 0, relaxed coupler 1, train hold 0, date 23,456, seconds 86,399, dwell time 777, automatic closing 1
    ∷ 0x03 ∷ 0x00 ∷ 0x01 ∷ 0x00 ∷ 0xA0 ∷ 0xB7 ∷ 0x01 ∷ 0xFF ∷ 0xA2 ∷ 0x05 ∷ 0x89 ∷ 0x06 ∷ 0x01
    -- a skipped stopping point: NID_TP 0F1E2D3C (hexadecimal), date 12,346, seconds 60,001, window 90, alignment 0, stop kind 1, information 0, daylight saving 1
    ∷ 0xBC ∷ 0xDA ∷ 0xF8 ∷ 0x78 ∷ 0xBA ∷ 0x60 ∷ 0xE1 ∷ 0xD4 ∷ 0x03 ∷ 0x5A ∷ 0x00 ∷ 0x01 ∷ 0x00 ∷ 0x01
    -- door side 2, centralised opening 0, relaxed coupler 0, train hold 1, date 23,457, seconds 40,002, dwell time 45, automatic closing 1
    ∷ 0x02 ∷ 0x00 ∷ 0x00 ∷ 0x01 ∷ 0xA1 ∷ 0xB7 ∷ 0x01 ∷ 0xC2 ∷ 0xB8 ∷ 0x02 ∷ 0x2D ∷ 0x01
    -- a passing point: NID_TP FEDCBA98 (hexadecimal), date 12,347, seconds 50,003, window 1,000, alignment 1, stop kind 2, information 0, daylight saving 1
    ∷ 0x98 ∷ 0xF5 ∷ 0xF2 ∷ 0xF6 ∷ 0x0F ∷ 0xBB ∷ 0x60 ∷ 0xD3 ∷ 0x86 ∷ 0x03 ∷ 0xE8 ∷ 0x07 ∷ 0x01 ∷ 0x02 ∷ 0x00 ∷ 0x01 ∷ replicate 8 0
    -- 4 constraints: type 0 from 1,000,000 to 2,000,001 cm, Q_FRONT 1, 85 km/h; type 1 from 70,007 cm on, adhesion 5
    ++ 0x04 ∷ 0x00 ∷ 0x02 ∷ 0xC0 ∷ 0x84 ∷ 0x3D ∷ 0x81 ∷ 0x89 ∷ 0x7A ∷ 0x01 ∷ 0x55 ∷ 0x00 ∷ 0x00 ∷ 0x01 ∷ 0x00 ∷ 0xF7 ∷ 0xA2 ∷ 0x04 ∷ 0x00 ∷ 0x00 ∷ 0x00 ∷ 0x05 ∷ 0x00
    -- type 2 up to 8,000,009 cm; type 3 on the whole segment
    ∷ 0x02 ∷ 0x01 ∷ 0x00 ∷ 0x89 ∷ 0xA4 ∷ 0xE8 ∷ 0x03 ∷ 0x00 ∷ 0x00 ∷ 0x00 ∷ 0x00 ∷ 0x03 ∷ 0x03 ∷ replicate 6 0
    -- NID_C 678, NID_SP 13572468 (hexadecimal), version 5.99, Q_SP_DIR 0, no timing point, no constraint
    ++ 0xA6 ∷ 0x05 ∷ 0xE8 ∷ 0xC8 ∷ 0xDC ∷ 0x9A ∷ 0x01 ∷ 0x05 ∷ 0x63 ∷ 0x00 ∷ 0x00 ∷ 0x00 ∷ []

-- the packet of `whole_journey_sheet`: a body of 828 bits, worked out from the documents by another program
abbrev pub whole_journey_packet : List ℕ
whole_journey_packet =
    0x04 ∷ 0x03 ∷ 0x3C ∷ 0x12 ∷ 0x34 ∷ 0x56 ∷ 0x78 ∷ 0x9A ∷ 0xBC ∷ 0xDE ∷ 0x27 ∷ 0x11 ∷ 0x11 ∷ 0x70 ∷ 0xC9 ∷ 0x60
    ∷ 0x4A ∷ 0xCC ∷ 0x4D ∷ 0x5E ∷ 0x6F ∷ 0x78 ∷ 0x8C ∷ 0x14 ∷ 0x6E ∷ 0xCA ∷ 0x86 ∷ 0x42 ∷ 0x0C ∷ 0x0E ∷ 0x6A ∷ 0x30
    ∷ 0x12 ∷ 0xCC ∷ 0x2D ∷ 0x5B ∷ 0xA0 ∷ 0xA8 ∷ 0xBF ∷ 0xE1 ∷ 0x30 ∷ 0xF1 ∷ 0xE2 ∷ 0xD3 ∷ 0xC6 ∷ 0x07 ∷ 0x4E ∷ 0xA6
    ∷ 0x11 ∷ 0x68 ∷ 0x4C ∷ 0x6D ∷ 0xD0 ∷ 0xA7 ∷ 0x10 ∷ 0x82 ∷ 0xDF ∷ 0xF6 ∷ 0xE5 ∷ 0xD4 ∷ 0xC3 ∷ 0x03 ∷ 0xB6 ∷ 0x1A
    ∷ 0x9F ∷ 0xD0 ∷ 0xC4 ∷ 0x00 ∷ 0x00 ∷ 0x00 ∷ 0x00 ∷ 0x00 ∷ 0x00 ∷ 0x84 ∷ 0x1E ∷ 0x84 ∷ 0x80 ∷ 0x3D ∷ 0x09 ∷ 0x03
    ∷ 0x22 ∷ 0x3F ∷ 0xF4 ∷ 0x01 ∷ 0x11 ∷ 0x77 ∷ 0x00 ∷ 0x00 ∷ 0x00 ∷ 0x00 ∷ 0xBF ∷ 0xFC ∷ 0x80 ∷ 0x00 ∷ 0x00 ∷ 0x3D
    ∷ 0x09 ∷ 0x04 ∷ 0x80 ∷ 0x0F ∷ 0xFF ∷ 0xC0 ∷ 0x00 ∷ 0x00 ∷ 0x00 ∷ 0x00 ∷ 0x00 ∷ 0x00 ∷ 0x07 ∷ 0xFF ∷ 0x53 ∷ 0x09
    ∷ 0xAB ∷ 0x92 ∷ 0x34 ∷ 0x02 ∷ 0xB1 ∷ 0x80 ∷ 0x00 ∷ []

-- the sheet s is refused with r at `place`
abbrev pub refused_sheet : List ℕ → ℕ → ℕ → Case
refused_sheet s r place = converts (ask_packet_of s) (refusal r place)

-- the cases of journeys; a sheet that is refused with 8 is accepted but for the short room
abbrev pub journeys : List Case
journeys =
    converts (ask_sheet_of journey_packet) (bytes journey_sheet_bytes) ∷ converts (ask_packet_of journey_sheet_bytes) (bytes journey_packet)
    -- "fields in the order and widths of the journey table in source document 002, .. all always sent"
    ∷ converts (ask_packet_of whole_journey_sheet) (bytes whole_journey_packet) ∷ converts (ask_sheet_of whole_journey_packet) (bytes whole_journey_sheet)
    -- "2 now means neither 4 nor 6, or 4 where a segment is needed (the conversions take both)"
    ∷ refused_sheet (0x05 ∷ replicate 7 0) 2 0
    ∷ told 0 journey_packet plain 0 2 0 ∷ told 1 journey_sheet_bytes plain 0 2 0
    ∷ record { said = altitude_said (altitude_of journey_packet); due = altitude_said (record { refusal = 2; place = 0; altitude = pos 0 }) }
    -- "Latest arrival seconds reach 86,400"
    ∷ refused_sheet (point_sheet (0x80 ∷ 0xA3 ∷ 0x05 ∷ []) 0 (replicate 9 0)) 8 0 ∷ refused_sheet (point_sheet (0x81 ∷ 0xA3 ∷ 0x05 ∷ []) 0 (replicate 9 0)) 4 16
    -- "departure seconds 86,399"
    ∷ refused_sheet (point_sheet (0x00 ∷ []) 0 (replicate 5 0 ++ 0xFF ∷ 0xA2 ∷ 0x05 ∷ replicate 3 0)) 8 0
    ∷ refused_sheet (point_sheet (0x00 ∷ []) 0 (replicate 5 0 ++ 0x80 ∷ 0xA3 ∷ 0x05 ∷ replicate 3 0)) 4 27
    -- "At a passing point the last eight fields .. are 0", and at a skipped stopping point they need not be
    ∷ refused_sheet (point_sheet (0x00 ∷ []) 2 (replicate 9 0)) 8 0 ∷ refused_sheet (point_sheet (0x00 ∷ []) 2 (0x01 ∷ replicate 8 0)) 4 22
    ∷ refused_sheet (point_sheet (0x00 ∷ []) 2 (replicate 7 0 ++ 0x01 ∷ 0x00 ∷ [])) 4 29 ∷ refused_sheet (point_sheet (0x00 ∷ []) 1 (replicate 7 0 ++ 0x01 ∷ 0x00 ∷ [])) 8 0
    ∷ []

-- ---- A5: "Yard speed restrictions"

-- a journey of one segment with no timing point: `count` constraints, of which the bytes `numbers` follow
abbrev pub constraint_sheet : ℕ → List ℕ → List ℕ
constraint_sheet count numbers = 0x04 ∷ replicate 6 0 ++ 0x01 ∷ replicate 6 0 ++ count ∷ numbers

-- the packet of a journey of one segment with one constraint: a body of 153 bits, of which `bits` has the last 73
abbrev pub constraint_packet : List ℕ → List ℕ
constraint_packet bits = 0x04 ∷ 0x00 ∷ 0x99 ∷ replicate 13 0 ++ 0x20 ∷ replicate 7 0 ++ 0x01 ∷ bits

-- a constraint is refused with r at its number n, counted from 0; each number before it has one byte
abbrev pub refused_constraint : List ℕ → ℕ → ℕ → Case
refused_constraint numbers r n = refused_sheet (constraint_sheet 1 numbers) r (15 + n)

-- a constraint is accepted: the sheet is refused with 8 alone
abbrev pub accepted_constraint : List ℕ → Case
accepted_constraint numbers = refused_sheet (constraint_sheet 1 numbers) 8 0

-- the bytes of a speed restriction from 100 to 200 cm, whose speed in km/h has the bytes `speed`
abbrev pub restricted : List ℕ → List ℕ
restricted speed = 0x00 ∷ 0x02 ∷ 0x64 ∷ 0xC8 ∷ 0x01 ∷ 0x01 ∷ speed ++ 0x00 ∷ 0x00 ∷ []

-- the packet of a speed restriction from 100 to 200 cm, to 80 km/h
abbrev pub restricted_packet : List ℕ
restricted_packet = constraint_packet (0x20 ∷ 0x00 ∷ 0x06 ∷ 0x40 ∷ 0x00 ∷ 0x0C ∷ 0x89 ∷ 0x01 ∷ 0xFF ∷ 0x80 ∷ [])

-- the cases of temporary constraints
abbrev pub constraint_cases : List Case
constraint_cases =
    -- "Lowering in demands 2 and 3 then covers these speeds": 83 km/h gives 80
    converts (ask_packet_of (constraint_sheet 1 (restricted (0x53 ∷ [])))) (bytes restricted_packet)
    ∷ converts (ask_sheet_of restricted_packet) (bytes (constraint_sheet 1 (restricted (0x50 ∷ []))))
    -- "Speed and current in the sheet follow the segment rules": 604 gives 120, and 605 is refused
    ∷ accepted_constraint (restricted (0xDC ∷ 0x04 ∷ [])) ∷ refused_sheet (constraint_sheet 1 (restricted (0xDD ∷ 0x04 ∷ []))) 4 21
    -- "up to 31 constraints per segment"
    ∷ refused_sheet (constraint_sheet 32 []) 4 14 ∷ refused_sheet (constraint_sheet 31 []) 9 15
    -- "Document 002's fifth type .. is refused", and a fifth range
    ∷ refused_constraint (4 ∷ []) 4 0 ∷ refused_constraint (0 ∷ 4 ∷ []) 4 1
    -- "A range of starts uses the start only, ends the end only"
    ∷ accepted_constraint (2 ∷ 0 ∷ 1 ∷ replicate 5 0) ∷ refused_constraint (2 ∷ 0 ∷ 1 ∷ 1 ∷ replicate 4 0) 4 3
    ∷ accepted_constraint (2 ∷ 1 ∷ 0 ∷ 1 ∷ replicate 4 0) ∷ refused_constraint (2 ∷ 1 ∷ 1 ∷ 1 ∷ replicate 4 0) 4 2
    -- "whole segment neither"
    ∷ accepted_constraint (2 ∷ 3 ∷ replicate 6 0) ∷ refused_constraint (2 ∷ 3 ∷ 1 ∷ replicate 5 0) 4 2 ∷ refused_constraint (2 ∷ 3 ∷ 0 ∷ 1 ∷ replicate 4 0) 4 3
    -- "5, at the end field, for start not below end", and 4 where the end is no number of 24 bits
    ∷ accepted_constraint (2 ∷ 2 ∷ 6 ∷ 7 ∷ replicate 4 0) ∷ refused_constraint (2 ∷ 2 ∷ 7 ∷ 7 ∷ replicate 4 0) 5 3
    ∷ refused_constraint (2 ∷ 2 ∷ 7 ∷ 0x80 ∷ 0x80 ∷ 0x80 ∷ 0x08 ∷ replicate 4 0) 4 3
    -- "Type 0 uses Q_FRONT and speed, 1 adhesion; 2 and 3 (driving modes) use none", and an unused speed is 0 itself
    ∷ accepted_constraint (1 ∷ 3 ∷ 0 ∷ 0 ∷ 0 ∷ 0 ∷ 5 ∷ 0 ∷ []) ∷ refused_constraint (1 ∷ 3 ∷ 0 ∷ 0 ∷ 0 ∷ 0 ∷ 6 ∷ 0 ∷ []) 4 6
    ∷ refused_constraint (1 ∷ 3 ∷ 0 ∷ 0 ∷ 0 ∷ 3 ∷ 0 ∷ 0 ∷ []) 4 5 ∷ refused_constraint (1 ∷ 3 ∷ 0 ∷ 0 ∷ 1 ∷ 0 ∷ 0 ∷ 0 ∷ []) 4 4
    ∷ refused_constraint (0 ∷ 3 ∷ 0 ∷ 0 ∷ 1 ∷ 3 ∷ 1 ∷ 0 ∷ []) 4 6 ∷ refused_constraint (3 ∷ 3 ∷ 0 ∷ 0 ∷ 0 ∷ 0 ∷ 1 ∷ 0 ∷ []) 4 6
    -- "current 1,023 and 0"
    ∷ refused_constraint (3 ∷ 3 ∷ 0 ∷ 0 ∷ 0 ∷ 0 ∷ 0 ∷ 1 ∷ []) 4 7
    ∷ converts (ask_sheet_of (constraint_packet (0x40 ∷ 0x00 ∷ 0x00 ∷ 0x70 ∷ 0x00 ∷ 0x00 ∷ 0x00 ∷ 0x0A ∷ 0x00 ∷ 0x00 ∷ []))) (refusal 4 263)
    ∷ converts (ask_sheet_of (constraint_packet (0x20 ∷ 0x00 ∷ 0x06 ∷ 0x40 ∷ 0x00 ∷ 0x06 ∷ 0x49 ∷ 0x01 ∷ 0xFF ∷ 0x80 ∷ []))) (refusal 5 228)
    ∷ []

-- ---- A8: "More wire changes"

-- n changes from the location x on, one centimetre apart, each with the numbers l
abbrev pub wired : ℕ → ℕ → List ℕ → List ℕ
wired x zero l = []
wired x (suc n) l = x ∷ l ++ wired (suc x) n l

-- a segment of 1,000 cm with `volts` voltage changes, whose count is at byte 23, and `amperes` current changes
abbrev pub wire_sheet : ℕ → ℕ → List ℕ
wire_sheet volts amperes = ten_metres (0x64 ∷ replicate 5 0 ++ volts ∷ wired 1 volts (0x00 ∷ 0x00 ∷ []) ++ 0x00 ∷ amperes ∷ wired 1 amperes (0x00 ∷ []))

-- the cases of wire changes; a sheet that is refused with 8 is accepted but for the short room
abbrev pub wire_cases : List Case
wire_cases =
    -- "31 voltage and 31 current changes where 23 were allowed", in both lists or in one
    refused_sheet (wire_sheet 23 23) 8 0 ∷ refused_sheet (wire_sheet 24 24) 8 0 ∷ refused_sheet (wire_sheet 31 31) 8 0
    ∷ refused_sheet (wire_sheet 31 0) 8 0 ∷ refused_sheet (wire_sheet 0 31) 8 0
    -- 32 voltage changes, and 32 current changes
    ∷ refused_sheet (wire_sheet 32 0) 4 23 ∷ refused_sheet (wire_sheet 0 32) 4 25
    -- "4 no longer covers counts 24 to 31": the first location of 24 and of 31 voltage changes does not fit
    ∷ converts (ask_sheet_of (take 35 first_packet ++ 0x06 ∷ drop 36 first_packet)) (refusal 6 290)
    ∷ converts (ask_sheet_of (take 35 first_packet ++ 0x07 ∷ 0xFF ∷ drop 37 first_packet)) (refusal 6 290)
    ∷ []

-- ---- A9: "The tail is still on the last segment"

-- a segment of 1,000 cm with one speed: the sheet whose bytes for it are `speed` and whose Q_FRONT is `front`, and the packet whose two bytes for both are v and w
abbrev pub even : List ℕ → ℕ → ℕ → ℕ → Brought → List ℕ
even speed front v w Brought.sheet = ten_metres (speed ++ front ∷ replicate 7 0)
even speed front v w Brought.packet =
    0x06 ∷ 0x00 ∷ 0xB9 ∷ 0x00 ∷ 0x01 ∷ 0x23 ∷ 0x45 ∷ 0x00 ∷ 0x00 ∷ 0x01 ∷ 0x00 ∷ 0x00 ∷ 0x00 ∷ 0x00 ∷ 0x07
    ∷ replicate 9 0 ++ 0xFA ∷ replicate 6 0 ++ v ∷ w ∷ replicate 3 0 ++ 0x3F ∷ 0xF0 ∷ 0x00 ∷ []

-- 63 km/h in the sheet and 60 in the packet, with Q_FRONT 0
abbrev pub slow : Brought → List ℕ
slow b = even (0x3F ∷ []) 0 0x00 0xC0 b

-- these speeds with Q_FRONT 1
abbrev pub slow_front : Brought → List ℕ
slow_front b = even (0x3F ∷ []) 1 0x00 0xC8 b

-- 140 km/h with Q_FRONT 0
abbrev pub fast : Brought → List ℕ
fast b = even (0x8C ∷ 0x01 ∷ []) 0 0x01 0xC0 b

-- "length 1 cm, altitude -100,000, 80 km/h"
abbrev pub shortest : Brought → List ℕ
shortest Brought.packet = first_packet
shortest Brought.sheet = first_sheet

-- the refusal r, or the speed v, that is due from the sheets of a run, and the speed w that is due from their packets
abbrev pub told_both : List (Brought → List ℕ) → Train → ℕ → ℕ → ℕ → ℕ → List Case
told_both run t x r v w = told_run 1 (map (λ s. s Brought.sheet) run) t x r 0 v ∷ told_run 0 (map (λ s. s Brought.packet) run) t x r 0 w ∷ []

-- a sheet that is refused with 4 at byte 1, and a packet that is refused with 7 at bit 311
abbrev pub broken_sheet : List ℕ
broken_sheet = 6 ∷ 10 ∷ []

abbrev pub broken_packet : List ℕ
broken_packet = packet_with 0x01 0x00 0x3F 0xF0 0x01

-- the cases of runs
abbrev pub run_cases : List Case
run_cases =
    -- "sheet to packet": the packets of the segments
    converts (ask_packet_of (slow Brought.sheet)) (bytes (slow Brought.packet)) ∷ converts (ask_packet_of (slow_front Brought.sheet)) (bytes (slow_front Brought.packet))
    ∷ converts (ask_packet_of (fast Brought.sheet)) (bytes (fast Brought.packet))
    -- "At a boundary the screen raises the speed while half the set stands in the slower segment"; "The lowering in demand 3 holds for the run"
    ∷ told_both (slow ∷ fast ∷ []) plain 199 0 63 60 ++ told_both (slow ∷ fast ∷ []) plain 200 0 140 140
    -- "with its Q_FRONT delay": with Q_FRONT 1 there is none; "in order of travel": the other way round
    ++ told_both (slow_front ∷ fast ∷ []) plain 0 0 140 140 ++ told_both (fast ∷ slow ∷ []) plain 200 0 63 60
    -- "across boundaries too": a delay of 2,500 cm over four segments
    ++ told_both (slow ∷ fast ∷ fast ∷ fast ∷ []) (train_of 2500 80 false false false) 499 0 63 60
    ++ told_both (slow ∷ fast ∷ fast ∷ fast ∷ []) (train_of 2500 80 false false false) 500 0 140 140
    -- "then 10, then 11 against the last": of 1 cm after 1,000, and of 1,000 after 1
    ++ told_both (slow ∷ shortest ∷ []) plain 0 0 63 60 ++ told_both (slow ∷ shortest ∷ []) plain 1 11 0 0
    ++ told_both (shortest ∷ slow ∷ []) plain 999 0 63 60 ++ told_both (shortest ∷ slow ∷ []) plain 1000 11 0 0
    ++ told_both (slow ∷ shortest ∷ []) (canted 81) 1 10 0 0
    -- "each segment is then judged in order (place within it)": the second, before the third, and both before the train and x
    ++ told_run 1 (first_sheet ∷ broken_sheet ∷ [] ∷ []) plain 0 4 1 0 ∷ told_run 1 (first_sheet ∷ [] ∷ broken_sheet ∷ []) (canted 81) 1 9 0 0
    ∷ told_run 0 (first_packet ∷ broken_packet ∷ [] ∷ []) plain 0 7 311 0 ∷ told_run 0 (first_packet ∷ [] ∷ broken_packet ∷ []) (canted 81) 1 1 0 0
    -- "of the one kind": a sheet among packets, a packet among sheets
    ∷ told_run 0 (first_packet ∷ first_sheet ∷ []) plain 0 3 0 0 ∷ told_run 1 (first_sheet ∷ first_packet ∷ []) plain 0 9 2 0
    -- "16 for a run of none or more than 4, judged right after 15", whatever is lent
    ∷ told_both [] plain 0 16 0 0 ++ told_run 2 [] plain 0 15 0 0
    ∷ told_both (replicate 5 shortest) plain 0 16 0 0 ++ told_run 0 (replicate 5 []) (canted 81) 1 16 0 0
    ∷ record { said = speed_said (permitted_speed 0 4294967295 [] [] [] [] plain 0); due = speed_said (record { refusal = 16; place = 0; speed = 0 }) }
    -- "those past it are not read": what is lent past the count would be refused
    ∷ record { said = speed_said (permitted_speed 1 2 (slow Brought.sheet) (fast Brought.sheet) [] broken_sheet plain 199); due = speed_said (record { refusal = 0; place = 0; speed = 63 }) }
    ∷ []

-- ---- A10: "A train's own top speed"

-- 100 km/h with Q_FRONT 0
abbrev pub hundred : Brought → List ℕ
hundred b = even (0x64 ∷ []) 0 0x01 0x40 b

-- 604 km/h in the sheet and 600 in the packet, with Q_FRONT 0
abbrev pub fastest : Brought → List ℕ
fastest b = even (0xDC ∷ 0x04 ∷ []) 0 0x07 0x80 b

-- a train of 200 cm whose maximum is m km/h
abbrev pub up_to : ℕ → Train
up_to m = train_up_to m 200 80 false false false

-- the cases of a train's own maximum
abbrev pub maximum_cases : List Case
maximum_cases =
    converts (ask_packet_of (hundred Brought.sheet)) (bytes (hundred Brought.packet)) ∷ converts (ask_packet_of (fastest Brought.sheet)) (bytes (fastest Brought.packet))
    -- "Since 83 is allowed": it is not lowered to a multiple of 5
    ∷ told_both (hundred ∷ []) (up_to 83) 0 0 83 83
    -- "1 to 600 km/h"
    ++ told_both (hundred ∷ []) (up_to 1) 0 0 1 1 ++ told_both (hundred ∷ []) (up_to 600) 0 0 100 100
    -- "10 also covers a maximum outside its range", before 11
    ++ told_both (hundred ∷ []) (up_to 0) 0 10 0 0 ++ told_both (hundred ∷ []) (up_to 601) 0 10 0 0
    ++ told_both (hundred ∷ []) (up_to 4294967295) 0 10 0 0 ++ told_both (hundred ∷ []) (up_to 601) 1000 10 0 0 ++ told_both (hundred ∷ []) (up_to 83) 1000 11 0 0
    -- "the lower of the card's maximum and the greatest multiple of 5 not above the profile's speed": 63 gives 60, and 62 does not
    ++ told_both (slow ∷ []) (up_to 62) 0 0 62 60 ++ told_both (slow ∷ []) (up_to 59) 0 0 59 59 ++ told_both (slow ∷ []) (up_to 83) 0 0 63 60
    -- 604 in a profile, and no answer above 600
    ++ told_both (fastest ∷ []) (up_to 600) 0 0 600 600 ++ told_both (fastest ∷ []) (up_to 599) 0 0 599 599
    -- "for runs too"
    ++ told_both (slow ∷ fast ∷ []) (up_to 83) 199 0 63 60 ++ told_both (slow ∷ fast ∷ []) (up_to 83) 200 0 83 83
    ++ told_both (slow ∷ fast ∷ []) (up_to 0) 1000 10 0 0

-- "The (P) cases form a single table proved by a single statement"
abbrev pub desk : List Case
desk =
    map (λ c. converts c.ask c.answer) conversions
    -- "is accepted: 39 bytes, length 1 cm, altitude -100,000, 80 km/h, no current limit"
    ++ record { said = altitude_said (altitude_of first_packet); due = altitude_said (record { refusal = 0; place = 0; altitude = negsuc 99999 }) }
    ∷ told 0 first_packet plain 0 0 80 ∷ told 0 first_packet plain 1 11 0
    -- "a length (1 to 150,000 cm), a cant deficiency (one of the eleven mm figures)"
    ∷ told 0 first_packet (train_of 1 80 false false false) 0 0 80 ∷ told 0 first_packet (train_of 0 80 false false false) 0 10 0
    ∷ told 0 first_packet (train_of 150000 300 false false false) 0 0 80 ∷ told 0 first_packet (train_of 150001 300 false false false) 0 10 0
    ∷ told 0 first_packet (canted 81) 0 10 0
    -- A7: "15, first of all, for a kind that is neither", where 0 is answered, refused with 1, or with 11
    ∷ told 2 first_packet plain 0 15 0 ∷ told 4294967295 first_packet plain 0 15 0 ∷ told 2 [] plain 0 15 0 ∷ told 4294967295 first_packet plain 1 15 0
    -- "whether it brings a packet or a sheet": a sheet, and the same bytes as a packet
    ∷ told 1 first_sheet plain 0 0 80 ∷ told 0 first_sheet plain 0 3 0
    -- "a 200 cm train gets 100 at 699 and 140 at 700. With Q_FRONT 1 it gets 140 at 500"
    ∷ told 1 (change_sheet 0 0) plain 699 0 100 ∷ told 1 (change_sheet 0 0) plain 700 0 140 ∷ told 1 (change_sheet 1 1) plain 500 0 140
    ∷ told 0 (change_packet 0 0) plain 699 0 100 ∷ told 0 (change_packet 0 0) plain 700 0 140 ∷ told 0 (change_packet 1 1) plain 500 0 140
    -- wire 4: "Q_FRONT's delay tied to the element that follows instead of the one that ends"
    ∷ told 1 (change_sheet 0 1) plain 699 0 100 ∷ told 1 (change_sheet 1 0) plain 500 0 140 ∷ told 0 (change_packet 0 1) plain 699 0 100 ∷ told 0 (change_packet 1 0) plain 500 0 140
    ∷ cants
    ++ journeys
    ++ constraint_cases
    ++ wire_cases
    ++ run_cases
    ++ maximum_cases
