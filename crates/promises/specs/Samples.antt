-- An input for each refusal that an operation lists, in the order of the list; for a question on speed, its answer; the smallest and the largest journey.
use Rattle.std.specs.Prelude.{false, List, [], ◌∷◌, ◌++◌, map, ℕ, zero, suc, length, get_or, replicate}
use Rattle.kinds.specs.declared.Item.{Item}
use Rattle.grammar.specs.segment.Segment.{wire_changes}
use Rattle.grammar.specs.segment.Judgement.{to_packet, to_sheet}
use Rattle.grammar.specs.segment.Desk.{packet_with, first_packet, first_sheet, counting}
use Rattle.speed.specs.declared.Train.{Train}
use Rattle.speed.specs.Desk.{train_up_to, train_of, plain}
use Rattle.speed_question.specs.declared.Speed.{Speed}
use Rattle.speed_question.specs.Question.{permitted_speed}
use Rattle.convert.specs.Convert.{Outcome}
use Rattle.intake.specs.declared.Intake.{Intake}
use Rattle.intake.specs.Intake.{gathering, passed, completed, asked}

-- "They equal the packet fields": the item with v as its number in the sheet and its value in the packet
abbrev item : ℕ → Item
item v = record { sheet = v; packet = v }

-- "a change's location that .. is 0": values up to that location
abbrev fallen : List Item
fallen = item 6 ∷ replicate 9 (item 0) ++ item 1 ∷ replicate 6 (item 0) ++ item 1 ∷ item 0 ∷ []

-- a packet for each refusal. 1: no byte. 2: the number 7. 3: a body of 1 bit in no byte. 4: the digit A. 5: a change at 0. 6: a body of no bit.
-- 7: the document's packet, "Last byte 01". 13: the document's packet, with a body of 186 bits
abbrev pub refused_packets : List (List ℕ)
refused_packets =
    [] ∷ (7 ∷ replicate 14 0) ∷ (6 ∷ 0 ∷ 1 ∷ replicate 12 0) ∷ (6 ∷ 0 ∷ 0 ∷ 0xA0 ∷ replicate 11 0) ∷ to_packet wire_changes fallen
    ∷ (6 ∷ replicate 14 0) ∷ packet_with 0x01 0x00 0x3F 0xF0 0x01 ∷ counting 0xBA first_packet ∷ []

-- 2, "packet number is not 6": the number 7. 4, "a field outside its .. set": the digit A. 5, "is 0": a change at 0
abbrev pub refused_sheets : List (List ℕ)
refused_sheets = (7 ∷ []) ∷ (6 ∷ 10 ∷ []) ∷ to_sheet wire_changes fallen ∷ []

-- 8, "result longer than the lent room": a result in no room
abbrev pub converted_packets : List (List ℕ)
converted_packets = refused_packets ++ first_packet ∷ []

-- n copies of a list, one after the other
abbrev times : {A : Type 0} → ℕ → List A → List A
times zero l = []
times (suc n) l = l ++ times n l

-- "a sheet's body would exceed 65,535 bits": a journey of 17 segments with 31 timing points each, 69,167 bits
abbrev too_many_bits : List ℕ
too_many_bits = 4 ∷ replicate 6 0 ++ 17 ∷ times 17 (replicate 5 0 ++ 31 ∷ replicate 496 0 ++ 0 ∷ [])

-- a journey of no segment: Q_JP_Status, N_ITER_SP and the header's five fields, each 0
abbrev pub smallest : List Item
smallest = item 4 ∷ replicate 7 (item 0)

-- a segment of a journey with n constraints, every number 0: "A field the type does not use is 0 in packet and sheet, current 1,023 and 0"
abbrev segment_with : ℕ → List Item
segment_with n = replicate 6 (item 0) ++ item n ∷ times n (replicate 7 (item 0) ++ record { sheet = 0; packet = 1023 } ∷ [])

-- a body of 65,535 bits: a journey of 44 segments with 856 constraints
abbrev pub largest : List Item
largest = item 4 ∷ replicate 6 (item 0) ++ item 44 ∷ times 27 (segment_with 31) ++ segment_with 19 ++ times 16 (segment_with 0)

-- 9, "sheet ends too soon": no byte. 12: too many bits
abbrev pub converted_sheets : List (List ℕ)
converted_sheets = refused_sheets ++ first_sheet ∷ [] ∷ too_many_bits ∷ []

-- the question about a run of these segments; past them no byte is lent
abbrev pub asked_run : ℕ → List (List ℕ) → Train → ℕ → Speed
asked_run medium run t x = permitted_speed medium (length run) (get_or run 0 []) (get_or run 1 []) (get_or run 2 []) (get_or run 3 []) t x

-- the answers for each refused segment of a list, after the accepted segments `before`, asked with a valid train; then for the accepted segment s, whose L_SP is 1, after them:
-- 10, "train length .. not allowed", for a train of no length; 11, "x at or past L_SP", at x 1
abbrev questions : ℕ → List (List ℕ) → List (List ℕ) → List ℕ → List Speed
questions medium before [] s = asked_run medium (before ++ s ∷ []) (train_of 0 80 false false false) 1 ∷ asked_run medium (before ++ s ∷ []) plain 1 ∷ []
questions medium before (r ∷ l) s = asked_run medium (before ++ r ∷ []) plain 0 ∷ questions medium before l s

-- 10, "a maximum outside its range": the answers about a run, past L_SP of the last, to trains with the maximum 0 and 601
abbrev maxima : ℕ → List (List ℕ) → List Speed
maxima medium run = map (λ m. asked_run medium run (train_up_to m 200 80 false false false) 1) (0 ∷ 601 ∷ [])

-- 15, "a kind that is neither": 2, with no segment and a train of no length; 16, "a run of none or more than 4": of none, and of five without a byte;
-- 10 for a maximum, of n + 1 accepted packets and sheets; then the refusals of a packet and of a sheet, after n accepted segments
abbrev pub asked_speeds : ℕ → List Speed
asked_speeds n =
    asked_run 2 [] (train_of 0 80 false false false) 1 ∷ asked_run 0 [] plain 0 ∷ asked_run 1 (replicate 5 []) plain 0
    ∷ maxima 0 (replicate (suc n) first_packet) ++ maxima 1 (replicate (suc n) first_sheet)
    ++ questions 0 (replicate n first_packet) refused_packets first_packet ++ questions 1 (replicate n first_sheet) (refused_sheets ++ [] ∷ []) first_sheet

-- "judged when the radio says the packet is complete": each packet that is refused, in a room that holds it; then 8, where "the deliveries together exceeded the room"
abbrev pub completions : List Intake
completions = map (λ s. completed (gathering (length s)) s) refused_packets ++ completed passed [] ∷ []

-- "asking returns that number again": the sheet of each packet that is refused or too long for no room; then 14, "asked too early", of a fresh state
abbrev pub asked_sheets : List Outcome
asked_sheets = map (λ s. asked (completed (gathering (length s)) s) s []) converted_packets ++ asked (gathering 0) [] [] ∷ []
