-- The samples of the wall screen.
use mathlib.Core.Path.{◌≡◌, refl}
use mathlib.Core.List.{[], ◌∷◌, ◌++◌}
use lib.ListN.{take}
use Rattle.bits.specs.Bits.{field_at}
use Rattle.numbers.specs.Numbers.{number_of, groups_in}
use Rattle.kinds.specs.Kinds.{digits}
use Rattle.kinds.specs.Tables.{place}
use Rattle.grammar.specs.segment.Segment.{entries, changes, lists, body, fields, sheet_fields}
use Rattle.grammar.specs.segment.Judgement.{from_packet}
use Rattle.text.specs.words.Words.{ascii, decimal}
use Rattle.speed_question.specs.Question.{permitted_speed}
use Rattle.fleet.specs.Fleet.{asked_of, answer_of, alone, after, board_after}
use Rattle.screen.specs.File.{file_numbers}
use Rattle.screen.specs.Screen.{lines_after, screen_of}
use Rattle.screen.specs.Desk.{six_packet, six_cards, six_lines}

-- each number that is printed is that of its own card: the six cards differ in every number, and in what the segment permits them
pub desk_six : screen_of six_cards six_packet ≡ six_lines
unfolding field_at number_of groups_in digits place entries changes lists body fields sheet_fields from_packet decimal permitted_speed asked_of answer_of alone after board_after file_numbers lines_after screen_of
desk_six = refl

-- "or the listing's refusal line": both files absent; the cards file cut in its last number; a membership of 2 as card 0's third number;
-- a location at L_SP for the last card, whatever the cards before it
pub desk_refused : (screen_of [] [] ≡ ascii "REFUSED 20 AT 0\n") × (screen_of (take 57 six_cards) [] ≡ ascii "REFUSED 9 AT 56\n")
    × (screen_of (0x01 ∷ 0x50 ∷ 0x02 ∷ []) [] ≡ ascii "REFUSED 4 AT 2\n") × (screen_of six_cards [] ≡ ascii "REFUSED 1 AT 0\n")
    × (screen_of (six_cards ++ 0x01 ∷ 0x50 ∷ 0x00 ∷ 0x00 ∷ 0x00 ∷ 0x01 ∷ 0xE8 ∷ 0x07 ∷ []) six_packet ≡ ascii "REFUSED 11 AT 0\n")
unfolding field_at number_of groups_in digits place entries changes lists body fields sheet_fields from_packet decimal permitted_speed asked_of answer_of alone after board_after file_numbers lines_after screen_of
desk_refused = (refl, refl, refl, refl, refl)
