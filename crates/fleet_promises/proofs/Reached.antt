-- Each refusal that the board lists is given, and each ground of a change's refusal: by a table of boards and one of changes.
use mathlib.Core.Path.{◌≡◌, refl}
use mathlib.Core.List.{[], ◌∷◌, map}
use Rattle.bits.specs.Bits.{field_at}
use Rattle.kinds.specs.Kinds.{digits}
use Rattle.kinds.specs.Tables.{place}
use Rattle.grammar.specs.segment.Segment.{entries, changes, lists, body, fields, sheet_fields}
use Rattle.grammar.specs.segment.Judgement.{from_packet, to_packet}
use Rattle.speed_question.specs.Question.{permitted_speed}
use Rattle.fleet.specs.Fleet.{Moved, asked_of, named_in, answer_of, alone, after, board_after}
use Rattle.fleet_promises.specs.Promised.{board_refusals}
use Rattle.fleet_promises.specs.Samples.{boards, moves}

pub board_reached : map (λ b. b.refusal) boards ≡ 20 ∷ board_refusals
unfolding field_at digits place entries changes lists body fields sheet_fields from_packet to_packet permitted_speed asked_of answer_of alone after board_after
board_reached = refl

pub move_reached : map (λ (m : Moved). m.refusal) moves ≡ 20 ∷ 20 ∷ 20 ∷ 0 ∷ []
unfolding asked_of named_in
move_reached = refl
