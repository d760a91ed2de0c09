-- Each refusal of the restricted speed is given, in the order of the page, by a table of questions.
use mathlib.Core.Path.{◌≡◌, refl}
use mathlib.Core.List.{◌∷◌, ◌++◌, map}
use Rattle.bits.specs.Bits.{field_at}
use Rattle.numbers.specs.Numbers.{number_of, groups_in}
use Rattle.kinds.specs.Kinds.{digits}
use Rattle.kinds.specs.Tables.{place}
use Rattle.format.specs.Format.{times}
use Rattle.grammar.specs.segment.Segment.{entries, changes, lists, body, fields, sheet_fields}
use Rattle.grammar.specs.segment.Judgement.{from_packet, from_sheet, to_packet, to_sheet}
use Rattle.grammar.specs.journey.Journey.{journey_body, journey_fields, journey_sheet}
use Rattle.grammar.specs.link.Link.{link_fields, from_either_sheet, to_either_packet}
use Rattle.convert.specs.Convert.{sheet_to_packet}
use Rattle.speed_question.specs.Question.{Brought}
use Rattle.restricted.specs.Question.{journey_as, restricted_speed}
use Rattle.restricted_promises.specs.Promised.{restricted_refusals}
use Rattle.restricted_promises.specs.Samples.{asked_restricted}

pub restricted_speed_reached : map (λ o. o.refusal) asked_restricted ≡ 15 ∷ 16 ∷ 16 ∷ restricted_refusals Brought.packet ++ restricted_refusals Brought.sheet
unfolding field_at number_of groups_in digits place times entries changes lists body fields sheet_fields from_packet from_sheet to_packet to_sheet journey_body journey_fields journey_sheet link_fields from_either_sheet to_either_packet sheet_to_packet journey_as restricted_speed
restricted_speed_reached = refl
