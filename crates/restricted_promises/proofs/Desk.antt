-- The desk cases of the restricted speed, proved by one statement over the definitions.
use mathlib.Core.Path.{◌≡◌, refl}
use mathlib.Core.List.{map}
use Rattle.bits.specs.Bits.{field_at}
use Rattle.numbers.specs.Numbers.{number_of, groups_in}
use Rattle.kinds.specs.Kinds.{digits}
use Rattle.kinds.specs.Tables.{place}
use Rattle.format.specs.Format.{times}
use Rattle.grammar.specs.segment.Segment.{entries, changes, lists, body, fields, sheet_fields}
use Rattle.grammar.specs.segment.Judgement.{from_packet, from_sheet}
use Rattle.grammar.specs.journey.Journey.{journey_body, journey_fields, journey_sheet}
use Rattle.grammar.specs.link.Link.{link_fields, from_either_sheet, to_either_packet}
use Rattle.convert.specs.Convert.{sheet_to_packet}
use Rattle.speed_question.specs.Question.{permitted_speed}
use Rattle.restricted.specs.Question.{journey_as, restricted_speed}
use Rattle.restricted_promises.specs.Desk.{restricted_cases}

pub desk_restricted : map (λ c. c.said) restricted_cases ≡ map (λ c. record { refusal = c.refusal; place = 0; speed = c.speed }) restricted_cases
unfolding field_at number_of groups_in digits place times entries changes lists body fields sheet_fields from_packet from_sheet journey_body journey_fields journey_sheet link_fields from_either_sheet to_either_packet sheet_to_packet permitted_speed journey_as restricted_speed
desk_restricted = refl
