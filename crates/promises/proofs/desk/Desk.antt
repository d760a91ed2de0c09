-- The desk cases marked (P), proved by one statement over the definitions that the contracts cite.
use mathlib.Core.Path.{◌≡◌, refl}
use mathlib.Core.List.{map}
use Rattle.format.specs.Format.{times}
use Rattle.bits.specs.Bits.{field_at}
use Rattle.numbers.specs.Numbers.{number_of, groups_in}
use Rattle.kinds.specs.Kinds.{digits}
use Rattle.kinds.specs.Tables.{place}
use Rattle.grammar.specs.segment.Segment.{entries, changes, lists, body, fields, sheet_fields}
use Rattle.grammar.specs.segment.Judgement.{from_packet, from_sheet, to_packet, to_sheet}
use Rattle.grammar.specs.journey.Journey.{journey_body}
use Rattle.grammar.specs.link.Link.{link_fields, from_either_packet, from_either_sheet, to_either_packet, to_either_sheet}
use Rattle.convert.specs.Convert.{packet_to_sheet, sheet_to_packet}
use Rattle.speed_question.specs.Question.{permitted_speed}
use Rattle.altitude.specs.Altitude.{altitude_of}
use Rattle.promises.specs.desk.Desk.{desk}

pub desk_holds : map (λ c. c.said) desk ≡ map (λ c. c.due) desk
unfolding field_at number_of groups_in digits place entries changes lists body fields sheet_fields from_packet from_sheet to_packet to_sheet times journey_body link_fields from_either_packet from_either_sheet to_either_packet to_either_sheet packet_to_sheet sheet_to_packet permitted_speed altitude_of
desk_holds = refl
