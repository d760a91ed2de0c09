-- The desk cases that are conversions, by one statement over the definitions.
use mathlib.Core.Path.{◌≡◌, refl}
use mathlib.Core.List.{map}
use Rattle.bits.specs.Bits.{field_at}
use Rattle.numbers.specs.Numbers.{number_of, groups_in}
use Rattle.kinds.specs.Kinds.{digits}
use Rattle.kinds.specs.Tables.{place}
use Rattle.grammar.specs.segment.Segment.{entries, changes, lists, body, fields, sheet_fields}
use Rattle.grammar.specs.segment.Judgement.{from_packet, from_sheet, to_packet, to_sheet}
use Rattle.grammar.specs.segment.Desk.{reply, conversions}

pub conversions_answered : map (λ c. reply c.ask) conversions ≡ map (λ c. c.answer) conversions
unfolding field_at number_of groups_in digits place entries changes lists body fields sheet_fields from_packet from_sheet to_packet to_sheet reply
conversions_answered = refl
