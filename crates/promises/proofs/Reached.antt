-- Each refusal that an operation lists is given: by one table of inputs for each operation.
use mathlib.Core.Path.{◌≡◌, refl}
use mathlib.Core.List.{[], ◌∷◌, ◌++◌, map}
use lib.ListN.{replicate}
use Rattle.format.specs.Format.{times}
use Rattle.bits.specs.Bits.{field_at}
use Rattle.numbers.specs.Numbers.{number_of, groups_in}
use Rattle.kinds.specs.Kinds.{digits}
use Rattle.kinds.specs.Tables.{place}
use Rattle.grammar.specs.segment.Segment.{entries, changes, lists, body, fields, sheet_fields}
use Rattle.grammar.specs.segment.Judgement.{from_packet, from_sheet, to_packet, to_sheet}
use Rattle.grammar.specs.journey.Journey.{journey_body}
use Rattle.grammar.specs.link.Link.{link_fields, from_either_packet, from_either_sheet, to_either_packet, to_either_sheet}
use Rattle.speed_question.specs.Question.{Brought, permitted_speed}
use Rattle.altitude.specs.Altitude.{altitude_of}
use Rattle.convert.specs.Convert.{packet_to_sheet, sheet_to_packet}
use Rattle.intake.specs.Intake.{completed, asked}
use Rattle.promises.specs.Refused.{packet_to_sheet_refusals, sheet_to_packet_refusals, speed_refusals, altitude_refusals}
use Rattle.promises.specs.Samples.{refused_packets, converted_packets, converted_sheets, asked_speeds, completions, asked_sheets}
use Rattle.promises.specs.deliveries.Refused.{completion_refusals, asked_refusals}

pub packet_to_sheet_reached : map (λ s. (packet_to_sheet s []).answer.refusal) converted_packets ≡ packet_to_sheet_refusals
unfolding field_at number_of groups_in digits place entries changes lists body fields sheet_fields to_packet to_sheet times journey_body link_fields from_either_packet to_either_sheet packet_to_sheet
packet_to_sheet_reached = refl

pub sheet_to_packet_reached : map (λ s. (sheet_to_packet s []).answer.refusal) converted_sheets ≡ sheet_to_packet_refusals
unfolding field_at number_of groups_in digits place entries changes lists body fields sheet_fields to_packet to_sheet times journey_body link_fields from_either_sheet to_either_packet sheet_to_packet
sheet_to_packet_reached = refl

-- in the first, second, third and fourth segment of a run
pub permitted_speed_reached : map (λ n. map (λ o. o.refusal) (asked_speeds n)) (0 ∷ 1 ∷ 2 ∷ 3 ∷ []) ≡ replicate 4 (15 ∷ 16 ∷ 16 ∷ 10 ∷ 10 ∷ 10 ∷ 10 ∷ speed_refusals Brought.packet ++ speed_refusals Brought.sheet)
unfolding field_at number_of groups_in digits place entries changes lists body fields sheet_fields from_packet from_sheet to_packet to_sheet permitted_speed
permitted_speed_reached = refl

pub altitude_of_packet_reached : map (λ s. (altitude_of s).refusal) refused_packets ≡ altitude_refusals
unfolding field_at number_of groups_in digits place entries changes lists body fields sheet_fields from_packet to_packet altitude_of
altitude_of_packet_reached = refl

pub completed_reached : map (λ o. o.refusal) completions ≡ completion_refusals
unfolding field_at number_of groups_in digits place entries changes lists body fields sheet_fields to_packet times journey_body link_fields from_either_packet completed
completed_reached = refl

pub asked_reached : map (λ o. o.answer.refusal) asked_sheets ≡ asked_refusals
unfolding field_at number_of groups_in digits place entries changes lists body fields sheet_fields to_packet to_sheet times journey_body link_fields from_either_packet to_either_sheet packet_to_sheet completed asked
asked_reached = refl
