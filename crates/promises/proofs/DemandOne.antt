-- The customer's first demand: "Whatever bytes come in, every public operation ends with an answer or the one refusal the rules name." For a question on speed see `Speeds`.
use mathlib.Core.Path.{◌≡◌, ap}
use mathlib.Core.List.{List}
use mathlib.Core.Logic.{◌↔◌}
use Prim.Native.Nat.{ℕ, ◌≤◌}
use native.Mathlib.Omega.{arith}
use lib.IntN.{pos}
use lib.ListN.{length}
use Rattle.bits.specs.Bits.{Bytes}
use Rattle.format.specs.Grounds.{OneEnding, OneJudgement}
use Rattle.grammar.specs.segment.Segment.{wire_changes}
use Rattle.grammar.specs.segment.Judgement.{from_packet}
use Rattle.grammar.specs.link.Link.{from_either_packet, from_either_sheet, to_either_packet, to_either_sheet}
use Rattle.grammar.specs.link.Grounds.{EitherPacketGround, EitherSheetGround, EitherPacketValues, EitherSheetValues}
use Rattle.speed_question.specs.Question.{Brought}
use Rattle.altitude.specs.Altitude.{altitude_of}
use Rattle.convert.specs.Convert.{refused_with, packet_to_sheet, sheet_to_packet}
use Rattle.promises.specs.Promised.{SegmentValues, segment_of, SegmentOfValues, ConvertiblePacket, ConvertibleSheet, Done}
use Rattle.promises.specs.Refused.{Refuses, PacketToSheetGround, SheetToPacketGround, SegmentGround, packet_to_sheet_refusals, sheet_to_packet_refusals, altitude_refusals}
use Rattle.promises.specs.Ranges.{ConversionEnds, AltitudeEnds, OneOutcome}
use Rattle.promises.proofs.Values.{segments, either_packets, either_sheets, kept, side_converted, altitude_none}
use Rattle.promises.proofs.Refused.{segments_on, either_packets_on, either_sheets_on, one_ending, one_outcome, conversion_refused, conversion_ends, altitude_refused as altitude-on-ground, altitude_answered, altitude_ends, side_judged}
use Rattle.promises.proofs.Ranges.{packet_sheet_size, sheet_packet_size, altitude_most, packet_to_sheet_listed, sheet_to_packet_listed, altitude_listed, packet_not_8, sheet_not_8, never_short}

module _ (s : List ℕ) (ok : Bytes s) where
  -- ==== "Each refusal is given then and not otherwise": refused with r, and not answered, exactly on the ground of r

  module _ (room : List ℕ) where
    pub packet_to_sheet_refused : (r place : ℕ) → Refuses ((packet_to_sheet s room).answer.refusal, (packet_to_sheet s room).answer.place) r place ↔ PacketToSheetGround s room r place
    unfolding packet_to_sheet
    packet_to_sheet_refused r place = conversion_refused either_packets either_packets_on s ok to_either_sheet room r place

    pub sheet_to_packet_refused : (r place : ℕ) → Refuses ((sheet_to_packet s room).answer.refusal, (sheet_to_packet s room).answer.place) r place ↔ SheetToPacketGround s room r place
    unfolding sheet_to_packet
    sheet_to_packet_refused r place = conversion_refused either_sheets either_sheets_on s ok to_either_packet room r place

  pub altitude_of_packet_refused : (r place : ℕ) → Refuses ((altitude_of s).refusal, (altitude_of s).place) r place ↔ SegmentGround Brought.packet s r place
  unfolding altitude_of
  altitude_of_packet_refused r place = altitude-on-ground (segments Brought.packet) (segments_on Brought.packet) s ok r place

  -- ==== "an answer or the one refusal": every input has an answer or one ground, and never both

  module _ (room : List ℕ) where
    pub packet_to_sheet_ending : OneEnding (ConvertiblePacket s room) {I = ℕ × ℕ} (λ p. PacketToSheetGround s room p.0 p.1)
    unfolding packet_to_sheet
    packet_to_sheet_ending = one_ending ((packet_to_sheet s room).answer.refusal, (packet_to_sheet s room).answer.place) (side_converted either_packets to_either_sheet s room ok) (packet_to_sheet_refused room)

    pub sheet_to_packet_ending : OneEnding (ConvertibleSheet s room) {I = ℕ × ℕ} (λ p. SheetToPacketGround s room p.0 p.1)
    unfolding sheet_to_packet
    sheet_to_packet_ending = one_ending ((sheet_to_packet s room).answer.refusal, (sheet_to_packet s room).answer.place) (side_converted either_sheets to_either_packet s room ok) (sheet_to_packet_refused room)

  pub altitude_of_packet_ending : OneEnding (SegmentOfValues Brought.packet s) {I = ℕ × ℕ} (λ p. SegmentGround Brought.packet s p.0 p.1)
  unfolding altitude_of
  altitude_of_packet_ending = one_ending ((altitude_of s).refusal, (altitude_of s).place) (altitude_answered (segments Brought.packet) (segments_on Brought.packet) s ok) altitude_of_packet_refused

  -- a segment that is brought as a packet or a sheet has good values or one ground of its own, and never both: it is judged before 8, 10 and 11
  pub segment_judged : (b : Brought) → OneJudgement (λ l. SegmentValues b l × (s ≡ segment_of b l)) (SegmentGround b s)
  segment_judged b = side_judged (segments b) (segments_on b) s ok

  pub either_packet_judged : OneJudgement (λ l. EitherPacketValues l × (s ≡ to_either_packet l)) (EitherPacketGround s)
  either_packet_judged = side_judged either_packets either_packets_on s ok

  pub either_sheet_judged : OneJudgement (λ l. EitherSheetValues l × (s ≡ to_either_sheet l)) (EitherSheetGround s)
  either_sheet_judged = side_judged either_sheets either_sheets_on s ok

  -- ==== "one possible outcome for every input": the refusals of the C header, and the ranges of success

  module _ (room : List ℕ) where
    pub packet_to_sheet_outcome : OneOutcome (packet_to_sheet s room) (ConversionEnds room packet_to_sheet_refusals 8 15226)
    unfolding packet_to_sheet
    packet_to_sheet_outcome =
        one_outcome (packet_to_sheet s room)
        (conversion_ends either_packets either_packets_on s ok to_either_sheet room packet_to_sheet_refusals 8 15226 (packet_to_sheet_listed s room) packet_sheet_size)

    pub sheet_to_packet_outcome : OneOutcome (sheet_to_packet s room) (ConversionEnds room sheet_to_packet_refusals 17 8207)
    unfolding sheet_to_packet
    sheet_to_packet_outcome =
        one_outcome (sheet_to_packet s room)
        (conversion_ends either_sheets either_sheets_on s ok to_either_packet room sheet_to_packet_refusals 17 8207 (sheet_to_packet_listed s room) sheet_packet_size)

  pub altitude_of_packet_outcome : OneOutcome (altitude_of s) (AltitudeEnds altitude_refusals)
  unfolding altitude_of
  altitude_of_packet_outcome = one_outcome (altitude_of s) (altitude_ends (segments Brought.packet) (segments_on Brought.packet) s ok altitude_refusals (altitude_listed s) altitude_most)

-- a room that holds the largest result is never refused as too short: 15,226 bytes for a sheet, 8,207 for a packet
pub largest_sheet_room : (s room : List ℕ) → Bytes s → 15226 ≤ length room → (packet_to_sheet s room).answer.refusal ≡ 8 → ⊥
largest_sheet_room s room ok h e =
    never_short to_either_sheet 15226 room h (λ l c. (packet_sheet_size l c).1) (packet_not_8 s) ((packet_to_sheet_refused s ok room 8 (packet_to_sheet s room).answer.place).0 (ap (λ (r : ℕ). (r, (packet_to_sheet s room).answer.place)) e, omega arith))

pub largest_packet_room : (s room : List ℕ) → Bytes s → 8207 ≤ length room → (sheet_to_packet s room).answer.refusal ≡ 8 → ⊥
largest_packet_room s room ok h e =
    never_short to_either_packet 8207 room h (λ l c. (sheet_packet_size l c).1) (sheet_not_8 s) ((sheet_to_packet_refused s ok room 8 (sheet_to_packet s room).answer.place).0 (ap (λ (r : ℕ). (r, (sheet_to_packet s room).answer.place)) e, omega arith))

-- ==== "A refusal returns its number and writes nothing into the lent room."

pub packet_refused : (s room : List ℕ) → (Done (packet_to_sheet s room) → ⊥) → packet_to_sheet s room ≡ refused_with (packet_to_sheet s room).answer.refusal (packet_to_sheet s room).answer.place room
unfolding packet_to_sheet
packet_refused s room n = kept to_either_sheet (from_either_packet s) room n

pub sheet_refused : (s room : List ℕ) → (Done (sheet_to_packet s room) → ⊥) → sheet_to_packet s room ≡ refused_with (sheet_to_packet s room).answer.refusal (sheet_to_packet s room).answer.place room
unfolding sheet_to_packet
sheet_refused s room n = kept to_either_packet (from_either_sheet s) room n

-- a refusal of the altitude question comes with altitude 0
pub altitude_refused : (s : List ℕ) → ((altitude_of s).refusal ≡ 0 → ⊥) → (altitude_of s).altitude ≡ pos 0
unfolding altitude_of
altitude_refused s n = altitude_none (from_packet wire_changes s) n
