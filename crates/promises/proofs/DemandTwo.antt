-- The customer's second demand: "Every packet and sheet that keeps the published widths and ranges and the stated rules is converted if the room holds the result, and nothing else is." For a question on speed see `Speeds`.
use mathlib.Core.Path.{◌≡◌, sym, ap, ap₂, ◌∙◌}
use mathlib.Core.List.{List}
use mathlib.Core.Logic.{◌↔◌}
use Prim.Native.Nat.{ℕ, ◌≤◌}
use native.Mathlib.Omega.{arith}
use lib.ListN.{length}
use Rattle.bits.specs.Bits.{Bytes}
use Rattle.kinds.specs.declared.Item.{Item}
use Rattle.format.specs.Format.{Read, sheet_numbers}
use Rattle.format.specs.Conforming.{given_back}
use Rattle.grammar.specs.segment.Frame.{packet_of_bits}
use Rattle.grammar.specs.segment.Judgement.{after_number}
use Rattle.grammar.specs.link.Link.{tree_fields, tree_of, link_fields, number_among, from_either_packet, to_either_packet, to_either_sheet}
use Rattle.grammar.specs.link.Grounds.{EitherPacketValues, EitherSheetValues}
use Rattle.grammar.proofs.link.Trees.{link_lawful}
use Rattle.grammar.proofs.link.Values.{either_packet_taken}
use Rattle.grammar.proofs.link.Ends.{number_kept}
use Rattle.speed_question.specs.Question.{Brought}
use Rattle.altitude.specs.declared.Altitude.{Altitude}
use Rattle.altitude.specs.Altitude.{centimetres, altitude_of}
use Rattle.convert.specs.Convert.{success_with, converted, packet_to_sheet, sheet_to_packet}
use Rattle.promises.specs.Promised.{SegmentOfValues, AltitudeOf, ConvertiblePacket, ConvertibleSheet, Done, result, spelled, spelled_bits, spelled_packet, Again}
use Rattle.promises.proofs.Standing.{altitude_stands}
use Rattle.promises.proofs.Refused.{segments_on, altitude_values, altitude_answered as answered-altitude}
use Rattle.promises.proofs.Values.{either_lowered, either_lowered_good, either_good_sheet, segments, either_packets, either_sheets, side_result, side_converted, placed_result, numbers_spelled, bits_spelled, lowering}

module _ (s room : List ℕ) where
  -- a packet is converted exactly when it is the packet of good values and the room holds their sheet
  pub packet_converted : Bytes s → Done (packet_to_sheet s room) ↔ ConvertiblePacket s room
  unfolding packet_to_sheet
  packet_converted ok = side_converted either_packets to_either_sheet s room ok

  -- the room of a converted packet begins with the sheet of its values, and keeps the bytes past it
  pub packet_result : (c : ConvertiblePacket s room) → packet_to_sheet s room ≡ success_with (to_either_sheet c.values) room
  unfolding packet_to_sheet
  packet_result c = side_result either_packets to_either_sheet s room c

  -- a sheet is converted exactly when it is the sheet of good values and the room holds their packet
  pub sheet_converted : Bytes s → Done (sheet_to_packet s room) ↔ ConvertibleSheet s room
  unfolding sheet_to_packet
  sheet_converted ok = side_converted either_sheets to_either_packet s room ok

  -- the room of a converted sheet begins with the packet of its values, and keeps the bytes past it
  pub sheet_result : (c : ConvertibleSheet s room) → sheet_to_packet s room ≡ success_with (to_either_packet c.values) room
  unfolding sheet_to_packet
  sheet_result c = side_result either_sheets to_either_packet s room c

-- the sheet of a packet is the number of every field of every change and of every timing point, in order, and nothing else
pub every_field : (l : List Item) → EitherPacketValues l → to_either_sheet l ≡ spelled (sheet_numbers l)
unfolding to_either_sheet
every_field l v = numbers_spelled v.good

-- the packet of a sheet is the value of every field in its width, in order, framed with the packet number and padded, and nothing else
pub every_bit : (l : List Item) → EitherSheetValues l → to_either_packet l ≡ spelled_packet (number_among l) (spelled_bits (tree_fields (tree_of (number_among l))) (after_number l))
unfolding to_either_packet
every_bit l v =
    ap₂ packet_of_bits (number_kept v) (bits_spelled (tree_fields (tree_of (number_among l))) (after_number l))

-- "Packet read and written again: the same packet."
pub packet_again : (s room back : List ℕ) → Bytes s → Done (packet_to_sheet s room) → length s ≤ length back
    → sheet_to_packet (result (packet_to_sheet s room)) back ≡ success_with s back
packet_again s room back ok d h =
    let c = (packet_converted s room ok).0 d in
    let l = c.values in
    let t : result (packet_to_sheet s room) ≡ to_either_sheet l = ap result (packet_result s room c) ∙ placed_result (to_either_sheet l) room in
    let k : length (to_either_packet l) ≤ length back = omega (arith, ap length c.whole) in
    sheet_result (result (packet_to_sheet s room)) back (record { values = l; good = either_good_sheet c.good; whole = t; holds = k })
    ∙ ap (λ (x : List ℕ). success_with x back) (sym c.whole)

-- "Sheet written and read again: the same sheet, speeds lowered to multiples of 5 km/h and currents to multiples of 10 A."
pub sheet_again : (s room back : List ℕ) → Bytes s → Done (sheet_to_packet s room) → Again s room back
unfolding packet_to_sheet
sheet_again s room back ok d =
    let c = (sheet_converted s room ok).0 d in
    let l = c.values in
    let m : List Item = given_back link_fields l in
    let t : result (sheet_to_packet s room) ≡ to_either_packet m =
    ap result (sheet_result s room c) ∙ placed_result (to_either_packet l) room ∙ sym (either_lowered l) in
    record {
      values = l;
      lower = m;
      whole = c.whole;
      good = c.good;
      good_lower = either_lowered_good c.good;
      lowers = lowering link_lawful c.good.good;
      again = ap (λ (r : Read). converted to_either_sheet r back) (ap from_either_packet t ∙ either_packet_taken m (either_lowered_good c.good));
    }

-- "the altitude of a packet in signed centimetres": answered exactly for a packet of good values
pub altitude_answered : (s : List ℕ) → Bytes s → ((altitude_of s).refusal ≡ 0) ↔ SegmentOfValues Brought.packet s
unfolding altitude_of
altitude_answered s ok = answered-altitude (segments Brought.packet) (segments_on Brought.packet) s ok

-- the altitude of a packet of good values is the value of their M_SP_Altitude, less 100,000
pub altitude_value : (s : List ℕ) → Bytes s → (c : SegmentOfValues Brought.packet s) → AltitudeOf c.values (altitude_of s).altitude
unfolding altitude_of
altitude_value s ok c =
    let a = altitude_stands c.values c.good in
    record { item = a.0; stands = a.1; signed = ap (λ (o : Altitude). o.altitude) (altitude_values (segments Brought.packet) (segments_on Brought.packet) s ok c) ∙ ap centimetres a.3 }
