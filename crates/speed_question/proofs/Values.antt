-- The values of an accepted segment conform to its tree, so that none of its elements starts past its end.
use mathlib.Core.Path.{◌≡◌, refl}
use mathlib.Core.List.{List, ◌∷◌}
use lib.Dec.{lit<}
use Prim.Native.Nat.{ℕ}
use Rattle.bits.specs.Bits.{Bytes}
use Rattle.kinds.specs.declared.Item.{Item}
use Rattle.format.specs.Format.{accepted, values_of}
use Rattle.format.specs.Conforming.{Conforming, also, InPacket, InSheet}
use Rattle.format.proofs.Media.{sheet_only}
use Rattle.grammar.specs.segment.Segment.{fields, sheet_fields, wire_changes}
use Rattle.grammar.specs.segment.Frame.{number_item}
use Rattle.grammar.specs.segment.Judgement.{segment_number, from_packet, from_sheet, to_packet, to_sheet}
use Rattle.grammar.proofs.segment.Framing.{framed_only}
use Rattle.speed.specs.Speed.{elements_from, segment_length, profile_of}
use Rattle.speed.proofs.Runs.{StartsTo}
use Rattle.speed.proofs.Standing.{packet_starts, sheet_starts}
use Rattle.speed_question.specs.Question.{Brought, read_as}
use Rattle.speed_question.specs.internal.Run.{AcceptedAs, numbers_as}

pub packet_values_lem : (s : List ℕ) (l : List Item) → Bytes s → from_packet wire_changes s ≡ accepted l → Conforming InPacket (sheet_fields wire_changes) l × (s ≡ to_packet wire_changes l)
unfolding from_packet to_packet sheet_fields
packet_values_lem s l ok e =
    let r = framed_only segment_number (fields wire_changes) s l ok e in
    let c : Conforming InPacket (sheet_fields wire_changes) (number_item 6 ∷ r.values) = also {i = number_item 6} (record { allowed = refl; fits = lit< tt; raised = refl }) r.good in
    rw r.all (c, r.bytes)

pub sheet_values : (s : List ℕ) (l : List Item) → Bytes s → from_sheet wire_changes s ≡ accepted l → Conforming InSheet (sheet_fields wire_changes) l × (s ≡ to_sheet wire_changes l)
unfolding from_sheet to_sheet
sheet_values s l ok e = sheet_only (sheet_fields wire_changes) 0 s l ok e

pub starts_in : (b : Brought) (s : List ℕ) → Bytes s → AcceptedAs b s → StartsTo (segment_length (numbers_as b s)) (elements_from 0 (profile_of (numbers_as b s)))
starts_in Brought.packet s ok e = packet_starts _ (packet_values_lem s (values_of (read_as Brought.packet s)) ok e).0
starts_in Brought.sheet s ok e = sheet_starts _ (sheet_values s (values_of (read_as Brought.sheet s)) ok e).0
