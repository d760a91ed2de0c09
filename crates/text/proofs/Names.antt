-- Each number of a listing is the number of the value that stands where the tree has its field.
use mathlib.Core.Path.{◌≡◌, ap}
use mathlib.Core.List.{List, ◌++◌}
use Prim.Native.Nat.{ℕ}
use Rattle.bits.specs.Bits.{Bytes}
use Rattle.kinds.specs.declared.Item.{Item}
use Rattle.format.specs.Format.{accepted, sheet_numbers}
use Rattle.format.specs.Conforming.{Conforming, InPacket}
use Rattle.grammar.specs.segment.Segment.{sheet_fields, wire_changes}
use Rattle.grammar.specs.segment.Judgement.{from_packet}
use Rattle.speed.specs.Speed.{elements_from, profile_of}
use Rattle.speed.proofs.Standing.{segment_stands, packet_count}
use Rattle.altitude.specs.Altitude.{centimetres, altitude_field}
use Rattle.text.specs.lines.Lines.{segment_line, element_lines}
use Rattle.text.specs.Listing.{listed, listing_of}
use Rattle.text.specs.Names.{Named}
use Rattle.text.proofs.Accepted.{good}

-- for any values that conform to the tree
pub listing_names : (l : List Item) → Conforming InPacket (sheet_fields wire_changes) l → Named l (listed (accepted l))
listing_names l c =
    let w = segment_stands InPacket packet_count 0 l c in
    record {
      elements = elements_from 0 (profile_of (sheet_numbers l));
      stands = w;
      whole = ap (λ (m : List Item). segment_line (centimetres (altitude_field m)) (sheet_numbers m) ++ element_lines (elements_from 0 (profile_of (sheet_numbers l)))) w.split;
    }

-- so for a packet that is accepted
pub packet_names : (s : List ℕ) (l : List Item) → Bytes s → from_packet wire_changes s ≡ accepted l → Named l (listing_of s)
unfolding listing_of
packet_names s l ok e = rw e (listing_names l (good s l ok e))
