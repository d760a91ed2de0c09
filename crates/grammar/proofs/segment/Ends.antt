-- No segment of any limit of wire changes is smaller or larger than the ends: the bits of a body, the bytes of a packet and of a sheet.
use mathlib.Core.List.{List}
use Prim.Native.Nat.{ℕ, zero, suc, ◌+◌, ◌≤◌}
use native.Mathlib.Omega.{arith}
use lib.Dec.{lit≤}
use lib.ListN.{length}
use Rattle.numbers.specs.Numbers.{groups_in}
use Rattle.numbers.proofs.Counting.{count_most}
use Rattle.kinds.specs.Kind.{Kind}
use Rattle.kinds.specs.Kinds.{class, nid_c_traction}
use Rattle.format.specs.Format.{write}
use Rattle.format.specs.Media.{packet, sheet}
use Rattle.format.specs.Conforming.{Conforming, InPacket, InSheet}
use Rattle.format.proofs.Lawful.{Lawful}
use Rattle.format.proofs.Sized.{Measured, within, lawful, size_least, size_most, packet_priced, sheet_priced}
use Rattle.kinds.specs.declared.Item.{Item}
use Rattle.grammar.specs.segment.Segment.{fields, sheet_fields}
use Rattle.grammar.specs.segment.Frame.{packet_of_bits}
use Rattle.grammar.specs.segment.Judgement.{segment_number}
use Rattle.grammar.specs.segment.Ends.{most_bits, most_bytes, most_sheet}
use Rattle.grammar.proofs.segment.Framing.{framed_length}
use Rattle.grammar.proofs.segment.Parts.{class_width}
use Rattle.grammar.proofs.segment.Tree.{Costs, fields_measured, sheet_fields_measured}

abbrev pub bits : Kind → ℕ
bits k = k.width

pub bit_costs : Costs bits bits
bit_costs = record {
  class_low = 4;
  class_high = 4;
  traction_low = 10;
  traction_high = 10;
  location_high = 24;
  iter_low = 5;
  iter_high = 5;
  class_low_lem = λ q. omega (arith, class_width q);
  class_high_lem = λ q. omega (arith, class_width q);
  traction_low_lem = λ u. omega arith;
  traction_high_lem = λ u. omega arith;
  location_high_lem = λ last lsp. omega arith;
  iter_low_lem = λ n. omega arith;
  iter_high_lem = λ n h. omega arith;
}

abbrev pub one : Kind → ℕ
one k = 1

abbrev pub groups : Kind → ℕ
groups k = length (groups_in k.highest)

class_groups : (q : ℕ) → groups (class q) ≤ 2
unfolding groups_in
class_groups zero = lit≤ tt
class_groups (suc q) = lit≤ tt

traction_groups : (u : ℕ) → groups (nid_c_traction u) ≤ 2
unfolding groups_in
traction_groups zero = lit≤ tt
traction_groups (suc u) = lit≤ tt

group_costs : Costs one groups
unfolding groups_in
group_costs = record {
  class_low = 1;
  class_high = 2;
  traction_low = 1;
  traction_high = 2;
  location_high = 4;
  iter_low = 1;
  iter_high = 1;
  class_low_lem = λ q. omega arith;
  class_high_lem = class_groups;
  traction_low_lem = λ u. omega arith;
  traction_high_lem = traction_groups;
  location_high_lem = λ last lsp. lit≤ tt;
  iter_low_lem = λ n. omega arith;
  iter_high_lem = λ n h. count_most n 31 h;
}

module _ (limit : ℕ) (h : limit ≤ 31) where
  pub fields_lawful : Lawful (fields limit)
  fields_lawful = lawful (fields_measured bit_costs limit h)

  pub sheet_fields_lawful : Lawful (sheet_fields limit)
  sheet_fields_lawful = lawful (sheet_fields_measured bit_costs limit h)

  -- the 96 bits of the header after L_PACKET_ATO, and the body's
  pub fields_bits : Measured bits bits (fields limit) (96 + 185) (96 + most_bits limit)
  unfolding bit_costs
  fields_bits = within (96 + 185) (96 + most_bits limit) (fields_measured bit_costs limit h) (lit≤ tt) (omega arith)

  -- the 96 bits, the body's bits, and 8 bits of the packet number, which a sheet has too
  pub sheet_bits : Measured bits bits (sheet_fields limit) (104 + 185) (104 + most_bits limit)
  unfolding bit_costs
  sheet_bits = within (104 + 185) (104 + most_bits limit) (sheet_fields_measured bit_costs limit h) (lit≤ tt) (omega arith)

  pub sheet_groups : Measured one groups (sheet_fields limit) 23 (most_sheet limit)
  unfolding groups_in group_costs
  sheet_groups = within 23 (most_sheet limit) (sheet_fields_measured group_costs limit h) (lit≤ tt) (omega arith)

  module _ {l : List Item} (c : Conforming InPacket (fields limit) l) where
    pub bits_least : 96 + 185 ≤ length (write packet (fields limit) l)
    bits_least = size_least packet_priced fields_bits c

    pub bits_most : length (write packet (fields limit) l) ≤ 96 + most_bits limit
    bits_most = size_most packet_priced fields_bits c

    pub packet_least : 39 ≤ length (packet_of_bits segment_number (write packet (fields limit) l))
    packet_least = rw framed_length (omega (arith, bits_least))

    pub packet_most : length (packet_of_bits segment_number (write packet (fields limit) l)) ≤ most_bytes limit
    packet_most = rw framed_length (omega (arith, bits_most))

  pub sheet_most : {l : List Item} → Conforming InSheet (sheet_fields limit) l → length (write sheet (sheet_fields limit) l) ≤ most_sheet limit
  sheet_most c = size_most sheet_priced sheet_groups c
