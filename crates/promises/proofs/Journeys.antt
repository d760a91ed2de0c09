-- The smallest and the largest journey exist: no segment, and a body of 65,535 bits in a packet of 8,207 bytes.
use mathlib.Core.Path.{◌≡◌, refl, ◌∙◌}
use Prim.Native.Nat.{◌+◌}
use native.Mathlib.Omega.{arith}
use lib.ListN.{length}
use Rattle.numbers.specs.Numbers.{groups_in}
use Rattle.kinds.specs.Kinds.{digits}
use Rattle.format.specs.Format.{times}
use Rattle.grammar.proofs.segment.Reached.{conformed}
use Rattle.grammar.proofs.segment.Framing.{framed_length}
use Rattle.grammar.specs.journey.Journey.{journey_body}
use Rattle.grammar.specs.link.Link.{link_fields, link_bits, to_either_packet, to_either_sheet}
use Rattle.promises.specs.Promised.{Reaches}
use Rattle.promises.specs.Samples.{smallest, largest}

pub smallest_journey : Reaches smallest 11 17 8
unfolding groups_in digits times journey_body link_fields to_either_packet to_either_sheet
smallest_journey =
    let b : length (link_bits smallest) ≡ 96 + 11 = refl in
    record { values = record { good = conformed link_fields smallest refl; few = omega arith }; body = b; packet_bytes = framed_length 4 (link_bits smallest) ∙ omega arith; sheet_bytes = refl }

pub largest_journey : Reaches largest 65535 8207 7164
unfolding groups_in digits times journey_body link_fields to_either_packet to_either_sheet
largest_journey =
    let b : length (link_bits largest) ≡ 96 + 65535 = refl in
    record { values = record { good = conformed link_fields largest refl; few = omega arith }; body = b; packet_bytes = framed_length 4 (link_bits largest) ∙ omega arith; sheet_bytes = refl }
