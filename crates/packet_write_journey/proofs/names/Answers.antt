-- `packet_write_journey::names` meets its contract.
use Rattle.packet_write_journey.proofs.Parts.{segment_pieces}
use Rattle.packet_write_segment.proofs.row.Three.{three_first, three_second, three_third, three_wrote}
use Rattle.packet_write_journey.proofs.names.Goals as goal

pub piece-country-requires : goal.piece-country-requires
piece-country-requires c = three_first segment_pieces c.segment_widths-widths.ensures c.segment_most-most.ensures c.requires

pub piece-name-requires : goal.piece-name-requires
piece-name-requires c = three_second segment_pieces c.segment_widths-widths.ensures c.segment_most-most.ensures c.requires c.piece-country.ensures

pub piece-requires : goal.piece-requires
piece-requires c =
    three_third segment_pieces c.segment_widths-widths.ensures c.segment_most-most.ensures c.requires c.piece-country.ensures c.piece-name.ensures

pub returns : goal.returns
returns c =
    three_wrote segment_pieces c.segment_widths-widths.ensures c.segment_most-most.ensures c.requires c.piece-country.ensures c.piece-name.ensures c.piece.ensures
