-- `packet_write_journey::point::arrival` meets its contract.
use Rattle.packet_write_journey.proofs.point.Cuts.{arrival_pieces}
use Rattle.packet_write_segment.proofs.row.Three.{three_first, three_second, three_third, three_wrote}
use Rattle.packet_write_journey.proofs.point.arrival.Goals as goal

pub piece-name-requires : goal.piece-name-requires
piece-name-requires c = three_first arrival_pieces c.arrival_widths-widths.ensures c.arrival_most-most.ensures c.requires

pub piece-latest-requires : goal.piece-latest-requires
piece-latest-requires c = three_second arrival_pieces c.arrival_widths-widths.ensures c.arrival_most-most.ensures c.requires c.piece-name.ensures

pub piece-requires : goal.piece-requires
piece-requires c =
    three_third arrival_pieces c.arrival_widths-widths.ensures c.arrival_most-most.ensures c.requires c.piece-name.ensures c.piece-latest.ensures

pub returns : goal.returns
returns c =
    three_wrote arrival_pieces c.arrival_widths-widths.ensures c.arrival_most-most.ensures c.requires c.piece-name.ensures c.piece-latest.ensures c.piece.ensures
