-- `packet_write_journey::point::stopping` meets its contract.
use Rattle.packet_write_journey.proofs.point.Cuts.{stopping_pieces}
use Rattle.packet_write_segment.proofs.row.Three.{three_first, three_second, three_third, three_wrote}
use Rattle.packet_write_journey.proofs.point.stopping.Goals as goal

pub piece-doors-requires : goal.piece-doors-requires
piece-doors-requires c = three_first (stopping_pieces c.args.stop_skip_passes) c.stopping_widths-widths.ensures c.stopping_most-most.ensures c.requires

pub piece-departure-requires : goal.piece-departure-requires
piece-departure-requires c = three_second (stopping_pieces c.args.stop_skip_passes) c.stopping_widths-widths.ensures c.stopping_most-most.ensures c.requires c.piece-doors.ensures

pub piece-requires : goal.piece-requires
piece-requires c =
    three_third (stopping_pieces c.args.stop_skip_passes) c.stopping_widths-widths.ensures c.stopping_most-most.ensures c.requires c.piece-doors.ensures c.piece-departure.ensures

pub returns : goal.returns
returns c =
    three_wrote (stopping_pieces c.args.stop_skip_passes) c.stopping_widths-widths.ensures c.stopping_most-most.ensures c.requires c.piece-doors.ensures c.piece-departure.ensures c.piece.ensures
