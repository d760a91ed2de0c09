-- `packet_write_journey::point::point` meets its contract.
use lib.Dec.{lit<, lit≤}
use Rattle.packet_write_journey.proofs.point.Steps.{point_arrival, point_stop_skip_passes, point_stopping, point_wrote}
use Rattle.packet_write_journey.proofs.point.point.Goals as goal

pub arrival-first-requires : goal.arrival-first-requires
arrival-first-requires c = point_arrival c.requires

pub number-stop_skip_passes-requires : goal.number-stop_skip_passes-requires
number-stop_skip_passes-requires c = (point_stop_skip_passes c.requires c.arrival-first.ensures, lit≤ tt, lit≤ tt, lit< tt)

pub stopping-requires : goal.stopping-requires
stopping-requires c = point_stopping c.requires c.arrival-first.ensures c.number-stop_skip_passes.ensures

pub returns : goal.returns
returns c =
    point_wrote c.requires c.arrival-first.ensures c.number-stop_skip_passes.ensures c.stopping.ensures
