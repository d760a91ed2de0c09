-- `sheet_write_journey::TimingPoint::write` meets its contract.
use Rattle.sheet_write_journey.proofs.Timing.{point_row, point_wrote}
use Rattle.sheet_write_journey.proofs.TimingPointRepeated.write.Goals as goal

pub point-n-requires : goal.point-n-requires
point-n-requires c = point_row _ _ c.requires

pub returns : goal.returns
returns c = rw c.point-n.ensures (point_wrote _ _ c.requires)
