-- `packet_journey::segment` meets its contract.
use Rattle.format.proofs.Ways.{over_on, over_off, part_on, part_off}
use Rattle.grammar.specs.journey.Journey.{constraints}
use Rattle.grammar.specs.internal.journey.Parts.{segment_rest}
use Rattle.packet_journey.proofs.Looping.{segment_over}
use Rattle.packet_journey.proofs.segment.Goals as goal

pub returns-in-Err : goal.returns-in-Err
returns-in-Err c = segment_over (part_off (segment_rest constraints) (rw c.in-Err.is at c.segment_head.ensures))

pub returns-in-Err-points : goal.returns-in-Err-points
returns-in-Err-points c = segment_over (part_on (segment_rest constraints) (rw c.in-Ok.is at c.segment_head.ensures) (over_off (rw c.in-Err-points.is at c.points.ensures)))

pub returns : goal.returns
returns c = segment_over (part_on (segment_rest constraints) (rw c.in-Ok.is at c.segment_head.ensures) (over_on (rw c.in-Ok-points.is at c.points.ensures) c.constraint_list.ensures))
