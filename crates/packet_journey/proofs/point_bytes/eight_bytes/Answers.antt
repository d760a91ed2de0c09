-- `packet_journey::point_bytes::eight_bytes` meets its contract.
use Rattle.packet_journey.proofs.point_bytes.Values.{not_passing_eight, passing_doors, passing_leaving, passing_some}
use Rattle.packet_journey.proofs.point_bytes.eight_bytes.Goals as goal

pub returns-then-stop_skip_passes-ne-PASSING : goal.returns-then-stop_skip_passes-ne-PASSING
returns-then-stop_skip_passes-ne-PASSING c = let a = c.args in not_passing_eight a.doors a.leaving a.stop_skip_passes c.if-stop_skip_passes-ne-PASSING.true c.not_passing_bytes.ensures

pub returns-then-doors-ne0 : goal.returns-then-doors-ne0
returns-then-doors-ne0 c = rw c.if-stop_skip_passes-ne-PASSING.false (passing_doors c.args.doors c.args.leaving c.requires.0 c.if-doors-ne0.true)

pub returns-then-leaving-ne0 : goal.returns-then-leaving-ne0
returns-then-leaving-ne0 c = rw c.if-stop_skip_passes-ne-PASSING.false (passing_leaving c.args.doors c.args.leaving c.requires.1 c.if-leaving-ne0.true)

pub returns : goal.returns
returns c = rw (c.if-stop_skip_passes-ne-PASSING.false, c.if-doors-ne0.false, c.if-leaving-ne0.false) passing_some
