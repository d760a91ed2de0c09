-- `seglink::seglink_restricted_speed` meets its contract: the answer is the operation's own.
use Rattle.seglink.proofs.seglink_restricted_speed.Goals as goal

pub returns : goal.returns
returns c = c.restricted_speed.ensures
