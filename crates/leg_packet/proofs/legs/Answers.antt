-- `leg_packet::legs` meets its contract.
use lib.Dec.{lit≤, lit<}
use Rattle.leg_packet.proofs.Framed.{counted, legs_read}
use Rattle.leg_packet.proofs.legs.Goals as goal

pub read_window-t-requires : goal.read_window-t-requires
read_window-t-requires c = let h = counted c.args.packet.now c.requires in (lit< tt, lit≤ tt, h.inside, h.long)

pub returns : goal.returns
returns c = legs_read c.args.packet.now c.requires c.read_window-t.ensures
