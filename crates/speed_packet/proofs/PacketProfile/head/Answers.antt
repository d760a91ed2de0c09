-- `speed_packet::Packet::head` meets its contract.
use lib.Dec.{lit≤, lit<}
use Rattle.bits.proofs.Fields.{window_small}
use Rattle.speed_packet.proofs.Headed.{headed, head_read}
use Rattle.speed_packet.proofs.PacketProfile.head.Goals as goal

pub read_window-requires : goal.read_window-requires
read_window-requires c = let h = headed c.args.packet.now c.requires in (lit< tt, lit≤ tt, h.inside, h.long)

pub returns : goal.returns
returns c = head_read c.args.packet.now c.requires c.read_window.ensures (window_small _ _ 24 c.read_window.ensures)
