-- `speed_packet::Packet::entry` meets its contract.
use Rattle.speed_packet.proofs.Fields.{entry_at, entry_kept}
use Rattle.speed_element.proofs.Reading.{entry_read}
use Rattle.speed_packet.specs.internal.Asking.{Reads}
use Rattle.speed_packet.proofs.PacketProfile.entry.Goals as goal

pub class-class-requires : goal.class-class-requires
class-class-requires c =
    (c.requires.0, (entry_at c.args.s.now c.requires.1 c.read_window-t.ensures).allowed)

pub with-requires : goal.with-requires
with-requires c =
    rw c.speed.ensures (entry_kept c.args.s.now c.requires.1 c.read_window-t.ensures c.class-class.ensures)

pub returns : goal.returns
returns c =
    let e = entry_at c.args.s.now c.requires.1 c.read_window-t.ensures in
    entry_read (Reads c.args.s.now) e.first e.second e.third (rw (c.class-class.ensures, c.speed.ensures) at c.with.ensures)
