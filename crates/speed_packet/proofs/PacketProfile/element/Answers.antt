-- `speed_packet::Packet::element` meets its contract.
use mathlib.Core.Path.{refl}
use native.Mathlib.Omega.{arith}
use Rattle.bits.proofs.Fields.{window_small}
use Rattle.speed_packet.proofs.Fields.{element_at, static_small, entries_passed}
use Rattle.speed_element.proofs.Reading.{element_read}
use Rattle.speed_packet.specs.internal.Asking.{Reads}
use Rattle.speed_packet.proofs.PacketProfile.element.Goals as goal

pub speed-requires : goal.speed-requires
speed-requires c = omega (arith, window_small _ _ 13 c.read_window-t.ensures)

pub returns : goal.returns
returns c =
    let s = c.args.s.now in
    let w = c.read_window-t.ensures in
    let e = element_at s c.requires w in
    rw c.speed.ensures (element_read (Reads s) e.first e.second e.third (entries_passed s _ _ _ refl) (static_small s c.args.at w) c.args.start, refl)
