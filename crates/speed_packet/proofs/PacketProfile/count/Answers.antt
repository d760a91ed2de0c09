-- `speed_packet::Packet::count` meets its contract.
use mathlib.Core.Path.{refl}
use native.Mathlib.Omega.{arith}
use lib.Dec.{lit≤}
use Rattle.bits.proofs.Fields.{field_small}
use Rattle.kinds.specs.Kinds.{n_iter}
use Rattle.speed_packet.proofs.Fields.{field_read}
use Rattle.speed_packet.proofs.PacketProfile.count.Goals as goal

pub returns : goal.returns
returns c =
    let a = c.args in
    (field_read a.s.now (n_iter 31) a.at 5 _ refl refl c.read_window.ensures, omega (arith, c.read_window.ensures, field_small a.s.now a.at 5 5 (lit≤ tt)))
