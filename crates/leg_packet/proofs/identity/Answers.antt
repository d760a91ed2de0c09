-- `leg_packet::identity` meets its contract.
use native.Mathlib.Omega.{arith}
use lib.Dec.{lit≤, lit<}
use Rattle.leg_packet.proofs.Framed.{identified, identity_read}
use Rattle.leg_packet.proofs.identity.Goals as goal

pub read_window-version-requires : goal.read_window-version-requires
read_window-version-requires c = let h = identified c.args.packet.now c.requires in (lit< tt, lit≤ tt, h.inside, h.long)

pub read_window-requires : goal.read_window-requires
read_window-requires c =
    let h = identified c.args.packet.now c.requires in
    (lit< tt, lit≤ tt, omega (arith, h.inside), h.long)

pub read_window-requires-2 : goal.read_window-requires-2
read_window-requires-2 c =
    let h = identified c.args.packet.now c.requires in
    (lit< tt, lit≤ tt, omega (arith, h.inside), h.long)

pub returns : goal.returns
returns c =
    identity_read c.args.packet.now c.requires c.read_window.ensures c.read_window-2.ensures c.read_window-version.ensures
