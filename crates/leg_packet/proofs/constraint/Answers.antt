-- `leg_packet::constraint` meets its contract.
use native.Mathlib.Omega.{arith}
use lib.Dec.{lit≤, lit<}
use Rattle.leg_packet.proofs.Parts.{constraint_inside, constraint_windows}
use Rattle.leg_packet.proofs.constraint.Goals as goal

pub read_window-t-requires : goal.read_window-t-requires
read_window-t-requires c =
    let h = c.requires in
    (lit< tt, lit≤ tt, omega (arith, constraint_inside c.args.packet.now h, h.reads.inside), h.reads.long)

pub read_window-end-requires : goal.read_window-end-requires
read_window-end-requires c =
    let h = c.requires in
    (lit< tt, lit≤ tt, omega (arith, constraint_inside c.args.packet.now h, h.reads.inside), h.reads.long)

pub read_window-u-requires : goal.read_window-u-requires
read_window-u-requires c =
    let h = c.requires in
    (lit< tt, lit≤ tt, omega (arith, constraint_inside c.args.packet.now h, h.reads.inside), h.reads.long)

pub returns : goal.returns
returns c =
    let s = c.args.packet.now in
    let h = c.requires in
    constraint_windows s c.args.at (omega (arith, constraint_inside s h, h.reads.inside)) c.read_window-t.ensures c.read_window-end.ensures
    c.read_window-u.ensures c.speed.ensures
