-- `leg_packet::head` meets its contract.
use Prim.Native.Nat.{◌+◌, ◌*◌, ◌%◌}
use native.Mathlib.Omega.{arith}
use lib.Dec.{lit≤, lit<}
use Rattle.leg_packet.proofs.Parts.{head_inside, head_points, count_inside, leg_windows}
use Rattle.leg_packet.proofs.head.Goals as goal

pub read_window-t-requires : goal.read_window-t-requires
read_window-t-requires c =
    let h = c.requires in
    (lit< tt, lit≤ tt, omega (arith, head_inside c.args.packet.now h, h.reads.inside), h.reads.long)

pub read_window-count-requires : goal.read_window-count-requires
read_window-count-requires c =
    let s = c.args.packet.now in
    let h = c.requires in
    let n = c.read_window-t.result % 32 in
    let at = c.args.at in
    let i = count_inside s h {to = at + 64 + 129 * n} (head_points s h c.read_window-t.ensures) (omega arith) in
    (lit< tt, lit≤ tt, omega (arith, i, h.reads.inside), h.reads.long)

pub returns : goal.returns
returns c =
    let s = c.args.packet.now in
    leg_windows s c.requires c.read_window-nid_c.ensures c.read_window-nid_sp.ensures c.read_window-t.ensures (omega arith) c.read_window-count.ensures
