-- `packet_segment::element::whole_entry` meets its contract.
use mathlib.Core.Path.{refl}
use Prim.Native.Nat.{◌/◌, ◌%◌}
use native.Mathlib.Omega.{arith}
use lib.Dec.{lit≤, lit<}
use Rattle.bits.proofs.Fields.{field_small}
use Rattle.packet_segment.proofs.element.Windows.{q_refused, class_refused, speed_refused, entry_few, entry_counted}
use Rattle.packet_segment.proofs.element.whole_entry.Goals as goal

pub name_bytes-name-requires : goal.name_bytes-name-requires
name_bytes-name-requires c =
    let a = c.args in
    omega (arith, c.read_window-t.ensures, field_small a.s.now a.spot.at 13 13 (lit≤ tt))

pub returns-then-t-le-LARGEST : goal.returns-then-t-le-LARGEST
returns-then-t-le-LARGEST c =
    let a = c.args in
    (class_refused a.s.now a.stop c.requires.0 c.requires.1 c.read_window-t.ensures c.name_bytes-name.ensures refl c.if-name-eq0.true c.if-t-le-LARGEST.true, lit< tt)

pub returns-then-name-eq0 : goal.returns-then-name-eq0
returns-then-name-eq0 c =
    let a = c.args in
    (q_refused a.s.now a.stop c.requires.0 c.requires.1 c.read_window-t.ensures c.name_bytes-name.ensures refl (omega (arith, c.if-t-le-LARGEST.false)), lit< tt)

pub returns-then-speed-eq0 : goal.returns-then-speed-eq0
returns-then-speed-eq0 c =
    let a = c.args in
    (speed_refused a.s.now a.stop c.requires.0 c.requires.1 c.read_window-t.ensures c.name_bytes-name.ensures c.speed-speed.ensures c.if-name-eq0.false c.if-speed-eq0.true, lit< tt)

pub returns : goal.returns
returns c =
    let a = c.args in
    let w = c.read_window-t.result in
    (entry_counted a.s.now a.stop c.requires.0 c.requires.1 c.read_window-t.ensures c.name_bytes-name.ensures c.speed-speed.ensures c.if-name-eq0.false c.if-speed-eq0.false, omega (arith, entry_few (w / 128 / 16) (w / 128 % 16) (w % 128) c.name_bytes-name.ensures c.speed-speed.ensures))
