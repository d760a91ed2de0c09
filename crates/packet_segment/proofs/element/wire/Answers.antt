-- `packet_segment::element::wire` meets its contract.
use native.Mathlib.Omega.{arith}
use mathlib.Core.Path.{refl}
use Rattle.packet_segment.proofs.element.Windows.{volts_off, traction_off, wire_on}
use Rattle.packet_segment.proofs.element.wire.Goals as goal

pub returns-then-volts-eq0 : goal.returns-then-volts-eq0
returns-then-volts-eq0 c =
    let a = c.args in
    volts_off a.s.now a.stop c.requires (omega arith) c.read_window-t.ensures c.volts-volts.ensures refl c.if-volts-eq0.true

pub returns-then-traction-eq0 : goal.returns-then-traction-eq0
returns-then-traction-eq0 c =
    let a = c.args in
    traction_off a.s.now a.stop c.requires (omega arith) c.read_window-t.ensures c.volts-volts.ensures c.traction-traction.ensures c.if-volts-eq0.false c.if-traction-eq0.true

pub returns : goal.returns
returns c =
    let a = c.args in
    wire_on a.s.now a.stop c.requires (omega arith) c.read_window-t.ensures c.volts-volts.ensures c.traction-traction.ensures c.if-volts-eq0.false c.if-traction-eq0.false
