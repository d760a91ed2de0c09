-- `packet_segment::head::offset_bytes` meets its contract.
use Rattle.packet_segment.proofs.head.Places.{offset_none, offset_some}
use Rattle.packet_segment.proofs.head.offset_bytes.Goals as goal

pub returns-then-clock-eq0 : goal.returns-then-clock-eq0
returns-then-clock-eq0 c = offset_none c.args.s.now (rw c.read_window.ensures at (c.one-clock.ensures 7 4)) c.if-clock-eq0.true

pub returns : goal.returns
returns c =
    offset_some c.args.s.now (rw c.read_window.ensures at (c.one-clock.ensures 7 4)) c.if-clock-eq0.false
    (rw c.read_window-2.ensures at c.groups-offset.ensures) (rw c.read_window-3.ensures at c.groups-altitude.ensures)
