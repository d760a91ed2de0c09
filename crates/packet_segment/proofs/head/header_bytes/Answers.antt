-- `packet_segment::head::header_bytes` meets its contract.
use lib.Dec.{lit≤}
use Rattle.packet_segment.proofs.head.Places.{few_bits, header_none, header_some}
use Rattle.packet_segment.proofs.head.header_bytes.Goals as goal

pub returns-then-seconds-eq0 : goal.returns-then-seconds-eq0
returns-then-seconds-eq0 c = header_none c.args.s.now (rw c.read_window.ensures at (c.within-seconds.ensures 17 4)) c.if-seconds-eq0.true

pub short-counter-requires : goal.short-counter-requires
short-counter-requires c = few_bits c.args.s.now 112 8 (lit≤ tt) c.read_window-4.ensures

pub returns : goal.returns
returns c =
    header_some c.args.s.now (rw c.read_window.ensures at (c.within-seconds.ensures 17 4)) c.if-seconds-eq0.false
    (rw c.read_window-2.ensures at c.groups-engine.ensures) (rw c.read_window-3.ensures at c.groups-date.ensures) (rw c.read_window-4.ensures at c.short-counter.ensures)
