-- `packet_segment::element::profile_head` meets its contract.
use native.Mathlib.Omega.{arith}
use Rattle.packet_segment.proofs.element.Windows.{head_off, head_on}
use Rattle.packet_segment.proofs.element.profile_head.Goals as goal

pub returns-then-speed-eq0 : goal.returns-then-speed-eq0
returns-then-speed-eq0 c =
    let a = c.args in
    head_off a.s.now a.stop c.requires (omega arith) c.read_window-t.ensures c.speed-speed.ensures c.if-speed-eq0.true

pub returns : goal.returns
returns c =
    let a = c.args in
    head_on a.s.now a.stop c.requires (omega arith) c.read_window-t.ensures c.speed-speed.ensures c.if-speed-eq0.false
