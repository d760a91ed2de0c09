use Prim.Native.Nat.{◌+◌, ◌-◌, ◌<◌}
use mathlib.Core.Path.{◌≡◌}
use native.Mathlib.Omega.{arith}
use Rattle.grammar.specs.internal.segment.Parts.{entry}
use Rattle.format.proofs.Ways.{times_on, times_off, times_end_lem}
use Rattle.packet_segment.proofs.element.Windows.{entries_over, entry_refused, entry_passed}
use Rattle.packet_segment.proofs.element.whole_entries.Goals as goal

pub overflow_add-place : goal.overflow_add-place
overflow_add-place c = let l = c.loop in omega (arith, l.invariant.1, l.invariant.0.stands.few, c.whole_entry-bytes.ensures.1)

pub returns-then-bytes-ge-FAULT : goal.returns-then-bytes-ge-FAULT
returns-then-bytes-ge-FAULT c =
    let a = c.args in
    entries_over c.args.count (times_off entry c.loop.invariant.0 (omega arith) (entry_refused a.s.now a.stop c.whole_entry-bytes.ensures.0 c.if-bytes-ge-FAULT.true))

pub loop-preserved : goal.loop-preserved
loop-preserved c =
    let r = c.whole_entry-bytes.result in
    let h : r < 16 = omega (arith, c.if-bytes-ge-FAULT.false) in
    let a = c.args in
    let e : a.count - c.loop.counter - 1 ≡ a.count - (c.loop.counter + 1) = omega arith in
    rw (← e) (times_on entry c.loop.invariant.0 (omega arith) (entry_passed a.s.now a.stop c.whole_entry-bytes.ensures.0 h), omega (arith, c.loop.invariant.1))

pub returns : goal.returns
returns c = entries_over c.args.count (times_end_lem entry c.loop.invariant.0 (omega arith))
