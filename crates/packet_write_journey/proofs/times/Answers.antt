use mathlib.Core.Path.{◌≡◌}
use Prim.Native.Nat.{◌+◌, ◌-◌}
use Rattle.packet_write_segment.proofs.elements.Writing.{times_next, times_on, times_end_lem}
use native.Mathlib.Omega.{arith}
use Rattle.packet_write_journey.proofs.times.Goals as goal

pub write-p-requires : goal.write-p-requires
write-p-requires g c = times_next g.P.Repeated.part c.loop.invariant (omega (arith, c.loop-test.true)) c.requires

pub loop-preserved : goal.loop-preserved
loop-preserved g c =
    let e : c.args.count - (c.loop.counter + 1) ≡ c.args.count - c.loop.counter - 1 = omega arith in
    rw e (times_on g.P.Repeated.part c.loop.invariant (omega (arith, c.loop-test.true)) c.write-p.ensures)

pub returns : goal.returns
returns g c = times_end_lem g.P.Repeated.part c.loop.invariant (omega (arith, c.loop-test.false))
