use mathlib.Core.Path.{◌≡◌}
use Prim.Native.Nat.{◌+◌, ◌-◌}
use Rattle.sheet_write_segment.proofs.elements.Writing.{times_next, times_on, times_end_lem}
use native.Mathlib.Omega.{arith}
use Rattle.sheet_write_journey.proofs.times.Goals as goal

pub write-spot-requires : goal.write-spot-requires
write-spot-requires g c = times_next _ _ g.P.Repeated.part c.loop.invariant (omega (arith, c.loop-test.true)) c.requires

pub loop-preserved : goal.loop-preserved
loop-preserved g c =
    let e : c.args.count - (c.loop.counter + 1) ≡ c.args.count - c.loop.counter - 1 = omega arith in
    rw e (times_on _ _ g.P.Repeated.part c.loop.invariant (omega (arith, c.loop-test.true)) c.write-spot.ensures)

pub returns : goal.returns
returns g c = times_end_lem _ _ g.P.Repeated.part c.loop.invariant (omega (arith, c.loop-test.false))
