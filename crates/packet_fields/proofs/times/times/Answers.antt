use Prim.Native.Nat.{◌+◌, ◌-◌}
use mathlib.Core.Path.{◌≡◌}
use native.Mathlib.Omega.{arith}
use Rattle.format.proofs.Ways.{left_all, times_on, times_off, times_end_lem}
use Rattle.packet_fields.proofs.times.times.Goals as goal

pub loop-init : goal.loop-init
loop-init g c = λ r j. let e : c.args.count - 0 ≡ c.args.count = omega arith in rw e (left_all j.stands)

pub step-requires : goal.step-requires
step-requires g c = let q = c.requires in q.1.called _ (c.loop.invariant q.0 q.1).stands

pub returns-in-Err : goal.returns-in-Err
returns-in-Err g c = λ r j.
    let i = c.loop.invariant r j in
    times_off r.part i (omega arith) (j.judges _ _ i.stands (rw c.in-Err.is at c.step.ensures))

pub loop-preserved : goal.loop-preserved
loop-preserved g c = λ r j.
    let i = c.loop.invariant r j in
    let e : c.args.count - c.loop.counter - 1 ≡ c.args.count - (c.loop.counter + 1) = omega arith in
    rw (← e) (times_on r.part i (omega arith) (j.judges _ _ i.stands (rw c.in-Ok.is at c.step.ensures)))

pub returns : goal.returns
returns g c = λ r j. times_end_lem r.part (c.loop.invariant r j) (omega arith)
