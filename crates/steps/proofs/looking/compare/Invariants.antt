-- `steps::looking::compare` meets its contract.
use Prim.Native.Nat.{◌-◌}
use Rattle.steps.proofs.Places.{Comparing}
use Rattle.steps.proofs.looking.compare.Given as goal

abbrev pub invariant-loop-place : goal.invariant-loop-place
invariant-loop-place l = Comparing l.starts l.speeds l.x l.until l.ours l.place l.step

abbrev pub decreases-loop-place : goal.decreases-loop-place
decreases-loop-place l = l.until - l.place
