-- `steps::looking::first_wrong` meets its contract.
use Prim.Native.Nat.{◌-◌}
use Rattle.steps.proofs.Places.{Looked}
use Rattle.steps.proofs.looking.first_wrong.Given as goal

abbrev pub invariant-loop-x : goal.invariant-loop-x
invariant-loop-x l = Looked l.train l.spans l.from l.starts l.speeds l.lsp l.first l.x l.step

abbrev pub decreases-loop-x : goal.decreases-loop-x
decreases-loop-x l = l.lsp - l.x
