-- `steps::looking::gone` meets its contract.
use Rattle.steps.specs.internal.Places.{Gone}
use Rattle.steps.proofs.looking.gone.Given as goal

abbrev pub invariant-loop-i : goal.invariant-loop-i
invariant-loop-i l = Gone l.i l.spans l.y
