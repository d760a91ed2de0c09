-- `restricted::travelled::lowest` meets its contract.
use lib.ListN.{length}
use Rattle.speed_question.specs.internal.Run.{brought_as}
use Rattle.speed_question.specs.internal.Asked.{kind_of, lent_of}
use Rattle.restricted.proofs.Travelling.{Lowering}
use Rattle.restricted.proofs.travelled.lowest.Given as goal

abbrev pub invariant-loop-i : goal.invariant-loop-i
invariant-loop-i l = Lowering (kind_of l.run) (brought_as l.journey.medium) (length l.run.segments.now) (lent_of l.run) l.journey.bytes.now l.before l.train l.x l.held l.i l.start l.at l.low
