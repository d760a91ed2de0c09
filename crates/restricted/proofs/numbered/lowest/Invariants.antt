-- `restricted::numbered::lowest` meets its contract.
use Rattle.speed_question.specs.Question.{lent}
use Rattle.speed_question.specs.internal.Run.{brought_of}
use Rattle.restricted.proofs.Travelling.{Lowering}
use Rattle.restricted.proofs.numbered.lowest.Given as goal

abbrev pub invariant-loop-i : goal.invariant-loop-i
invariant-loop-i l = Lowering (brought_of l.medium) (brought_of l.medium) l.count (lent l.count l.first l.second l.third l.fourth) l.journey l.before l.train l.x l.held l.i l.start l.at l.low
