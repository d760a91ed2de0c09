-- `restricted::numbered::judge_legs` meets its contract.
use Rattle.speed_question.specs.Question.{lent}
use Rattle.speed_question.specs.internal.Run.{brought_of}
use Rattle.restricted.proofs.Travelling.{Judging}
use Rattle.restricted.proofs.numbered.judge_legs.Given as goal

abbrev pub invariant-loop-i : goal.invariant-loop-i
invariant-loop-i l = Judging (brought_of l.medium) (brought_of l.medium) l.count (lent l.count l.first l.second l.third l.fourth) l.journey l.before l.i l.at
