-- `restricted::travelled::judge_legs` meets its contract.
use lib.ListN.{length}
use Rattle.speed_question.specs.internal.Run.{brought_as}
use Rattle.speed_question.specs.internal.Asked.{kind_of, lent_of}
use Rattle.restricted.proofs.Travelling.{Judging}
use Rattle.restricted.proofs.travelled.judge_legs.Given as goal

abbrev pub invariant-loop-i : goal.invariant-loop-i
invariant-loop-i l = Judging (kind_of l.run) (brought_as l.journey.medium) (length l.run.segments.now) (lent_of l.run) l.journey.bytes.now l.before l.i l.at
