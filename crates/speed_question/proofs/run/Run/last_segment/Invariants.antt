-- `speed_question::run::Run::last_segment` meets its contract.
use Rattle.speed_question.specs.internal.Asked.{kind_of, lent_of}
use Rattle.speed_question.proofs.Runs.{Finding}
use Rattle.speed_question.proofs.run.Run.last_segment.Given as goal

abbrev pub invariant-loop-segment : goal.invariant-loop-segment
invariant-loop-segment l = Finding (kind_of l.self) (lent_of l.self) l.segment-index l.start l.head
