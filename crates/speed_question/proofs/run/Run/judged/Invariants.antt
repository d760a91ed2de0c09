-- `speed_question::run::Run::judged` meets its contract.
use Rattle.speed_question.specs.internal.Run.{brought_as, segments_of}
use Rattle.speed_question.proofs.Runs.{Judging}
use Rattle.speed_question.proofs.run.Run.judged.Given as goal

abbrev pub invariant-loop-segment : goal.invariant-loop-segment
invariant-loop-segment l = Judging (brought_as l.medium) (segments_of l.segments) l.segment-index
