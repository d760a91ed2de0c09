use Rattle.speed_question.specs.internal.Run.{brought_as}
use Rattle.speed_question.proofs.Runs.{taken_next}
use Rattle.speed_question.proofs.run.Run.judged.Goals as goal

pub loop-segment-preserved : goal.loop-segment-preserved
loop-segment-preserved c =
    taken_next (brought_as c.args.medium) c.args.segments.now c.loop-segment.segment-index c.loop-segment-test.true c.loop-segment.invariant c.in_ok-judge.ensures
