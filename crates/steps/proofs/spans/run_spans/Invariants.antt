-- `steps::spans::run_spans` meets its contract.
use Rattle.speed_question.specs.internal.Asked.{kind_of, lent_of}
use Rattle.steps.proofs.Kept.{RunKeeping}
use Rattle.steps.proofs.spans.run_spans.Given as goal

abbrev pub invariant-loop-i : goal.invariant-loop-i
invariant-loop-i l = RunKeeping (kind_of l.run) (lent_of l.run) l.train l.last.start l.i l.start l.kept
