-- `steps::spans::segment_spans` meets its contract.
use Rattle.speed_question.specs.internal.Run.{brought_as, ReadsAs}
use Rattle.steps.proofs.Kept.{Keeping}
use Rattle.steps.proofs.spans.segment_spans.Given as goal

abbrev pub invariant-loop-left : goal.invariant-loop-left
invariant-loop-left l = Keeping (ReadsAs (brought_as l.medium) l.s) l.train l.lsp l.start (record { «open» = l.initial.open; count = l.count; next = l.initial.to }) l.initial.kept l.left l.to l.open l.kept

abbrev pub decreases-loop-left : goal.decreases-loop-left
decreases-loop-left l = l.left
