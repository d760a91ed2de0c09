-- `steps::spans::first` meets its contract.
use Rattle.speed_element.proofs.Reading.{head_readable}
use Rattle.speed_question.specs.Question.{packet, sheet}
use Rattle.speed_question.specs.internal.Run.{ReadsAs}
use Rattle.steps.proofs.spans.first.Goals as goal

pub first-requires : goal.first-requires
first-requires c = head_readable (ReadsAs packet c.args.s.now) (rw c.in-Packet.is at c.requires)

pub first-requires-in-Sheet : goal.first-requires-in-Sheet
first-requires-in-Sheet c = head_readable (ReadsAs sheet c.args.s.now) (rw c.in-Sheet.is at c.requires)
