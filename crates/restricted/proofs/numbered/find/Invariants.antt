-- `restricted::numbered::find` meets its contract.
use lib.ListN.{drop}
use Rattle.speed_question.specs.internal.Run.{brought_of, ReadsAs}
use Rattle.leg_parts.specs.internal.Reading.{LegsAt}
use Rattle.restricted.specs.internal.Travelling.{legs_in}
use Rattle.restricted.proofs.numbered.find.Given as goal

abbrev pub invariant-loop : goal.invariant-loop
invariant-loop l = LegsAt (ReadsAs (brought_of l.medium) l.journey) l.at (drop l.counter (legs_in (brought_of l.medium) l.journey))
