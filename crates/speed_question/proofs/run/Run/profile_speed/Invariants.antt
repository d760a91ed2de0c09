-- `speed_question::run::Run::profile_speed` meets its contract.
use Rattle.speed_question.specs.internal.Asked.{kind_of, lent_of}
use Rattle.speed_question.proofs.Runs.{Passing}
use Rattle.speed_question.proofs.run.Run.profile_speed.Given as goal

abbrev pub invariant-loop-i : goal.invariant-loop-i
invariant-loop-i l = Passing (kind_of l.self) (lent_of l.self) l.train l.x l.i l.start l.held
