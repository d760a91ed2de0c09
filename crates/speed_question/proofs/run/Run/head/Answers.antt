-- `speed_question::run::Run::head` meets its contract.
use native.Mathlib.Omega.{arith}
use Rattle.speed_question.specs.internal.Asked.{kind_of, lent_of}
use Rattle.speed_question.proofs.Runs.{last_head, lent_count, some_lent, taken_accepted, taken_head}
use Rattle.speed_question.proofs.run.Run.head.Goals as goal

pub returns-then-i-self : goal.returns-then-i-self
returns-then-i-self c =
    let r = c.args.self.now in
    last_head (kind_of r) (lent_of r) (some_lent r) c.args.i (omega (arith, c.if-i-self.true, lent_count r.segments.now)) c.requires.1

pub head-requires : goal.head-requires
head-requires c = taken_accepted c.args.self.now c.args.i c.requires.0

pub returns : goal.returns
returns c = taken_head c.args.self.now c.args.i c.head.ensures
