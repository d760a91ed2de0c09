-- `speed_question::run::Run::permitted_speed` meets its contract.
use mathlib.Core.Path.{sym, ap, ◌∙◌}
use Rattle.speed.specs.Speed.{limited}
use Rattle.speed.specs.Run.{speed_in_run}
use Rattle.speed_question.specs.Question.{judged_speed}
use Rattle.speed_question.specs.internal.Asked.{kind_of, lent_of, numbers_of_run}
use Rattle.speed_question.proofs.Answering.{place_judged, speed_judged}
use Rattle.speed_question.proofs.Runs.{run_answer, some_lent}
use Rattle.speed_question.proofs.run.Run.permitted_speed.Goals as goal

pub returns-then-last-x : goal.returns-then-last-x
returns-then-last-x c =
    let r = c.args.self.now in
    let t = c.args.train in
    let x = c.args.x in
    place_judged t x _ (limited t (speed_in_run t x (numbers_of_run r))) (sym c.valid.ensures ∙ c.if-not-valid.false) c.if-last-x.true
    ∙ run_answer (kind_of r) (lent_of r) (some_lent r) (λ n l. judged_speed t x n (limited t (speed_in_run t x l))) c.last_segment-last.ensures.head.length_is

pub returns : goal.returns
returns c =
    let r = c.args.self.now in
    let t = c.args.train in
    let x = c.args.x in
    speed_judged t x _ c.limited.result (sym c.valid.ensures ∙ c.if-not-valid.false) c.if-last-x.false
    ∙ ap (judged_speed t x c.last_segment-last.result.head.lsp) (c.limited.ensures ∙ ap (limited t) c.profile_speed.ensures)
    ∙ run_answer (kind_of r) (lent_of r) (some_lent r) (λ n l. judged_speed t x n (limited t (speed_in_run t x l))) c.last_segment-last.ensures.head.length_is
