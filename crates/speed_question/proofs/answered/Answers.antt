-- `speed_question::answered` meets its contract.
use mathlib.Core.Path.{◌∙◌}
use Rattle.std.proofs.lemmas.Result.{err_from_is_err_and}
use Rattle.speed_question.specs.Question.{no_speed, speed_of_run}
use Rattle.speed_question.specs.internal.Run.{segments_of}
use Rattle.speed_question.proofs.Questions.{question_refused, question_taken}
use Rattle.speed_question.proofs.answered.Goals as goal

pub returns-in_err-new : goal.returns-in_err-new
returns-in_err-new c =
    let a = c.args in
    let p = err_from_is_err_and c.from_residual.result c.from_residual.ensures.1 in
    rw (p.1, p.2) (question_refused no_speed (speed_of_run a.train a.x) a.medium a.count (segments_of a.lent.now) c.in_err-new.ensures)

pub returns : goal.returns
returns c =
    let a = c.args in
    c.permitted_speed.ensures ∙ question_taken no_speed (speed_of_run a.train a.x) a.medium a.count (segments_of a.lent.now) c.in_ok-new.field-0 c.in_ok-new.ensures
