-- `steps::answered` meets its contract.
use mathlib.Core.Path.{◌∙◌}
use Rattle.std.proofs.lemmas.Result.{err_from_is_err_and}
use Rattle.speed_question.specs.internal.Run.{segments_of}
use Rattle.speed_question.proofs.Questions.{question_refused, question_taken}
use Rattle.steps.specs.Steps.{not_checked, steps_of_run}
use Rattle.steps.proofs.answered.Goals as goal

pub returns-in_err-run : goal.returns-in_err-run
returns-in_err-run c =
    let a = c.args in
    let p = err_from_is_err_and c.from_residual.result c.from_residual.ensures.1 in
    rw (p.1, p.2) (question_refused not_checked (steps_of_run a.train a.starts.now a.speeds.now) a.medium a.count (segments_of a.lent.now) c.in_err-run.ensures)

pub returns : goal.returns
returns c =
    let a = c.args in
    c.of_run.ensures ∙ question_taken not_checked (steps_of_run a.train a.starts.now a.speeds.now) a.medium a.count (segments_of a.lent.now) c.in_ok-run.run' c.in_ok-run.ensures
