-- `steps::of_run` meets its contract.
use mathlib.Core.Path.{sym, ◌∙◌}
use Rattle.speed_question.specs.internal.Asked.{kind_of, lent_of, numbers_of_run}
use Rattle.speed_question.proofs.Runs.{run_answer, some_lent}
use Rattle.steps.proofs.Checking.{answer_for, steps_refused, steps_wrong, steps_right}
use Rattle.steps.proofs.of_run.Goals as goal

pub returns-then-not-stepped : goal.returns-then-not-stepped
returns-then-not-stepped c =
    let a = c.args in
    let r = a.run.now in
    steps_refused a.train a.starts.now a.speeds.now _ (numbers_of_run r) (sym c.valid.ensures ∙ c.if-not-valid.false) (sym c.stepped.ensures ∙ c.if-not-stepped.true)
    ∙ run_answer (kind_of r) (lent_of r) (some_lent r) (answer_for a.train a.starts.now a.speeds.now) c.last_segment-last.ensures.head.length_is

pub first_wrong-requires : goal.first_wrong-requires
first_wrong-requires c = sym c.stepped.ensures ∙ c.if-not-stepped.false

pub returns-in-Some : goal.returns-in-Some
returns-in-Some c =
    let a = c.args in
    let r = a.run.now in
    let k = c.run_spans-kept in
    steps_wrong a.train a.starts.now a.speeds.now _ (numbers_of_run r) (sym c.valid.ensures ∙ c.if-not-valid.false) k.result _ (sym c.stepped.ensures ∙ c.if-not-stepped.false) k.ensures c.in-Some.ensures
    ∙ run_answer (kind_of r) (lent_of r) (some_lent r) (answer_for a.train a.starts.now a.speeds.now) c.last_segment-last.ensures.head.length_is

pub returns-in-None : goal.returns-in-None
returns-in-None c =
    let a = c.args in
    let r = a.run.now in
    let k = c.run_spans-kept in
    steps_right a.train a.starts.now a.speeds.now _ (numbers_of_run r) (sym c.valid.ensures ∙ c.if-not-valid.false) k.result _ (sym c.stepped.ensures ∙ c.if-not-stepped.false) k.ensures c.in-None.ensures
    ∙ run_answer (kind_of r) (lent_of r) (some_lent r) (answer_for a.train a.starts.now a.speeds.now) c.last_segment-last.ensures.head.length_is
