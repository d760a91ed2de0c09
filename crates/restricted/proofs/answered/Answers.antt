-- `restricted::answered` meets its contract.
use mathlib.Core.Path.{◌≡◌, sym, ap, ap₂, ◌∙◌}
use mathlib.Core.List.{List}
use Prim.Native.Nat.{ℕ}
use Rattle.std.proofs.lemmas.Result.{err_from_is_err_and}
use Rattle.kinds.specs.declared.Item.{Item}
use Rattle.legs.specs.Legs.{Leg}
use Rattle.speed.specs.declared.Train.{Train}
use Rattle.speed_question.specs.Question.{Brought, medium_of, no_speed}
use Rattle.speed_question.specs.internal.Run.{brought_as, segments_of}
use Rattle.speed_question.specs.internal.Asked.{kind_of, values_of_run}
use Rattle.speed_question.proofs.Questions.{question_refused, question_taken}
use Rattle.restricted.specs.Question.{restricted_on, restricted_of_run}
use Rattle.restricted.specs.internal.Travelling.{accepted_journey, legs_in}
use Rattle.restricted.proofs.Answers.{journey_refused, journey_answered}
use Rattle.restricted.proofs.Journeys.{accepted_lem}
use Rattle.restricted.proofs.answered.Goals as goal

pub returns-in_err-run : goal.returns-in_err-run
returns-in_err-run c =
    let a = c.args in
    let p = err_from_is_err_and c.from_residual.result c.from_residual.ensures.1 in
    rw (p.1, p.2) (question_refused no_speed (restricted_of_run a.medium a.count a.journey.now a.leg a.train a.x) a.medium a.count (segments_of a.lent.now) c.in_err-run.ensures)

-- the medium's number, in place of what it is of
by_kind : (b : Brought) {medium : ℕ} → medium ≡ medium_of b → (count : ℕ) (s : List ℕ) (leg : ℕ) (t : Train) (x : ℕ) (r : List (List Item))
    → restricted_of_run (medium_of b) count s leg t x r ≡ restricted_of_run medium count s leg t x r
by_kind b e count s leg t x r = ap (λ (m : ℕ). restricted_of_run m count s leg t x r) (sym e)

pub returns-in_err-journey : goal.returns-in_err-journey
returns-in_err-journey c =
    let a = c.args in
    let r = c.in_ok-run.run' in
    let k = c.in_ok-run.ensures {u = tt} in
    let p = err_from_is_err_and c.from_residual-in_err-journey.result c.from_residual-in_err-journey.ensures.1 in
    rw (p.1, p.2)
    (journey_refused (kind_of r) a.journey.now a.count a.leg a.train a.x (values_of_run r) c.in_err-journey.ensures
    ∙ by_kind (kind_of r) k.kind a.count a.journey.now a.leg a.train a.x (values_of_run r)
    ∙ question_taken no_speed (restricted_of_run a.medium a.count a.journey.now a.leg a.train a.x) a.medium a.count (segments_of a.lent.now) r k)

pub returns : goal.returns
returns c =
    let a = c.args in
    let r = c.in_ok-run.run' in
    let j = c.in_ok-journey.journey in
    let k = c.in_ok-run.ensures {u = tt} in
    let e = c.in_ok-journey.ensures {u = tt} in
    let same = ap₂ accepted_journey (ap brought_as e.0) e.1 in
    c.on_journey.ensures
    ∙ ap₂ (λ (n : ℕ) (l : List Leg). restricted_on n a.leg a.train a.x (values_of_run r) l) (sym k.count_is) (ap₂ legs_in (ap brought_as e.0) e.1)
    ∙ journey_answered (kind_of r) a.journey.now a.count a.leg a.train a.x (values_of_run r) (accepted_lem (kind_of r) a.journey.now (sym same ∙ j.accepted))
    ∙ by_kind (kind_of r) k.kind a.count a.journey.now a.leg a.train a.x (values_of_run r)
    ∙ question_taken no_speed (restricted_of_run a.medium a.count a.journey.now a.leg a.train a.x) a.medium a.count (segments_of a.lent.now) r k
