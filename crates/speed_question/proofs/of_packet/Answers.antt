-- `speed_question::of_packet` meets its contract.
use mathlib.Core.Path.{refl, ◌∙◌}
use mathlib.Core.List.{[], ◌∷◌}
use Rattle.speed_question.specs.Question.{Brought, no_speed, speed_of_run, permitted_speed}
use Rattle.speed_question.proofs.Questions.{question_accepted}
use Rattle.speed_question.proofs.of_packet.Goals as goal

pub returns : goal.returns
unfolding permitted_speed
returns c =
    let s = c.args.packet.now in
    c.from.ensures ∙ c.permitted_speed.ensures
    ∙ question_accepted no_speed (speed_of_run c.args.train c.args.x) 0 1 (s ∷ s ∷ s ∷ s ∷ []) Brought.packet refl refl (c.requires, tt)
