-- `speed_question::permitted_speed` meets its contract.
use mathlib.Core.Path.{◌∙◌}
use Rattle.speed_question.specs.Question.{permitted_speed}
use Rattle.speed_question.proofs.permitted_speed.Goals as goal

pub returns : goal.returns
unfolding permitted_speed
returns c = c.from.ensures ∙ c.answered.ensures
