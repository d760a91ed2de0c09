-- `restricted::restricted_speed` meets its contract.
use mathlib.Core.Path.{◌∙◌}
use Rattle.restricted.specs.Question.{restricted_speed}
use Rattle.restricted.proofs.restricted_speed.Goals as goal

pub returns : goal.returns
unfolding restricted_speed
returns c = c.from.ensures ∙ c.answered.ensures
