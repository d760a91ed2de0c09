-- `steps::check_steps` meets its contract.
use mathlib.Core.Path.{◌∙◌}
use Rattle.steps.specs.Steps.{check_steps}
use Rattle.steps.proofs.check_steps.Goals as goal

pub returns : goal.returns
unfolding check_steps
returns c = c.from.ensures ∙ c.answered.ensures
