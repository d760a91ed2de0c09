-- `screen::card` meets its contract.
use mathlib.Core.Path.{refl}
use Rattle.screen.proofs.card.Goals as goal

-- each field is of its own number
pub returns : goal.returns
returns c = refl
