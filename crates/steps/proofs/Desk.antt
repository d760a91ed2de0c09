-- The desk cases of steps, by one statement over the definitions; and the most steps.
use mathlib.Core.Path.{◌≡◌, refl}
use mathlib.Core.Bool.{true, false}
use mathlib.Core.List.{map}
use lib.ListN.{replicate}
use Rattle.steps.specs.Steps.{stepped, first_wrong, checked_steps}
use Rattle.steps.specs.Desk.{ours, cases, counting}

pub desk_steps : map (λ c. checked_steps 10 ours c.starts c.speeds) cases ≡ map (λ c. c.answer) cases
unfolding first_wrong
desk_steps = refl

-- 128 steps, and 129
pub desk_count : (stepped 1000 (counting 0 128) (replicate 128 0) ≡ true) × (stepped 1000 (counting 0 129) (replicate 129 0) ≡ false)
desk_count = (refl, refl)
