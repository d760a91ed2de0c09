-- The desk cases on speed, proved by one statement over the definitions.
use mathlib.Core.Path.{◌≡◌, refl}
use mathlib.Core.List.{map}
use Rattle.speed.specs.Run.{speed_in_run}
use Rattle.speed.specs.Desk.{speeds}

pub desk_speeds : map (λ c. speed_in_run c.train c.x c.run) speeds ≡ map (λ c. c.answer) speeds
desk_speeds = refl
