-- Desk cases of steps: a segment of 10 cm, one table of lists, each with its refusal and place.
use Rattle.std.specs.Prelude.{false, List, [], ◌∷◌, ◌++◌, ℕ, zero, suc, ◌+◌, replicate}
use Rattle.speed.specs.declared.Train.{Train}
use Rattle.speed.specs.Speed.{limited}
use Rattle.speed.specs.Run.{speed_in_run}
use Rattle.steps.specs.declared.Checked.{Checked}
use Rattle.steps.specs.Steps.{not_checked}

pub record StepsCase : Type 0 where
  pub starts : List ℕ
  pub speeds : List ℕ
  pub answer : Checked

-- 10 cm, 100 km/h with the delay, at 5 a change to 140
abbrev pub numbers : List ℕ
numbers = 6 ∷ replicate 9 0 ++ 10 ∷ replicate 3 0 ++ (100 ∷ 0 ∷ 0 ∷ 1 ∷ 5 ∷ 140 ∷ 0 ∷ 0 ∷ []) ++ replicate 5 0

-- a 2 cm train of at most 120
abbrev pub train : Train
train = record { length = 2; cant = 80; maximum = 120; freight_p = false; freight_g = false; passenger = false }

abbrev pub ours : ℕ → ℕ
ours x = limited train (speed_in_run train x (numbers ∷ []))

abbrev pub cases : List StepsCase
cases =
    record { starts = 0 ∷ 7 ∷ []; speeds = 100 ∷ 120 ∷ []; answer = not_checked 0 0 }
    -- two neighbours may have one speed
    ∷ record { starts = 0 ∷ 3 ∷ 7 ∷ []; speeds = 100 ∷ 100 ∷ 120 ∷ []; answer = not_checked 0 0 }
    -- the delay forgotten, a step too late, a step missing, the maximum forgotten, the first wrong
    ∷ record { starts = 0 ∷ 5 ∷ []; speeds = 100 ∷ 120 ∷ []; answer = not_checked 19 5 }
    ∷ record { starts = 0 ∷ 8 ∷ []; speeds = 100 ∷ 120 ∷ []; answer = not_checked 19 7 }
    ∷ record { starts = 0 ∷ []; speeds = 100 ∷ []; answer = not_checked 19 7 }
    ∷ record { starts = 0 ∷ 7 ∷ []; speeds = 100 ∷ 140 ∷ []; answer = not_checked 19 7 }
    ∷ record { starts = 0 ∷ 7 ∷ []; speeds = 99 ∷ 120 ∷ []; answer = not_checked 19 0 }
    -- 18: none, the first not at 0, not rising, at L_SP, unequal numbers; before 19
    ∷ record { starts = []; speeds = []; answer = not_checked 18 0 }
    ∷ record { starts = 1 ∷ 7 ∷ []; speeds = 100 ∷ 120 ∷ []; answer = not_checked 18 0 }
    ∷ record { starts = 0 ∷ 7 ∷ 7 ∷ []; speeds = 100 ∷ 120 ∷ 120 ∷ []; answer = not_checked 18 0 }
    ∷ record { starts = 0 ∷ 7 ∷ 10 ∷ []; speeds = 100 ∷ 120 ∷ 120 ∷ []; answer = not_checked 18 0 }
    ∷ record { starts = 0 ∷ 7 ∷ []; speeds = 99 ∷ []; answer = not_checked 18 0 }
    ∷ []

-- "1 to 128 steps": n starts that rise by 1
abbrev pub counting : ℕ → ℕ → List ℕ
counting from zero = []
counting from (suc n) = from ∷ counting (from + 1) n
