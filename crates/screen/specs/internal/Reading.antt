-- A cards file as the code reads it: a count or a refusal, and the numbers in an array. No promise names it.
use Rattle.std.specs.Prelude.{◌≡◌, List, ℕ, ◌*◌, ◌≤◌, take, Result, Ok, Err}
use Rattle.kinds.specs.declared.refusals.Refused.{Refused}
use Rattle.kinds.specs.Refusals.{refusal_number}
use Rattle.screen.specs.File.{Numbers, accepted, refused, file_numbers}

-- the numbers of a file, from the array that holds them
abbrev pub told : Result ℕ (Refused ℕ) → List ℕ → Numbers
told (Ok n) values = accepted (take (7 * n) values)
told (Err e) values = refused (refusal_number e.0) e.1

-- how many cards there are
abbrev pub count_of : Result ℕ (Refused ℕ) → ℕ
count_of (Ok n) = n
count_of (Err e) = 0

-- the file s was read into the array
pub record Read (s : List ℕ) (r : Result ℕ (Refused ℕ)) (values : List ℕ) : Type 0 where
  pub says : told r values ≡ file_numbers s
  pub few : count_of r ≤ 64
