-- The count of a listing's changes. Used by contracts of the code; no promise names it.
use Rattle.std.specs.Prelude.{List, ℕ, get_or}
use Rattle.speed.specs.Speed.{after_element, profile_of}

-- how many changes the speed profile has
abbrev pub changes_of : List ℕ → ℕ
changes_of s = get_or (after_element (profile_of s)) 0 0
