-- A number written at a place, and a number with the count of its groups. Used by contracts of the code; no promise names these.
use Rattle.std.specs.Prelude.{◌≡◌, List, ℕ, ◌+◌, ◌*◌, length, Some, None, Option}
use Rattle.std.proofs.lemmas.List.Edits.{sets}
use Rattle.numbers.specs.declared.Found.{Found}
use Rattle.numbers.specs.Numbers.{joined, below, groups_in}

-- the place after v, and the bytes with v at the place
pub record Put : Type 0 where
  pub next : ℕ
  pub bytes : List ℕ

abbrev pub put_number : List ℕ → ℕ → ℕ → Put
put_number s at v = record { next = at + length (groups_in v); bytes = sets s at (groups_in v) }

-- a number with 2 to the 32 added for each of its groups; 0 where there is no number
abbrev pub counted : Option ℕ → ℕ
counted (Some v) = v + 4294967296 * length (groups_in v)
counted None = 0

-- a number and the count of its groups, which is 0 where there is no number
abbrev pub found : Option ℕ → Found
found (Some v) = record { value = v; count = length (groups_in v) }
found None = record { value = 0; count = 0 }

-- r is the counted number of the group b and the number after it, which rest counts, for any number below 2 to the 32
pub record Joins (b rest r : ℕ) : Type 0 where
  pub of : (n : Option ℕ) → n ≡ below n → rest ≡ counted n → r ≡ counted (below (joined b n))
