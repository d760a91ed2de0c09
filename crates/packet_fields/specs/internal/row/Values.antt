-- The bytes of the values of a row in the sheet. Used by contracts of the code; no promise names these.
use Rattle.std.specs.Prelude.{Bool, true, cond, ◌&&◌, List, [], ◌∷◌, ℕ, ◌+◌, leb, length}
use Rattle.numbers.specs.Numbers.{groups_in}

-- each value is at most its largest value
abbrev pub within : List ℕ → List ℕ → Bool
within ms [] = true
within [] (v ∷ vs) = true
within (m ∷ ms) (v ∷ vs) = leb v m && within ms vs

abbrev pub groups_all : List ℕ → ℕ
groups_all [] = 0
groups_all (v ∷ vs) = length (groups_in v) + groups_all vs

-- the bytes of values in the sheet, and 0 where a value is refused
abbrev pub row_bytes : List ℕ → List ℕ → ℕ
row_bytes ms vs = cond (within ms vs) (groups_all vs) 0
