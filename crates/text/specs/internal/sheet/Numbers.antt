-- The numbers that stand one after the other in a sheet. Used by contracts of the code; no promise names these.
use Rattle.std.specs.Prelude.{◌≡◌, List, [], ◌∷◌, ℕ, zero, suc, ◌≤◌, length, drop, Some, None, Option}
use Rattle.numbers.specs.Numbers.{number_in, groups_in}

-- a number and the numbers after it, or none if there is no number
abbrev pub before : Option ℕ → (ℕ → List ℕ) → List ℕ
before (Some v) more = v ∷ more v
before None more = []

-- the numbers of a sheet, at most n
abbrev pub first_numbers : ℕ → List ℕ → List ℕ
first_numbers zero s = []
first_numbers (suc n) s = before (number_in s) λ v. first_numbers n (drop (length (groups_in v)) s)

-- all numbers of a sheet: a number has at least one byte, so there are at most as many as bytes
unfoldable pub numbers_in : List ℕ → List ℕ
numbers_in s = first_numbers (length s) s

-- `numbers` are the numbers of the sheet s from the byte `at` on
pub record NumbersAt (s : List ℕ) (at : ℕ) (numbers : List ℕ) : Type 0 where
  pub here : numbers_in (drop at s) ≡ numbers
  pub inside : at ≤ length s
