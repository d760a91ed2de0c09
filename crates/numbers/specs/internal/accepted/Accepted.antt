-- A number at a place of an accepted sheet. Used by contracts of the code; no promise names these.
use Rattle.std.specs.Prelude.{◌≡◌, List, ℕ, ◌+◌, ◌<◌, length, drop, Some}
use Rattle.numbers.specs.Numbers.{number_in, groups_in}
use Rattle.numbers.specs.declared.accepted.ReadNumber.{ReadNumber}

-- a number stands at the place at
pub record There (s : List ℕ) (at : ℕ) : Type 0 where
  pub value : ℕ
  pub is : number_in (drop at s) ≡ Some value

-- a number of one group stands at the place at
pub record Single (s : List ℕ) (at : ℕ) : Type 0 where
  pub there : There s at
  pub small : there.value < 128

-- r is the number at the place at, with the place after it
pub record Reads (s : List ℕ) (at : ℕ) (r : ReadNumber) : Type 0 where
  pub is : number_in (drop at s) ≡ Some r.value
  pub next : r.next ≡ at + length (groups_in r.value)
