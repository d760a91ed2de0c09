-- The numbers of an accepted sheet, and the bytes where they stand. The contracts of the code cite it; no promise names it.
use Rattle.std.specs.Prelude.{◌≡◌, List, ℕ, zero, suc, ◌+◌, ◌/◌, ◌%◌, ◌≤◌, ◌<◌, length, drop, get_or, Some}
use Rattle.bits.specs.Bits.{Bytes}
use Rattle.numbers.specs.Numbers.{number_in}
use Rattle.numbers.specs.internal.Groups.{counted}
use Rattle.kinds.specs.declared.Item.{Item}
use Rattle.format.specs.Format.{Format, accepted, read, values_of, sheet_numbers}
use Rattle.format.specs.Media.{sheet}
use Rattle.grammar.specs.segment.Segment.{wire_changes}
use Rattle.grammar.specs.segment.Judgement.{from_sheet}

-- the sheet s is accepted
abbrev pub AcceptedSheet : List ℕ → Type 0
AcceptedSheet s = from_sheet wire_changes s ≡ accepted (values_of (from_sheet wire_changes s))

-- the numbers of the sheet s
abbrev pub numbers_of_sheet : List ℕ → List ℕ
numbers_of_sheet s = sheet_numbers (values_of (from_sheet wire_changes s))

-- the number at the byte at and the count of its groups: value + 2^32 * count
abbrev pub counted_at : List ℕ → ℕ → ℕ
counted_at s at = counted (number_in (drop at s))

-- the byte after the number at the byte at
abbrev pub number_end : List ℕ → ℕ → ℕ
number_end s at = at + counted_at s at / 4294967296

-- a is the value of the number at the byte at, and to the byte after that number
pub record NumberAt (s : List ℕ) (at to a : ℕ) : Type 0 where
  pub next : to ≡ number_end s at
  pub value : a ≡ counted_at s at % 4294967296

-- there is a number at the byte at
abbrev pub NumberHere : List ℕ → ℕ → Type 0
NumberHere s at = number_in (drop at s) ≡ Some (counted_at s at % 4294967296)

-- the byte after n numbers at the byte at
abbrev pub numbers_end : List ℕ → ℕ → ℕ → ℕ
numbers_end s at zero = at
numbers_end s at (suc n) = number_end s (numbers_end s at n)

-- n numbers stand at the byte at, one after the other
pub record Numbers (s : List ℕ) (at n : ℕ) : Type 0 where
  pub ok : Bytes s
  pub here : (i : ℕ) → i < n → NumberHere s (numbers_end s at i)

-- the byte after a number of one or two groups
abbrev pub short_end : List ℕ → ℕ → ℕ
short_end s at = at + 1 + get_or s at 0 / 128

-- the byte after an entry: Q_DIFF has one group, the class and the speed one or two
abbrev pub entry_end : List ℕ → ℕ → ℕ
entry_end s at = short_end s (short_end s (at + 1))

-- the tree f is read at the byte at and accepted, with the values l
pub record Reads (s : List ℕ) (f : Format) (at : ℕ) (l : List Item) : Type 0 where
  pub before : at ≤ length s
  pub ok : Bytes s
  pub reads : read sheet f at (drop at s) ≡ accepted l
