-- How many bytes a packet's value has in the sheet, as the contracts of the module size say it. No promise names it.
use Rattle.std.specs.Prelude.{◌≡◌, ℕ, zero, suc, length, Result, Ok, Err}
use Rattle.numbers.specs.Numbers.{groups_in}
use Rattle.kinds.specs.declared.Item.{Item}
use Rattle.kinds.specs.Kind.{range}
use Rattle.kinds.specs.Judged.{value_in_packet}

-- the bytes of a value in the sheet, and 0 where it is refused
abbrev pub bytes_of : Result Item ℕ → ℕ
bytes_of (Ok i) = length (groups_in i.sheet)
bytes_of (Err r) = 0

-- the bytes of a value of a range, whatever its width and its refusal
abbrev pub BytesIn : ℕ → ℕ → ℕ → ℕ → Type 0
BytesIn least largest v r = (w x : ℕ) → r ≡ bytes_of (value_in_packet (range w least largest x) v)

-- "NC_CDDIFF 0 to 10 where Q_DIFF is 0, else NC_DIFF 0 to 2"
abbrev pub most_class : ℕ → ℕ
most_class zero = 10
most_class (suc q) = 2
