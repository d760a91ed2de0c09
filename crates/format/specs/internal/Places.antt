-- A field taken at a place: a bit of a packet, a byte of a sheet. Used by contracts of the code; no promise names these.
use Rattle.std.specs.Prelude.{Bool, cond, List, ℕ, ◌+◌, ◌*◌, ◌-◌, ◌^◌, ◌≤◌, ◌<◌, ltb, length, take, drop, Result, Ok, Err, Some, None, Option}
use Rattle.bits.specs.Bits.{bits_of_bytes, field_at}
use Rattle.numbers.specs.Numbers.{number_in, groups_in, refusal_of}
use Rattle.kinds.specs.Kind.{Kind}
use Rattle.kinds.specs.Judged.{value_in_packet, number_in_sheet}
use Rattle.kinds.specs.declared.Item.{Item}

-- a field's value and the place after it, or a refusal
pub data Taken : Type 0 where
  Is : Item → ℕ → Taken
  Refused : ℕ → Taken

-- the bits of a packet from the bit at up to the bit stop
abbrev pub bits_between : List ℕ → ℕ → ℕ → List Bool
bits_between s at stop = take (stop - at) (drop at (bits_of_bytes s))

-- a place in a packet whose fields end at the bit stop
pub record Placed (s : List ℕ) (at stop : ℕ) : Type 0 where
  pub before : at ≤ stop
  pub inside : stop ≤ 8 * length s
  pub few : stop < 2 ^ 32

-- a value judged by its kind, and the place after it
abbrev pub taken_at : Result Item ℕ → ℕ → Taken
taken_at (Ok i) next = Is i next
taken_at (Err r) next = Refused r

-- "field by field in order (6 before 4 or 5)"
abbrev pub bits_taken : Kind → List ℕ → ℕ → ℕ → Taken
bits_taken k s at stop = cond (ltb (stop - at) k.width) (Refused 6) (taken_at (value_in_packet k (field_at s at k.width)) (at + k.width))

-- "number by number, 9 before 2, 4 or 5"
abbrev pub taken_of : Kind → ℕ → Option ℕ → Taken
taken_of k at (Some a) = taken_at (number_in_sheet k a) (at + length (groups_in a))
taken_of k at None = Refused (refusal_of None)

abbrev pub number_taken : Kind → List ℕ → ℕ → Taken
number_taken k s at = taken_of k at (number_in (drop at s))
