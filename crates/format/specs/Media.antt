-- The two media: a packet's bits, and a sheet's groups.
use Rattle.std.specs.Prelude.{Bool, cond, List, ℕ, ltb, length, take, drop, Result, Ok, Err, Some, None, Option}
use Rattle.bits.specs.Bits.{bits_of, number}
use Rattle.numbers.specs.Numbers.{number_in, groups_in, refusal_of}
use Rattle.kinds.specs.declared.Item.{Item}
use Rattle.kinds.specs.Kind.{Kind}
use Rattle.kinds.specs.Judged.{value_in_packet, number_in_sheet}
use Rattle.format.specs.Format.{FieldStep, step, stopped_with, Medium}

-- "field by field in order": a field judged, and what is left after it
abbrev pub stepped : {A : Type 0} → Result Item ℕ → List A → FieldStep A
stepped (Ok i) s = step i s
stepped (Err r) s = stopped_with r

-- "6: a field doesn't fit in the body's remaining bits", "6 before 4 or 5"
abbrev pub take_bits : Kind → List Bool → FieldStep Bool
take_bits k s = cond (ltb (length s) k.width) (stopped_with 6) (stepped (value_in_packet k (number (take k.width s))) (drop k.width s))

-- "each field most significant bit first"
abbrev pub put_bits : Kind → Item → List Bool
put_bits k i = bits_of k.width i.packet

-- a packet's bits: "13 .. for body bits left after the last field"
abbrev pub packet : Medium Bool
packet = record { take = take_bits; put = put_bits; left = 13 }

-- "9: sheet ends too soon, .. or a number is not in its shortest form", "9 before 2, 4 or 5"
abbrev pub numbered : Kind → Option ℕ → List ℕ → FieldStep ℕ
numbered k (Some a) s = stepped (number_in_sheet k a) (drop (length (groups_in a)) s)
numbered k None s = stopped_with (refusal_of None)

-- "A sheet is judged number by number"
abbrev pub take_groups : Kind → List ℕ → FieldStep ℕ
take_groups k s = numbered k (number_in s) s

-- "each in groups of seven bits"
abbrev pub put_groups : Kind → Item → List ℕ
put_groups k i = groups_in i.sheet

-- a sheet's bytes: 9 also where it "has bytes left"
abbrev pub sheet : Medium ℕ
sheet = record { take = take_groups; put = put_groups; left = 9 }
