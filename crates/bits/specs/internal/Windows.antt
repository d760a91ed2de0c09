-- Fields that stand side by side, by their widths, and the parts of a number in which they are read at once. No promise names them.
use Rattle.std.specs.Prelude.{ℕ, ◌+◌, ◌/◌, ◌%◌, ◌^◌, List, [], ◌∷◌}
use Rattle.bits.specs.Bits.{field_at}

-- the bits of fields of these widths
abbrev pub bits_in : List ℕ → ℕ
bits_in [] = 0
bits_in (w ∷ ws) = w + bits_in ws

-- the fields of these widths from the bit at on
abbrev pub fields_at : List ℕ → ℕ → List ℕ → List ℕ
fields_at s at [] = []
fields_at s at (w ∷ ws) = field_at s at w ∷ fields_at s (at + w) ws

-- the lowest bits of a number in parts of these widths, the last part lowest
abbrev pub low_parts : List ℕ → ℕ → List ℕ
low_parts [] t = []
low_parts (w ∷ []) t = t % 2 ^ w ∷ []
low_parts (w ∷ (v ∷ ws)) t = t / 2 ^ bits_in (v ∷ ws) % 2 ^ w ∷ low_parts (v ∷ ws) t

-- a number of no more bits in parts of these widths: the first needs no remainder
abbrev pub parts : List ℕ → ℕ → List ℕ
parts [] t = []
parts (w ∷ []) t = t ∷ []
parts (w ∷ (v ∷ ws)) t = t / 2 ^ bits_in (v ∷ ws) ∷ low_parts (v ∷ ws) t
