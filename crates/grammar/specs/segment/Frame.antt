-- A packet's frame: packet number, L_PACKET_ATO, the fields' bits and padding; and its refusals 1, 2, 3 and 7.
use Rattle.std.specs.Prelude.{Bool, true, false, cond, List, [], ◌∷◌, ◌++◌, ℕ, ◌+◌, ◌-◌, ◌/◌, eqb, ltb, length, take, drop}
use Rattle.std.proofs.Math.Option.{Option, none, some}
use Rattle.bits.specs.Bits.{bits_of, bits_of_bytes, bytes_of_bits, field_at}
use Rattle.kinds.specs.declared.Item.{Item}
use Rattle.format.specs.Format.{Format, Read, accepted, refused, read}
use Rattle.format.specs.Media.{packet}

-- "Header, 120 bits: NID_PACKET_ATO 8 .., L_PACKET_ATO 16"
abbrev pub packet_number : List ℕ → ℕ
packet_number s = field_at s 0 8

-- "L_PACKET_ATO counts the body's bits, without header and padding"
abbrev pub body_bits : List ℕ → ℕ
body_bits s = field_at s 8 16

-- the bits of the fields after L_PACKET_ATO: 96 of "Header, 120 bits", and the body's
abbrev pub field_bits : List ℕ → List Bool
field_bits s = take (96 + body_bits s) (drop 24 (bits_of_bytes s))

-- "Zero bits pad it to a whole byte": the bits after the body
abbrev pub padding : List ℕ → List Bool
padding s = drop (120 + body_bits s) (bits_of_bytes s)

-- "For padding it is the first bit that is 1": its place, where the bits stand at the place at
abbrev pub first_one : ℕ → List Bool → Option ℕ
first_one at [] = none
first_one at (true ∷ s) = some at
first_one at (false ∷ s) = first_one (at + 1) s

-- "the packet number, 6, comes first": the item of a packet number
abbrev pub number_item : ℕ → Item
number_item n = record { sheet = n; packet = n }

-- "7: a padding bit is 1", judged after the fields
abbrev pub padded : ℕ → Option ℕ → Read → Read
padded n one (refused r place) = refused r place
padded n none (accepted l) = accepted (number_item n ∷ l)
padded n (some place) (accepted l) = refused 7 place

-- "A packet is judged 1, 2, 3, then field by field in order (6 before 4 or 5)", then 13 for bits left, "then 7"; the fields stand at bit 24,
-- "counted from 0 at the packet's start", and the padding after 120 bits and the body's; "For 1, 2, 3 .. it is 0"
abbrev pub unframed : ℕ → Format → List ℕ → Read
unframed n f s =
    let field_by_field : Read = padded n (first_one (120 + body_bits s) (padding s)) (read packet f 24 (field_bits s)) in
    cond (ltb (length s) 15) (refused 1 0)
    (cond (eqb (packet_number s) n)
    (cond (eqb (length s) (15 + (body_bits s + 7) / 8)) field_by_field (refused 3 0))
    (refused 2 0))

-- "NID_PACKET_ATO 8 (6 on our link), L_PACKET_ATO 16", and the fields' bits
abbrev pub frame : ℕ → List Bool → List Bool
frame n bits = bits_of 8 n ++ (bits_of 16 (length bits - 96) ++ bits)

-- "Zero bits pad it to a whole byte": the packet of the fields' bits
abbrev pub packet_of_bits : ℕ → List Bool → List ℕ
packet_of_bits n bits = bytes_of_bits (frame n bits)
