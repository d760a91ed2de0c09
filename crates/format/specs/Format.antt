-- Formats, and what it is to read and to write one in any medium.
use Rattle.std.specs.Prelude.{List, [], ◌∷◌, ◌++◌, map, ℕ, zero, suc, ◌+◌, length}
use Rattle.kinds.specs.declared.Item.{Item}
use Rattle.kinds.specs.Kind.{Kind}

-- "then that many": next a field of this kind; what follows depends on its value in the packet
pub data Format : Type 0 where
  end : Format
  field : Kind → (ℕ → Format) → Format

-- a field on whose value nothing depends, as in "NID_C 10, NID_SP 32"
abbrev pub then : Kind → Format → Format
then k f = field k (λ _. f)

-- "then that many": a part n times, one after the other
unfoldable pub times : (Format → Format) → ℕ → Format → Format
times part zero f = f
times part (suc n) f = part (times part n f)

-- "A packet is judged": the values of the fields, or a refusal's number "with a place"
pub data Read : Type 0 where
  accepted : List Item → Read
  refused : ℕ → ℕ → Read

-- "field by field in order": what reading one field gives, its value and what is left, or a refusal's number
pub data FieldStep (A : Type 0) : Type 0 where
  step : Item → List A → FieldStep A
  stopped_with : ℕ → FieldStep A

-- how a medium takes a field in front, and puts one; and the refusal where something is left after the last: "13 .. for body bits left", "9 for bytes left"
pub record Medium (A : Type 0) : Type 0 where
  pub take : Kind → List A → FieldStep A
  pub put : Kind → Item → List A
  pub left : ℕ

-- "field by field in order": a value in front of the values read after it
abbrev pub with : Item → Read → Read
with i (accepted l) = accepted (i ∷ l)
with i (refused r place) = refused r place

module _ {A : Type 0} where
  -- "field by field in order": what one field gives, and then the others; "the first bit of the field at fault", "the first byte of the number"
  abbrev pub follow : ℕ → FieldStep A → (Item → List A → Read) → Read
  follow at (step i s) next = with i (next i s)
  follow at (stopped_with r) next = refused r at

  -- "field by field in order", each after what is put for the one before it; then the refusal for what is left: "the place is the first one left"
  abbrev pub read : Medium A → Format → ℕ → List A → Read
  read m end at [] = accepted []
  read m end at (x ∷ s) = refused m.left at
  read m (field k next) at s = follow at (m.take k s) (λ i t. read m (next i.packet) (at + length (m.put k i)) t)

  -- "numbers one after the other", and a packet's fields so: what is put for each value
  abbrev pub write : Medium A → Format → List Item → List A
  write m end l = []
  write m (field k next) [] = []
  write m (field k next) (i ∷ l) = m.put k i ++ write m (next i.packet) l

-- the values that were read, and none where they were refused
abbrev pub values_of : Read → List Item
values_of (accepted l) = l
values_of (refused r place) = []

-- what is answered: of the values that were read, or of a refusal "with a place"
abbrev pub answer_of : {B : Type 0} → (ℕ → ℕ → B) → (List Item → B) → Read → B
answer_of refusal value (accepted l) = value l
answer_of refusal value (refused r place) = refusal r place

-- the column "Packet": the fields' values in the packet
abbrev pub packet_values : List Item → List ℕ
packet_values l = map (λ i. i.packet) l

-- the column "Sheet": the fields' numbers in the sheet
abbrev pub sheet_numbers : List Item → List ℕ
sheet_numbers l = map (λ i. i.sheet) l
