-- A packet and a sheet of one of the two trees. Used by contracts of the code; no promise names these.
use Rattle.std.specs.Prelude.{◌≡◌, List, ℕ, ◌+◌, ◌≤◌, length, Some, None, Option}
use Rattle.kinds.specs.Kind.{Kind, range}
use Rattle.numbers.specs.Numbers.{number_in}
use Rattle.format.specs.Format.{Format, then, Read, accepted, read, write, values_of}
use Rattle.format.specs.Media.{packet, sheet}
use Rattle.format.specs.internal.Places.{bits_between, Placed}
use Rattle.grammar.specs.segment.Frame.{unframed}
use Rattle.grammar.specs.declared.link.Tree.{Tree}
use Rattle.grammar.specs.declared.link.Tree.TheVariants.{Segment}
use Rattle.grammar.specs.link.Link.{tree_number, tree_fields, tree_of}

-- the packet number of a tree, and no other
abbrev pub tree_number_kind : Tree → Kind
tree_number_kind t = range 8 (tree_number t) (tree_number t) 2

abbrev pub tree_sheet_fields : Tree → Format
tree_sheet_fields t = then (tree_number_kind t) (tree_fields t)

abbrev pub tree_packet : Tree → List ℕ → Read
tree_packet t s = unframed (tree_number t) (tree_fields t) s

abbrev pub tree_sheet : Tree → List ℕ → Read
tree_sheet t s = read sheet (tree_sheet_fields t) 0 s

-- the tree of a sheet, by its first number
abbrev pub by_number : Option ℕ → Tree
by_number (Some a) = tree_of a
by_number None = Segment

abbrev pub tree_of_sheet : List ℕ → Tree
tree_of_sheet s = by_number (number_in s)

-- ---- a packet's fields written as a sheet

-- the numbers of the fields after the packet number, where the fields end at the bit stop
abbrev pub fields_of : Tree → List ℕ → ℕ → List ℕ
fields_of t s stop = write sheet (tree_fields t) (values_of (read packet (tree_fields t) 24 (bits_between s 24 stop)))

-- the fields are accepted, and the room holds their numbers from the byte start on
pub record FieldsWritable (t : Tree) (s : List ℕ) (stop : ℕ) (room : List ℕ) (start : ℕ) : Type 0 where
  pub place : Placed s 24 stop
  pub accepts : read packet (tree_fields t) 24 (bits_between s 24 stop) ≡ accepted (values_of (read packet (tree_fields t) 24 (bits_between s 24 stop)))
  pub holds : start + length (fields_of t s stop) ≤ length room
