-- What the conversions of one tree and their writers must do, once everything is judged; no promise names it.
use Rattle.std.specs.Prelude.{◌≡◌, Bool, Result, Ok, Err, List, ℕ, ◌≤◌, length, take, drop}
use Rattle.bits.specs.Bits.{bytes_of_bits}
use Rattle.kinds.specs.declared.refusals.Refused.{Refused}
use Rattle.kinds.specs.Refusals.{refusal_number}
use Rattle.format.specs.Format.{Read, accepted, read, write, values_of}
use Rattle.format.specs.Media.{packet, sheet}
use Rattle.grammar.specs.segment.Frame.{frame}
use Rattle.grammar.specs.segment.Judgement.{after_number}
use Rattle.grammar.specs.declared.link.Tree.{Tree}
use Rattle.grammar.specs.link.Link.{tree_number, tree_body, tree_fields, within_count, to_either_packet, to_either_sheet}
use Rattle.grammar.specs.internal.link.Trees.{tree_packet, tree_sheet}
use Rattle.convert.specs.declared.Converted.{Converted}
use Rattle.convert.specs.Convert.{Outcome, converted}

-- the answer of a conversion that gives the length of its result, or is refused
abbrev pub converted_as : Result ℕ (Refused ℕ) → Converted
converted_as (Ok n) = record { refusal = 0; place = 0; length = n }
converted_as (Err e) = record { refusal = refusal_number e.0; place = e.1; length = 0 }

-- the conversions where the tree is known
unfoldable pub tree_to_sheet : Tree → List ℕ → List ℕ → Outcome
tree_to_sheet t s room = converted to_either_sheet (tree_packet t s) room

-- a sheet's values, or its refusal, 12 among them
abbrev pub sheet_judged : Tree → List ℕ → Read
sheet_judged t s = within_count (tree_sheet t s)

unfoldable pub tree_to_packet : Tree → List ℕ → List ℕ → Outcome
tree_to_packet t s room = converted to_either_packet (sheet_judged t s) room

-- ---- the writers

abbrev pub sheet_of : Tree → List ℕ → List ℕ
sheet_of t s = to_either_sheet (values_of (tree_packet t s))

-- the packet was accepted, and the room holds its sheet
pub record SheetWritable (t : Tree) (s room : List ℕ) : Type 0 where
  pub accepts : tree_packet t s ≡ accepted (values_of (tree_packet t s))
  pub holds : length (sheet_of t s) ≤ length room

-- the bits of a sheet's fields after the packet number
abbrev pub bits_of_sheet : Tree → List ℕ → List Bool
bits_of_sheet t s = write packet (tree_fields t) (after_number (values_of (sheet_judged t s)))

-- the sheet was accepted
abbrev pub SheetAccepted : Tree → List ℕ → Type 0
SheetAccepted t s = sheet_judged t s ≡ accepted (values_of (sheet_judged t s))

-- the body's values, from its place in the sheet on
abbrev pub body_read : Tree → List ℕ → ℕ → Read
body_read t s at = read sheet (tree_body t) at (drop at s)

abbrev pub body_bits_of : Tree → List ℕ → ℕ → List Bool
body_bits_of t s at = write packet (tree_body t) (values_of (body_read t s at))

-- the body's place in an accepted sheet
pub record BodyAt (t : Tree) (s : List ℕ) (at : ℕ) : Type 0 where
  pub inside : at ≤ length s
  pub accepts : body_read t s at ≡ accepted (values_of (body_read t s at))

-- the first fifteen bytes, and the place of the body's first number
pub record Headed (t : Tree) (s header : List ℕ) (at : ℕ) : Type 0 where
  pub bytes : header ≡ bytes_of_bits (take 120 (frame (tree_number t) (bits_of_sheet t s)))
  pub place : BodyAt t s at
  pub rest : drop 96 (bits_of_sheet t s) ≡ body_bits_of t s at
