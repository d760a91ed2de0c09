-- The verdict on a packet and on a sheet: the size of the conversion's result, or the refusal. Used by contracts of the code; no promise names these.
use Rattle.std.specs.Prelude.{Result, Ok, Err, List, ◌∷◌, ℕ, ◌+◌, length}
use Rattle.kinds.specs.declared.Item.{Item}
use Rattle.format.specs.Format.{Format, Medium, Read, read, write, answer_of}
use Rattle.format.specs.Media.{packet, sheet}
use Rattle.grammar.specs.segment.Frame.{number_item}
use Rattle.grammar.specs.declared.link.Tree.{Tree}
use Rattle.grammar.specs.link.Link.{tree_number, tree_fields}
use Rattle.grammar.specs.internal.link.Trees.{tree_sheet_fields, tree_packet, tree_sheet}
use Rattle.format.specs.internal.Places.{bits_between}
use Rattle.kinds.specs.declared.refusals.Refused.{Refused}
use Rattle.kinds.specs.Refusals.{refusal_number}

-- the size of what is made of a packet or a sheet, or a refusal's number and its place
pub data Verdict : Type 0 where
  sized : ℕ → Verdict
  refused : ℕ → ℕ → Verdict

-- the verdict that the code's answer gives
abbrev pub said : Result ℕ (Refused ℕ) → Verdict
said (Ok n) = Verdict.sized n
said (Err e) = Verdict.refused (refusal_number e.0) e.1

-- the size of what is made of the values that were read, or a refusal with its place
abbrev pub verdict_of : {B : Type 0} → (ℕ → B) → (ℕ → ℕ → B) → (List Item → ℕ) → Read → B
verdict_of accepts refuses size r = answer_of refuses (λ l. accepts (size l)) r

-- n and the length of what is written of the values
abbrev pub size_from : {A : Type 0} → Medium A → Format → ℕ → List Item → ℕ
size_from m f n l = n + length (write m f l)

-- the verdict on the fields of a tree's packet, which end at the bit stop, with the bytes of the packet's sheet
abbrev pub fields_verdict : Tree → List ℕ → ℕ → Verdict
fields_verdict t s stop =
    verdict_of Verdict.sized Verdict.refused (λ l. size_from sheet (tree_sheet_fields t) 0 (number_item (tree_number t) ∷ l)) (read packet (tree_fields t) 24 (bits_between s 24 stop))

-- the verdict on a packet of a tree, with the bytes of its sheet
unfoldable pub packet_verdict : Tree → List ℕ → Verdict
packet_verdict t s = verdict_of Verdict.sized Verdict.refused (size_from sheet (tree_sheet_fields t) 0) (tree_packet t s)

-- the verdict on a sheet of a tree, with the bits of its packet without L_PACKET_ATO and padding
unfoldable pub sheet_verdict : Tree → List ℕ → Verdict
sheet_verdict t s = verdict_of Verdict.sized Verdict.refused (size_from packet (tree_sheet_fields t) 0) (tree_sheet t s)
