-- The ends of a segment's sizes, as one statement over the limit of wire changes.
use Rattle.std.specs.Prelude.{◌≡◌, List, ℕ, ◌+◌, ◌*◌, ◌/◌, ◌≤◌, length}
use Rattle.kinds.specs.declared.Item.{Item}
use Rattle.format.specs.Format.{write}
use Rattle.format.specs.Media.{packet}
use Rattle.format.specs.Conforming.{Conforming, InSheet}
use Rattle.grammar.specs.segment.Segment.{fields, sheet_fields}
use Rattle.grammar.specs.segment.Judgement.{after_number, to_packet, to_sheet}

-- "The largest body becomes 16,460 bits, the packet 2,073 bytes, the sheet 5,728", at 31; a change more in both lists has 72 bits, and 15 bytes in the sheet
abbrev pub most_bits : ℕ → ℕ
most_bits limit = 14228 + 72 * limit

abbrev pub most_bytes : ℕ → ℕ
most_bytes limit = 15 + (most_bits limit + 7) / 8

abbrev pub most_sheet : ℕ → ℕ
most_sheet limit = 5263 + 15 * limit

-- values that conform at the limit, with the bits of their body, beside the header's 96 after L_PACKET_ATO, and the bytes of their packet and their sheet
pub record Sized (limit : ℕ) (l : List Item) (body_bits packet_bytes sheet_bytes : ℕ) : Type 0 where
  pub conforming : Conforming InSheet (sheet_fields limit) l
  pub of_body : length (write packet (fields limit) (after_number l)) ≡ 96 + body_bits
  pub of_packet : length (to_packet limit l) ≡ packet_bytes
  pub of_sheet : length (to_sheet limit l) ≡ sheet_bytes

-- "The smallest body has 185 bits (packet of 39 bytes), the largest ..", "A sheet has at most ..": none is smaller or larger, and some are as small and as large
pub record Ends (limit body_bits packet_bytes sheet_bytes : ℕ) : Type 0 where
  pub least : {l : List Item} {b p s : ℕ} → Sized limit l b p s → (185 ≤ b) × (39 ≤ p) × (23 ≤ s)
  pub most : {l : List Item} {b p s : ℕ} → Sized limit l b p s → (b ≤ body_bits) × (p ≤ packet_bytes) × (s ≤ sheet_bytes)
  pub smallest : (l : List Item) × Sized limit l 185 39 23
  pub largest : (l : List Item) × Sized limit l body_bits packet_bytes sheet_bytes
