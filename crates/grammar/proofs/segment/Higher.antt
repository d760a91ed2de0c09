-- What is accepted at a limit of wire changes is accepted at any higher limit, and its values, sheet and packet do not change.
use mathlib.Core.Path.{◌≡◌, refl, sym, ap}
use mathlib.Core.Bool.{true}
use mathlib.Core.List.{List}
use mathlib.Core.Option.{none, some}
use Prim.Native.Nat.{ℕ, zero, suc, ◌+◌, ◌/◌, ◌^◌, ◌≤◌, ◌<◌}
use native.Mathlib.Omega.{arith}
use borrow.Author.Tests.{leb-true, le-leb, lt-leb}
use lib.Dec.{eqb, leb, ltb}
use lib.ListN.{length}
use Rattle.bits.specs.Bits.{Bytes}
use Rattle.bits.proofs.Tests.{by_cases, and_right}
use Rattle.kinds.specs.declared.Item.{Item}
use Rattle.kinds.specs.Kinds.{n_iter}
use Rattle.format.specs.Format.{Format, accepted, read}
use Rattle.format.specs.Media.{packet}
use Rattle.format.proofs.Media.{packet_lawful, sheet_lawful}
use Rattle.format.proofs.Wider.{WiderKind, Wider, ends, goes, same_field, same_then, wider_written, wider_read, packet_widens, sheet_widens}
use Rattle.grammar.specs.segment.Segment.{entries, profile, voltage, current, changes, part, lists, body, fields, sheet_fields, wire_changes}
use Rattle.grammar.specs.segment.Frame.{packet_number, body_bits, field_bits, padding, first_one, packet_of_bits}
use Rattle.grammar.specs.segment.Judgement.{segment_number, after_number, from_packet, from_sheet, to_packet, to_sheet}
use Rattle.grammar.proofs.segment.Framing.{padded_accepted}

-- ---- the tree

-- what stands in front of two trees of which one is wider
record Keeps (start : Format → Format) : Type 0 where
  keeps : {f g : Format} → Wider f g → Wider (start f) (start g)

entries_keep : {f g : Format} → Wider f g → (n : ℕ) → Wider (entries n f) (entries n g)
unfolding entries
entries_keep w zero = w
entries_keep w (suc n) = same_field λ q. same_then (same_then (entries_keep w n))

profile_keeps : Keeps profile
profile_keeps = record { keeps = λ w. same_then (same_then (same_field λ n. entries_keep w n)) }

voltage_keeps : Keeps voltage
voltage_keeps = record { keeps = λ w. same_field λ u. same_then w }

current_keeps : Keeps current
current_keeps = record { keeps = λ w. same_then w }

changes_keep : {start : Format → Format} → Keeps start → {f g : Format} → Wider f g → (lsp last n : ℕ) → Wider (changes start lsp last n f) (changes start lsp last n g)
unfolding changes
changes_keep k w lsp last zero = w
changes_keep k w lsp last (suc n) = same_field λ x. k.keeps (changes_keep k w lsp x n)

module _ {low high : ℕ} (h : low ≤ high) where
  more : (v : ℕ) → (n_iter low).allowed v ≡ true → (n_iter high).allowed v ≡ true
  more v e = let l : v ≤ low = leb-true v low (and_right (leb 0 v) (leb v low) e) in rw (le-leb 0 v (omega arith), le-leb v high (omega arith))

  -- a count up to the lower limit is one up to the higher
  iter_wider : WiderKind (n_iter low) (n_iter high)
  iter_wider = record {
    width = refl;
    allowed = more;
    lower = λ a v e.
        by_cases ((n_iter low).allowed a)
        (λ d. rw (more a d) (rw d at e))
        (λ d. let z : none ≡ some v = rw d at e in cc);
    raise = λ v. refl;
  }

  part_wider : {start : Format → Format} → Keeps start → (lsp : ℕ) {f g : Format} → Wider f g → Wider (part start low lsp f) (part start high lsp g)
  part_wider k lsp w = k.keeps (goes iter_wider λ n. changes_keep k w lsp 0 n)

  lists_wider : (lsp : ℕ) → Wider (lists low lsp) (lists high lsp)
  unfolding lists
  lists_wider lsp =
      let wires = part_wider voltage_keeps lsp (part_wider current_keeps lsp ends) in
      profile_keeps.keeps (same_field λ n. changes_keep profile_keeps wires lsp 0 n)

  body_wider : Wider (body low) (body high)
  unfolding body
  body_wider = same_then (same_then (same_then (same_then (same_field λ lsp. same_then (same_then (same_then (lists_wider lsp)))))))

  fields_wider : Wider (fields low) (fields high)
  unfolding fields
  fields_wider = same_then (same_then (same_then (same_then (same_then body_wider))))

  sheet_fields_wider : Wider (sheet_fields low) (sheet_fields high)
  unfolding sheet_fields
  sheet_fields_wider = same_then fields_wider

  -- ---- "stored packets and sheets read as before"

  pub higher_packet : (s : List ℕ) (l : List Item) → from_packet low s ≡ accepted l → from_packet high s ≡ accepted l
  unfolding from_packet
  higher_packet s l e =
      let m : ℕ = body_bits s in
      by_cases (ltb (length s) 15) (λ a. cc (rw a at e)) λ a.
      by_cases (eqb (packet_number s) segment_number) (λ b.
      by_cases (eqb (length s) (15 + (m + 7) / 8)) (λ c.
      padded_accepted segment_number (first_one (120 + m) (padding s)) (read packet (fields low) 24 (field_bits s)) l (rw (a, b, c) at e) λ v p zero q.
      rw (a, b, c, wider_read packet_widens packet_lawful fields_wider 24 (field_bits s) v tt p, zero) (ap accepted (sym q)))
      (λ c. cc (rw (a, b, c) at e)))
      (λ b. cc (rw (a, b) at e))

  pub higher_sheet : (s : List ℕ) (l : List Item) → Bytes s → from_sheet low s ≡ accepted l → from_sheet high s ≡ accepted l
  unfolding from_sheet
  higher_sheet s l ok e = wider_read sheet_widens sheet_lawful sheet_fields_wider 0 s l ok e

  pub same_packet_lem : (l : List Item) → to_packet low l ≡ to_packet high l
  unfolding to_packet
  same_packet_lem l = ap (packet_of_bits segment_number) (wider_written packet_widens fields_wider (after_number l))

  pub same_sheet_lem : (l : List Item) → to_sheet low l ≡ to_sheet high l
  unfolding to_sheet
  same_sheet_lem l = wider_written sheet_widens sheet_fields_wider l

-- ---- "4 no longer covers counts 24 to 31"

-- "The iterators have five bits": no count of a packet is refused
pub any_count : (n : ℕ) → n < 2 ^ 5 → (n_iter wire_changes).allowed n ≡ true
any_count n h = rw (le-leb 0 n (omega arith), le-leb n wire_changes (omega arith))

-- every count of a sheet above 31 is refused
pub too_many : (n : ℕ) → 31 < n → (n_iter wire_changes).lower n ≡ none
too_many n h = rw (le-leb 0 n (omega arith), lt-leb n wire_changes (omega arith))
