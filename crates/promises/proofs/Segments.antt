-- The sizes that are promised of a segment alone, below a journey's: a caller that converts only segments sizes a room by them.
use mathlib.Core.List.{[]}
use mathlib.Core.Path.{◌≡◌, refl, sym, ap, ◌∙◌}
use mathlib.Core.Bool.{true, false}
use mathlib.Core.List.{List, ◌∷◌}
use Prim.Native.Nat.{ℕ, ◌-◌, ◌≤◌}
use native.Mathlib.Omega.{arith}
use borrow.Author.Tests.{ne_eqb, le-ltb}
use lib.Dec.{lit≤}
use lib.ListN.{length}
use Rattle.bits.specs.Bits.{Bytes}
use Rattle.std.specs.Prelude.{Some, None, Option}
use Rattle.numbers.specs.Numbers.{number_in}
use Rattle.kinds.specs.declared.Item.{Item}
use Rattle.format.specs.Format.{Read, accepted, refused}
use Rattle.format.specs.Conforming.{also, given_back}
use Rattle.format.proofs.Sized.{size_least, sheet_priced}
use Rattle.grammar.specs.segment.Segment.{fields, sheet_fields, wire_changes}
use Rattle.grammar.specs.segment.Frame.{packet_number}
use Rattle.grammar.specs.segment.Judgement.{segment_number, from_packet, from_sheet, to_packet, to_sheet}
use Rattle.grammar.proofs.segment.Ends.{sheet_groups, sheet_most, packet_least, packet_most}
use Rattle.grammar.proofs.segment.Grounds.{packet_grounds, sheet_grounds, fields_refusals, packet_listed, sheet_listed}
use Rattle.grammar.specs.declared.link.Tree.{Tree}
use Rattle.grammar.specs.declared.link.Tree.TheVariants.{Segment}
use Rattle.grammar.specs.link.Link.{link_bits, within_count, from_either_sheet, to_either_packet, to_either_sheet}
use Rattle.grammar.specs.internal.link.Trees.{tree_sheet, by_number}
use Rattle.grammar.proofs.link.Grounds.{segment_judged}
use Rattle.grammar.proofs.link.Sheets.{sheet_by_tree}
use Rattle.grammar.proofs.link.Segments.{on_link}
use Rattle.speed_question.specs.Question.{Brought}
use Rattle.speed_question.proofs.Values.{packet_values_lem, sheet_values}
use Rattle.convert.specs.Convert.{converted, fitted, packet_to_sheet, sheet_to_packet}
use Rattle.promises.specs.Promised.{SegmentValues}
use Rattle.promises.proofs.Values.{lowered_packet, lowered_good}
use Rattle.promises.proofs.Ranges.{good_sheet}
use Rattle.promises.proofs.Refused.{among_member}

-- a segment's sheet has 23 to 5,728 bytes
pub segment_sheet_size : (l : List Item) → SegmentValues Brought.packet l → (23 ≤ length (to_either_sheet l)) × (length (to_either_sheet l) ≤ 5728)
unfolding to_sheet
segment_sheet_size l c =
    let g = good_sheet c in
    rw (on_link g).same_sheet (size_least sheet_priced (sheet_groups wire_changes (lit≤ tt)) g, sheet_most wire_changes (lit≤ tt) g)

-- "packet of 39 bytes", "2,073 bytes": the smallest and the largest packet of a segment
own_size : (l : List Item) → SegmentValues Brought.packet l → (39 ≤ length (to_packet wire_changes l)) × (length (to_packet wire_changes l) ≤ 2073)
unfolding to_packet sheet_fields
own_size [] x' = elim x' [ ]
own_size (i ∷ l) (also g c) = (packet_least wire_changes (lit≤ tt) c, packet_most wire_changes (lit≤ tt) c)

pub segment_packet_size : (l : List Item) → SegmentValues Brought.sheet l → (39 ≤ length (to_either_packet l)) × (length (to_either_packet l) ≤ 2073)
segment_packet_size l c = rw ((on_link c).same_packet, ← lowered_packet l) (own_size (given_back (sheet_fields wire_changes) l) (lowered_good c))

never_8 : {r : ℕ} → false ≡ true → r ≡ 8 → ⊥
never_8 e _ = let z : ◌≡◌ {A = ℕ} 0 1 = cc in omega arith

-- a result that the room holds is not refused with 8
fits : (bytes room : List ℕ) → length bytes ≤ length room → (fitted bytes room).answer.refusal ≡ 8 → ⊥
fits bytes room h e = let z : ◌≡◌ {A = ℕ} 0 8 = rw (le-ltb (length room) (length bytes) h) at e in omega arith

module _ (s room : List ℕ) (ok : Bytes s) where
  -- a packet whose number is not 4 is never refused with 8 if the room has 5,728 bytes
  pub largest_segment_sheet_room : (packet_number s ≡ 4 → ⊥) → 5728 ≤ length room → (packet_to_sheet s room).answer.refusal ≡ 8 → ⊥
  unfolding packet_to_sheet from_packet fields
  largest_segment_sheet_room n h e = go (from_packet wire_changes s) refl (sym (ap (λ (r : Read). (converted to_either_sheet r room).answer.refusal) (segment_judged s n)) ∙ e)
    where
      go : (r : Read) → from_packet wire_changes s ≡ r → (converted to_either_sheet r room).answer.refusal ≡ 8 → ⊥
      go (accepted l) a d = fits (to_either_sheet l) room (omega (arith, (segment_sheet_size l (packet_values_lem s l ok a).0).1)) d
      go (refused q place) a d =
          let g = packet_listed segment_number (fields_refusals wire_changes) s q place ((packet_grounds segment_number (fields wire_changes) s q place).0 a) in
          never_8 (rw d at (among_member g)) d

  -- a sheet whose first number is not 4 is never refused with 8 if the room has 2,073 bytes
  pub largest_segment_packet_room : (number_in s ≡ Some 4 → ⊥) → 2073 ≤ length room → (sheet_to_packet s room).answer.refusal ≡ 8 → ⊥
  unfolding sheet_to_packet from_either_sheet from_sheet sheet_fields fields
  largest_segment_packet_room n h e =
      go (from_sheet wire_changes s) refl
      (sym (ap (λ (r : Read). (converted to_either_packet (within_count r) room).answer.refusal) (sheet_by_tree s ∙ ap (λ (t : Tree). tree_sheet t s) (tree (number_in s) n))) ∙ e)
    where
      tree : (m : Option ℕ) → (m ≡ Some 4 → ⊥) → by_number m ≡ Segment
      tree None d = refl
      tree (Some a) d = rw (ne_eqb a 4 (λ q. d (ap Some q)))

      go : (r : Read) → from_sheet wire_changes s ≡ r → (converted to_either_packet (within_count r) room).answer.refusal ≡ 8 → ⊥
      go (accepted l) a d =
          let c = (sheet_values s l ok a).0 in
          let v = (on_link c).values in
          let taken : within_count (accepted l) ≡ accepted l = rw (le-ltb 65535 (length (link_bits l) - 96) (omega (arith, v.few))) in
          fits (to_either_packet l) room (omega (arith, (segment_packet_size l c).1)) (sym (ap (λ (r : Read). (converted to_either_packet r room).answer.refusal) taken) ∙ d)
      go (refused q place) a d = never_8 (rw d at (among_member (sheet_listed wire_changes s q place ((sheet_grounds wire_changes s q place ok).0 a)))) d
