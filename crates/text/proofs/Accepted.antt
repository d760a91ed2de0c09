-- The sheet of an accepted packet: its bytes, its numbers, and the count of changes of its speed profile.
use mathlib.Core.Path.{◌≡◌, refl, ap, ◌∙◌}
use mathlib.Core.List.{List, ◌∷◌, ◌++◌}
use Prim.Native.Nat.{ℕ, zero, suc, ◌≤◌}
use native.Mathlib.Omega.{arith}
use borrow.Author.Tests.{leb-true, le-ltb}
use lib.Dec.{leb, lit<, lit≤}
use lib.ListN.{length, take, drop, get_or, length-append}
use lib.Seq.{take-append_seam}
use Rattle.bits.specs.Bits.{Bytes}
use Rattle.bits.proofs.Tests.{and_right}
use Rattle.kinds.specs.declared.Item.{Item}
use Rattle.kinds.specs.Kind.{Kind}
use Rattle.kinds.specs.Kinds.{n_iter}
use Rattle.format.specs.Format.{Format, field, Read, accepted, values_of, sheet_numbers}
use Rattle.format.specs.Conforming.{Conforming, also, InPacket}
use Rattle.format.proofs.Lawful.{to_sheet_lem}
use Rattle.grammar.specs.segment.Segment.{entries, profile, lists, body, fields, sheet_fields, wire_changes}
use Rattle.grammar.specs.segment.Frame.{number_item}
use Rattle.grammar.specs.segment.Judgement.{segment_number, from_packet, to_sheet}
use Rattle.grammar.proofs.segment.Framing.{framed_only}
use Rattle.grammar.proofs.segment.Ends.{sheet_fields_lawful, sheet_most}
use Rattle.convert.specs.declared.Converted.{Converted}
use Rattle.grammar.specs.link.Link.{to_either_sheet}
use Rattle.grammar.proofs.link.Segments.{segment_accepted, segment_sheet_of}
use Rattle.convert.specs.Convert.{Outcome, success_with, fitted, converted, packet_to_sheet}
use Rattle.speed.specs.Speed.{after_entries, after_element}
use Rattle.text.specs.internal.sheet.Numbers.{numbers_in}
use Rattle.text.specs.internal.lines.Changes.{changes_of}
use Rattle.text.specs.internal.Writers.{PacketAccepted}
use Rattle.text.proofs.sheet.Reading.{numbers_written}

-- ---- "N_ITER 5 (0 to 31), then that many changes"

count_most : {next : ℕ → Format} {l : List Item} → Conforming InPacket (field (n_iter 31) next) l → get_or (sheet_numbers l) 0 0 ≤ 31
count_most (also {i = i} g c) =
    let h : i.packet ≤ 31 = leb-true i.packet 31 (and_right (leb 0 i.packet) (leb i.packet 31) g.allowed) in
    omega (arith, g.raised)

-- values that conform to a field: the field's value, and the values after it
pub opened : {C : Type 0} {k : Kind} {next : ℕ → Format} {l : List Item} → Conforming InPacket (field k next) l
    → ((i : Item) (t : List Item) → l ≡ i ∷ t → InPacket k i → Conforming InPacket (next i.packet) t → C) → C
opened (also {i = i} {l = l} g c) f = f i l refl g c

after_most : (n : ℕ) (next : ℕ → Format) {l : List Item} → Conforming InPacket (entries n (field (n_iter 31) next)) l → get_or (after_entries n (sheet_numbers l)) 0 0 ≤ 31
unfolding entries
after_most zero next c = count_most c
after_most (suc n) next c =
    opened c λ i t p a d. opened d λ j u q b e. opened e λ k v r g f. rw (p, q, r) (after_most n next f)

profile_most : (next : ℕ → Format) {l : List Item} → Conforming InPacket (profile (field (n_iter 31) next)) l → get_or (after_element (sheet_numbers l)) 0 0 ≤ 31
profile_most next c =
    opened c λ i t p a d. opened d λ j u q b e. opened e λ k v r g f.
    rw (p, q, r, g.raised) (after_most k.packet next f)

past : {k : Kind} {next : ℕ → Format} {l : List Item} (n : ℕ)
    → ((v : ℕ) (t : List Item) → Conforming InPacket (next v) t → get_or (after_element (drop n (sheet_numbers t))) 0 0 ≤ 31)
    → Conforming InPacket (field k next) l → get_or (after_element (drop (suc n) (sheet_numbers l))) 0 0 ≤ 31
past n f (also {i = i} {l = l} g c) = f i.packet l c

few : {l : List Item} → Conforming InPacket (sheet_fields wire_changes) l → changes_of (sheet_numbers l) ≤ 31
unfolding lists body fields sheet_fields
few =
    past 13 λ v1 l1. past 12 λ v2 l2. past 11 λ v3 l3. past 10 λ v4 l4. past 9 λ v5 l5. past 8 λ v6 l6. past 7 λ v7 l7.
    past 6 λ v8 l8. past 5 λ v9 l9. past 4 λ v10 l10. past 3 λ v11 l11. past 2 λ v12 l12. past 1 λ v13 l13. past 0 λ v14 l14. profile_most _

module _ (s : List ℕ) (l : List Item) (ok : Bytes s) (e : from_packet wire_changes s ≡ accepted l) where
  pub good : Conforming InPacket (sheet_fields wire_changes) l
  unfolding from_packet sheet_fields
  good =
      let r = framed_only segment_number (fields wire_changes) s l ok e in
      rw r.all (also {i = number_item 6} (record { allowed = refl; fits = lit< tt; raised = refl }) r.good)

  -- the sheet of an accepted segment is the sheet that the conversion of both packets writes
  linked : to_either_sheet l ≡ to_sheet wire_changes l
  unfolding from_packet
  linked =
      let r = framed_only segment_number (fields wire_changes) s l ok e in
      rw r.all (segment_sheet_of (number_item 6) r.values refl)

  pub few_changes : changes_of (sheet_numbers l) ≤ 31
  few_changes = few good

  listed : numbers_in (to_sheet wire_changes l) ≡ sheet_numbers l
  unfolding to_sheet
  listed = numbers_written (to_sheet_lem (sheet_fields_lawful wire_changes (lit≤ tt)) good)

  short : length (to_sheet wire_changes l) ≤ 5728
  unfolding to_sheet
  short = sheet_most wire_changes (lit≤ tt) (to_sheet_lem (sheet_fields_lawful wire_changes (lit≤ tt)) good)

-- the sheet of an accepted packet: the first n bytes of a room that holds any sheet
pub record Made (s cells : List ℕ) (n : ℕ) : Type 0 where
  pub inside : n ≤ length cells
  pub numbers : numbers_in (take n cells) ≡ sheet_numbers (values_of (from_packet wire_changes s))
  pub few : changes_of (numbers_in (take n cells)) ≤ 31

pub made : (s room cells : List ℕ) (answer : Converted) → Bytes s → PacketAccepted s → 5728 ≤ length room
    → record { answer = answer; room = cells } ≡ packet_to_sheet s room → Made s cells answer.length
unfolding packet_to_sheet
made s room cells answer ok e h o =
    let l = values_of (from_packet wire_changes s) in
    let bytes = to_sheet wire_changes l in
    let p : record { answer = answer; room = cells } ≡ success_with bytes room =
    o ∙ ap (λ (r : Read). converted to_either_sheet r room) (segment_accepted s l e) ∙ ap (λ (b : List ℕ). fitted b room) (linked s l ok e) ∙ rw (le-ltb (length room) (length bytes) (omega (arith, short s l ok e))) in
    let long : answer.length ≡ length bytes = ap (λ (x : Outcome). x.answer.length) p in
    let whole : cells ≡ bytes ++ drop (length bytes) room = ap (λ (x : Outcome). x.room) p in
    let front : take answer.length cells ≡ bytes = rw (long, whole) (take-append_seam bytes (drop (length bytes) room)) in
    record {
      inside = omega (arith, ap length whole ∙ length-append bytes (drop (length bytes) room));
      numbers = rw front (listed s l ok e);
      few = rw (front, listed s l ok e) (few_changes s l ok e);
    }
