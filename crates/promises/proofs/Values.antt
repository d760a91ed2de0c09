-- Lemmas of the promises: packets and sheets of good values, a conversion's outcomes, and the lowering of any tree's numbers.
use mathlib.Core.Path.{◌≡◌, refl, sym, ap, ◌∙◌}
use mathlib.Core.Bool.{Bool, true, ◌&&◌}
use mathlib.Core.List.{List, [], ◌∷◌, ◌++◌}
use mathlib.Core.Option.{some}
use mathlib.Core.Logic.{◌↔◌}
use Prim.Native.Nat.{ℕ, ◌/◌, ◌≤◌}
use lib.IntN.{pos}
use native.Mathlib.Omega.{arith}
use borrow.Author.Tests.{leb-true, ltb-false, le-ltb}
use lib.Dec.{leb, ltb, lit<, lit≤}
use lib.ListN.{length, drop}
use lib.Seq.{take_at}
use Rattle.bits.specs.Bits.{Bytes, bits_of}
use Rattle.bits.proofs.Tests.{by_cases, and_left, and_right}
use Rattle.numbers.specs.Numbers.{groups_in}
use Rattle.kinds.specs.declared.Item.{Item}
use Rattle.kinds.specs.Kind.{Kind}
use Rattle.kinds.specs.Kinds.{speed, m_current}
use Rattle.fields.proofs.Lawful.{LawfulKind, speed_lowered, current_lowered}
use Rattle.format.specs.Format.{Format, end, field, Read, accepted, refused, write, sheet_numbers}
use Rattle.format.specs.Media.{packet, sheet}
use Rattle.format.specs.Conforming.{Conforming, done, also, InSheet, given_back}
use Rattle.format.proofs.Lawful.{Lawful, goes, to_sheet_lem, to_packet_lem, lowered_bits}
use Rattle.format.proofs.Media.{sheet_again}
use Rattle.grammar.specs.segment.Segment.{fields, sheet_fields, wire_changes}
use Rattle.grammar.specs.segment.Frame.{packet_of_bits, number_item}
use Rattle.grammar.specs.segment.Judgement.{segment_number, from_packet, from_sheet, to_packet, to_sheet}
use Rattle.grammar.proofs.segment.Framing.{framed_again}
use Rattle.grammar.proofs.segment.Ends.{sheet_fields_lawful, bits_least, bits_most}
use Rattle.grammar.proofs.segment.Refusals.{among_positive, packet_refusal, sheet_refusal}
use Rattle.grammar.specs.link.Link.{tree_number, tree_fields, tree_of, link_fields, link_bits, from_either_packet, from_either_sheet, to_either_packet, to_either_sheet}
use Rattle.grammar.specs.link.Grounds.{EitherPacketValues, EitherSheetValues}
use Rattle.grammar.proofs.link.Trees.{link_lawful}
use Rattle.grammar.proofs.link.Values.{either_packet_values, either_packet_taken, either_sheet_values, either_sheet_taken}
use Rattle.grammar.proofs.link.Grounds.{either_packet_grounds, either_sheet_grounds, either_packet_listed, either_sheet_listed}
use Rattle.speed.specs.Speed.{in_fives}
use Rattle.speed.specs.Faster.{over, one}
use Rattle.speed_question.specs.Question.{Brought, read_as}
use Rattle.speed_question.proofs.Values.{packet_values_lem, sheet_values}
use Rattle.altitude.specs.Altitude.{altitude_of_read}
use Rattle.convert.specs.Convert.{Outcome, refused_with, success_with, fitted, converted}
use Rattle.promises.specs.Promised.{SegmentValues, segment_of, Convertible, GreatestFive, Done, result, spelled, spelled_bits, LoweredTo, Lowering}

-- ---- packets and sheets of good values

-- the item of a segment's packet number is 6 in both media
number_is : (i : Item) → (leb 6 i.packet && leb i.packet 6) ≡ true → i.sheet ≡ i.packet → i ≡ number_item 6
number_is i a r =
    let l : 6 ≤ i.packet = leb-true 6 i.packet (and_left (leb 6 i.packet) (leb i.packet 6) a) in
    let h : i.packet ≤ 6 = leb-true i.packet 6 (and_right (leb 6 i.packet) (leb i.packet 6) a) in
    let p : i.packet ≡ 6 = omega arith in
    let q : i.sheet ≡ 6 = omega arith in
    λ j. record { sheet = q j; packet = p j }

pub packet_taken : (l : List Item) → SegmentValues Brought.packet l → from_packet wire_changes (to_packet wire_changes l) ≡ accepted l
unfolding from_packet to_packet sheet_fields
packet_taken [] x' = elim x' [ ]
packet_taken (i ∷ l) (also g c) =
    let q : i ≡ number_item 6 = number_is i g.allowed g.raised in
    let low = bits_least wire_changes (lit≤ tt) c in
    let high = bits_most wire_changes (lit≤ tt) c in
    framed_again segment_number (fields wire_changes) l (lit< tt) c (omega arith) (omega arith) ∙ ap (λ (j : Item). accepted (j ∷ l)) (sym q)

pub sheet_taken : (l : List Item) → SegmentValues Brought.sheet l → from_sheet wire_changes (to_sheet wire_changes l) ≡ accepted l
unfolding from_sheet to_sheet
sheet_taken l c = sheet_again c 0

-- lowering a segment's values does not change their packet
pub lowered_packet : (l : List Item) → to_packet wire_changes (given_back (sheet_fields wire_changes) l) ≡ to_packet wire_changes l
unfolding to_packet sheet_fields
lowered_packet [] = refl
lowered_packet (i ∷ l) = ap (packet_of_bits segment_number) (lowered_bits (fields wire_changes) l)

pub lowered_good : {l : List Item} → SegmentValues Brought.sheet l → SegmentValues Brought.packet (given_back (sheet_fields wire_changes) l)
lowered_good c = to_packet_lem (sheet_fields_lawful wire_changes (lit≤ tt)) c

-- ---- a conversion's outcomes, for any judge and any writer

module _ (write : List Item → List ℕ) (r : Read) (room : List ℕ) where
  pub written : (l : List Item) → r ≡ accepted l → length (write l) ≤ length room → converted write r room ≡ success_with (write l) room
  written l e h = ap (λ (t : Read). converted write t room) e ∙ rw (le-ltb (length room) (length (write l)) h)

  -- "A refusal returns its number and writes nothing"
  pub kept : (Done (converted write r room) → ⊥) → converted write r room ≡ refused_with (converted write r room).answer.refusal (converted write r room).answer.place room
  kept n = go r n
    where
      short : (l : List Item) → (Done (fitted (write l) room) → ⊥) → fitted (write l) room ≡ refused_with (fitted (write l) room).answer.refusal (fitted (write l) room).answer.place room
      short l m = by_cases (ltb (length room) (length (write l))) (λ d. rw d) (λ d. absurd (m (rw d)))

      go : (t : Read) → (Done (converted write t room) → ⊥) → converted write t room ≡ refused_with (converted write t room).answer.refusal (converted write t room).answer.place room
      go (refused q place) m = refl
      go (accepted l) m = short l m

  -- a conversion without refusal has accepted its input, and the room holds the result
  pub done_only : {C : Type 0} → ((q place : ℕ) → r ≡ refused q place → 1 ≤ q) → Done (converted write r room)
      → ((l : List Item) → r ≡ accepted l → length (write l) ≤ length room → C) → C
  done_only {C} least d k = go r refl
    where
      go : (t : Read) → r ≡ t → C
      go (refused q place) e = absurd (let z : q ≡ 0 = rw e at d in omega (arith, least q place e))
      go (accepted l) e =
          let f : Done (fitted (write l) room) = rw e at d in
          by_cases (ltb (length room) (length (write l)))
          (λ x. let z : ◌≡◌ {A = ℕ} 8 0 = rw x at f in absurd (omega arith))
          (λ x. k l e (ltb-false (length room) (length (write l)) x))

-- ---- a side of a conversion: its judge, its good values, and its writer

pub record Side (judge : List ℕ → Read) (Good : List Item → Type 0) (input : List Item → List ℕ) : Type 0 where
  pub only : (s : List ℕ) (l : List Item) → Bytes s → judge s ≡ accepted l → Good l × (s ≡ input l)
  pub again : (l : List Item) → Good l → judge (input l) ≡ accepted l
  pub refuses : (s : List ℕ) → Bytes s → (q place : ℕ) → judge s ≡ refused q place → 1 ≤ q

-- a segment that is brought as a packet or a sheet
pub segments : (b : Brought) → Side (read_as b) (SegmentValues b) (segment_of b)
segments Brought.packet = record { only = packet_values_lem; again = packet_taken; refuses = λ s ok q place e. packet_refusal wire_changes s q place e }
segments Brought.sheet = record { only = sheet_values; again = sheet_taken; refuses = λ s ok q place e. sheet_refusal wire_changes s q place ok e }

-- a packet of a segment or a journey
pub either_packets : Side from_either_packet EitherPacketValues to_either_packet
either_packets = record {
  only = either_packet_values;
  again = either_packet_taken;
  refuses = λ s ok q place e. among_positive (either_packet_listed s q place ((either_packet_grounds s q place).0 e)) refl;
}

-- a sheet of a segment or a journey
pub either_sheets : Side from_either_sheet EitherSheetValues to_either_sheet
either_sheets = record {
  only = either_sheet_values;
  again = either_sheet_taken;
  refuses = λ s ok q place e. among_positive (either_sheet_listed s q place ((either_sheet_grounds s q place ok).0 e)) refl;
}

-- lowering the values of a segment or a journey does not change the bits of their packet
lowered_link : (l : List Item) → link_bits (given_back link_fields l) ≡ link_bits l
unfolding link_fields
lowered_link [] = refl
lowered_link (i ∷ l) = lowered_bits (tree_fields (tree_of i.packet)) l

-- lowering the values of a segment or a journey does not change their packet
pub either_lowered : (l : List Item) → to_either_packet (given_back link_fields l) ≡ to_either_packet l
unfolding to_either_packet link_fields
either_lowered [] = refl
either_lowered (i ∷ l) = ap (packet_of_bits (tree_number (tree_of i.packet))) (lowered_bits (tree_fields (tree_of i.packet)) l)

-- the lowered values of a sheet are good for a packet
pub either_lowered_good : {l : List Item} → EitherSheetValues l → EitherPacketValues (given_back link_fields l)
either_lowered_good {l} v = record { good = to_packet_lem link_lawful v.good; few = rw (lowered_link l) v.few }

-- a packet's values are good for a sheet
pub either_good_sheet : {l : List Item} → EitherPacketValues l → EitherSheetValues l
either_good_sheet v = record { good = to_sheet_lem link_lawful v.good; few = v.few }

module _ {judge : List ℕ → Read} {Good : List Item → Type 0} {input : List Item → List ℕ} (side : Side judge Good input) (write : List Item → List ℕ) (s room : List ℕ) where
  pub side_result : (c : Convertible Good input write s room) → converted write (judge s) room ≡ success_with (write c.values) room
  side_result c = written write (judge s) room c.values (ap judge c.whole ∙ side.again c.values c.good) c.holds

  pub side_converted : Bytes s → Done (converted write (judge s) room) ↔ Convertible Good input write s room
  side_converted ok = (only, λ c. ap (λ (o : Outcome). o.answer.refusal) (side_result c))
    where
      only : Done (converted write (judge s) room) → Convertible Good input write s room
      only d =
          done_only write (judge s) room (side.refuses s ok) d λ l e h.
          let p = side.only s l ok e in
          record { values = l; good = p.0; whole = p.1; holds = h }

-- "It returns its number with length, speed or altitude 0"
pub altitude_none : (r : Read) → ((altitude_of_read r).refusal ≡ 0 → ⊥) → (altitude_of_read r).altitude ≡ pos 0
altitude_none (refused q place) n = refl
altitude_none (accepted l) n = absurd (n refl)

-- ---- the greatest multiple of 5

pub in_fives_lem : (v : ℕ) → GreatestFive v (in_fives v)
in_fives_lem v = record { fives = v / 5; multiple = refl; not_above = omega arith; greatest = λ n h. omega arith }

-- the result of a success is the bytes that were written
pub placed_result : (bytes room : List ℕ) → result (success_with bytes room) ≡ bytes
placed_result bytes room = take_at bytes (drop (length bytes) room) (length bytes) refl

-- ---- the numbers of any tree's fields

-- a sheet is the number of every field, and nothing else
pub numbers_spelled : {Good : Kind → Item → Type 0} {f : Format} {l : List Item} → Conforming Good f l → write sheet f l ≡ spelled (sheet_numbers l)
numbers_spelled done = refl
numbers_spelled (also {i = i} g c) = ap (λ (s : List ℕ). groups_in i.sheet ++ s) (numbers_spelled c)

-- the bits of a packet's fields are the value of every field in its width, and nothing else
pub bits_spelled : (f : Format) (l : List Item) → write packet f l ≡ spelled_bits f l
bits_spelled end l = refl
bits_spelled (field k next) [] = refl
bits_spelled (field k next) (i ∷ l) = ap (λ (b : List Bool). bits_of k.width i.packet ++ b) (bits_spelled (next i.packet) l)

pub lowered_to : (k : Kind) → LawfulKind k → (a v : ℕ) → k.lower a ≡ some v → LoweredTo k a (k.raise v)
lowered_to k w a v e = record {
  speeds = λ q. let d : speed.lower a ≡ some v = rw q at e in rw q (speed_lowered a v d);
  currents = λ q. let d : m_current.lower a ≡ some v = rw q at e in rw q (current_lowered a v d);
  others = λ m n. w.stays m n a v e;
}

pub lowering : {f : Format} {l : List Item} → Lawful f → Conforming InSheet f l → Lowering f l (given_back f l)
lowering w done = over
lowering (goes {k = k} lawful rest) (also {i = i} g c) =
    one {i = i} (lowered_to k lawful i.sheet i.packet g.lowered) (lowering (rest i.packet (lawful.into i.sheet i.packet g.lowered)) c)
