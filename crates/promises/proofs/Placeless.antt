-- "For 1, 2, 3, 8, 10 to 12, success and, unless said, numbers above 13 it is 0": each operation gives the refusals that have no place with place 0.
use mathlib.Core.Path.{◌≡◌, refl, sym, ◌∙◌}
use mathlib.Core.Bool.{true, false}
use mathlib.Core.List.{List}
use mathlib.Core.Logic.{◌↔◌}
use Prim.Native.Nat.{ℕ, ◌+◌, ◌≤◌}
use native.Mathlib.Omega.{arith}
use lib.ListN.{length}
use Rattle.bits.specs.Bits.{Bytes}
use Rattle.kinds.specs.declared.Item.{Item}
use Rattle.kinds.specs.Kind.{Kind}
use Rattle.format.specs.Format.{Format, field, write}
use Rattle.format.specs.Media.{sheet}
use Rattle.format.specs.Conforming.{InSheet}
use Rattle.format.specs.Grounds.{Front, here, past, Every, Among, BitsFault, GroupsFault, Ground, at_field, left_over}
use Rattle.format.proofs.Grounds.{every_front}
use Rattle.grammar.specs.segment.Segment.{sheet_fields, wire_changes}
use Rattle.grammar.specs.segment.Judgement.{segment_number}
use Rattle.grammar.specs.segment.Grounds.{PacketGround, short, other_number, other_size, in_fields, in_padding, FieldRefusal}
use Rattle.grammar.proofs.segment.Grounds.{fields_refusals, listed}
use Rattle.grammar.proofs.segment.Refusals.{among_positive}
use Rattle.grammar.specs.declared.link.Tree.TheVariants.{Segment, Journey}
use Rattle.grammar.specs.link.Link.{tree_number, tree_of, link_fields}
use Rattle.grammar.specs.link.Grounds.{EitherPacketGround, of_journey, of_segment, EitherSheetGround, in_numbers, too_long}
use Rattle.grammar.proofs.link.Grounds.{tree_refusals}
use Rattle.speed.specs.declared.Train.{Train}
use Rattle.speed.specs.Run.{Each}
use Rattle.speed_question.specs.declared.Speed.{Speed}
use Rattle.speed_question.specs.Question.{Brought, lent, permitted_speed}
use Rattle.altitude.specs.Altitude.{altitude_of}
use Rattle.convert.specs.Convert.{packet_to_sheet, sheet_to_packet}
use Rattle.promises.specs.Refused.{Refuses, ConversionGround, SegmentGround, SpeedGround, packet_to_sheet_refusals, sheet_to_packet_refusals, speed_refusals, altitude_refusals, placeless}
use Rattle.promises.specs.Ranges.{ConversionEnds, SpeedEnds, AltitudeEnds}
use Rattle.promises.proofs.Refused.{member, among_member}
use Rattle.promises.proofs.Runs.{ground_own}
use Rattle.promises.proofs.Speeds.{permitted_speed_refused, permitted_speed_outcome}
use Rattle.promises.proofs.DemandOne.{packet_to_sheet_refused, sheet_to_packet_refused, altitude_of_packet_refused, packet_to_sheet_outcome, sheet_to_packet_outcome, altitude_of_packet_outcome}

-- a refusal n that has a place is not among the refusals that have none
pub placed : {C : Type 0} {r : ℕ} (n : ℕ) → r ≡ n → Among r placeless → member n placeless ≡ false → C
placed n e a m = absurd (let z : true ≡ false = sym (among_member (rw e at a)) ∙ m in let y : ◌≡◌ {A = ℕ} 0 1 = cc in omega arith)

field_placed : {C : Type 0} {k : Kind} → FieldRefusal k → (v : ℕ) → Among (k.refusal v) placeless → C
field_placed f v a = listed f v (λ e. placed 4 e a refl) (λ e. placed 5 e a refl)

-- ---- the grounds of a packet and of a sheet

packet_place : (n : ℕ) {f : Format} → Every FieldRefusal f → (s : List ℕ) (r place : ℕ) → PacketGround n f s r place → Among r placeless → place ≡ 0
packet_place n every s r place (short h e p) a = p
packet_place n every s r place (other_number h d e p) a = p
packet_place n every s r place (other_size h d z e p) a = p
packet_place n every s r place (in_fields w (at_field g)) a = go g.fault a
  where
    go : {bits : List _} → BitsFault g.kind bits r → Among r placeless → place ≡ 0
    go (BitsFault.unfitting h e) b = placed 6 e b refl
    go (BitsFault.unallowed v more fits whole out e) b = field_placed (every_front every g.front) v (rw e at b)
packet_place n every s r place (in_fields w (left_over g)) a = placed 13 g.number a refl
packet_place n every s r place (in_padding w l v o e) a = placed 7 e a refl

-- the packet number is the first number of a sheet, and the only number that is refused with 2
numbers_place : {k : Kind} {next : ℕ → Format} → ((v : ℕ) → Every FieldRefusal (next v)) → (s : List ℕ) (r place : ℕ)
    → Ground sheet InSheet GroupsFault (field k next) 0 s r place → Among r placeless → place ≡ 0
numbers_place {k} {next} every s r place (at_field g) a = go g.front g.stands g.fault
  where
    fault : {j : Kind} {bytes : List ℕ} → FieldRefusal j → GroupsFault j bytes r → place ≡ 0
    fault f (GroupsFault.numberless n e) = placed 9 e a refl
    fault f (GroupsFault.unallowed v b l e) = field_placed f v (rw e at a)

    go : {l : List Item} {j : Kind} {more : ℕ → Format} {bytes : List ℕ} → Front InSheet (field k next) l (field j more)
        → place ≡ 0 + length (write sheet (field k next) l) → GroupsFault j bytes r → place ≡ 0
    go here p f = omega arith
    go (past {i = i} good c) p f = fault (every_front (every i.packet) c) f
numbers_place every s r place (left_over g) a = placed 9 g.number a refl

pub either_packet_place : (s : List ℕ) (r place : ℕ) → EitherPacketGround s r place → Among r placeless → place ≡ 0
either_packet_place s r place (of_journey n g) a = packet_place (tree_number Journey) (tree_refusals Journey) s r place g a
either_packet_place s r place (of_segment n g) a = packet_place (tree_number Segment) (tree_refusals Segment) s r place g a

either_sheet_place : (s : List ℕ) (r place : ℕ) → EitherSheetGround s r place → Among r placeless → place ≡ 0
unfolding link_fields
either_sheet_place s r place (in_numbers g) a = numbers_place (λ n. tree_refusals (tree_of n)) s r place g a
either_sheet_place s r place (too_long l w long q p) a = p

pub segment_place : (b : Brought) (s : List ℕ) (r place : ℕ) → SegmentGround b s r place → Among r placeless → place ≡ 0
unfolding sheet_fields
segment_place Brought.packet s r place g a = packet_place segment_number (fields_refusals wire_changes) s r place g a
segment_place Brought.sheet s r place g a = numbers_place (λ n. fields_refusals wire_changes) s r place g a

-- ---- the grounds of the operations

conversion_place : {Own : ℕ → ℕ → Type 0} → ((r place : ℕ) → Own r place → Among r placeless → place ≡ 0) → {Good : List Item → Type 0} {input result : List Item → List ℕ} {s room : List ℕ} (r place : ℕ)
    → ConversionGround Own Good input result s room r place → Among r placeless → place ≡ 0
conversion_place none r place (ConversionGround.own g) a = none r place g a
conversion_place none r place (ConversionGround.short_room w h e p) a = p

question_place : {medium count : ℕ} {run : List (List ℕ)} {t : Train} {x : ℕ} (r place : ℕ) → SpeedGround medium count run t x r place → Among r placeless → place ≡ 0
question_place r place (SpeedGround.neither n e p) a = p
question_place r place (SpeedGround.bad_count b k c e p) a = p
question_place r place (SpeedGround.own b k c g) a = ground_own (λ s o. segment_place b s r place o a) g
question_place r place (SpeedGround.bad_train b k c w v e p) a = p
question_place r place (SpeedGround.past_end b k c w v h e p) a = p

-- the place of an answer is 0 if the place of its ground is
pub said_place : {On : ℕ → ℕ → Type 0} (said : ℕ × ℕ) → ((r place : ℕ) → Refuses said r place ↔ On r place) → ((r place : ℕ) → On r place → Among r placeless → place ≡ 0)
    → 1 ≤ said.0 → Among said.0 placeless → said.1 ≡ 0
said_place said on none h a = none said.0 said.1 ((on said.0 said.1).0 (refl, h)) a

module _ (s : List ℕ) (ok : Bytes s) where
  module _ (room : List ℕ) where
    pub packet_to_sheet_placeless : Among (packet_to_sheet s room).answer.refusal placeless → (packet_to_sheet s room).answer.place ≡ 0
    packet_to_sheet_placeless a = go ((packet_to_sheet_outcome s ok room).ends (packet_to_sheet s room) refl)
      where
        go : ConversionEnds room packet_to_sheet_refusals 8 15226 (packet_to_sheet s room) → (packet_to_sheet s room).answer.place ≡ 0
        go (ConversionEnds.success e p low high fits) = p
        go (ConversionEnds.refusal l n k) =
            said_place ((packet_to_sheet s room).answer.refusal, (packet_to_sheet s room).answer.place) (packet_to_sheet_refused s ok room)
            (λ r place g b. conversion_place (either_packet_place s) r place g b) (among_positive l refl) a

    pub sheet_to_packet_placeless : Among (sheet_to_packet s room).answer.refusal placeless → (sheet_to_packet s room).answer.place ≡ 0
    sheet_to_packet_placeless a = go ((sheet_to_packet_outcome s ok room).ends (sheet_to_packet s room) refl)
      where
        go : ConversionEnds room sheet_to_packet_refusals 17 8207 (sheet_to_packet s room) → (sheet_to_packet s room).answer.place ≡ 0
        go (ConversionEnds.success e p low high fits) = p
        go (ConversionEnds.refusal l n k) =
            said_place ((sheet_to_packet s room).answer.refusal, (sheet_to_packet s room).answer.place) (sheet_to_packet_refused s ok room)
            (λ r place g b. conversion_place (either_sheet_place s) r place g b) (among_positive l refl) a

  pub altitude_of_packet_placeless : Among (altitude_of s).refusal placeless → (altitude_of s).place ≡ 0
  altitude_of_packet_placeless a = go ((altitude_of_packet_outcome s ok).ends (altitude_of s) refl)
    where
      go : AltitudeEnds altitude_refusals (altitude_of s) → (altitude_of s).place ≡ 0
      go (AltitudeEnds.success v h e p z) = p
      go (AltitudeEnds.refusal l n) =
          said_place ((altitude_of s).refusal, (altitude_of s).place) (altitude_of_packet_refused s ok)
          (segment_place Brought.packet s) (among_positive l refl) a

module _ (medium count : ℕ) (first second third fourth : List ℕ) (t : Train) (x : ℕ) (ok : Each Bytes (lent count first second third fourth)) where
  abbrev answer : Speed
  answer = permitted_speed medium count first second third fourth t x

  pub permitted_speed_placeless : Among answer.refusal placeless → answer.place ≡ 0
  permitted_speed_placeless a = go ((permitted_speed_outcome medium count first second third fourth t x ok).ends answer refl)
    where
      positive : (b : Brought) {r : ℕ} → Among r (speed_refusals b) → 1 ≤ r
      positive Brought.packet l = among_positive l refl
      positive Brought.sheet l = among_positive l refl

      go : SpeedEnds medium count answer → answer.place ≡ 0
      go (SpeedEnds.success b k c e p v) = p
      go (SpeedEnds.counted b k c e p v) = p
      go (SpeedEnds.neither n e p v) = p
      go (SpeedEnds.refusal b k c l n) =
          said_place (answer.refusal, answer.place) (permitted_speed_refused medium count first second third fourth t x ok)
          (λ r place g d. question_place r place g d) (positive b l) a
