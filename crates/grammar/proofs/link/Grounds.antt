-- A packet and a sheet of the link are refused exactly on their grounds, and each refusal is in the list of refusals.
use mathlib.Core.Path.{◌≡◌, refl, sym, ap, ◌∙◌}
use mathlib.Core.List.{List, [], ◌∷◌, ◌++◌}
use mathlib.Core.Logic.{◌↔◌}
use Prim.Native.Nat.{ℕ, zero, suc, ◌+◌, ◌-◌, ◌<◌}
use native.Mathlib.Omega.{arith}
use borrow.Author.Tests.{eqb-true, eqb-false, ne_eqb, ltb-true, lt-ltb}
use lib.Dec.{eqb, ltb}
use lib.ListN.{length}
use Rattle.bits.specs.Bits.{Bytes}
use Rattle.bits.proofs.Tests.{by_cases}
use Rattle.kinds.specs.declared.Item.{Item}
use Rattle.format.specs.Format.{Format, Read, accepted, refused, read, times}
use Rattle.format.specs.Media.{sheet}
use Rattle.format.specs.Grounds.{Every, at_end, each, Among, first, later}
use Rattle.format.proofs.Grounds.{sheet_ground, sheet_written}
use Rattle.grammar.specs.segment.Segment.{fields, wire_changes}
use Rattle.grammar.specs.segment.Frame.{packet_number, unframed}
use Rattle.grammar.specs.segment.Grounds.{FieldRefusal, as_value, as_end, packet_refusals, sheet_refusals}
use Rattle.grammar.proofs.segment.Grounds.{packet_grounds, packet_listed, numbers_refusals, numbers_listed, fields_refusals}
use Rattle.grammar.specs.journey.Journey.{timing_point, temporary_constraint, journey_segment, journey_body, constraints}
use Rattle.grammar.proofs.journey.Tree.{by_range, by_type}
use Rattle.grammar.specs.declared.link.Tree.{Tree}
use Rattle.grammar.specs.declared.link.Tree.TheVariants.{Segment, Journey}
use Rattle.grammar.specs.link.Link.{tree_number, tree_fields, tree_of, link_fields, link_bits, from_either_packet, within_count, from_either_sheet}
use Rattle.grammar.specs.link.Grounds.{EitherPacketGround, of_journey, of_segment, EitherSheetGround, in_numbers, too_long, either_sheet_refusals}

module _ (s : List ℕ) where
  abbrev judged_by : Tree → Read
  judged_by t = unframed (tree_number t) (tree_fields t) s

  journey_judged : packet_number s ≡ 4 → from_either_packet s ≡ judged_by Journey
  unfolding from_either_packet
  journey_judged e = ap (λ (n : ℕ). judged_by (tree_of n)) e

  segment_tree : (packet_number s ≡ 4 → ⊥) → tree_of (packet_number s) ≡ Segment
  segment_tree n = rw (ne_eqb (packet_number s) 4 n)

  pub segment_judged : (packet_number s ≡ 4 → ⊥) → from_either_packet s ≡ judged_by Segment
  unfolding from_either_packet
  segment_judged n = ap judged_by (segment_tree n)

module _ (s : List ℕ) (r place : ℕ) where
  pub either_packet_grounds : (from_either_packet s ≡ refused r place) ↔ EitherPacketGround s r place
  either_packet_grounds = (there, back)
    where
      there : from_either_packet s ≡ refused r place → EitherPacketGround s r place
      there e =
          by_cases (eqb (packet_number s) 4)
          (λ d. let n = eqb-true (packet_number s) 4 d in
          of_journey n ((packet_grounds (tree_number Journey) (tree_fields Journey) s r place).0 (sym (journey_judged s n) ∙ e)))
          (λ d. let n = eqb-false (packet_number s) 4 d in
          of_segment n ((packet_grounds (tree_number Segment) (tree_fields Segment) s r place).0 (sym (segment_judged s n) ∙ e)))

      back : EitherPacketGround s r place → from_either_packet s ≡ refused r place
      back (of_journey n g) = journey_judged s n ∙ (packet_grounds (tree_number Journey) (tree_fields Journey) s r place).1 g
      back (of_segment n g) = segment_judged s n ∙ (packet_grounds (tree_number Segment) (tree_fields Segment) s r place).1 g

  -- a sheet that is refused by its numbers, or with 12 by the count of its body's bits
  count_refused : {C : Type 0} (t : Read) → within_count t ≡ refused r place → (t ≡ refused r place → C)
      → ((l : List Item) → t ≡ accepted l → 96 + 65535 < length (link_bits l) → r ≡ 12 → place ≡ 0 → C) → C
  count_refused (refused q m) e own long = own e
  count_refused (accepted l) e own long =
      by_cases (ltb 65535 (length (link_bits l) - 96))
      (λ d. let p : refused 12 0 ≡ refused r place = rw d at e in long l refl (omega (arith, ltb-true 65535 (length (link_bits l) - 96) d)) (cc) (cc))
      (λ d. cc (rw d at e))

  pub either_sheet_grounds : Bytes s → (from_either_sheet s ≡ refused r place) ↔ EitherSheetGround s r place
  unfolding from_either_sheet
  either_sheet_grounds ok = (there, back)
    where
      there : within_count (read sheet link_fields 0 s) ≡ refused r place → EitherSheetGround s r place
      there e =
          count_refused (read sheet link_fields 0 s) e (λ g. in_numbers ((sheet_ground link_fields 0 s r place ok).0 g))
          λ l a long q p. too_long l ((sheet_written link_fields 0 s l ok).0 a) long q p

      back : EitherSheetGround s r place → within_count (read sheet link_fields 0 s) ≡ refused r place
      back (in_numbers g) = ap within_count ((sheet_ground link_fields 0 s r place ok).1 g)
      back (too_long l w long q p) =
          ap within_count ((sheet_written link_fields 0 s l ok).1 w) ∙ rw (lt-ltb 65535 (length (link_bits l) - 96) (omega arith), q, p)

-- ---- every field of a journey is refused with 4, the end of a constraint with 5 too

-- a part that can stand in front of any format: its fields have a refusal of `FieldRefusal` too
abbrev Kept : (Format → Format) → Type 0
Kept front = (f : Format) → Every FieldRefusal f → Every FieldRefusal (front f)

times_refusals : {part : Format → Format} → Kept part → (n : ℕ) → Kept (times part n)
unfolding times
times_refusals one zero f e = e
times_refusals one (suc n) f e = one _ (times_refusals one n f e)

point_refusals : Kept timing_point
point_refusals f e =
    each (as_value λ _. refl) λ _. each (as_value λ _. refl) λ _. each (as_value λ _. refl) λ _. each (as_value λ _. refl) λ _. each (as_value λ _. refl) λ _.
    each (as_value λ _. refl) λ _. each (as_value λ _. refl) λ _. each (as_value λ _. refl) λ _.
    each (as_value λ _. refl) λ _. each (as_value λ _. refl) λ _. each (as_value λ _. refl) λ _. each (as_value λ _. refl) λ _.
    each (as_value λ _. refl) λ _. each (as_value λ _. refl) λ _. each (as_value λ _. refl) λ _. each (as_value λ _. refl) λ _. e

constraint_refusals : Kept temporary_constraint
constraint_refusals f e =
    each (as_value λ _. refl) λ type. each (as_value λ _. refl) λ range. each (as_value λ _. refl) λ start.
    each (by_range FieldRefusal range start (as_end λ _. refl) (as_value λ _. refl)) λ _.
    each (as_value λ _. refl) λ _. each (by_type FieldRefusal type (as_value λ _. refl) (as_value λ _. refl)) λ _. each (as_value λ _. refl) λ _. each (as_value λ _. refl) λ _. e

segment_refusals : (limit : ℕ) → Kept (journey_segment limit)
segment_refusals limit f e =
    each (as_value λ _. refl) λ _. each (as_value λ _. refl) λ _. each (as_value λ _. refl) λ _. each (as_value λ _. refl) λ _. each (as_value λ _. refl) λ _.
    each (as_value λ _. refl) λ m. times_refusals point_refusals m _ (each (as_value λ _. refl) λ k. times_refusals constraint_refusals k _ e)

pub tree_refusals : (t : Tree) → Every FieldRefusal (tree_fields t)
unfolding fields journey_body
tree_refusals Segment = fields_refusals wire_changes
tree_refusals Journey =
    each (as_value λ _. refl) λ _. each (as_value λ _. refl) λ _. each (as_value λ _. refl) λ _. each (as_value λ _. refl) λ _. each (as_value λ _. refl) λ _.
    each (as_value λ _. refl) λ _. each (as_value λ _. refl) λ n. times_refusals (segment_refusals constraints) n _ at_end

-- ---- each refusal is in the list of refusals

pub either_packet_listed : (s : List ℕ) (r place : ℕ) → EitherPacketGround s r place → Among r packet_refusals
either_packet_listed s r place (of_journey n g) = packet_listed (tree_number Journey) (tree_refusals Journey) s r place g
either_packet_listed s r place (of_segment n g) = packet_listed (tree_number Segment) (tree_refusals Segment) s r place g

link_refusals : Every (λ k. (v : ℕ) → Among (k.refusal v) sheet_refusals) link_fields
unfolding link_fields
link_refusals = each (λ _. first) λ n. numbers_refusals (tree_refusals (tree_of n))

among_more : {r : ℕ} {l : List ℕ} (m : List ℕ) → Among r l → Among r (l ++ m)
among_more m first = first
among_more m (later a) = later (among_more m a)

pub either_sheet_listed : (s : List ℕ) (r place : ℕ) → EitherSheetGround s r place → Among r either_sheet_refusals
either_sheet_listed s r place (in_numbers g) = among_more (12 ∷ []) (numbers_listed link_refusals 0 s r place g)
either_sheet_listed s r place (too_long l w long q p) = rw q (later (later (later (later first))))
