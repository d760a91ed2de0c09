-- A segment that is accepted is accepted on the link, and has one list of values, one sheet and one packet in both.
use mathlib.Core.Path.{◌≡◌, sym, ap, subst, ◌∙◌}
use mathlib.Core.Bool.{◌&&◌}
use mathlib.Core.Option.{none, some}
use mathlib.Core.List.{List, ◌∷◌, ◌++◌}
use Prim.Native.Nat.{ℕ, ◌≤◌}
use native.Mathlib.Omega.{arith}
use borrow.Author.Tests.{eqb-true, eqb-false, leb-true}
use lib.Dec.{eqb, leb, ltb, lit≤}
use lib.ListN.{length}
use Rattle.bits.proofs.Tests.{by_cases, and_left, and_right}
use Rattle.numbers.specs.Numbers.{groups_in}
use Rattle.kinds.specs.declared.Item.{Item}
use Rattle.kinds.specs.Kind.{when}
use Rattle.format.specs.Format.{accepted, write}
use Rattle.format.specs.Media.{packet, sheet}
use Rattle.format.specs.Conforming.{Conforming, also, InSheet}
use Rattle.format.proofs.Sized.{size_most, lowered_priced}
use Rattle.grammar.specs.segment.Segment.{fields, sheet_fields, wire_changes}
use Rattle.grammar.specs.segment.Frame.{packet_number, packet_of_bits}
use Rattle.grammar.specs.segment.Judgement.{from_packet, to_packet, to_sheet}
use Rattle.grammar.proofs.segment.Ends.{fields_bits}
use Rattle.grammar.specs.declared.link.Tree.{Tree}
use Rattle.grammar.specs.declared.link.Tree.TheVariants.{Segment}
use Rattle.grammar.specs.link.Link.{tree_number, tree_fields, tree_of, link_number, link_fields, link_bits, from_either_packet, to_either_packet, to_either_sheet}
use Rattle.grammar.specs.link.Grounds.{EitherSheetValues}
use Rattle.grammar.proofs.link.Grounds.{segment_judged}

-- a packet of another number is no segment
pub segment_accepted : (s : List ℕ) (l : List Item) → from_packet wire_changes s ≡ accepted l → from_either_packet s ≡ accepted l
unfolding from_packet fields
segment_accepted s l e =
    by_cases (eqb (packet_number s) 4)
    (λ d. absurd (other (eqb-true (packet_number s) 4 d)))
    (λ d. segment_judged s (eqb-false (packet_number s) 4 d) ∙ e)
  where
    other : packet_number s ≡ 4 → ⊥
    other n =
        by_cases (ltb (length s) 15)
        (λ a. cc (rw a at e))
        (λ a. cc (rw (a, n) at e))

-- the packet number of a segment's sheet
six : (a v : ℕ) → when (leb 6 a && leb a 6) a ≡ some v → (a ≡ 6) × (v ≡ 6)
six a v e =
    by_cases (leb 6 a && leb a 6)
    (λ d. let f : some a ≡ some v = rw d at e in
    let q : a ≡ v = cc in
    let l : 6 ≤ a = leb-true 6 a (and_left (leb 6 a) (leb a 6) d) in
    let h : a ≤ 6 = leb-true a 6 (and_right (leb 6 a) (leb a 6) d) in
    (omega arith, omega arith))
    (λ d. let f : none ≡ some v = rw d at e in cc)

-- a segment's values on the link, whose packet and sheet are the segment's
pub record OnLink (l : List Item) : Type 0 where
  pub values : EitherSheetValues l
  pub same_packet : to_either_packet l ≡ to_packet wire_changes l
  pub same_sheet : to_either_sheet l ≡ to_sheet wire_changes l

pub segment_packet_of : (i : Item) (l : List Item) → i.packet ≡ 6 → to_either_packet (i ∷ l) ≡ to_packet wire_changes (i ∷ l)
unfolding to_packet to_either_packet fields
segment_packet_of i l e = ap (λ (u : Tree). packet_of_bits (tree_number u) (write packet (tree_fields u) l)) (ap tree_of e)

pub segment_sheet_of : (i : Item) (l : List Item) → i.packet ≡ 6 → to_either_sheet (i ∷ l) ≡ to_sheet wire_changes (i ∷ l)
unfolding to_sheet to_either_sheet sheet_fields link_fields fields
segment_sheet_of i l e = ap (λ (u : Tree). groups_in i.sheet ++ write sheet (tree_fields u) l) (ap tree_of e)

pub on_link : {l : List Item} → Conforming InSheet (sheet_fields wire_changes) l → OnLink l
unfolding sheet_fields link_fields fields
on_link (also {i = i} {l = l} g c) =
    let n = six i.sheet i.packet g.lowered in
    let u : tree_of i.packet ≡ Segment = ap tree_of n.1 in
    let bits = size_most lowered_priced (fields_bits wire_changes (lit≤ tt)) c in
    let same : link_bits (i ∷ l) ≡ write packet (tree_fields Segment) l = ap (λ (t : Tree). write packet (tree_fields t) l) u in
    record {
      values = record {
        good = also {k = link_number} {i = i} (record { lowered = rw (n.0, n.1); fits = g.fits }) (subst (λ (t : Tree). Conforming InSheet (tree_fields t) l) (sym u) c);
        few = omega (arith, ap length same, bits);
      };
      same_packet = segment_packet_of i l n.1;
      same_sheet = segment_sheet_of i l n.1;
    }
