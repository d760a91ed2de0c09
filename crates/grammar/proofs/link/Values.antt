-- Packets and sheets of the link: what is accepted is written of good values, and what is written of good values is accepted.
use mathlib.Core.List.{[]}
use mathlib.Core.Path.{◌≡◌, refl, sym, ap, subst, ◌∙◌}
use mathlib.Core.List.{List, ◌∷◌, ◌++◌}
use Prim.Native.Nat.{ℕ, ◌+◌, ◌-◌, ◌≤◌}
use native.Mathlib.Omega.{arith}
use borrow.Author.Tests.{le-ltb, ltb-false}
use lib.Dec.{ltb}
use lib.ListN.{length}
use Rattle.bits.specs.Bits.{Bytes}
use Rattle.bits.proofs.Tests.{by_cases}
use Rattle.numbers.specs.Numbers.{groups_in}
use Rattle.kinds.specs.declared.Item.{Item}
use Rattle.format.specs.Format.{Read, accepted, refused, read, write}
use Rattle.format.specs.Media.{packet, sheet}
use Rattle.format.specs.Conforming.{Conforming, also, InPacket}
use Rattle.format.proofs.Media.{sheet_again, sheet_only}
use Rattle.grammar.specs.segment.Frame.{packet_number, number_item, unframed, packet_of_bits}
use Rattle.grammar.proofs.segment.Framing.{framed_number, framed_again, framed_only}
use Rattle.grammar.specs.declared.link.Tree.{Tree}
use Rattle.grammar.specs.link.Link.{tree_number, tree_fields, tree_of, link_fields, link_bits, from_either_packet, within_count, from_either_sheet, to_either_packet, to_either_sheet}
use Rattle.grammar.specs.internal.link.Trees.{tree_packet}
use Rattle.grammar.specs.link.Grounds.{EitherPacketValues, EitherSheetValues}
use Rattle.grammar.proofs.link.Trees.{tree_again, tree_number_lem, tree_byte, number_again, tree_least}

-- ---- packets

-- the values of a tree's packet, with its number in front
tree_values : (t : Tree) (l : List Item) → Conforming InPacket (tree_fields t) l → length (write packet (tree_fields t) l) ≤ 96 + 65535
    → EitherPacketValues (number_item (tree_number t) ∷ l)
unfolding link_fields
tree_values t l c few = record {
  good = also {i = number_item (tree_number t)} (record { allowed = tree_number_lem t; fits = tree_byte t; raised = refl })
      (subst (λ (u : Tree). Conforming InPacket (tree_fields u) l) (sym (tree_again t)) c);
  few = rw (tree_again t) few;
}

-- the packet of a tree's values
pub tree_packet_lem : (t : Tree) (l : List Item) → to_either_packet (number_item (tree_number t) ∷ l) ≡ packet_of_bits (tree_number t) (write packet (tree_fields t) l)
unfolding to_either_packet
tree_packet_lem t l = ap (λ (u : Tree). packet_of_bits (tree_number u) (write packet (tree_fields u) l)) (tree_again t)

-- and its sheet
pub tree_sheet_lem : (t : Tree) (l : List Item) → to_either_sheet (number_item (tree_number t) ∷ l) ≡ groups_in (tree_number t) ++ write sheet (tree_fields t) l
unfolding to_either_sheet link_fields
tree_sheet_lem t l = ap (λ (u : Tree). groups_in (tree_number t) ++ write sheet (tree_fields u) l) (tree_again t)

-- what a packet of a tree is accepted with
pub tree_packet_values : (t : Tree) (s : List ℕ) (l : List Item) → Bytes s → tree_packet t s ≡ accepted l → EitherPacketValues l × (s ≡ to_either_packet l)
tree_packet_values t s l ok e =
    let r = framed_only (tree_number t) (tree_fields t) s l ok e in
    rw r.all (tree_values t r.values r.good r.few, r.bytes ∙ sym (tree_packet_lem t r.values))

pub either_packet_values : (s : List ℕ) (l : List Item) → Bytes s → from_either_packet s ≡ accepted l → EitherPacketValues l × (s ≡ to_either_packet l)
unfolding from_either_packet
either_packet_values s l ok e = tree_packet_values (tree_of (packet_number s)) s l ok e

-- the packet number's item
number_is : (i : Item) → i.sheet ≡ i.packet → i ≡ number_item i.packet
number_is i r = λ j. record { sheet = r j; packet = i.packet }

taken_of : (l : List Item) → Conforming InPacket link_fields l → length (link_bits l) ≤ 96 + 65535 → from_either_packet (to_either_packet l) ≡ accepted l
unfolding from_either_packet to_either_packet link_fields
taken_of [] x' few = elim x' [ ]
taken_of (i ∷ l) (also g c) few =
    let t : Tree = tree_of i.packet in
    let s : List ℕ = to_either_packet (i ∷ l) in
    let low = tree_least t c in
    let n : packet_number s ≡ tree_number t = framed_number (tree_number t) (link_bits (i ∷ l)) low (omega arith) (tree_byte t) in
    let u : tree_of (packet_number s) ≡ t = ap tree_of n ∙ tree_again t in
    ap (λ (t : Tree). unframed (tree_number t) (tree_fields t) s) u ∙ framed_again (tree_number t) (tree_fields t) l (tree_byte t) c low (omega arith)
    ∙ ap (λ (j : Item). accepted (j ∷ l)) (ap number_item (number_again i.packet g.allowed) ∙ sym (number_is i g.raised))

pub either_packet_taken : (l : List Item) → EitherPacketValues l → from_either_packet (to_either_packet l) ≡ accepted l
either_packet_taken l v = taken_of l v.good v.few

-- ---- sheets

-- what the count of bits leaves accepted
pub count_accepted : {C : Type 0} (r : Read) (l : List Item) → within_count r ≡ accepted l → (r ≡ accepted l → length (link_bits l) ≤ 96 + 65535 → C) → C
count_accepted (refused q place) l e f = cc
count_accepted (accepted m) l e f =
    by_cases (ltb 65535 (length (link_bits m) - 96))
    (λ d. cc (rw d at e))
    (λ d. let p : accepted m ≡ accepted l = rw d at e in let q : m ≡ l = cc in f p (rw (← q) (omega (arith, ltb-false 65535 (length (link_bits m) - 96) d))))

pub either_sheet_values : (s : List ℕ) (l : List Item) → Bytes s → from_either_sheet s ≡ accepted l → EitherSheetValues l × (s ≡ to_either_sheet l)
unfolding from_either_sheet to_either_sheet
either_sheet_values s l ok e =
    count_accepted (read sheet link_fields 0 s) l e λ a few.
    let p = sheet_only link_fields 0 s l ok a in
    (record { good = p.0; few = few }, p.1)

pub either_sheet_taken : (l : List Item) → EitherSheetValues l → from_either_sheet (to_either_sheet l) ≡ accepted l
unfolding from_either_sheet to_either_sheet
either_sheet_taken l v = ap within_count (sheet_again v.good 0) ∙ rw (le-ltb 65535 (length (link_bits l) - 96) (omega (arith, v.few)))
