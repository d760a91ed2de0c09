-- The ends of what is on the link: how long a packet and a sheet are, of a segment or a journey.
use mathlib.Core.List.{[]}
use mathlib.Core.Path.{◌≡◌, ap}
use mathlib.Core.Bool.{◌||◌}
use mathlib.Core.List.{List, ◌∷◌}
use mathlib.Core.Option.{none, some}
use Prim.Native.Nat.{ℕ, ◌+◌, ◌≤◌}
use native.Mathlib.Omega.{arith}
use borrow.Author.Tests.{eqb-true}
use lib.Dec.{eqb, lit≤}
use lib.ListN.{length, length-append}
use Rattle.bits.specs.Bits.{bits_of}
use Rattle.bits.proofs.Tests.{by_cases, or_cases}
use Rattle.kinds.specs.declared.Item.{Item}
use Rattle.format.specs.Format.{write}
use Rattle.format.specs.Media.{packet, sheet}
use Rattle.format.specs.Conforming.{Conforming, also, InSheet}
use Rattle.format.proofs.Sized.{size_least, sheet_priced, lowered_priced}
use Rattle.grammar.specs.segment.Segment.{fields, sheet_fields, wire_changes}
use Rattle.grammar.specs.segment.Frame.{number_item}
use Rattle.grammar.proofs.segment.Framing.{framed_length}
use Rattle.grammar.proofs.segment.Ends as segment
use Rattle.grammar.specs.journey.Journey.{journey_fields, journey_sheet, constraints}
use Rattle.grammar.proofs.journey.Ends as journey
use Rattle.grammar.specs.declared.link.Tree.{Tree}
use Rattle.grammar.specs.declared.link.Tree.TheVariants.{Segment, Journey}
use Rattle.grammar.specs.link.Link.{tree_number, tree_fields, tree_of, link_number, link_fields, number_among, link_bits, to_either_packet, to_either_sheet}
use Rattle.grammar.specs.internal.link.Trees.{tree_sheet_fields}
use Rattle.grammar.specs.link.Grounds.{EitherSheetValues}
use Rattle.grammar.proofs.link.Trees.{tree_again}
use Rattle.grammar.proofs.link.Values.{tree_packet_lem, tree_sheet_lem}

-- the packet number of a sheet on the link is 4 or 6
number_cases : {C : Type 0} (a v : ℕ) → link_number.lower a ≡ some v → (a ≡ 4 → v ≡ 4 → C) → (a ≡ 6 → v ≡ 6 → C) → C
number_cases a v e journeys segments =
    by_cases (eqb a 4 || eqb a 6)
    (λ d. let f : some a ≡ some v = rw d at e in
    let q : a ≡ v = cc in
    or_cases (eqb a 4) (eqb a 6) d
    (λ c. let n = eqb-true a 4 c in journeys n (omega arith))
    (λ c. let n = eqb-true a 6 c in segments n (omega arith)))
    (λ d. let f : none ≡ some v = rw d at e in cc)

-- the values of a sheet on the link are values of its tree
pub tree_conforming : {C : Type 0} {i : Item} {l : List Item} → Conforming InSheet link_fields (i ∷ l)
    → ((t : Tree) → i ≡ number_item (tree_number t) → Conforming InSheet (tree_fields t) l → Conforming InSheet (tree_sheet_fields t) (i ∷ l) → C) → C
unfolding link_fields
tree_conforming {C} {i} {l} (also g c) f =
    number_cases i.sheet i.packet g.lowered
    (λ a v. let r : Conforming InSheet (tree_fields Journey) l = rw v at c in
    f Journey (λ j. record { sheet = a j; packet = v j }) r (also (record { lowered = rw (a, v); fits = g.fits }) r))
    (λ a v. let r : Conforming InSheet (tree_fields Segment) l = rw v at c in
    f Segment (λ j. record { sheet = a j; packet = v j }) r (also (record { lowered = rw (a, v); fits = g.fits }) r))

-- ---- sizes

-- a body has 11 bits at least: a journey of no segment
pub tree_bits : (t : Tree) {l : List Item} → Conforming InSheet (tree_fields t) l → 96 + 11 ≤ length (write packet (tree_fields t) l)
unfolding fields journey_fields
tree_bits Segment c = omega (arith, size_least lowered_priced (segment.fields_bits wire_changes (lit≤ tt)) c)
tree_bits Journey c = size_least lowered_priced (journey.fields_bits constraints (lit≤ tt)) c

-- 8 to 15,226 bytes of a sheet: a segment's has 23 to 5,728
tree_bytes : (t : Tree) (l : List Item) → Conforming InSheet (tree_sheet_fields t) (number_item (tree_number t) ∷ l) → length (write packet (tree_fields t) l) ≤ 96 + 65535
    → (8 ≤ length (write sheet (tree_sheet_fields t) (number_item (tree_number t) ∷ l))) × (length (write sheet (tree_sheet_fields t) (number_item (tree_number t) ∷ l)) ≤ 15226)
unfolding sheet_fields fields journey_sheet journey_fields
tree_bytes Segment l c h =
    (omega (arith, size_least sheet_priced (segment.sheet_groups wire_changes (lit≤ tt)) c), omega (arith, segment.sheet_most wire_changes (lit≤ tt) c))
tree_bytes Journey l c h = (
  size_least sheet_priced (journey.sheet_groups constraints (lit≤ tt)) c,
  journey.sheet_most constraints (lit≤ tt) c (rw (length-append (bits_of 8 4) (write packet (tree_fields Journey) l)) (omega arith)),
)

-- the sheet and the bits of values on the link are the sheet and the bits of their tree
sheet_is : (t : Tree) (l : List Item) → to_either_sheet (number_item (tree_number t) ∷ l) ≡ write sheet (tree_sheet_fields t) (number_item (tree_number t) ∷ l)
sheet_is t l = tree_sheet_lem t l

pub bits_is : (t : Tree) (l : List Item) → link_bits (number_item (tree_number t) ∷ l) ≡ write packet (tree_fields t) l
bits_is t l = ap (λ (u : Tree). write packet (tree_fields u) l) (tree_again t)

-- sizes and packet number of a sheet's values
module _ {l : List Item} (v : EitherSheetValues l) where
  by_tree : (C : List Item → Type 0) → ((t : Tree) (m : List Item) → Conforming InSheet (tree_fields t) m → Conforming InSheet (tree_sheet_fields t) (number_item (tree_number t) ∷ m)
      → length (write packet (tree_fields t) m) ≤ 96 + 65535 → C (number_item (tree_number t) ∷ m)) → C l
  unfolding link_fields
  by_tree C f = go l v.good v.few
    where
      go : (k : List Item) → Conforming InSheet link_fields k → length (link_bits k) ≤ 96 + 65535 → C k
      go [] c few = elim c [ ]
      go (i ∷ m) c few =
          tree_conforming {i = i} {l = m} c λ t e r w.
          let x : Conforming InSheet (tree_sheet_fields t) (number_item (tree_number t) ∷ m) = rw e at w in
          let y : length (link_bits (number_item (tree_number t) ∷ m)) ≤ 96 + 65535 = rw e at few in
          rw e (f t m r x (omega (arith, ap length (bits_is t m))))

  pub either_sheet_size : (8 ≤ length (to_either_sheet l)) × (length (to_either_sheet l) ≤ 15226)
  either_sheet_size = by_tree (λ k. (8 ≤ length (to_either_sheet k)) × (length (to_either_sheet k) ≤ 15226)) λ t m r x few. rw (sheet_is t m) (tree_bytes t m x few)

  -- 17 to 8,207 bytes of a packet: a segment's has 39 to 2,073
  pub either_packet_size : (17 ≤ length (to_either_packet l)) × (length (to_either_packet l) ≤ 8207)
  either_packet_size =
      by_tree (λ k. (17 ≤ length (to_either_packet k)) × (length (to_either_packet k) ≤ 8207)) λ t m r x few.
      let n = tree_bits t r in
      rw (tree_packet_lem t m, framed_length (tree_number t) (write packet (tree_fields t) m)) (omega arith, omega arith)

  -- the packet number is the number of its tree
  pub number_kept : tree_number (tree_of (number_among l)) ≡ number_among l
  number_kept = by_tree (λ k. tree_number (tree_of (number_among k)) ≡ number_among k) λ t m r x few. ap tree_number (tree_again t)
