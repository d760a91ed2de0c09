-- The packet number of a tree, and the tree of a packet number; both trees are lawful, and the link's tree is lawful.
use mathlib.Core.Path.{◌≡◌, refl}
use mathlib.Core.Bool.{true}
use mathlib.Core.List.{List}
use Prim.Native.Nat.{ℕ, ◌≤◌, ◌<◌}
use native.Mathlib.Omega.{arith}
use borrow.Author.Tests.{eqb-true}
use lib.Dec.{eqb, lit<, lit≤}
use lib.ListN.{length}
use Rattle.bits.proofs.Tests.{or_cases}
use Rattle.kinds.specs.declared.Item.{Item}
use Rattle.fields.proofs.Lawful.{LawfulKind, narrow, same_lawful}
use Rattle.format.specs.Format.{write}
use Rattle.format.specs.Media.{packet}
use Rattle.format.specs.Conforming.{Conforming, InPacket}
use Rattle.format.proofs.Lawful.{Lawful, goes}
use Rattle.format.proofs.Sized.{size_least, packet_priced}
use Rattle.grammar.specs.segment.Segment.{fields, wire_changes}
use Rattle.grammar.proofs.segment.Ends.{fields_lawful, bits_least}
use Rattle.grammar.specs.journey.Journey.{journey_fields, constraints}
use Rattle.grammar.proofs.journey.Ends.{fields_bits}
use Rattle.grammar.proofs.journey.Ends as journey
use Rattle.grammar.specs.declared.link.Tree.{Tree}
use Rattle.grammar.specs.declared.link.Tree.TheVariants.{Segment, Journey}
use Rattle.grammar.specs.link.Link.{tree_number, tree_fields, tree_of, link_number, link_fields}

pub tree_again : (t : Tree) → tree_of (tree_number t) ≡ t
tree_again Segment = refl
tree_again Journey = refl

pub tree_number_lem : (t : Tree) → link_number.allowed (tree_number t) ≡ true
tree_number_lem Segment = refl
tree_number_lem Journey = refl

pub tree_byte : (t : Tree) → tree_number t < 256
tree_byte Segment = lit< tt
tree_byte Journey = lit< tt

-- a packet number that is allowed is the number of its tree
pub number_again : (n : ℕ) → link_number.allowed n ≡ true → tree_number (tree_of n) ≡ n
number_again n e = or_cases (eqb n 4) (eqb n 6) e (λ d. rw (eqb-true n 4 d)) (λ d. rw (eqb-true n 6 d))

pub tree_lawful : (t : Tree) → Lawful (tree_fields t)
unfolding fields journey_fields
tree_lawful Segment = fields_lawful wire_changes (lit≤ tt)
tree_lawful Journey = journey.fields_lawful constraints (lit≤ tt)

number_lawful : LawfulKind link_number
number_lawful =
    same_lawful 8 6 (λ _. 2) link_number.allowed (narrow tt) (lit< tt)
    λ v e. or_cases (eqb v 4) (eqb v 6) e (λ d. let q = eqb-true v 4 d in omega arith) (λ d. let q = eqb-true v 6 d in omega arith)

pub link_lawful : Lawful link_fields
unfolding link_fields
link_lawful = goes number_lawful λ n _. tree_lawful (tree_of n)

-- a body of each, in front of which the header's 96 bits stand
pub tree_least : (t : Tree) {l : List Item} → Conforming InPacket (tree_fields t) l → 96 ≤ length (write packet (tree_fields t) l)
unfolding fields journey_fields
tree_least Segment c = omega (arith, bits_least wire_changes (lit≤ tt) c)
tree_least Journey c = omega (arith, size_least packet_priced (fields_bits constraints (lit≤ tt)) c)
