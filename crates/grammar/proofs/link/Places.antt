-- How far from the start of a packet and of a sheet a refusal's place can be.
use mathlib.Core.Path.{◌≡◌}
use mathlib.Core.List.{List}
use Prim.Native.Nat.{ℕ, ◌^◌, ◌<◌}
use native.Mathlib.Omega.{arith}
use lib.Dec.{lit≤}
use Rattle.bits.specs.Bits.{Bytes}
use Rattle.format.specs.Format.{refused}
use Rattle.format.proofs.Grounds.{sheet_ground}
use Rattle.format.proofs.Sized.{ground_most, sheet_priced}
use Rattle.grammar.specs.segment.Segment.{fields, sheet_fields, wire_changes}
use Rattle.grammar.proofs.segment.Ends as segment
use Rattle.grammar.specs.journey.Journey.{journey_fields, journey_sheet, constraints}
use Rattle.grammar.proofs.journey.Ends as journey
use Rattle.grammar.specs.declared.link.Tree.{Tree}
use Rattle.grammar.specs.declared.link.Tree.TheVariants.{Segment, Journey}
use Rattle.grammar.specs.internal.link.Trees.{tree_sheet_fields, tree_sheet}

-- no sheet of either tree, however long, is judged past byte 359,318
pub sheet_place : (t : Tree) (s : List ℕ) (r place : ℕ) → Bytes s → tree_sheet t s ≡ refused r place → place < 2 ^ 32
unfolding sheet_fields fields journey_sheet journey_fields
sheet_place Segment s r place ok e =
    omega (arith, ground_most sheet_priced (segment.sheet_groups wire_changes (lit≤ tt)) ((sheet_ground (tree_sheet_fields Segment) 0 s r place ok).0 e))
sheet_place Journey s r place ok e =
    omega (arith, ground_most sheet_priced (journey.sheet_groups constraints (lit≤ tt)) ((sheet_ground (tree_sheet_fields Journey) 0 s r place ok).0 e))
