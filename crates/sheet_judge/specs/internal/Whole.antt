-- Every field of a sheet as one part. The contracts of the code cite it; no promise names it.
use Rattle.std.specs.Prelude.{ℕ}
use Rattle.format.specs.Format.{Format, then}
use Rattle.grammar.specs.internal.segment.Parts.{segment_rows}
use Rattle.grammar.specs.internal.journey.Parts.{journey_part}
use Rattle.grammar.specs.declared.link.Tree.{Tree}
use Rattle.grammar.specs.declared.link.Tree.TheVariants.{Segment, Journey}
use Rattle.grammar.specs.internal.link.Trees.{tree_number_kind}
use Rattle.verdict.specs.declared.Spot.{Spot}

-- every field after the packet number
abbrev pub after_part : Tree → Format → Format
after_part Segment f = segment_rows f
after_part Journey f = journey_part f

-- the packet number first
abbrev pub numbers_part : Tree → Format → Format
numbers_part t f = then (tree_number_kind t) (after_part t f)

-- where a sheet begins, with no bit of its packet
abbrev pub start : Spot ℕ
start = record { at = 0; n = 0 }
