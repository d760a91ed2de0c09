-- Every field of a packet as one part. Used by contracts of the code; no promise names these.
use Rattle.format.specs.Format.{Format}
use Rattle.grammar.specs.internal.segment.Parts.{segment_rows}
use Rattle.grammar.specs.internal.journey.Parts.{journey_part}
use Rattle.grammar.specs.declared.link.Tree.{Tree}
use Rattle.grammar.specs.declared.link.Tree.TheVariants.{Segment, Journey}

-- the fields of a tree after L_PACKET_ATO, with whatever follows them
abbrev pub tree_part : Tree → Format → Format
tree_part Segment f = segment_rows f
tree_part Journey f = journey_part f
