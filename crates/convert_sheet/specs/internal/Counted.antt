-- The verdict on a sheet of a tree with 12 among the refusals, and the body of a tree as one part. Used by contracts of the code; no promise names these.
use Rattle.std.specs.Prelude.{List, ℕ}
use Rattle.format.specs.Format.{Format}
use Rattle.format.specs.Media.{packet}
use Rattle.grammar.specs.internal.segment.Parts.{body_rows}
use Rattle.grammar.specs.internal.journey.Parts.{journey_body_part}
use Rattle.grammar.specs.declared.link.Tree.{Tree}
use Rattle.grammar.specs.declared.link.Tree.TheVariants.{Segment, Journey}
use Rattle.grammar.specs.internal.link.Trees.{tree_sheet_fields}
use Rattle.verdict.specs.internal.Verdict.{Verdict, verdict_of, size_from}
use Rattle.convert.specs.internal.Writers.{sheet_judged}

-- the verdict on a sheet: the bits of its packet without L_PACKET_ATO, or its refusal, 12 among them
unfoldable pub counted_verdict : Tree → List ℕ → Verdict
counted_verdict t s = verdict_of Verdict.sized Verdict.refused (size_from packet (tree_sheet_fields t) 0) (sheet_judged t s)

-- the body of a tree, in front of the fields f
abbrev pub tree_body_part : Tree → Format → Format
tree_body_part Segment f = body_rows f
tree_body_part Journey f = journey_body_part f
