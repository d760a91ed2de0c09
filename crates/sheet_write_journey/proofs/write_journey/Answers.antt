-- `sheet_write_journey::write_journey` meets its contract.
use Rattle.grammar.specs.declared.link.Tree.TheVariants.{Journey}
use Rattle.grammar.specs.internal.journey.Parts.{journey_part}
use Rattle.sheet_write_segment.specs.internal.elements.Writing.{filled, PartWritable}
use Rattle.sheet_write_segment.proofs.Sheet.{fields_writable, fields_held}
use Rattle.sheet_write_journey.proofs.Journeys.{whole_part, head_row, segments_writable, journey_wrote}
use Rattle.std.proofs.Common.{ℕ, List, ◌≤◌, length}
use Rattle.grammar.specs.internal.link.Trees.{FieldsWritable}
use Rattle.sheet_write_journey.proofs.write_journey.Goals as goal

-- all of the fields may be written
writable : (s : List ℕ) (stop : ℕ) (room : List ℕ) (start : ℕ) → FieldsWritable Journey s stop room start × (8 ≤ length s) → PartWritable journey_part s stop 24 (filled room start)
writable s stop room start h = fields_writable Journey journey_part whole_part s stop room start h

pub head-counted-requires : goal.head-counted-requires
head-counted-requires c = head_row _ _ (writable c.args.packet.now c.args.stop c.args.room.now c.args.start c.requires)

pub times-requires : goal.times-requires
times-requires c = segments_writable _ _ (writable c.args.packet.now c.args.stop c.args.room.now c.args.start c.requires) c.head-counted.ensures.0 c.head-counted.ensures.1

pub returns : goal.returns
returns c =
    fields_held Journey journey_part whole_part _ _ _ _ c.requires (journey_wrote _ _ (writable c.args.packet.now c.args.stop c.args.room.now c.args.start c.requires) c.head-counted.ensures.0 c.head-counted.ensures.1 c.times.ensures)
