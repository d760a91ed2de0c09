-- `sheet_write_segment::write_fields` meets its contract.
use Rattle.std.proofs.Common.{ℕ, List, ◌≤◌, length}
use Rattle.grammar.specs.internal.link.Trees.{FieldsWritable}
use Rattle.grammar.specs.declared.link.Tree.TheVariants.{Segment}
use Rattle.grammar.specs.internal.segment.Parts.{segment_rows}
use Rattle.sheet_write_segment.specs.internal.elements.Writing.{filled, PartWritable}
use Rattle.sheet_write_segment.proofs.Sheet.{whole_part, fields_writable, fields_held, header_row_lem, identity_row, length_read, length_fits, offsets_row, lists_writable, all_wrote}
use Rattle.sheet_write_segment.proofs.write_fields.Goals as goal

-- all of the fields may be written
writable : (s : List ℕ) (stop : ℕ) (room : List ℕ) (start : ℕ) → FieldsWritable Segment s stop room start × (8 ≤ length s) → PartWritable segment_rows s stop 24 (filled room start)
writable s stop room start h = fields_writable Segment segment_rows whole_part s stop room start h

pub header-n-requires : goal.header-n-requires
header-n-requires c = header_row_lem (writable c.args.packet.now c.args.stop c.args.room.now c.args.start c.requires)

pub identity-m-requires : goal.identity-m-requires
identity-m-requires c = identity_row (writable c.args.packet.now c.args.stop c.args.room.now c.args.start c.requires) c.header-n.ensures

pub read_window-lsp-requires : goal.read_window-lsp-requires
read_window-lsp-requires c = length_read (writable c.args.packet.now c.args.stop c.args.room.now c.args.start c.requires) c.header-n.ensures c.identity-m.ensures

pub put_number-to-requires : goal.put_number-to-requires
put_number-to-requires c = length_fits (writable c.args.packet.now c.args.stop c.args.room.now c.args.start c.requires) c.header-n.ensures c.identity-m.ensures c.read_window-lsp.ensures

pub offsets-requires : goal.offsets-requires
offsets-requires c =
    offsets_row (writable c.args.packet.now c.args.stop c.args.room.now c.args.start c.requires) c.header-n.ensures c.identity-m.ensures c.read_window-lsp.ensures c.put_number-to.ensures

pub lists-requires : goal.lists-requires
lists-requires c =
    lists_writable (writable c.args.packet.now c.args.stop c.args.room.now c.args.start c.requires) c.header-n.ensures c.identity-m.ensures c.read_window-lsp.ensures c.put_number-to.ensures c.offsets.ensures

pub returns : goal.returns
returns c =
    fields_held Segment segment_rows whole_part c.args.packet.now c.args.stop c.args.room.now c.args.start c.requires
    (all_wrote (writable c.args.packet.now c.args.stop c.args.room.now c.args.start c.requires) c.header-n.ensures c.identity-m.ensures c.read_window-lsp.ensures c.put_number-to.ensures c.offsets.ensures c.lists.ensures)
