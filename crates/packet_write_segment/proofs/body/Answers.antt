-- `packet_write_segment::body` meets its contract.
use Rattle.grammar.proofs.segment.Parts.{identity_fits, offset_fits}
use Rattle.packet_write_segment.proofs.elements.Writing.{next_fits}
use Rattle.packet_write_segment.proofs.Steps.{identity_ready, length_next, offsets_ready, lists_ready, body_wrote}
use Rattle.packet_write_segment.proofs.body.Goals as goal

pub row-names-requires : goal.row-names-requires
row-names-requires c = rw (c.identity_widths-widths.ensures, c.identity_most-most.ensures) (identity_ready c.requires, identity_fits)

pub copy_number-l-requires : goal.copy_number-l-requires
copy_number-l-requires c =
    let a = rw (c.identity_widths-widths.ensures, c.identity_most-most.ensures) at c.row-names.ensures.0 in
    next_fits (length_next c.requires a)

pub row-first-requires : goal.row-first-requires
row-first-requires c =
    let a = rw (c.identity_widths-widths.ensures, c.identity_most-most.ensures) at c.row-names.ensures.0 in
    rw (c.offset_widths-offset_widths.ensures, c.offset_most-offset_most.ensures) (offsets_ready c.requires a c.copy_number-l.ensures, offset_fits)

pub lists-requires : goal.lists-requires
lists-requires c =
    let a = rw (c.identity_widths-widths.ensures, c.identity_most-most.ensures) at c.row-names.ensures.0 in
    let b = rw (c.offset_widths-offset_widths.ensures, c.offset_most-offset_most.ensures) at c.row-first.ensures.0 in
    let l = c.copy_number-l.ensures in
    (lists_ready c.requires a l b, (next_fits (length_next c.requires a)).small l.reads)

pub returns : goal.returns
returns c =
    let a = rw (c.identity_widths-widths.ensures, c.identity_most-most.ensures) at c.row-names.ensures.0 in
    let b = rw (c.offset_widths-offset_widths.ensures, c.offset_most-offset_most.ensures) at c.row-first.ensures.0 in
    body_wrote c.requires a c.copy_number-l.ensures b c.lists.ensures
