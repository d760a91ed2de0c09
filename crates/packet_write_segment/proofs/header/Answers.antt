-- `packet_write_segment::header` meets its contract.
use Rattle.grammar.proofs.segment.Parts.{header_fits}
use Rattle.packet_write_segment.proofs.elements.Writing.{next_fits}
use Rattle.packet_write_segment.proofs.Steps.{operational_next, header_row_ready, header_wrote}
use native.Mathlib.Omega.{arith}
use Rattle.packet_write_segment.proofs.header.Goals as goal

pub copy_number-operational-requires : goal.copy_number-operational-requires
copy_number-operational-requires c = next_fits (operational_next c.requires)

pub row-requires : goal.row-requires
row-requires c =
    rw (c.header_widths-widths.ensures, c.header_most-most.ensures) (header_row_ready c.requires c.copy_number-operational.ensures, header_fits)

pub returns : goal.returns
returns c =
    let d = c.copy_number-operational.ensures in
    let w = rw (c.header_widths-widths.ensures, c.header_most-most.ensures) at c.row.ensures in
    (header_wrote c.requires d w.0, omega (arith, w.1, d.put.at))
