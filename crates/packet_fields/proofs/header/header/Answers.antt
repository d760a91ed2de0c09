-- `packet_fields::header::header` meets its contract.
use lib.Dec.{lit≤}
use Rattle.format.proofs.Ways.{over_on, over_off}
use Rattle.grammar.proofs.segment.Parts.{header_fits}
use Rattle.packet_fields.proofs.header.header.Goals as goal

pub plain-requires : goal.plain-requires
plain-requires c = (c.requires, rw c.rule.ensures.kind (record { some = lit≤ tt; most = lit≤ tt }))

pub row-requires : goal.row-requires
row-requires c = ((rw c.in-Ok.is at c.plain.ensures).stands, rw (c.header_widths-widths.ensures, c.header_most-most.ensures) header_fits)

pub returns-in-Err : goal.returns-in-Err
returns-in-Err c = over_off (rw (c.rule.ensures.kind, c.in-Err.is) at c.plain.ensures)

pub returns : goal.returns
returns c = over_on (rw (c.rule.ensures.kind, c.in-Ok.is) at c.plain.ensures) (rw (c.header_widths-widths.ensures, c.header_most-most.ensures) at c.row.ensures)
