-- `convert_packet::write_tree` meets its contract.
use Rattle.convert_packet.proofs.write_tree.Goals as goal

pub write_sheet-requires : goal.write_sheet-requires
write_sheet-requires c = (c.requires, c.number.ensures)

pub returns : goal.returns
returns c = c.write_sheet.ensures
