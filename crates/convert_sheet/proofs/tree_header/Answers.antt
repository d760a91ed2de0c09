-- `convert_sheet::tree_header` meets its contract.
use Rattle.convert_sheet.proofs.tree_header.Goals as goal

pub write_header-requires : goal.write_header-requires
write_header-requires c =
    let h = c.requires in
    (h.0, h.1, h.2, c.number.ensures)

pub returns : goal.returns
returns c = c.write_header.ensures
