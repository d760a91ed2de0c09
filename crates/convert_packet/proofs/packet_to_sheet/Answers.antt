-- `convert_packet::packet_to_sheet` meets its contract.
use mathlib.Core.Path.{◌∙◌}
use Rattle.convert_packet.proofs.ToSheet.{sheet_by_tree}
use Rattle.convert_packet.proofs.packet_to_sheet.Goals as goal

pub returns : goal.returns
returns c =
    let a = c.args in
    rw c.from.ensures (rw c.tree_of.ensures at c.tree_to_sheet.ensures ∙ sheet_by_tree a.packet.now a.room.now)
