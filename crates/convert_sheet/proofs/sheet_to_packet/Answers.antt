-- `convert_sheet::sheet_to_packet` meets its contract.
use mathlib.Core.Path.{◌∙◌}
use Rattle.convert_sheet.proofs.ToPacket.{packet_by_tree}
use Rattle.convert_sheet.proofs.sheet_to_packet.Goals as goal

pub returns : goal.returns
returns c =
    let a = c.args in
    rw c.from.ensures (rw c.tree_of.ensures at c.tree_to_packet.ensures ∙ packet_by_tree a.sheet.now a.room.now)
