-- `convert_packet::tree_to_sheet` meets its contract.
use Rattle.convert_packet.proofs.ToSheet.{sheet_refused, sheet_too_long, sheet_writable, sheet_short, sheet_done}
use Rattle.bits.proofs.Padding.{bytes_of}
use Rattle.verdict.proofs.Exits.{exit}
use native.Mathlib.Omega.{arith}
use Rattle.convert_packet.proofs.tree_to_sheet.Goals as goal

pub returns-in_err-n : goal.returns-in_err-n
returns-in_err-n c = let a = c.args in rw (exit c.from_residual.ensures.1) (sheet_refused a.tree a.packet.now a.room.now _ _ c.in_err-n.ensures)

pub returns-then-room-n : goal.returns-then-room-n
returns-then-room-n c = let a = c.args in sheet_too_long a.tree a.packet.now a.room.now _ c.in_ok-n.ensures (omega arith)

pub write_tree-requires : goal.write_tree-requires
write_tree-requires c = let a = c.args in sheet_writable a.tree a.packet.now a.room.now _ c.in_ok-n.ensures (omega arith)

pub overflow_cast-result : goal.overflow_cast-result
overflow_cast-result c =
    let a = c.args in
    let ok = bytes_of a.packet.now (λ i. (c.type_inv.packet i).fits) in
    omega (arith, sheet_short a.tree a.packet.now a.room.now _ c.in_ok-n.ensures ok)

pub returns : goal.returns
returns c =
    let a = c.args in
    sheet_done a.tree a.packet.now a.room.now _ c.in_ok-n.ensures (omega arith) _ c.write_tree.ensures
