-- `convert_packet::write_sheet` meets its contract.
use Rattle.numbers.specs.Numbers.{groups_in}
use Rattle.numbers.specs.internal.Groups.{Put}
use lib.Seq.{length-sets}
use lib.ListN.{length}
use Rattle.verdict.proofs.Accepted.{accepted_frame}
use Rattle.convert_packet.proofs.ToSheet.{number_fits, fields_writable, sheet_written}
use mathlib.Core.Path.{ap, ◌∙◌}
use native.Mathlib.Omega.{arith}
use Rattle.verdict.proofs.frame.Framing.{whole}
use Rattle.grammar.specs.link.Link.{tree_number}
use Rattle.convert_packet.proofs.write_sheet.Goals as goal

pub put_number-n-requires : goal.put_number-n-requires
put_number-n-requires c =
    let a = c.args in
    rw c.requires.1 (number_fits a.tree a.packet.now a.room.now c.requires.0 _ c.in-Ok.ensures)

pub write_fields-requires : goal.write_fields-requires
write_fields-requires c =
    let a = c.args in
    let q = rw c.requires.1 at c.put_number-n.ensures in
    let m = ap (λ (x : Put). x.bytes) q in
    let w = whole (tree_number a.tree) a.packet.now _ c.in-Ok.ensures in
    (fields_writable a.tree a.packet.now a.room.now c.requires.0 _ c.in-Ok.ensures _ _ (ap (λ (x : Put). x.next) q) (ap length m ∙ length-sets a.room.now 0 (groups_in (tree_number a.tree))), omega (arith, w.ends, w.inside))

pub returns-in-Err : goal.returns-in-Err
returns-in-Err c = let a = c.args in accepted_frame a.tree a.packet.now _ c.requires.0.accepts c.in-Err.ensures

pub returns-in-Ok : goal.returns-in-Ok
returns-in-Ok c =
    let a = c.args in
    let q = rw c.requires.1 at c.put_number-n.ensures in
    c.write_fields.ensures
    ∙ sheet_written a.tree a.packet.now a.room.now c.requires.0 _ c.in-Ok.ensures _ _ (ap (λ (x : Put). x.next) q) (ap (λ (x : Put). x.bytes) q)
