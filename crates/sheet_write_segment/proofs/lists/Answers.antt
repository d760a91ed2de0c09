-- `sheet_write_segment::lists` meets its contract.
use Rattle.grammar.specs.segment.Segment.{part, profile, voltage, current, wire_changes}
use Rattle.sheet_write_segment.proofs.elements.Writing.{along_all, along_here, along_next, along_on, wrote_on}
use Rattle.sheet_write_segment.proofs.lists.Goals as goal

pub list-two-requires : goal.list-two-requires
list-two-requires c =
    let a = c.args in
    let s = a.packet.now in
    let m = along_on s a.stop (part profile 31 a.lsp) (λ f. part voltage wire_changes a.lsp (part current wire_changes a.lsp f)) (along_all s a.stop c.requires) c.list-one.ensures in
    along_next s a.stop (part voltage wire_changes a.lsp) (part current wire_changes a.lsp) m c.requires

pub list-requires : goal.list-requires
list-requires c =
    let a = c.args in
    let s = a.packet.now in
    let m = along_on s a.stop (part profile 31 a.lsp) (λ f. part voltage wire_changes a.lsp (part current wire_changes a.lsp f)) (along_all s a.stop c.requires) c.list-one.ensures in
    along_here s a.stop (along_on s a.stop (part voltage wire_changes a.lsp) (part current wire_changes a.lsp) m c.list-two.ensures) c.requires

pub returns : goal.returns
returns c =
    let a = c.args in
    let s = a.packet.now in
    wrote_on s a.stop (part profile 31 a.lsp) (λ f. part voltage wire_changes a.lsp (part current wire_changes a.lsp f)) c.list-one.ensures
    (wrote_on s a.stop (part voltage wire_changes a.lsp) (part current wire_changes a.lsp) c.list-two.ensures c.list.ensures)
