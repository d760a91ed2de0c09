-- `packet_write_segment::lists` meets its contract.
use lib.Dec.{lit<}
use Rattle.grammar.specs.segment.Segment.{profile, voltage, current, part, wire_changes}
use Rattle.packet_write_segment.proofs.elements.Writing.{along_all, along_next, along_on, along_none}
use Rattle.packet_write_segment.proofs.lists.Goals as goal

pub list-one-requires : goal.list-one-requires
list-one-requires c =
    let n = c.args.lsp in
    (along_next (part profile 31 n) (λ f. part voltage wire_changes n (part current wire_changes n f)) (along_all c.requires.0) c.requires.0, c.requires.1, lit< tt)

pub list-two-requires : goal.list-two-requires
list-two-requires c =
    let n = c.args.lsp in
    let l = along_on (part profile 31 n) (λ f. part voltage wire_changes n (part current wire_changes n f)) (along_all c.requires.0) c.list-one.ensures in
    (along_next (part voltage wire_changes n) (part current wire_changes n) l c.requires.0, c.requires.1, lit< tt)

pub list-requires : goal.list-requires
list-requires c =
    let n = c.args.lsp in
    let l = along_on (part profile 31 n) (λ f. part voltage wire_changes n (part current wire_changes n f)) (along_all c.requires.0) c.list-one.ensures in
    let m = along_on (part voltage wire_changes n) (part current wire_changes n) l c.list-two.ensures in
    (along_next (part current wire_changes n) (λ f. f) m c.requires.0, c.requires.1, lit< tt)

pub returns : goal.returns
returns c =
    let n = c.args.lsp in
    let l = along_on (part profile 31 n) (λ f. part voltage wire_changes n (part current wire_changes n f)) (along_all c.requires.0) c.list-one.ensures in
    let m = along_on (part voltage wire_changes n) (part current wire_changes n) l c.list-two.ensures in
    along_none (along_on (part current wire_changes n) (λ f. f) m c.list.ensures)
