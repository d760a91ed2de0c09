-- `packet_write_segment::list` meets its contract.
use Rattle.packet_write_segment.proofs.elements.Writing.{next_fits}
use Rattle.packet_write_segment.proofs.Steps.{element_ready, count_next, changes_ready, list_wrote}
use Rattle.packet_write_segment.proofs.list.Goals as goal

pub element-first-requires : goal.element-first-requires
element-first-requires g c = element_ready c.args.part c.args.lsp g.limit c.requires.0

pub copy_number-n-requires : goal.copy_number-n-requires
copy_number-n-requires g c = next_fits (count_next c.args.part c.args.lsp g.limit c.requires.0 c.requires.2 c.element-first.ensures)

pub changes-requires : goal.changes-requires
changes-requires g c =
    (changes_ready c.args.part c.args.lsp g.limit c.requires.0 c.requires.2 c.element-first.ensures c.copy_number-n.ensures, c.requires.1)

pub returns : goal.returns
returns g c =
    list_wrote c.args.part c.args.lsp g.limit c.requires.0 c.requires.2 c.element-first.ensures c.copy_number-n.ensures c.changes.ensures
