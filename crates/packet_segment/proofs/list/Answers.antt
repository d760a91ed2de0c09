-- `packet_segment::list` meets its contract.
use Rattle.format.proofs.Ways.{over_on, value_on, value_off}
use Rattle.grammar.specs.segment.Segment.{changes}
use Rattle.grammar.specs.internal.segment.Parts.{start_of}
use Rattle.packet_segment.proofs.list.Goals as goal

pub returns-in-Err-count : goal.returns-in-Err-count
returns-in-Err-count c =
    let a = c.args in
    over_on (rw c.in-Ok.is at c.element.ensures) (value_off (changes (start_of a.part) a.lsp 0) (rw c.in-Err-count.is at c.count.ensures))

pub returns : goal.returns
returns c = let a = c.args in over_on (rw c.in-Ok.is at c.element.ensures) (value_on (changes (start_of a.part) a.lsp 0) (rw c.in-Ok-count.is at c.count.ensures) c.changes.ensures)
