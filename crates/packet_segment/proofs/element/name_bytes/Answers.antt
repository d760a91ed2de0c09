-- `packet_segment::element::name_bytes` meets its contract.
use Rattle.packet_segment.proofs.element.Names.{name_on}
use Rattle.packet_segment.proofs.element.name_bytes.Goals as goal

pub returns : goal.returns
returns c = name_on c.args.name c.requires c.if-name-eq0.false
