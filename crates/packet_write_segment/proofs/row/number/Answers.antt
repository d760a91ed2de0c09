-- `packet_write_segment::row::number` meets its contract.
use Rattle.packet_write_segment.proofs.elements.Writing.{next_fits, next_gives}
use Rattle.packet_write_segment.proofs.row.Alone.{number_next}
use Rattle.packet_write_segment.proofs.row.number.Goals as goal

pub copy_number-requires : goal.copy_number-requires
copy_number-requires c = next_fits (number_next c.requires)

pub returns : goal.returns
returns c = next_gives (number_next c.requires) c.copy_number.ensures
