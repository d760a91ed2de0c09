-- `packet_write_segment::elements::element` meets its contract.
use Rattle.packet_write_segment.proofs.elements.element.Goals as goal

pub returns-in-Speeds : goal.returns-in-Speeds
returns-in-Speeds c = rw c.in-Speeds.is c.profile.ensures

pub returns-in-Volts : goal.returns-in-Volts
returns-in-Volts c = rw c.in-Volts.is c.wire.ensures

pub returns-in-Amperes : goal.returns-in-Amperes
returns-in-Amperes c = rw c.in-Amperes.is c.amperes.ensures
