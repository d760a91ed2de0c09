-- `packet_journey::body` meets its contract.
use Rattle.format.specs.Format.{times}
use Rattle.format.proofs.Ways.{over_on, over_off, value_on, value_off}
use Rattle.grammar.specs.journey.Journey.{journey_segment, constraints}
use Rattle.packet_journey.proofs.body.Goals as goal

pub returns-in-Err : goal.returns-in-Err
returns-in-Err c = over_off (rw (c.rule.ensures.kind, c.in-Err.is) at c.plain.ensures)

pub returns-in-Err-field : goal.returns-in-Err-field
returns-in-Err-field c =
    over_on (rw (c.rule.ensures.kind, c.in-Ok.is) at c.plain.ensures) (value_off (times (journey_segment constraints)) (rw (c.rule-2.ensures.kind, c.in-Err-field.is) at c.field.ensures))

pub returns : goal.returns
returns c =
    over_on (rw (c.rule.ensures.kind, c.in-Ok.is) at c.plain.ensures)
    (value_on (times (journey_segment constraints)) (rw (c.rule-2.ensures.kind, c.in-Ok-field.is) at c.field.ensures) c.segments.ensures)
