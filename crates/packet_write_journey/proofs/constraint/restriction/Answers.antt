-- `packet_write_journey::constraint::restriction` meets its contract.
use mathlib.Core.Path.{refl}
use lib.Dec.{lit<, lit≤}
use Rattle.packet_write_segment.proofs.elements.Writing.{at_small}
use Rattle.packet_write_journey.proofs.constraint.Steps.{speed_there, adhesion_there, current_there, restriction_small, restriction_wrote}
use native.Mathlib.Omega.{arith}
use Rattle.packet_write_journey.proofs.constraint.restriction.Goals as goal

pub number-level-requires : goal.number-level-requires
number-level-requires c =
    let h = c.requires in
    let t = c.number-front.ensures in
    speed_there c.args.of h t

pub number-adhesion-requires : goal.number-adhesion-requires
number-adhesion-requires c =
    let h = c.requires in
    let t = c.number-front.ensures in
    let v = c.number-level.ensures in
    adhesion_there c.args.of h t v refl

pub number-current-requires : goal.number-current-requires
number-current-requires c =
    let h = c.requires in
    let t = c.number-front.ensures in
    let v = c.number-level.ensures in
    let a = c.number-adhesion.ensures in
    current_there c.args.of h t v refl a

pub overflow_mul-bits-3 : goal.overflow_mul-bits-3
overflow_mul-bits-3 c = omega (arith, restriction_small c.args.of c.requires c.number-front.ensures c.number-level.ensures c.speed_steps-steps.ensures c.number-adhesion.ensures)

pub overflow_add-bits-2 : goal.overflow_add-bits-2
overflow_add-bits-2 c = omega (arith, restriction_small c.args.of c.requires c.number-front.ensures c.number-level.ensures c.speed_steps-steps.ensures c.number-adhesion.ensures)

pub overflow_add-bits-3 : goal.overflow_add-bits-3
overflow_add-bits-3 c = omega (arith, restriction_small c.args.of c.requires c.number-front.ensures c.number-level.ensures c.speed_steps-steps.ensures c.number-adhesion.ensures)

pub put-requires : goal.put-requires
put-requires c = (lit< tt, lit≤ tt, omega (arith, restriction_small c.args.of c.requires c.number-front.ensures c.number-level.ensures c.speed_steps-steps.ensures c.number-adhesion.ensures), at_small c.requires)

pub returns : goal.returns
returns c =
    let t = c.number-front.ensures in
    let v = c.number-level.ensures in
    restriction_wrote c.args.of c.requires t v c.speed_steps-steps.ensures c.number-adhesion.ensures c.number-current.ensures c.put.ensures
