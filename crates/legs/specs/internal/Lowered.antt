-- Constraints and legs with their speeds lowered, as a packet gives them back. No promise names it.
use Rattle.std.specs.Prelude.{map}
use Rattle.speed.specs.Speed.{in_fives}
use Rattle.legs.specs.Legs.{Constraint, Leg}

-- a constraint with its speed lowered to a multiple of 5 km/h
abbrev pub constraint_in_fives : Constraint → Constraint
constraint_in_fives c = record { type = c.type; range = c.range; start = c.start; end = c.end; q_front = c.q_front; speed = in_fives c.speed }

-- a leg with the speeds of its constraints lowered
abbrev pub leg_in_fives : Leg → Leg
leg_in_fives g = record { nid_c = g.nid_c; nid_sp = g.nid_sp; major = g.major; minor = g.minor; direction = g.direction; constraints = map constraint_in_fives g.constraints }
