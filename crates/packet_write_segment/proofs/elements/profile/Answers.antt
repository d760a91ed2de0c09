-- `packet_write_segment::elements::profile` meets its contract.
use mathlib.Core.Path.{refl}
use Rattle.packet_write_segment.proofs.elements.Writing.{at_small, along_next, along_on, along_none}
use Rattle.packet_write_segment.proofs.elements.Pieces.{profile_first, profile_second, profile_third, profile_speed, profile_front, profile_count, profile_along}
use Rattle.grammar.specs.segment.Segment.{entries}
use lib.Dec.{lit<, lit≤}
use native.Mathlib.Omega.{arith}
use Rattle.packet_write_segment.proofs.elements.profile.Goals as goal

pub number-v-requires : goal.number-v-requires
number-v-requires c = profile_first c.requires

pub single-q-requires : goal.single-q-requires
single-q-requires c = profile_second c.requires c.number-v.ensures refl

pub single-n-requires : goal.single-n-requires
single-n-requires c = profile_third c.requires c.number-v.ensures refl c.single-q.ensures

-- the three numbers fit their widths
pub overflow_mul-bits : goal.overflow_mul-bits
overflow_mul-bits c = omega (arith, profile_speed c.requires c.number-v.ensures c.speed_steps.ensures, profile_front c.requires c.number-v.ensures c.speed_steps.ensures c.single-q.ensures, profile_count c.requires c.number-v.ensures c.speed_steps.ensures c.single-q.ensures c.single-n.ensures)

pub overflow_mul-bits-2 : goal.overflow_mul-bits-2
overflow_mul-bits-2 c = omega (arith, profile_speed c.requires c.number-v.ensures c.speed_steps.ensures, profile_front c.requires c.number-v.ensures c.speed_steps.ensures c.single-q.ensures, profile_count c.requires c.number-v.ensures c.speed_steps.ensures c.single-q.ensures c.single-n.ensures)

pub overflow_add-bits : goal.overflow_add-bits
overflow_add-bits c = omega (arith, profile_speed c.requires c.number-v.ensures c.speed_steps.ensures, profile_front c.requires c.number-v.ensures c.speed_steps.ensures c.single-q.ensures, profile_count c.requires c.number-v.ensures c.speed_steps.ensures c.single-q.ensures c.single-n.ensures)

pub overflow_add-bits-2 : goal.overflow_add-bits-2
overflow_add-bits-2 c = omega (arith, profile_speed c.requires c.number-v.ensures c.speed_steps.ensures, profile_front c.requires c.number-v.ensures c.speed_steps.ensures c.single-q.ensures, profile_count c.requires c.number-v.ensures c.speed_steps.ensures c.single-q.ensures c.single-n.ensures)

pub put-first-requires : goal.put-first-requires
put-first-requires c = (lit< tt, lit≤ tt, omega (arith, profile_speed c.requires c.number-v.ensures c.speed_steps.ensures, profile_front c.requires c.number-v.ensures c.speed_steps.ensures c.single-q.ensures, profile_count c.requires c.number-v.ensures c.speed_steps.ensures c.single-q.ensures c.single-n.ensures), at_small c.requires)

pub entries-requires : goal.entries-requires
entries-requires c =
    let l = profile_along c.requires c.number-v.ensures c.speed_steps.ensures c.single-q.ensures c.single-n.ensures c.put-first.ensures in
    along_next (entries c.single-n.result.value) (λ f. f) l c.requires

pub returns : goal.returns
returns c =
    let l = profile_along c.requires c.number-v.ensures c.speed_steps.ensures c.single-q.ensures c.single-n.ensures c.put-first.ensures in
    along_none (along_on (entries c.single-n.result.value) (λ f. f) l c.entries.ensures)
