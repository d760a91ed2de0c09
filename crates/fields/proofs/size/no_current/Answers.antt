-- `fields::size::no_current` meets its contract.
use Rattle.numbers.specs.Numbers.{groups_in}
use Rattle.fields.proofs.size.no_current.Goals as goal

pub returns-then-v-eq-NO_LIMIT : goal.returns-then-v-eq-NO_LIMIT
unfolding groups_in
returns-then-v-eq-NO_LIMIT c = rw c.if-v-eq-NO_LIMIT.true
