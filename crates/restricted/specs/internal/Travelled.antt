-- An accepted journey as the code has it, and where the legs of a run stand in it. No promise names it.
use Rattle.std.specs.Prelude.{List, ℕ}
use Rattle.kinds.specs.declared.Item.{Item}
use Rattle.format.specs.Format.{Format}
use Rattle.speed_question.specs.internal.Run.{brought_as, ReadsAs}
use Rattle.legs.specs.Legs.{Leg}
use Rattle.restricted.specs.declared.accepted.Journey.{Journey}
use Rattle.restricted.specs.internal.Travelling.{journey_numbers, legs_in}
use Rattle.restricted.specs.internal.Travelling as travelling

-- the tree f stands at a place of the journey, and is accepted with these values
abbrev pub ReadsIn : Journey → Format → ℕ → List Item → Type 0
ReadsIn j = ReadsAs (brought_as j.medium) j.bytes.now

-- the numbers of its sheet
abbrev pub numbers_of : Journey → List ℕ
numbers_of j = journey_numbers (brought_as j.medium) j.bytes.now

-- its legs
abbrev pub legs_of : Journey → List Leg
legs_of j = legs_in (brought_as j.medium) j.bytes.now

-- the legs of a run of count segments stand at a place, after the journey's legs before them
abbrev pub Stands : Journey → ℕ → ℕ → ℕ → Type 0
Stands j = travelling.Stands (brought_as j.medium) j.bytes.now
