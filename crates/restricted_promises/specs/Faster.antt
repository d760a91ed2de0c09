-- "Longer or slower never means faster", for the restricted speed: two journeys in bytes, the first of which restricts as the second does or more.
use Rattle.std.specs.Prelude.{List, ℕ}
use Rattle.format.specs.Format.{sheet_numbers}
use Rattle.grammar.specs.journey.Journey.{journey_sheet, constraints}
use Rattle.speed.specs.Faster.{Raising}
use Rattle.speed_question.specs.Question.{Brought}
use Rattle.legs.specs.Legs.{journey_legs}
use Rattle.legs.specs.Faster.{LegsTighter}
use Rattle.restricted_promises.specs.Journey.{JourneyOfValues}

-- one restriction more, or any number of them, and restrictions to lower speeds: two packets or two sheets of good values, whose segments have these constraints
pub record TighterJourney (b : Brought) (s t : List ℕ) : Type 0 where
  pub values : JourneyOfValues b s
  pub other : JourneyOfValues b t
  pub tighter : LegsTighter (journey_legs (sheet_numbers values.values)) (journey_legs (sheet_numbers other.values))

-- a higher restriction, "raising any speed in the sheet": the values of the second with speeds raised, field by field, and nothing else changed
pub record RaisedJourney (b : Brought) (s t : List ℕ) : Type 0 where
  pub values : JourneyOfValues b s
  pub higher : JourneyOfValues b t
  pub raising : Raising (journey_sheet constraints) values.values higher.values
