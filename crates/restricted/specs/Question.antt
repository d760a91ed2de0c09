-- The question on the restricted speed, as a total function of the medium, the count, the segments lent, the journey, the leg, the train and the place.
use Rattle.std.specs.Prelude.{Bool, cond, List, ℕ, eqb}
use Rattle.kinds.specs.declared.Item.{Item}
use Rattle.format.specs.Format.{Read, read, answer_of, sheet_numbers}
use Rattle.format.specs.Media as media
use Rattle.grammar.specs.segment.Frame.{unframed}
use Rattle.grammar.specs.declared.link.Tree.TheVariants.{Journey}
use Rattle.grammar.specs.journey.Journey.{journey_fields, journey_sheet, constraints}
use Rattle.grammar.specs.link.Link.{tree_number, within_count}
use Rattle.speed.specs.declared.Train.{Train}
use Rattle.speed.specs.Speed.{lowest}
use Rattle.speed.specs.Run.{numbers_of}
use Rattle.speed_question.specs.declared.Speed.{Speed}
use Rattle.speed_question.specs.Question.{no_speed, Brought, packet, sheet, medium_of, lent, run_asked, speed_of_run}
use Rattle.legs.specs.Legs.{Leg, journey_legs}
use Rattle.legs.specs.Restricted.{held_restrictions}
use Rattle.legs.specs.Travelled.{on_journey, travelled_legs, legs_refusal, tail_before}

-- "the journey's own (2 for a segment where a journey is needed; of a sheet 12 too)": its values, or its refusal
unfoldable pub journey_as : Brought → List ℕ → Read
unfolding journey_fields journey_sheet
journey_as packet s = unframed (tree_number Journey) (journey_fields constraints) s
journey_as sheet s = within_count (read media.sheet (journey_sheet constraints) 0 s)

-- "The journey is of the same kind as the segments"
abbrev pub journey_read : ℕ → List ℕ → Read
journey_read medium s = cond (eqb medium (medium_of packet)) (journey_as packet s) (journey_as sheet s)

-- "then 10; 11 against the last", both of the permitted speed's answer; "last 26";
-- "The answer is the lowest of the permitted speed (A9, A10) and the speeds of the constraints that hold there"
abbrev pub under_restrictions : Bool → List ℕ → Speed → Speed
under_restrictions before held permitted =
    cond (eqb permitted.refusal 0)
    (cond before (no_speed 26 0) (record { refusal = 0; place = 0; speed = lowest permitted.speed held }))
    permitted

-- "for each segment of the run, in order", 23, 24 or 25, then the answer; "The place is .. 0 with 22 to 26"
abbrev pub restricted_along : ℕ → ℕ → Train → ℕ → List (List Item) → List Leg → Speed
restricted_along count leg t x r legs =
    let refusal : ℕ = legs_refusal (numbers_of r) legs in
    cond (eqb refusal 0)
    (under_restrictions (tail_before count leg t x (numbers_of r)) (held_restrictions t x (numbers_of r) legs) (speed_of_run t x r))
    (no_speed refusal 0)

-- "22 where leg is no segment of the journey or the run would begin before it"; "the run's segments are the journey's segments leg - count + 1 to leg"
abbrev pub restricted_on : ℕ → ℕ → Train → ℕ → List (List Item) → List Leg → Speed
restricted_on count leg t x r journey = cond (on_journey count leg journey) (restricted_along count leg t x r (travelled_legs count leg journey)) (no_speed 22 0)

-- "each segment's own, in order; the journey's own"; then 22 to 26
abbrev pub restricted_of_run : ℕ → ℕ → List ℕ → ℕ → Train → ℕ → List (List Item) → Speed
restricted_of_run medium count journey leg t x r =
    answer_of no_speed (λ l. restricted_on count leg t x r (journey_legs (sheet_numbers l))) (journey_read medium journey)

-- "Refusals, in this order: 15; 16; each segment's own, in order; the journey's own .."
unfoldable pub restricted_speed : ℕ → ℕ → List ℕ → List ℕ → List ℕ → List ℕ → List ℕ → ℕ → Train → ℕ → Speed
restricted_speed medium count first second third fourth journey leg t x =
    run_asked no_speed (restricted_of_run medium count journey leg t x) medium count (lent count first second third fourth)
