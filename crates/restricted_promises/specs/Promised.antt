-- The words of the promises on the restricted speed: when a question is answered, and the ground of each refusal. No operation is run.
use Rattle.std.specs.Prelude.{◌≡◌, true, false, List, [], ◌∷◌, ℕ, ◌≤◌, ◌<◌}
use Rattle.format.specs.Format.{sheet_numbers}
use Rattle.format.specs.Grounds.{Among}
use Rattle.speed.specs.declared.Train.{Train}
use Rattle.speed.specs.Speed.{valid_train, segment_length}
use Rattle.speed.specs.Run.{EachTwo, numbers_of, last_of}
use Rattle.speed_question.specs.declared.Speed.{Speed}
use Rattle.speed_question.specs.Question.{Brought, medium_of, Neither, run_count}
use Rattle.speed_question.specs.Grounds.{RunGround}
use Rattle.promises.specs.Promised.{SegmentOfValues, RunOfValues}
use Rattle.promises.specs.Refused.{SegmentGround}
use Rattle.promises.specs.Ranges.{highest_speed}
use Rattle.legs.specs.Legs.{Leg, journey_legs}
use Rattle.legs.specs.Travelled.{travelled_legs}
use Rattle.legs.specs.Grounds.{OffJourney, OnJourney, LegFits, LegsGround, TailBefore}
use Rattle.restricted_promises.specs.Journey.{JourneyOfValues, JourneyGround}

-- ---- a run on a journey

-- the run's segments are the journey's, each at its place: "the journey's segments leg - count + 1 to leg"
pub record Travels (count leg : ℕ) (run : List (List ℕ)) (l : List Leg) : Type 0 where
  pub on : OnJourney count leg l
  pub fit : EachTwo LegFits run (travelled_legs count leg l)

-- the refusals after the journey's own, in their order; "The place is .. 0 with 22 to 26"
pub data TravelGround (count leg : ℕ) (t : Train) (x : ℕ) (run : List (List ℕ)) (l : List Leg) (r place : ℕ) : Type 0 where
  off_journey : OffJourney count leg l → r ≡ 22 → place ≡ 0 → TravelGround count leg t x run l r place
  of_leg : OnJourney count leg l → LegsGround r run (travelled_legs count leg l) → place ≡ 0 → TravelGround count leg t x run l r place
  bad_train : Travels count leg run l → valid_train t ≡ false → r ≡ 10 → place ≡ 0 → TravelGround count leg t x run l r place
  past_end : Travels count leg run l → valid_train t ≡ true → segment_length (last_of run) ≤ x → r ≡ 11 → place ≡ 0 → TravelGround count leg t x run l r place
  tail_before : Travels count leg run l → valid_train t ≡ true → x < segment_length (last_of run) → TailBefore count leg t x run → r ≡ 26 → place ≡ 0
      → TravelGround count leg t x run l r place

-- none of them
pub record Travelled (count leg : ℕ) (t : Train) (x : ℕ) (run : List (List ℕ)) (l : List Leg) : Type 0 where
  pub travels : Travels count leg run l
  pub valid : valid_train t ≡ true
  pub inside : x < segment_length (last_of run)
  pub behind : TailBefore count leg t x run → ⊥

-- ---- the question

-- `medium` says what is brought, the run has "1 to 4 segments", they and the journey are of good values, and the run is travelled on the journey
pub record AnswerableOn (medium count : ℕ) (run : List (List ℕ)) (journey : List ℕ) (leg : ℕ) (t : Train) (x : ℕ) : Type 0 where
  pub brought : Brought
  pub named : medium ≡ medium_of brought
  pub few : run_count count ≡ true
  pub of : RunOfValues brought run
  pub way : JourneyOfValues brought journey
  pub travelled : Travelled count leg t x (numbers_of of.values) (journey_legs (sheet_numbers way.values))

-- "Refusals, in this order: 15; 16; each segment's own, in order; the journey's own ..; 22 .."
pub data RestrictedGround (medium count : ℕ) (run : List (List ℕ)) (journey : List ℕ) (leg : ℕ) (t : Train) (x r place : ℕ) : Type 0 where
  neither : Neither medium → r ≡ 15 → place ≡ 0 → RestrictedGround medium count run journey leg t x r place
  bad_count : (b : Brought) → medium ≡ medium_of b → run_count count ≡ false → r ≡ 16 → place ≡ 0 → RestrictedGround medium count run journey leg t x r place
  of_segment : (b : Brought) → medium ≡ medium_of b → run_count count ≡ true → RunGround (SegmentGround b) (SegmentOfValues b) r place run
      → RestrictedGround medium count run journey leg t x r place
  of_journey : (b : Brought) → medium ≡ medium_of b → run_count count ≡ true → RunOfValues b run → JourneyGround b journey r place
      → RestrictedGround medium count run journey leg t x r place
  of_travel : (b : Brought) → medium ≡ medium_of b → run_count count ≡ true → (w : RunOfValues b run) (j : JourneyOfValues b journey)
      → TravelGround count leg t x (numbers_of w.values) (journey_legs (sheet_numbers j.values)) r place
      → RestrictedGround medium count run journey leg t x r place

-- ---- how a question ends

-- the refusals of a question after 15 and 16, in the order of the page: each segment's own, the journey's own, 22, 23, 24, 25, 10, 11, 26
abbrev pub restricted_refusals : Brought → List ℕ
restricted_refusals Brought.packet = 1 ∷ 2 ∷ 3 ∷ 4 ∷ 5 ∷ 6 ∷ 7 ∷ 13 ∷ 1 ∷ 2 ∷ 3 ∷ 4 ∷ 5 ∷ 6 ∷ 7 ∷ 13 ∷ 22 ∷ 23 ∷ 24 ∷ 25 ∷ 10 ∷ 11 ∷ 26 ∷ []
restricted_refusals Brought.sheet = 2 ∷ 4 ∷ 5 ∷ 9 ∷ 2 ∷ 4 ∷ 5 ∷ 9 ∷ 12 ∷ 22 ∷ 23 ∷ 24 ∷ 25 ∷ 10 ∷ 11 ∷ 26 ∷ []

-- "an answer or the one refusal": one of the listed refusals with the speed 0, or a speed of at most 600 km/h
pub data RestrictedEnds (medium count : ℕ) (o : Speed) : Type 0 where
  success : (b : Brought) → medium ≡ medium_of b → run_count count ≡ true → o.refusal ≡ 0 → o.place ≡ 0 → o.speed ≤ highest_speed → RestrictedEnds medium count o
  refusal : (b : Brought) → medium ≡ medium_of b → run_count count ≡ true → Among o.refusal (restricted_refusals b) → o.speed ≡ 0 → RestrictedEnds medium count o
  counted : (b : Brought) → medium ≡ medium_of b → run_count count ≡ false → o.refusal ≡ 16 → o.place ≡ 0 → o.speed ≡ 0 → RestrictedEnds medium count o
  neither : Neither medium → o.refusal ≡ 15 → o.place ≡ 0 → o.speed ≡ 0 → RestrictedEnds medium count o
