-- An accepted journey and its legs, as the code judges them and passes over them. No promise names it.
use Rattle.std.specs.Prelude.{◌≡◌, Bool, true, false, Result, Ok, Err, List, ℕ, ◌+◌, ◌≤◌, length, drop}
use Rattle.kinds.specs.declared.Item.{Item}
use Rattle.kinds.specs.declared.refusals.Refusal.{Refusal}
use Rattle.kinds.specs.Refusals.{refusal_number}
use Rattle.format.specs.Format.{Format, Read, values_of, sheet_numbers}
use Rattle.speed.specs.declared.Train.{Train}
use Rattle.speed_question.specs.Question.{Brought}
use Rattle.speed_question.specs.internal.Run.{ReadsAs}
use Rattle.legs.specs.Legs.{Constraint, Leg, journey_legs}
use Rattle.legs.specs.Travelled.{all_inside, leg_refusal}
use Rattle.legs.specs.internal.Passing.{passed_over}
use Rattle.leg_parts.specs.declared.LegHead.{LegHead}
use Rattle.leg_parts.specs.internal.Reading.{leg_with, LegsAt, ConstraintsAt}
use Rattle.restricted.specs.Question.{journey_as}

-- the journey s is accepted
abbrev pub JourneyAccepted : Brought → List ℕ → Type 0
JourneyAccepted b s = journey_as b s ≡ Read.accepted (values_of (journey_as b s))

-- as a test
abbrev pub was_accepted : Read → Bool
was_accepted (Read.accepted l) = true
was_accepted (Read.refused r place) = false

abbrev pub accepted_journey : Brought → List ℕ → Bool
accepted_journey b s = was_accepted (journey_as b s)

-- the numbers of its sheet
abbrev pub journey_numbers : Brought → List ℕ → List ℕ
journey_numbers b s = sheet_numbers (values_of (journey_as b s))

-- its legs
abbrev pub legs_in : Brought → List ℕ → List Leg
legs_in b s = journey_legs (journey_numbers b s)

-- the legs of a run of count segments stand at a place, after the journey's legs before them
pub record Stands (b : Brought) (s : List ℕ) (count before place : ℕ) : Type 0 where
  pub legs : LegsAt (ReadsAs b s) place (drop before (legs_in b s))
  pub enough : before + count ≤ length (legs_in b s)

-- the refusal of a leg that the code returns: 0 if there is none
abbrev pub refusal_said : {A : Type 0} → Result A Refusal → ℕ
refusal_said (Ok a) = 0
refusal_said (Err e) = refusal_number e

-- Reads f at l: the tree f stands at the place at, and is accepted with the values l
module _ (Reads : Format → ℕ → List Item → Type 0) where
  -- whether all constraints of a leg whose head was read are inside
  pub record InsideRead (h : LegHead) (lsp : ℕ) (r : Bool) : Type 0 where
    pub said : (l : List Constraint) → ConstraintsAt Reads h.constraints h.count l → r ≡ all_inside lsp l

  -- its constraints passed over from the speed held on
  pub record OverRead (h : LegHead) (t : Train) (lsp y held r : ℕ) : Type 0 where
    pub said : (l : List Constraint) → ConstraintsAt Reads h.constraints h.count l → r ≡ passed_over t lsp y held l

  -- the refusal of the leg for the segment with the numbers ns
  pub record LegJudged (ns : List ℕ) (h : LegHead) (r : ℕ) : Type 0 where
    pub said : (l : List Constraint) → ConstraintsAt Reads h.constraints h.count l → r ≡ leg_refusal ns (leg_with h l)
