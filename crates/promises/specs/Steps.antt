-- The words of the promises on a supplier's steps: when a list is accepted, by the public question's own answers, and the ground of each refusal. Last, an input for each.
use Rattle.std.specs.Prelude.{◌≡◌, true, false, List, [], ◌∷◌, ◌++◌, ℕ, suc, ◌≤◌, ◌<◌, length, get_or, replicate}
use Rattle.format.specs.Grounds.{Among}
use Rattle.grammar.specs.segment.Desk.{first_packet, first_sheet}
use Rattle.speed.specs.declared.Train.{Train}
use Rattle.speed.specs.Speed.{valid_train, segment_length}
use Rattle.speed.specs.Run.{numbers_of, last_of}
use Rattle.speed.specs.Desk.{train_of, plain}
use Rattle.speed_question.specs.declared.Speed.{Speed}
use Rattle.speed_question.specs.Question.{Brought, packet, sheet, medium_of, Neither, run_count}
use Rattle.speed_question.specs.Grounds.{RunGround}
use Rattle.steps.specs.declared.Checked.{Checked}
use Rattle.steps.specs.Steps.{check_steps}
use Rattle.promises.specs.Promised.{SegmentOfValues, RunOfValues}
use Rattle.promises.specs.Refused.{SegmentGround}
use Rattle.promises.specs.Samples.{refused_packets, refused_sheets}

-- "it has 1 to 128 steps, the first starts at 0, starts rise strictly and lie below L_SP", and there are as many speeds as starts
pub record Stepped (lsp : ℕ) (starts speeds : List ℕ) : Type 0 where
  pub some : 1 ≤ length starts
  pub most : length starts ≤ 128
  pub equal : length starts ≡ length speeds
  pub first : get_or starts 0 0 ≡ 0
  pub rise : (i : ℕ) → suc i < length starts → get_or starts i 0 < get_or starts (suc i) 0
  pub below : (i : ℕ) → i < length starts → get_or starts i 0 < lsp

-- "the last step at or before it": the step with the number i is the last at or before x
pub record LastStep (starts : List ℕ) (x i : ℕ) : Type 0 where
  pub inside : i < length starts
  pub before : get_or starts i 0 ≤ x
  pub last : suc i < length starts → x < get_or starts (suc i) 0

-- "the last step at or before it gives our permitted speed": the question about x answers the step's speed
pub record Gives (starts speeds : List ℕ) (question : ℕ → Speed) (x : ℕ) : Type 0 where
  pub number : ℕ
  pub step : LastStep starts x number
  pub answers : question x ≡ record { refusal = 0; place = 0; speed = get_or speeds number 0 }

-- "at every centimetre" of a segment of n cm
abbrev pub GivesEverywhere : ℕ → List ℕ → List ℕ → (ℕ → Speed) → Type 0
GivesEverywhere n starts speeds question = (x : ℕ) → x < n → Gives starts speeds question x

-- "the first wrong centimetre"
pub record WrongFirst (n : ℕ) (starts speeds : List ℕ) (question : ℕ → Speed) (c : ℕ) : Type 0 where
  pub inside : c < n
  pub wrong : Gives starts speeds question c → ⊥
  pub before : (x : ℕ) → x < c → Gives starts speeds question x

-- "Accept it exactly when ..": a run of 1 to 4 segments of good values, a valid train, and steps that give our permitted speed at every centimetre of the last segment
pub record RightSteps (medium count : ℕ) (run : List (List ℕ)) (t : Train) (starts speeds : List ℕ) (question : ℕ → Speed) : Type 0 where
  pub brought : Brought
  pub named : medium ≡ medium_of brought
  pub few : run_count count ≡ true
  pub of : RunOfValues brought run
  pub valid : valid_train t ≡ true
  pub steps : Stepped (segment_length (last_of (numbers_of of.values))) starts speeds
  pub everywhere : GivesEverywhere (segment_length (last_of (numbers_of of.values))) starts speeds question

-- "Refusals: those of the speed question without 11; then 18 for count or starts, or unequal numbers of starts and speeds; then 19 for a wrong speed"
pub data StepsGround (medium count : ℕ) (run : List (List ℕ)) (t : Train) (starts speeds : List ℕ) (question : ℕ → Speed) (r place : ℕ) : Type 0 where
  -- "15, first of all, for a kind that is neither"
  neither : Neither medium → r ≡ 15 → place ≡ 0 → StepsGround medium count run t starts speeds question r place
  -- "16 for a run of none or more than 4"
  bad_count : (b : Brought) → medium ≡ medium_of b → run_count count ≡ false → r ≡ 16 → place ≡ 0 → StepsGround medium count run t starts speeds question r place
  -- the first segment that is not of good values has this ground
  own : (b : Brought) → medium ≡ medium_of b → run_count count ≡ true → RunGround (SegmentGround b) (SegmentOfValues b) r place run
      → StepsGround medium count run t starts speeds question r place
  -- "10: train length or cant deficiency not allowed"; "10 also covers a maximum outside its range"
  bad_train : (b : Brought) → medium ≡ medium_of b → run_count count ≡ true → RunOfValues b run → valid_train t ≡ false → r ≡ 10 → place ≡ 0
      → StepsGround medium count run t starts speeds question r place
  -- "then 18 for count or starts, or unequal numbers of starts and speeds"
  bad_steps : (b : Brought) → medium ≡ medium_of b → run_count count ≡ true → (w : RunOfValues b run) → valid_train t ≡ true
      → (Stepped (segment_length (last_of (numbers_of w.values))) starts speeds → ⊥) → r ≡ 18 → place ≡ 0 → StepsGround medium count run t starts speeds question r place
  -- "then 19 for a wrong speed, with the first wrong centimetre"
  wrong_speed : (b : Brought) → medium ≡ medium_of b → run_count count ≡ true → (w : RunOfValues b run) → valid_train t ≡ true
      → Stepped (segment_length (last_of (numbers_of w.values))) starts speeds → WrongFirst (segment_length (last_of (numbers_of w.values))) starts speeds question place
      → r ≡ 19 → StepsGround medium count run t starts speeds question r place

-- the refusals of a check after 15 and 16: those of a packet or of a sheet, then 10, 18 and 19
abbrev pub steps_refusals : Brought → List ℕ
steps_refusals packet = 1 ∷ 2 ∷ 3 ∷ 4 ∷ 5 ∷ 6 ∷ 7 ∷ 13 ∷ 10 ∷ 18 ∷ 19 ∷ []
steps_refusals sheet = 2 ∷ 4 ∷ 5 ∷ 9 ∷ 10 ∷ 18 ∷ 19 ∷ []

-- accepted with "success .. it is 0", or one of these; 15 for a medium that is neither, and for no other; then 16 for a count that is not 1 to 4, and for no other
pub data StepsEnds (medium count : ℕ) (o : Checked) : Type 0 where
  success : (b : Brought) → medium ≡ medium_of b → run_count count ≡ true → o.refusal ≡ 0 → o.place ≡ 0 → StepsEnds medium count o
  refusal : (b : Brought) → medium ≡ medium_of b → run_count count ≡ true → Among o.refusal (steps_refusals b) → StepsEnds medium count o
  counted : (b : Brought) → medium ≡ medium_of b → run_count count ≡ false → o.refusal ≡ 16 → o.place ≡ 0 → StepsEnds medium count o
  neither : Neither medium → o.refusal ≡ 15 → o.place ≡ 0 → StepsEnds medium count o

-- ---- an input for each refusal

-- the check of steps on a run of these segments; past them no byte is lent
abbrev checked_run : ℕ → List (List ℕ) → Train → List ℕ → List ℕ → Checked
checked_run medium run t starts speeds = check_steps medium (length run) (get_or run 0 []) (get_or run 1 []) (get_or run 2 []) (get_or run 3 []) t starts speeds

-- no steps on each refused segment of a list; then on an accepted segment s: 10, for a train of no length; 18, for no steps; 19, for a step of 1 km/h
abbrev steps_on : ℕ → List (List ℕ) → List ℕ → List Checked
steps_on medium [] s =
    checked_run medium (s ∷ []) (train_of 0 80 false false false) [] [] ∷ checked_run medium (s ∷ []) plain [] [] ∷ checked_run medium (s ∷ []) plain (0 ∷ []) (1 ∷ []) ∷ []
steps_on medium (r ∷ l) s = checked_run medium (r ∷ []) plain [] [] ∷ steps_on medium l s

-- 15, "a kind that is neither"; 16, "a run of none or more than 4"; then the refusals of a packet and of a sheet
abbrev pub asked_steps : List Checked
asked_steps =
    checked_run 2 [] (train_of 0 80 false false false) [] [] ∷ checked_run 0 [] plain [] [] ∷ checked_run 1 (replicate 5 []) plain [] []
    ∷ steps_on 0 refused_packets first_packet ++ steps_on 1 (refused_sheets ++ [] ∷ []) first_sheet
