-- Stretches in which the permitted speed stays as it is, and the steps compared with it. No promise names it.
use Rattle.std.specs.Prelude.{◌≡◌, Bool, Result, Ok, Err, List, [], ℕ, ◌+◌, ◌≤◌, ◌<◌, length, get_or}
use Rattle.kinds.specs.declared.refusals.Refused.{Refused}
use Rattle.kinds.specs.Refusals.{refusal_number}
use Rattle.speed.specs.declared.Train.{Train}
use Rattle.speed.specs.Speed.{limited}
use Rattle.speed_element.specs.internal.Elements.{instead_from}
use Rattle.steps.specs.declared.Checked.{Checked}
use Rattle.steps.specs.declared.looking.Reached.{Reached}
use Rattle.steps.specs.declared.looking.Stretch.{Stretch}
use Rattle.steps.specs.declared.spans.Span.{Span}
use Rattle.steps.specs.Steps.{step_speed, right, not_checked}
use Rattle.steps.specs.internal.Spans.{span, holds_at, lowest_at}

-- the permitted speed at y cm from the start of the run, from the first n spans
abbrev pub speed_at : Train → ℕ → List Span → ℕ → ℕ
speed_at t n l y = limited t (instead_from (lowest_at n l y) 0 [])

-- whether the steps are right at x of the last segment, which starts at from, by all of some spans
abbrev pub right_in : Train → List Span → ℕ → List ℕ → List ℕ → ℕ → Bool
right_in t l from starts speeds = right (λ x. speed_at t (length l) l (from + x)) starts speeds

-- each of the first n spans has stopped at y
abbrev pub Gone : ℕ → List Span → ℕ → Type 0
Gone n l y = (j : ℕ) → j < n → (span l j).stop ≤ y

-- a stretch of the first n spans, from y up to end at the latest: which of them hold stays as it is
pub record Stretched (n : ℕ) (l : List Span) (y end : ℕ) (r : Stretch) : Type 0 where
  pub low : r.low ≡ lowest_at n l y
  pub past : y < r.until
  pub most : r.until ≤ end
  pub same : (j z : ℕ) → j < n → y ≤ z → z < r.until → holds_at l j z ≡ holds_at l j y

-- the step i is the last at or before x
pub record StepAt (starts : List ℕ) (x i : ℕ) : Type 0 where
  pub inside : i < length starts
  pub before : get_or starts i 0 ≤ x
  pub last : i + 1 < length starts → x < get_or starts (i + 1) 0

-- starts rise, and the last step at or before a place gives the speed there
pub record StepsGive (starts speeds : List ℕ) : Type 0 where
  pub equal : length starts ≡ length speeds
  pub rise : (i : ℕ) → i + 1 < length starts → get_or starts i 0 < get_or starts (i + 1) 0
  pub give : (x i : ℕ) → StepAt starts x i → step_speed 0 x starts speeds ≡ get_or speeds i 0

-- the start of the step after i where it is at or before until, else until
pub data NextStep (starts : List ℕ) (i until : ℕ) (r : Reached) : Type 0 where
  there : i + 1 < length starts → get_or starts (i + 1) 0 ≤ until → r.place ≡ get_or starts (i + 1) 0 → r.step ≡ i + 1 → NextStep starts i until r
  later : (i + 1 < length starts → until < get_or starts (i + 1) 0) → r.place ≡ until → r.step ≡ i → NextStep starts i until r

-- the steps from x up to the place that is reached give the speed v, and there not, unless it is until
pub record Compares (starts speeds : List ℕ) (x until v : ℕ) (r : Reached) : Type 0 where
  pub low : x ≤ r.place
  pub most : r.place ≤ until
  pub right : (d : ℕ) → x ≤ d → d < r.place → step_speed 0 d starts speeds ≡ v
  pub wrong : r.place < until → step_speed 0 r.place starts speeds ≡ v → ⊥
  pub step : StepAt starts r.place r.step

-- the answer to a check of steps that the code returns
abbrev pub checked_said : {A : Type 0} → Result A (Refused ℕ) → Checked
checked_said (Ok a) = not_checked 0 0
checked_said (Err e) = not_checked (refusal_number e.0) e.1
