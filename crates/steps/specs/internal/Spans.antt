-- Elements kept as spans, and what holds of them at a place. No promise names it.
use Rattle.std.specs.Prelude.{◌≡◌, Bool, ◌&&◌, List, [], ℕ, zero, suc, ◌+◌, ◌≤◌, ◌<◌, min, ltb, leb, length, get_or, set}
use Rattle.kinds.specs.declared.Item.{Item}
use Rattle.format.specs.Format.{Format}
use Rattle.speed.specs.declared.Train.{Train}
use Rattle.speed.specs.Run.{speed_in_run}
use Rattle.speed_element.specs.declared.Open.{Open}
use Rattle.speed_element.specs.internal.Elements.{none, instead_from, counted}
use Rattle.speed_element.specs.internal.Reading.{Ended}
use Rattle.speed_element.specs.internal.Passing.{Passed}
use Rattle.steps.specs.declared.spans.Span.{Span}
use Rattle.steps.specs.declared.spans.Spans.{Spans}

-- the span with the number j, 0 the first
abbrev pub span : List Span → ℕ → Span
span l j = get_or l j (record { start = 0; stop = 0; speed = 0 })

-- the span j holds at y: from its start on, and before its stop
abbrev pub holds_at : List Span → ℕ → ℕ → Bool
holds_at l j y = leb (span l j).start y && ltb y (span l j).stop

-- the lowest speed of those of the first n spans that hold at y
abbrev pub lowest_at : ℕ → List Span → ℕ → ℕ
lowest_at zero l y = none
lowest_at (suc n) l y = min (lowest_at n l y) (counted (holds_at l n y) (span l n).speed)

-- the lowest speed of all that are kept and hold at y
abbrev pub lowest_in : Spans → ℕ → ℕ
lowest_in s y = lowest_at s.count s.spans y

-- each of the first n has a speed
abbrev pub Speeds : ℕ → List Span → Type 0
Speeds n l = (j : ℕ) → j < n → (span l j).speed < none

-- v is an element's speed, worked out at its start: 0, if it holds nowhere
pub record SpeedRead (Reads : Format → ℕ → List Item → Type 0) (t : Train) (end : ℕ) (o : Open) (v : ℕ) : Type 0 where
  pub held : ℕ
  pub ended : Ended Reads t none end o.start o held
  pub is : v ≡ instead_from held 0 []

-- room for all: the array is whole
abbrev pub Whole : Spans → Type 0
Whole s = length s.spans ≡ 128

-- one span more
abbrev pub with_span : Spans → ℕ → ℕ → ℕ → Spans
with_span s start stop speed = record { count = s.count + 1; spans = set s.spans s.count (record { start = start; stop = stop; speed = speed }) }

-- at most n are kept, and each has a speed
pub record Few (n : ℕ) (s : Spans) : Type 0 where
  pub most : s.count ≤ n
  pub speeds : Speeds s.count s.spans
  pub whole : Whole s

-- the elements of a segment with the numbers s, which starts at start, are kept after those before: at each of its places they stand for what holds of it
pub record SegmentKept (t : Train) (s : List ℕ) (start n : ℕ) (before after : Spans) : Type 0 where
  pub passed : (x : ℕ) → Passed t s x (lowest_in before (start + x)) (lowest_in after (start + x))
  pub few : Few (n + 32) after

-- the elements of a run are kept: at each place of its last segment, which starts at start, they stand for the permitted speed
pub record RunKept (t : Train) (r : List (List ℕ)) (start : ℕ) (s : Spans) : Type 0 where
  pub held : (x : ℕ) → instead_from (lowest_in s (start + x)) 0 [] ≡ speed_in_run t x r
  pub few : Few 128 s
