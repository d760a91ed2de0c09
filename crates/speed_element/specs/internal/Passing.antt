-- A pass over a run, segment after segment, with the lowest speed held so far. No promise names it.
use Rattle.std.specs.Prelude.{List, [], ◌∷◌, ℕ, ◌+◌}
use Rattle.speed.specs.declared.Train.{Train}
use Rattle.speed.specs.Run.{last_start}
use Rattle.speed.specs.internal.BySegments.{held_in_segment}
use Rattle.speed_element.specs.internal.Reading.{Holding}

-- a segment with the numbers s, asked at y cm from its own start: r stands for what was held before and for what holds of it
abbrev pub Passed : Train → List ℕ → ℕ → ℕ → ℕ → Type 0
Passed t s y held r = Holding held (held_in_segment t y s) r

-- each segment at the place that lies as far from its own start as x of the last segment does
pub data RunPassed (t : Train) (x : ℕ) : List (List ℕ) → ℕ → ℕ → Type 0 where
  over : {held : ℕ} → RunPassed t x [] held held
  one : {s : List ℕ} {r : List (List ℕ)} {held next out : ℕ} → Passed t s (last_start 0 (s ∷ r) + x) held next → RunPassed t x r next out → RunPassed t x (s ∷ r) held out
