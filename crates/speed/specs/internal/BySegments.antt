-- A run asked segment by segment, as the code passes over it. No promise names it.
use Rattle.std.specs.Prelude.{List, [], ◌∷◌, ◌++◌, ℕ, ◌+◌}
use Rattle.speed.specs.declared.Train.{Train}
use Rattle.speed.specs.Speed.{held_speeds, elements_from, segment_length, profile_of}
use Rattle.speed.specs.Run.{last_start}

-- the speeds of the elements that hold at y, in cm from the segment's own start
abbrev pub held_in_segment : Train → ℕ → List ℕ → List ℕ
held_in_segment t y s = held_speeds t (segment_length s) y (elements_from 0 (profile_of s))

-- those of each segment, at the place that lies as far from its own start as x of the last segment does
abbrev pub held_by_segments : Train → ℕ → List (List ℕ) → List ℕ
held_by_segments t x [] = []
held_by_segments t x (s ∷ r) = held_in_segment t (last_start 0 (s ∷ r) + x) s ++ held_by_segments t x r
