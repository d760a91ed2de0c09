-- The profile's speed in a run of segments, from the numbers of each segment's sheet: the permitted speed, but for the train's own maximum.
-- A single segment is a run of one.
use Rattle.std.specs.Prelude.{List, [], ◌∷◌, ◌++◌, map, ℕ, ◌+◌}
use Rattle.kinds.specs.declared.Item.{Item}
use Rattle.format.specs.Format.{sheet_numbers}
use Rattle.format.specs.Conforming.{given_back}
use Rattle.grammar.specs.segment.Segment.{sheet_fields, wire_changes}
use Rattle.speed.specs.declared.Train.{Train}
use Rattle.speed.specs.Speed.{Element, held_speeds, permitted, elements_from, segment_length, profile_of}

-- P of each segment of a run
abbrev pub Each : {A : Type 0} → (A → Type 0) → List A → Type 0
Each P [] = Unit {0}
Each P (a ∷ r) = P a × Each P r

-- R of each two segments of two runs, one for one
pub data EachTwo {A B : Type 0} (R : A → B → Type 0) : List A → List B → Type 0 where
  none : EachTwo R [] []
  another : {a : A} {b : B} {r : List A} {s : List B} → R a b → EachTwo R r s → EachTwo R (a ∷ r) (b ∷ s)

-- "segments of the one kind, in order of travel": the numbers of each segment, from its values
abbrev pub numbers_of : List (List Item) → List (List ℕ)
numbers_of r = map sheet_numbers r

-- the values of each segment as its packet gives them back
abbrev pub each_given_back : List (List Item) → List (List Item)
each_given_back r = map (given_back (sheet_fields wire_changes)) r

-- "Their elements are laid end to end": `from`, in cm, is where the first segment starts
abbrev pub run_elements : ℕ → List (List ℕ) → List Element
run_elements from [] = []
run_elements from (s ∷ r) = elements_from from (profile_of s) ++ run_elements (from + segment_length s) r

-- where the run ends, and with it the last element
abbrev pub run_end : ℕ → List (List ℕ) → ℕ
run_end from [] = from
run_end from (s ∷ r) = run_end (from + segment_length s) r

-- "with x in the last": the last segment
abbrev pub last_of : List (List ℕ) → List ℕ
last_of [] = []
last_of (s ∷ []) = s
last_of (s ∷ n ∷ r) = last_of (n ∷ r)

-- where the last segment starts
abbrev pub last_start : ℕ → List (List ℕ) → ℕ
last_start from [] = from
last_start from (s ∷ []) = from
last_start from (s ∷ n ∷ r) = last_start (from + segment_length s) (n ∷ r)

-- "the elements that hold there", the speed of each: "each ends where the next starts, across boundaries too, with its Q_FRONT delay"
abbrev pub held_in_run : Train → ℕ → List (List ℕ) → List ℕ
held_in_run t x r = held_speeds t (run_end 0 r) (last_start 0 r + x) (run_elements 0 r)

-- "The permitted speed at x is the lowest speed of the elements that hold there", "with x in the last": the profile's speed
abbrev pub speed_in_run : Train → ℕ → List (List ℕ) → ℕ
speed_in_run t x r = permitted t (run_end 0 r) (last_start 0 r + x) (run_elements 0 r)
