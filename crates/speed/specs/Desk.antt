-- The desk cases on speed, and trains of each category at one element: one table of questions, each with its answer.
use Rattle.std.specs.Prelude.{Bool, true, false, List, [], ◌∷◌, ◌++◌, ℕ, replicate}
use Rattle.speed.specs.declared.Train.{Train}

-- a question on speed about a run of segments with these numbers in their sheets, at x cm of the last, and its answer in km/h
pub record SpeedCase : Type 0 where
  pub train : Train
  pub x : ℕ
  pub run : List (List ℕ)
  pub answer : ℕ

-- "a length .., a cant deficiency .., and three yes/no memberships": freight in P position, freight in G position, passenger; with this maximum in km/h
abbrev pub train_up_to : ℕ → ℕ → ℕ → Bool → Bool → Bool → Train
train_up_to maximum length cant p g passenger =
    record { length = length; cant = cant; maximum = maximum; freight_p = p; freight_g = g; passenger = passenger }

-- one with the highest maximum
abbrev pub train_of : ℕ → ℕ → Bool → Bool → Bool → Train
train_of length cant p g passenger = train_up_to 600 length cant p g passenger

-- the numbers of a segment of `length` cm with the numbers `profile` as its speed profile
abbrev pub segment_of : ℕ → List ℕ → List ℕ
segment_of length profile = 6 ∷ replicate 9 0 ++ length ∷ replicate 3 0 ++ profile ++ replicate 5 0

-- those of a segment of 1,000 cm
abbrev pub segment_with : List ℕ → List ℕ
segment_with profile = segment_of 1000 profile

-- "Length 1,000 cm, 100 km/h with Q_FRONT 0, change at 500 to 140", with Q_FRONT `front` before the change and `next` after it
abbrev pub change_numbers : ℕ → ℕ → List ℕ
change_numbers front next = segment_with (100 ∷ front ∷ 0 ∷ 1 ∷ 500 ∷ 140 ∷ next ∷ 0 ∷ [])

-- "a 200 cm train"
abbrev pub plain : Train
plain = train_of 200 80 false false false

-- V_STATIC 100 km/h; 120 for 100 mm; instead 130 for freight in P position and 90 for freight in G position; at most 125 for passenger trains
abbrev pub specific : List ℕ
specific = segment_with (100 ∷ 0 ∷ 4 ∷ 0 ∷ 100 ∷ 120 ∷ 1 ∷ 0 ∷ 130 ∷ 1 ∷ 1 ∷ 90 ∷ 2 ∷ 2 ∷ 125 ∷ 0 ∷ [])

-- a train of 200 cm with the cant deficiency `cant` in mm, in no category
abbrev pub canted : ℕ → Train
canted cant = train_of 200 cant false false false

-- V_STATIC 100 km/h; "entries for 100 and 165": 120 and 140 km/h
abbrev pub two_figures : List ℕ
two_figures = segment_with (100 ∷ 0 ∷ 2 ∷ 0 ∷ 100 ∷ 120 ∷ 0 ∷ 165 ∷ 140 ∷ 0 ∷ [])

-- V_STATIC 100 km/h; 90 km/h for 100 mm; 115, 112 and 125 for 130 mm; 140 for 165 mm
abbrev pub several_entries : List ℕ
several_entries = segment_with (100 ∷ 0 ∷ 5 ∷ 0 ∷ 130 ∷ 115 ∷ 0 ∷ 165 ∷ 140 ∷ 0 ∷ 130 ∷ 112 ∷ 0 ∷ 100 ∷ 90 ∷ 0 ∷ 130 ∷ 125 ∷ 0 ∷ [])

-- 100 km/h; from 500 on 140, for 100 mm 130, in P position 120, in G position at most 110
abbrev pub change_entries : List ℕ
change_entries = segment_with (100 ∷ 1 ∷ 0 ∷ 1 ∷ 500 ∷ 140 ∷ 1 ∷ 3 ∷ 0 ∷ 100 ∷ 130 ∷ 1 ∷ 0 ∷ 120 ∷ 2 ∷ 1 ∷ 110 ∷ [])

-- 140 km/h; at most 125, 105 and 115 for passengers
abbrev pub several_limits : List ℕ
several_limits = segment_with (140 ∷ 0 ∷ 3 ∷ 2 ∷ 2 ∷ 125 ∷ 2 ∷ 2 ∷ 105 ∷ 2 ∷ 2 ∷ 115 ∷ 0 ∷ [])

-- 60 km/h with Q_FRONT 0, from 500 on 100 and from 600 on 140, both with Q_FRONT 1
abbrev pub short_element : List ℕ
short_element = segment_with (60 ∷ 0 ∷ 0 ∷ 2 ∷ 500 ∷ 100 ∷ 1 ∷ 0 ∷ 600 ∷ 140 ∷ 1 ∷ 0 ∷ [])

-- 140 km/h, from 500 on 100 with Q_FRONT 0, and from 600 on 140
abbrev pub delayed_change : List ℕ
delayed_change = segment_with (140 ∷ 1 ∷ 0 ∷ 2 ∷ 500 ∷ 100 ∷ 0 ∷ 0 ∷ 600 ∷ 140 ∷ 1 ∷ 0 ∷ [])

-- 100 km/h; instead 90 in G position, 130 in P position, 115 for passengers; at most 85 in P position
abbrev pub other_categories : List ℕ
other_categories = segment_with (100 ∷ 0 ∷ 4 ∷ 1 ∷ 1 ∷ 90 ∷ 1 ∷ 0 ∷ 130 ∷ 1 ∷ 2 ∷ 115 ∷ 2 ∷ 0 ∷ 85 ∷ 0 ∷ [])

-- 100 km/h; instead 90 in G position, 130 in P position
abbrev pub lowest_first : List ℕ
lowest_first = segment_with (100 ∷ 0 ∷ 2 ∷ 1 ∷ 1 ∷ 90 ∷ 1 ∷ 0 ∷ 130 ∷ 0 ∷ [])

-- V_STATIC `v` with Q_FRONT `front` over the whole segment
abbrev even : ℕ → ℕ → List ℕ
even v front = v ∷ front ∷ 0 ∷ 0 ∷ []

-- a train of `length` cm in no category
abbrev pub long : ℕ → Train
long length = train_of length 80 false false false

-- "half the set stands in the slower segment": 60 km/h with Q_FRONT `front`, then 140
abbrev slower : ℕ → List (List ℕ)
slower front = segment_with (even 60 front) ∷ segment_with (even 140 0) ∷ []

-- 20 km/h, from 500 on 60, then 140 in the next segment, all with the delay
abbrev changed_before : List (List ℕ)
changed_before = segment_with (20 ∷ 0 ∷ 0 ∷ 1 ∷ 500 ∷ 60 ∷ 0 ∷ 0 ∷ []) ∷ segment_with (even 140 0) ∷ []

-- 140 km/h without delay, then 80 and from 500 on 120
abbrev changed_after : List (List ℕ)
changed_after = segment_with (even 140 1) ∷ segment_with (80 ∷ 0 ∷ 0 ∷ 1 ∷ 500 ∷ 120 ∷ 0 ∷ 0 ∷ []) ∷ []

-- 40 km/h, 100 cm of 90 km/h, and 140, all with the delay
abbrev short : List (List ℕ)
short = segment_with (even 40 0) ∷ segment_of 100 (even 90 0) ∷ segment_with (even 140 0) ∷ []

-- the table of all questions on speed
abbrev pub speeds : List SpeedCase
speeds =
    -- "a 200 cm train gets 100 at 699 and 140 at 700. With Q_FRONT 1 it gets 140 at 500"
    record { train = plain; x = 699; run = change_numbers 0 0 ∷ []; answer = 100 }
    ∷ record { train = plain; x = 700; run = change_numbers 0 0 ∷ []; answer = 140 }
    ∷ record { train = plain; x = 499; run = change_numbers 1 1 ∷ []; answer = 100 }
    ∷ record { train = plain; x = 500; run = change_numbers 1 1 ∷ []; answer = 140 }
    -- Q_FRONT of the element that ends decides on the delay, and not Q_FRONT of "the element that follows"
    ∷ record { train = plain; x = 699; run = change_numbers 0 1 ∷ []; answer = 100 }
    ∷ record { train = plain; x = 700; run = change_numbers 0 1 ∷ []; answer = 140 }
    ∷ record { train = plain; x = 499; run = change_numbers 1 0 ∷ []; answer = 100 }
    ∷ record { train = plain; x = 500; run = change_numbers 1 0 ∷ []; answer = 140 }
    -- each rule of an element's speed
    ∷ record { train = plain; x = 0; run = specific ∷ []; answer = 100 }
    ∷ record { train = train_of 200 100 false false false; x = 0; run = specific ∷ []; answer = 120 }
    ∷ record { train = train_of 200 100 true false false; x = 0; run = specific ∷ []; answer = 130 }
    ∷ record { train = train_of 200 100 false true false; x = 0; run = specific ∷ []; answer = 90 }
    ∷ record { train = train_of 200 100 true true false; x = 0; run = specific ∷ []; answer = 90 }
    ∷ record { train = train_of 200 100 false false true; x = 0; run = specific ∷ []; answer = 120 }
    ∷ record { train = train_of 200 80 true false true; x = 999; run = specific ∷ []; answer = 125 }
    -- "A 150 mm train with entries for 100 and 165 uses the 100 entry"
    ∷ record { train = canted 150; x = 0; run = two_figures ∷ []; answer = 120 }
    -- entries for the train's own figure and a lower one; for two figures below its own; for no figure at or below its own
    ∷ record { train = canted 165; x = 0; run = two_figures ∷ []; answer = 140 }
    ∷ record { train = canted 300; x = 0; run = two_figures ∷ []; answer = 140 }
    ∷ record { train = canted 80; x = 0; run = two_figures ∷ []; answer = 100 }
    -- several entries for the figure that counts: "the lowest speed of them", whatever the speeds of other figures are
    ∷ record { train = canted 150; x = 0; run = several_entries ∷ []; answer = 112 }
    ∷ record { train = canted 130; x = 0; run = several_entries ∷ []; answer = 112 }
    ∷ record { train = canted 100; x = 0; run = several_entries ∷ []; answer = 90 }
    -- "N_ITER 5 and its specific entries": those of a change
    ∷ record { train = canted 80; x = 500; run = change_entries ∷ []; answer = 140 }
    ∷ record { train = canted 100; x = 500; run = change_entries ∷ []; answer = 130 }
    ∷ record { train = train_of 200 80 true false false; x = 500; run = change_entries ∷ []; answer = 120 }
    ∷ record { train = train_of 200 80 false true false; x = 500; run = change_entries ∷ []; answer = 110 }
    ∷ record { train = train_of 200 80 false true false; x = 499; run = change_entries ∷ []; answer = 100 }
    -- "the lowest of this and all entries with Q_DIFF 2 whose category it belongs to"
    ∷ record { train = train_of 200 80 false false true; x = 0; run = several_limits ∷ []; answer = 105 }
    -- "before its end plus the train's length", past the end of the next element too
    ∷ record { train = plain; x = 599; run = short_element ∷ []; answer = 60 }
    ∷ record { train = plain; x = 699; run = short_element ∷ []; answer = 60 }
    ∷ record { train = plain; x = 700; run = short_element ∷ []; answer = 140 }
    -- "the train's length": of another train, and for a change that ends
    ∷ record { train = train_of 300 80 false false false; x = 799; run = change_numbers 0 0 ∷ []; answer = 100 }
    ∷ record { train = train_of 300 80 false false false; x = 800; run = change_numbers 0 0 ∷ []; answer = 140 }
    ∷ record { train = plain; x = 799; run = delayed_change ∷ []; answer = 100 }
    ∷ record { train = plain; x = 800; run = delayed_change ∷ []; answer = 140 }
    -- "take the lowest of those instead", in whatever order they stand; every category with Q_DIFF 1 and with Q_DIFF 2
    ∷ record { train = train_of 200 80 true true false; x = 0; run = lowest_first ∷ []; answer = 90 }
    ∷ record { train = train_of 200 80 false false true; x = 0; run = other_categories ∷ []; answer = 115 }
    ∷ record { train = train_of 200 80 true false false; x = 0; run = other_categories ∷ []; answer = 85 }
    -- "At a boundary the screen raises the speed while half the set stands in the slower segment"
    ∷ record { train = long 200; x = 199; run = slower 0; answer = 60 }
    ∷ record { train = long 200; x = 200; run = slower 0; answer = 140 }
    -- with Q_FRONT 1 an element ends where the next segment starts
    ∷ record { train = long 200; x = 0; run = slower 1; answer = 140 }
    -- "across boundaries too": the last element of the segment before, and the element before that one
    ∷ record { train = long 200; x = 0; run = changed_before; answer = 60 }
    ∷ record { train = long 600; x = 0; run = changed_before; answer = 20 }
    ∷ record { train = long 600; x = 100; run = changed_before; answer = 60 }
    -- "with x in the last": its changes count from its own start
    ∷ record { train = long 100; x = 599; run = changed_after; answer = 80 }
    ∷ record { train = long 100; x = 600; run = changed_after; answer = 120 }
    -- a train that is longer than the segment between
    ∷ record { train = long 200; x = 99; run = short; answer = 40 }
    ∷ record { train = long 200; x = 100; run = short; answer = 90 }
    ∷ record { train = long 200; x = 199; run = short; answer = 90 }
    ∷ record { train = long 200; x = 200; run = short; answer = 140 }
    -- "a run of 1 to 4 segments": a train that stands in all four, and one that has left the first
    ∷ record { train = long 1101; x = 0; run = segment_with (even 30 0) ∷ short; answer = 30 }
    ∷ record { train = long 1100; x = 0; run = segment_with (even 30 0) ∷ short; answer = 40 }
    ∷ []
