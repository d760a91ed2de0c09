-- The segments of a run in the journey that it is travelled on, and the refusals of a run that does not fit it: 22 to 26.
use Rattle.std.specs.Prelude.{Bool, true, cond, ◌&&◌, ◌||◌, not, List, [], ◌∷◌, ℕ, ◌+◌, ◌-◌, eqb, ltb, leb, length, get_or, take, drop}
use Rattle.speed.specs.declared.Train.{Train}
use Rattle.speed.specs.Speed.{segment_length}
use Rattle.speed.specs.Run.{last_start}
use Rattle.legs.specs.Legs.{Constraint, Leg}
use Rattle.legs.specs.Restricted.{uses_start, uses_end}

-- not "22 where leg is no segment of the journey or the run would begin before it"
abbrev pub on_journey : ℕ → ℕ → List Leg → Bool
on_journey count leg l = ltb leg (length l) && leb count (leg + 1)

-- "the run's segments are the journey's segments leg - count + 1 to leg"
abbrev pub travelled_legs : ℕ → ℕ → List Leg → List Leg
travelled_legs count leg l = take count (drop (leg + 1 - count) l)

-- ---- "then for each segment of the run, in order"

-- not "23 where its NID_C, NID_SP or version are not those of the journey's segment at its place"
abbrev pub same_segment : List ℕ → Leg → Bool
same_segment s g = eqb (get_or s 6 0) g.nid_c && (eqb (get_or s 7 0) g.nid_sp && (eqb (get_or s 8 0) g.major && eqb (get_or s 9 0) g.minor))

-- "a location that it uses outside the segment (a start at or past L_SP, an end of 0 or past L_SP)"
abbrev pub outside : ℕ → Constraint → Bool
outside lsp c = (uses_start c && leb lsp c.start) || (uses_end c && (eqb c.end 0 || ltb lsp c.end))

-- not "25 where a constraint of type 0 there has a location that it uses outside the segment": each has none
abbrev pub all_inside : ℕ → List Constraint → Bool
all_inside lsp [] = true
all_inside lsp (c ∷ l) = not (eqb c.type 0 && outside lsp c) && all_inside lsp l

-- 23; then "24 where that segment is not travelled in its nominal direction (Q_SP_DIR 1)"; then 25; 0 for none of them
abbrev pub leg_refusal : List ℕ → Leg → ℕ
leg_refusal s g = cond (same_segment s g) (cond (eqb g.direction 1) (cond (all_inside (segment_length s) g.constraints) 0 25) 24) 23

-- the first refusal, 0 for none
abbrev pub first_refusal : ℕ → ℕ → ℕ
first_refusal a b = cond (eqb a 0) b a

-- "then for each segment of the run, in order", with its leg: the first refusal, 0 for none
abbrev pub legs_refusal : List (List ℕ) → List Leg → ℕ
legs_refusal [] g = 0
legs_refusal (s ∷ r) [] = 23
legs_refusal (s ∷ r) (g ∷ l) = first_refusal (leg_refusal s g) (legs_refusal r l)

-- ---- the train's tail

-- "the run does not begin at leg 0, and x counted from the run's start is below the train's length"
abbrev pub tail_before : ℕ → ℕ → Train → ℕ → List (List ℕ) → Bool
tail_before count leg t x r = ltb count (leg + 1) && ltb (last_start 0 r + x) t.length
