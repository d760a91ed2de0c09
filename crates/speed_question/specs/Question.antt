-- The question on speed, as a total function of the medium, the count, the segments lent, the train and the place.
use Rattle.std.specs.Prelude.{◌≡◌, Bool, cond, ◌&&◌, List, [], ◌∷◌, ℕ, eqb, ltb, leb, take}
use Rattle.kinds.specs.declared.Item.{Item}
use Rattle.format.specs.Format.{Read}
use Rattle.grammar.specs.segment.Segment.{wire_changes}
use Rattle.grammar.specs.segment.Judgement.{from_packet, from_sheet}
use Rattle.speed.specs.declared.Train.{Train}
use Rattle.speed.specs.Speed.{valid_train, limited, segment_length}
use Rattle.speed.specs.Run.{numbers_of, last_of, speed_in_run}
use Rattle.speed_question.specs.declared.Speed.{Speed}

-- "It returns its number with length, speed or altitude 0"; "everything above it passes that on with a place"
abbrev pub no_speed : ℕ → ℕ → Speed
no_speed r place = record { refusal = r; place = place; speed = 0 }

-- ---- "one question says first, 0 or 1, whether it brings a packet or a sheet"

-- what is brought: "a packet or a sheet"
pub data Brought : Type 0 where
  packet : Brought
  sheet : Brought

-- "0 or 1"
abbrev pub medium_of : Brought → ℕ
medium_of packet = 0
medium_of sheet = 1

-- "a kind that is neither"
abbrev pub Neither : ℕ → Type 0
Neither medium = (medium ≡ medium_of packet → ⊥) × (medium ≡ medium_of sheet → ⊥)

-- "A packet is judged", "A sheet is judged": the values of what is brought, or its refusal
abbrev pub read_as : Brought → List ℕ → Read
read_as packet = from_packet wire_changes
read_as sheet = from_sheet wire_changes

-- ---- "a run of 1 to 4 segments of the one kind, in order of travel"

-- "They are lent apart, with a count; those past it are not read"
abbrev pub lent : ℕ → List ℕ → List ℕ → List ℕ → List ℕ → List (List ℕ)
lent count first second third fourth = take count (first ∷ second ∷ third ∷ fourth ∷ [])

-- "a run of 1 to 4 segments"
abbrev pub run_count : ℕ → Bool
run_count count = leb 1 count && leb count 4

-- the values of each segment, or the first refusal: "each segment is then judged in order (place within it)"
pub data RunRead : Type 0 where
  accepted : List (List Item) → RunRead
  refused : ℕ → ℕ → RunRead

-- a segment judged, in front of a run judged: the first refusal counts
abbrev pub in_front : Read → RunRead → RunRead
in_front (Read.refused r place) rest = refused r place
in_front (Read.accepted l) (accepted rest) = accepted (l ∷ rest)
in_front (Read.accepted l) (refused r place) = refused r place

-- "each segment is then judged in order (place within it)"
abbrev pub judged_run : (List ℕ → Read) → List (List ℕ) → RunRead
judged_run judge [] = accepted []
judged_run judge (s ∷ r) = in_front (judge s) (judged_run judge r)

-- what is answered on a refusal, or on the values of each segment
abbrev pub answer_of_run : {B : Type 0} → (ℕ → ℕ → B) → (List (List Item) → B) → RunRead → B
answer_of_run refusal value (accepted r) = value r
answer_of_run refusal value (refused r place) = refusal r place

-- ---- a question on a run, whatever it answers

-- "16 for a run of none or more than 4, judged right after 15"; "numbers above 13 it is 0"
abbrev pub run_counted : {B : Type 0} → (ℕ → ℕ → B) → (List (List Item) → B) → Brought → ℕ → List (List ℕ) → B
run_counted refusal value b count r = cond (run_count count) (answer_of_run refusal value (judged_run (read_as b) r)) (refusal 16 0)

-- "15, first of all, for a kind that is neither"; "numbers above 13 it is 0"
abbrev pub run_asked : {B : Type 0} → (ℕ → ℕ → B) → (List (List Item) → B) → ℕ → ℕ → List (List ℕ) → B
run_asked refusal value medium count r =
    cond (eqb medium (medium_of packet)) (run_counted refusal value packet count r) (cond (eqb medium (medium_of sheet)) (run_counted refusal value sheet count r) (refusal 15 0))

-- ---- the answer

-- "speed questions judge 10, then 11"; "For .. 10 to 12, success .. it is 0"
abbrev pub judged_speed : Train → ℕ → ℕ → ℕ → Speed
judged_speed t x lsp v = cond (valid_train t) (cond (ltb x lsp) (record { refusal = 0; place = 0; speed = v }) (no_speed 11 0)) (no_speed 10 0)

-- "then 10, then 11 against the last"; "Speed from a packet uses the packet's speeds times 5, from a sheet the sheet's own";
-- "every permitted speed is the lower of that and the profile's"
abbrev pub speed_of_run : Train → ℕ → List (List Item) → Speed
speed_of_run t x r = judged_speed t x (segment_length (last_of (numbers_of r))) (limited t (speed_in_run t x (numbers_of r)))

-- "each segment is then judged in order (place within it), then 10, then 11 against the last"
abbrev pub speed_from : Brought → List (List ℕ) → Train → ℕ → Speed
speed_from b r t x = answer_of_run no_speed (speed_of_run t x) (judged_run (read_as b) r)

-- "16 for a run of none or more than 4, judged right after 15"
abbrev pub speed_counted : Brought → ℕ → List (List ℕ) → Train → ℕ → Speed
speed_counted b count r t x = run_counted no_speed (speed_of_run t x) b count r

-- "15, first of all, for a kind that is neither"
abbrev pub speed_asked : ℕ → ℕ → List (List ℕ) → Train → ℕ → Speed
speed_asked medium count r t x = run_asked no_speed (speed_of_run t x) medium count r

-- "Let the question take a run of 1 to 4 segments of the one kind, in order of travel, with x in the last"
unfoldable pub permitted_speed : ℕ → ℕ → List ℕ → List ℕ → List ℕ → List ℕ → Train → ℕ → Speed
permitted_speed medium count first second third fourth t x = speed_asked medium count (lent count first second third fourth) t x
