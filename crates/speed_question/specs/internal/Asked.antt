-- The run of a question: what is in it, and when there is none. No promise names it.
use Rattle.std.specs.Prelude.{◌≡◌, true, false, List, [], ℕ, length, take, get_or}
use Rattle.kinds.specs.declared.Item.{Item}
use Rattle.speed_question.specs.declared.run.LastSegment.{LastSegment}
use Rattle.speed_question.specs.declared.run.Run.{Run}
use Rattle.speed_question.specs.Question.{Brought, medium_of, Neither, read_as, run_count, refused, judged_run}
use Rattle.speed_question.specs.internal.Run.{brought_as, segments_of, values_in, numbers_in, LastRead}

-- what its segments are
abbrev pub kind_of : Run → Brought
kind_of r = brought_as r.medium

-- their bytes
abbrev pub lent_of : Run → List (List ℕ)
lent_of r = segments_of r.segments.now

-- those of the segment with the number i, 0 the first
abbrev pub segment_at : Run → ℕ → List ℕ
segment_at r i = get_or (lent_of r) i []

-- the values of each segment
abbrev pub values_of_run : Run → List (List Item)
values_of_run r = values_in (kind_of r) (lent_of r)

-- the numbers of each segment's sheet
abbrev pub numbers_of_run : Run → List (List ℕ)
numbers_of_run r = numbers_in (kind_of r) (lent_of r)

-- its last segment, found
abbrev pub LastOf : Run → LastSegment → Type 0
LastOf r last = LastRead (kind_of r) (lent_of r) last

-- the run of the first count segments of those lent
pub record RunTaken (medium count : ℕ) (all : List (List ℕ)) (r : Run) : Type 0 where
  pub kind : medium ≡ medium_of (kind_of r)
  pub counted : run_count count ≡ true
  pub count_is : count ≡ length r.segments.now
  pub lent : lent_of r ≡ take count all

-- there is none: 15, 16, or a segment's own refusal
pub data RunRefused (medium count : ℕ) (all : List (List ℕ)) : ℕ → ℕ → Type 0 where
  neither : Neither medium → RunRefused medium count all 15 0
  uncounted : (b : Brought) → medium ≡ medium_of b → run_count count ≡ false → RunRefused medium count all 16 0
  judged : {q place : ℕ} (b : Brought) → medium ≡ medium_of b → run_count count ≡ true → judged_run (read_as b) (take count all) ≡ refused q place → RunRefused medium count all q place
