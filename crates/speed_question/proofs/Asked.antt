-- The question by its medium and its count: a medium that is neither is refused first of all, then a count of 0 or more than 4.
use mathlib.Core.Path.{◌≡◌, refl, ap, ◌∙◌}
use mathlib.Core.Bool.{Bool, true, false, cond}
use mathlib.Core.List.{List}
use Prim.Native.Nat.{ℕ, ◌≤◌, ◌<◌}
use borrow.Author.Tests.{eqb-true, eqb-false, ne_eqb, le-leb, lt-leb}
use lib.Dec.{eqb}
use Rattle.bits.proofs.Tests.{by_cases}
use Rattle.kinds.specs.declared.Item.{Item}
use Rattle.speed.specs.declared.Train.{Train}
use Rattle.speed_question.specs.Question.{Brought, packet, sheet, medium_of, Neither, no_speed, read_as, lent, run_count, judged_run, answer_of_run, run_counted, run_asked, speed_of_run, speed_from, speed_asked, permitted_speed}

-- a medium is 0 or 1, or neither
pub either_medium : {C : Type 0} (medium : ℕ) → ((b : Brought) → medium ≡ medium_of b → C) → (Neither medium → C) → C
either_medium medium f g =
    by_cases (eqb medium 0) (λ d. f packet (eqb-true medium 0 d))
    (λ d. by_cases (eqb medium 1) (λ e. f sheet (eqb-true medium 1 e)) (λ e. g (eqb-false medium 0 d, eqb-false medium 1 e)))

-- "a run of none or more than 4"
pub none_few : (count : ℕ) → count < 1 → run_count count ≡ false
none_few count h = rw (lt-leb 1 count h)

pub many_few : (count : ℕ) → 1 ≤ count → 4 < count → run_count count ≡ false
many_few count a b = rw (le-leb 1 count a, lt-leb count 4 b)

pub some_few : (count : ℕ) → 1 ≤ count → count ≤ 4 → run_count count ≡ true
some_few count a b = rw (le-leb 1 count a, le-leb count 4 b)

-- the question as it is lent
pub lent_asked : (medium count : ℕ) (first second third fourth : List ℕ) (t : Train) (x : ℕ)
    → permitted_speed medium count first second third fourth t x ≡ speed_asked medium count (lent count first second third fourth) t x
unfolding permitted_speed
lent_asked medium count first second third fourth t x = refl

-- whatever a question on a run answers
module _ {B : Type 0} (refusal : ℕ → ℕ → B) (value : List (List Item) → B) (medium count : ℕ) (r : List (List ℕ)) where
  medium_asked : (b : Brought) → medium ≡ medium_of b → run_asked refusal value medium count r ≡ run_counted refusal value b count r
  medium_asked packet e = rw e
  medium_asked sheet e = rw e

  -- "15, first of all, for a kind that is neither"
  pub asked_neither : Neither medium → run_asked refusal value medium count r ≡ refusal 15 0
  asked_neither n = rw (ne_eqb medium 0 n.0, ne_eqb medium 1 n.1)

  module _ (b : Brought) (e : medium ≡ medium_of b) where
    counted : {few : Bool} → run_count count ≡ few → run_asked refusal value medium count r ≡ cond few (answer_of_run refusal value (judged_run (read_as b) r)) (refusal 16 0)
    counted c = medium_asked b e ∙ ap (λ (z : Bool). cond z (answer_of_run refusal value (judged_run (read_as b) r)) (refusal 16 0)) c

    -- "16 for a run of none or more than 4, judged right after 15"
    pub asked_count : run_count count ≡ false → run_asked refusal value medium count r ≡ refusal 16 0
    asked_count c = counted c

    -- then each segment
    pub asked_run_lem : run_count count ≡ true → run_asked refusal value medium count r ≡ answer_of_run refusal value (judged_run (read_as b) r)
    asked_run_lem c = counted c

-- the question on a speed
module _ (medium count : ℕ) (r : List (List ℕ)) (t : Train) (x : ℕ) where
  pub neither_first : Neither medium → speed_asked medium count r t x ≡ no_speed 15 0
  neither_first n = asked_neither no_speed (speed_of_run t x) medium count r n

  module _ (b : Brought) (e : medium ≡ medium_of b) where
    pub count_next : run_count count ≡ false → speed_asked medium count r t x ≡ no_speed 16 0
    count_next c = asked_count no_speed (speed_of_run t x) medium count r b e c

    pub run_asked_lem : run_count count ≡ true → speed_asked medium count r t x ≡ speed_from b r t x
    run_asked_lem c = asked_run_lem no_speed (speed_of_run t x) medium count r b e c
