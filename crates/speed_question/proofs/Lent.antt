-- The segments as they are lent, four of them with a count, and what is answered on them. The forms for a medium that is a number take them so.
use mathlib.Core.Path.{◌≡◌, refl, sym, ap, ◌∙◌}
use mathlib.Core.List.{List, []}
use Prim.Native.Nat.{ℕ, zero, suc, ◌≤◌, ◌<◌}
use native.Mathlib.Omega.{arith}
use borrow.Author.Tests.{ne_eqb, eq-eqb}
use lib.ListN.{length, drop}
use Rattle.kinds.specs.declared.Item.{Item}
use Rattle.speed.specs.declared.Train.{Train}
use Rattle.speed.specs.Speed.{limited, segment_length}
use Rattle.speed.specs.Run.{numbers_of, last_of, speed_in_run}
use Rattle.speed_question.specs.Question.{Brought, packet, sheet, medium_of, read_as, lent, judged_run, answer_of_run, judged_speed, speed_of_run, run_asked}
use Rattle.speed_question.specs.internal.Run.{brought_of, passed, failed, run_judged, values_in, numbers_as, numbers_in, nth}
use Rattle.speed_question.proofs.Asked.{asked_neither, asked_count, asked_run_lem, none_few, many_few, some_few}
use Rattle.speed_question.proofs.Runs.{run_passed_lem, run_refusal, run_each, run_accepted, run_answer}

-- ---- the medium

pub as_packet : {medium : ℕ} → medium ≡ 0 → brought_of medium ≡ packet
as_packet {medium} e = rw (eq-eqb medium 0 e)

pub as_sheet : {medium : ℕ} → (medium ≡ 0 → ⊥) → brought_of medium ≡ sheet
as_sheet {medium} n = rw (ne_eqb medium 0 n)

pub medium_named : (medium : ℕ) → medium ≤ 1 → medium ≡ medium_of (brought_of medium)
medium_named zero h = refl
medium_named (suc zero) h = refl
medium_named (suc (suc n)) h = absurd (omega arith)

-- ---- the question, whatever it answers

module _ {B : Type 0} (refusal : ℕ → ℕ → B) (value : List (List Item) → B) (medium count : ℕ) (all : List (List ℕ)) {question : B}
    (asked : question ≡ run_asked refusal value medium count all) where
  pub question_neither : 1 < medium → refusal 15 0 ≡ question
  question_neither h = sym (asked ∙ asked_neither refusal value medium count all (λ e. omega arith, λ e. omega arith))

  module _ (known : medium ≤ 1) where
    pub question_none : count < 1 → refusal 16 0 ≡ question
    question_none h = sym (asked ∙ asked_count refusal value medium count all (brought_of medium) (medium_named medium known) (none_few count h))

    module _ (some : 1 ≤ count) where
      pub question_many : 4 < count → refusal 16 0 ≡ question
      question_many h = sym (asked ∙ asked_count refusal value medium count all (brought_of medium) (medium_named medium known) (many_few count some h))

      module _ (few : count ≤ 4) where
        judged : question ≡ answer_of_run refusal value (judged_run (read_as (brought_of medium)) all)
        judged = asked ∙ asked_run_lem refusal value medium count all (brought_of medium) (medium_named medium known) (some_few count some few)

        pub question_refused : {n place : ℕ} → failed n place ≡ run_judged (judged_run (read_as (brought_of medium)) all) → refusal n place ≡ question
        question_refused e = sym (judged ∙ ap (answer_of_run refusal value) (run_refusal (read_as (brought_of medium)) all e))

        pub question_accepted : passed ≡ run_judged (judged_run (read_as (brought_of medium)) all) → value (values_in (brought_of medium) all) ≡ question
        question_accepted e =
            let judge = read_as (brought_of medium) in
            sym (judged ∙ ap (answer_of_run refusal value) (run_accepted judge all (run_each judge all (run_passed_lem judge (judged_run judge all) e))))

-- ---- the segments lent, one after the other

-- from the third on, the fourth
pub nth_rest : (a b c d : List ℕ) (i : ℕ) → (i ≡ 0 → ⊥) → (i ≡ 1 → ⊥) → (i ≡ 2 → ⊥) → d ≡ nth i a b c d
nth_rest a b c d zero f g h = absurd (f refl)
nth_rest a b c d (suc zero) f g h = absurd (g refl)
nth_rest a b c d (suc (suc zero)) f g h = absurd (h refl)
nth_rest a b c d (suc (suc (suc i))) f g h = refl

pub lent_over : (a b c d : List ℕ) (count : ℕ) → count ≤ 4 → drop count (lent count a b c d) ≡ []
lent_over a b c d zero m = refl
lent_over a b c d (suc zero) m = refl
lent_over a b c d (suc (suc zero)) m = refl
lent_over a b c d (suc (suc (suc zero))) m = refl
lent_over a b c d (suc (suc (suc (suc zero)))) m = refl
lent_over a b c d (suc (suc (suc (suc (suc n))))) m = absurd (omega arith)

-- ---- what is answered

lent_some : (a b c d : List ℕ) (count : ℕ) → 1 ≤ count → 1 ≤ length (lent count a b c d)
lent_some a b c d zero h = absurd (omega arith)
lent_some a b c d (suc n) h = omega arith

module _ (b : Brought) (p q u v : List ℕ) (count : ℕ) (some : 1 ≤ count) where
  abbrev all : List (List ℕ)
  all = lent count p q u v

  -- what is answered from the length of the last segment and from the numbers of the run
  pub lent_answer : {C : Type 0} (f : ℕ → List (List ℕ) → C) {lsp : ℕ} → lsp ≡ segment_length (numbers_as b (last_of all))
      → f lsp (numbers_in b all) ≡ f (segment_length (last_of (numbers_of (values_in b all)))) (numbers_of (values_in b all))
  lent_answer f d = run_answer b all (lent_some p q u v count some) f d

  -- the answer from the length of the last segment and from the profile's speed in the run
  pub lent_speed : (t : Train) (x : ℕ) {lsp w : ℕ} → lsp ≡ segment_length (numbers_as b (last_of all)) → w ≡ limited t (speed_in_run t x (numbers_in b all))
      → judged_speed t x lsp w ≡ speed_of_run t x (values_in b all)
  lent_speed t x {lsp} {w} d e = ap (judged_speed t x lsp) e ∙ lent_answer (λ n r. judged_speed t x n (limited t (speed_in_run t x r))) d
