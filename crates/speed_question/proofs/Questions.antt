-- A question on a run, by its run or its refusal, whatever it answers.
use mathlib.Core.Path.{◌≡◌, sym, ap, ◌∙◌}
use mathlib.Core.Bool.{true}
use mathlib.Core.List.{List}
use Prim.Native.Nat.{ℕ}
use lib.ListN.{take}
use Rattle.kinds.specs.declared.Item.{Item}
use Rattle.speed.specs.Run.{Each}
use Rattle.speed_question.specs.declared.run.Run.{Run}
use Rattle.speed_question.specs.Question.{Brought, medium_of, read_as, run_count, answer_of_run, run_asked}
use Rattle.speed_question.specs.internal.Run.{AcceptedAs, values_in, all_accepted}
use Rattle.speed_question.specs.internal.Asked.{kind_of, values_of_run, RunTaken, RunRefused, neither, uncounted, judged}
use Rattle.speed_question.proofs.Asked.{asked_neither, asked_count, asked_run_lem}
use Rattle.speed_question.proofs.Runs.{run_each, run_accepted}

module _ {B : Type 0} (refusal : ℕ → ℕ → B) (value : List (List Item) → B) (medium count : ℕ) (all : List (List ℕ)) where
  abbrev question : B
  question = run_asked refusal value medium count (take count all)

  pub question_refused : {q place : ℕ} → RunRefused medium count all q place → refusal q place ≡ question
  question_refused (neither n) = sym (asked_neither refusal value medium count (take count all) n)
  question_refused (uncounted b e c) = sym (asked_count refusal value medium count (take count all) b e c)
  question_refused (judged b e c d) = sym (asked_run_lem refusal value medium count (take count all) b e c ∙ ap (answer_of_run refusal value) d)

  pub question_accepted : (b : Brought) → medium ≡ medium_of b → run_count count ≡ true → Each (AcceptedAs b) (take count all) → value (values_in b (take count all)) ≡ question
  question_accepted b e c each =
      sym (asked_run_lem refusal value medium count (take count all) b e c ∙ ap (answer_of_run refusal value) (run_accepted (read_as b) (take count all) each))

  pub question_taken : (r : Run) → RunTaken medium count all r → value (values_of_run r) ≡ question
  question_taken r k =
      ap (λ (l : List (List ℕ)). value (values_in (kind_of r) l)) k.lent
      ∙ question_accepted (kind_of r) k.kind k.counted (run_each (read_as (kind_of r)) (take count all) (ap (all_accepted (kind_of r)) (sym k.lent) ∙ r.accepted))
