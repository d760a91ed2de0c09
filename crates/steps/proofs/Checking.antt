-- Steps are accepted exactly when they are ours at every centimetre, and refused with 19 exactly at the first wrong one.
use mathlib.Core.Path.{◌≡◌, refl, sym, ap, ◌∙◌}
use mathlib.Core.Bool.{Bool, true, false, cond}
use mathlib.Core.List.{List, []}
use mathlib.Core.Option.{Option, none, some}
use mathlib.Core.Logic.{◌↔◌}
use Prim.Native.Nat.{ℕ, ◌+◌, ◌<◌}
use native.Mathlib.Omega.{arith}
use borrow.Author.Tests.{eqb-true, eq-eqb}
use lib.Dec.{eqb}
use Rattle.bits.proofs.Tests.{by_cases}
use Rattle.kinds.specs.declared.Item.{Item}
use Rattle.speed.specs.declared.Train.{Train}
use Rattle.speed.specs.Speed.{valid_train, limited}
use Rattle.speed.specs.Run.{speed_in_run}
use Rattle.speed_question.specs.Question.{lent, run_asked}
use Rattle.steps.specs.declared.Checked.{Checked}
use Rattle.steps.specs.Steps.{stepped, step_speed, right, first_wrong, not_checked, wrong_at, checked_steps, steps_of_run, check_steps, FirstWrong}
use Rattle.speed_element.specs.internal.Elements.{instead_from}
use lib.ListN.{take}
use Rattle.steps.specs.declared.spans.Span.{Span}
use Rattle.steps.specs.declared.spans.Spans.{Spans}
use Rattle.steps.proofs.Kept.{all_kept}
use Rattle.steps.specs.internal.Spans.{RunKept}
use Rattle.steps.specs.internal.Places.{right_in}
use Rattle.steps.proofs.First.{counted_none, counted_some, everywhere_counted, first_counted, wrong_same}

-- ---- the answer as the code makes it, from a place or the segment's length

pub train_refused : (t : Train) (starts speeds : List ℕ) (r : List (List Item)) → valid_train t ≡ false → not_checked 10 0 ≡ steps_of_run t starts speeds r
train_refused t starts speeds r e = rw e

-- the question as it is lent
pub lent_checked : (medium count : ℕ) (first second third fourth : List ℕ) (t : Train) (starts speeds : List ℕ)
    → check_steps medium count first second third fourth t starts speeds ≡ run_asked not_checked (steps_of_run t starts speeds) medium count (lent count first second third fourth)
unfolding check_steps
lent_checked medium count first second third fourth t starts speeds = refl

-- the answer on a run with the numbers r, whose last segment has the length n
abbrev pub answer_for : Train → List ℕ → List ℕ → ℕ → List (List ℕ) → Checked
answer_for t starts speeds n r = cond (valid_train t) (checked_steps n (λ x. limited t (speed_in_run t x r)) starts speeds) (not_checked 10 0)

module _ (t : Train) (starts speeds : List ℕ) (n : ℕ) (r : List (List ℕ)) (valid : valid_train t ≡ true) where
  pub steps_refused : stepped n starts speeds ≡ false → not_checked 18 0 ≡ answer_for t starts speeds n r
  steps_refused e = rw (valid, e)

  -- what is kept of the run gives the permitted speed
  module _ (kept : Spans) (from : ℕ) (steps : stepped n starts speeds ≡ true) (k : RunKept t r from kept) where
    abbrev ours : ℕ → ℕ
    ours x = limited t (speed_in_run t x r)

    abbrev spans : List Span
    spans = take kept.count kept.spans

    found : {o : Option ℕ} → first_wrong n 0 (right_in t spans from starts speeds) ≡ o → first_wrong n 0 (right ours starts speeds) ≡ o
    found e =
        wrong_same
        (λ x. ap (λ (m : ℕ). eqb (step_speed 0 x starts speeds) (limited t m)) (sym (ap (λ (m : ℕ). instead_from m 0 []) (all_kept kept (from + x) k.few (omega arith)) ∙ k.held x))) n 0
        ∙ e

    pub steps_wrong : {place : ℕ} → first_wrong n 0 (right_in t spans from starts speeds) ≡ some place → not_checked 19 place ≡ answer_for t starts speeds n r
    steps_wrong e = rw (valid, steps, found e)

    pub steps_right : first_wrong n 0 (right_in t spans from starts speeds) ≡ none → not_checked 0 0 ≡ answer_for t starts speeds n r
    steps_right e = rw (valid, steps, found e)

-- ---- accepted and wrong, exactly

module _ (lsp : ℕ) (ours : ℕ → ℕ) (starts speeds : List ℕ) where
  abbrev p : ℕ → Bool
  p = right ours starts speeds

  -- "Accept it exactly when ..": "at every centimetre the last step at or before it gives our permitted speed"
  pub record Accepted : Type 0 where
    pub steps : stepped lsp starts speeds ≡ true
    pub everywhere : (c : ℕ) → c < lsp → step_speed 0 c starts speeds ≡ ours c

  wrong_none : (o : Option ℕ) → wrong_at o ≡ not_checked 0 0 → o ≡ none
  wrong_none none e = refl
  wrong_none (some c) e = absurd (let z : 19 ≡ 0 = ap (λ (u : Checked). u.refusal) e in omega arith)

  wrong_some : (o : Option ℕ) (c : ℕ) → wrong_at o ≡ not_checked 19 c → o ≡ some c
  wrong_some none c e = absurd (let z : 0 ≡ 19 = ap (λ (u : Checked). u.refusal) e in omega arith)
  wrong_some (some d) c e = let z : d ≡ c = ap (λ (u : Checked). u.place) e in ap some z

  not_stepped : {C : Type 0} (r c : ℕ) → stepped lsp starts speeds ≡ false → checked_steps lsp ours starts speeds ≡ not_checked r c → (r ≡ 18 → C) → C
  not_stepped r c q e f = let z : not_checked 18 0 ≡ not_checked r c = rw q at e in f (sym (ap (λ (u : Checked). u.refusal) z))

  pub accepted_exactly : (checked_steps lsp ours starts speeds ≡ not_checked 0 0) ↔ Accepted
  accepted_exactly = (only, given)
    where
      only : checked_steps lsp ours starts speeds ≡ not_checked 0 0 → Accepted
      only e =
          by_cases (stepped lsp starts speeds)
          (λ q. record {
            steps = q;
            everywhere = λ c h. eqb-true (step_speed 0 c starts speeds) (ours c) (counted_none p lsp (wrong_none (first_wrong lsp 0 p) (rw q at e)) c h);
          })
          (λ q. not_stepped 0 0 q e (λ z. absurd (omega arith)))

      given : Accepted → checked_steps lsp ours starts speeds ≡ not_checked 0 0
      given a = rw (a.steps, everywhere_counted p lsp (λ c h. eq-eqb (step_speed 0 c starts speeds) (ours c) (a.everywhere c h)))

  -- "then 19 for a wrong speed, with the first wrong centimetre"
  pub wrong_exactly : (c : ℕ) → (checked_steps lsp ours starts speeds ≡ not_checked 19 c) ↔ ((stepped lsp starts speeds ≡ true) × FirstWrong lsp p c)
  wrong_exactly c = (only, given)
    where
      only : checked_steps lsp ours starts speeds ≡ not_checked 19 c → (stepped lsp starts speeds ≡ true) × FirstWrong lsp p c
      only e =
          by_cases (stepped lsp starts speeds)
          (λ q. (q, counted_some p lsp c (wrong_some (first_wrong lsp 0 p) c (rw q at e))))
          (λ q. not_stepped 19 c q e (λ z. absurd (omega arith)))

      given : (stepped lsp starts speeds ≡ true) × FirstWrong lsp p c → checked_steps lsp ours starts speeds ≡ not_checked 19 c
      given a = rw (a.0, first_counted p lsp c a.1)
