-- `speed_question::numbered::judge_run` meets its contract.
use mathlib.Core.Path.{◌≡◌, sym, ap, ap₂, ◌∙◌}
use mathlib.Core.List.{List, [], ◌∷◌}
use Prim.Native.Nat.{ℕ}
use lib.ListN.{take}
use Rattle.std.proofs.Common.{Bor}
use Rattle.std.proofs.lemmas.Result.{err_from_is_err_and}
use Rattle.std.specs.List.{take-map}
use Rattle.speed_question.specs.Question.{Brought, read_as, refused, judged_run}
use Rattle.speed_question.specs.internal.Run.{brought_of, brought_as, segments_of, run_judged, all_accepted}
use Rattle.speed_question.proofs.Runs.{run_passes}
use Rattle.speed_question.proofs.numbered.judge_run.Goals as goal

pub returns-in_err-judged : goal.returns-in_err-judged
returns-in_err-judged c =
    let a = c.args in
    let l : List (Bor (List ℕ)) = a.first ∷ a.second ∷ a.third ∷ a.fourth ∷ [] in
    let p = err_from_is_err_and c.from_residual.result c.from_residual.ensures.1 in
    let same = ap₂ (λ (b : Brought) (r : List (List ℕ)). judged_run (read_as b) r) c.of.ensures (sym (take-map (λ (s : Bor (List ℕ)). s.now) a.count l)) in
    let e : judged_run (read_as (brought_as c.of.result)) (segments_of (take a.count l)) ≡ refused _ _ = c.in_err-judged.ensures {u = tt} in
    rw (p.1, p.2) (sym (ap run_judged (sym same ∙ e)))

pub returns : goal.returns
returns c =
    let a = c.args in
    let l : List (Bor (List ℕ)) = a.first ∷ a.second ∷ a.third ∷ a.fourth ∷ [] in
    let r = c.in_ok-judged.field-0 in
    let k = c.in_ok-judged.ensures {u = tt} in
    let kind = sym (ap brought_as k.0 ∙ c.of.ensures) in
    let lent = take-map (λ (s : Bor (List ℕ)). s.now) a.count l ∙ sym (ap segments_of k.1) in
    run_passes (read_as (brought_of a.medium)) _ (ap₂ all_accepted kind lent ∙ r.accepted)
