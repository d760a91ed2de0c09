-- `speed_question::run::Run::new` meets its contract.
use mathlib.Core.Path.{sym, ap, ◌∙◌}
use mathlib.Core.List.{List}
use Prim.Native.Nat.{ℕ}
use native.Mathlib.Omega.{arith}
use lib.ListN.{length}
use Rattle.std.proofs.Common.{Bor, ⊎_elim}
use Rattle.std.proofs.lemmas.Result.{err_from_is_err_and, MatchResult-weaker}
use Rattle.std.proofs.lemmas.List.{length-take-le}
use Rattle.std.specs.List.{take-map}
use Rattle.speed_question.specs.Question.{read_as, judged_run}
use Rattle.speed_question.specs.internal.Run.{brought_as, segments_of}
use Rattle.speed_question.specs.internal.Asked.{neither, uncounted, judged}
use Rattle.speed_question.proofs.Asked.{none_few, many_few, some_few}
use Rattle.speed_question.proofs.run.Run.new.Goals as goal

pub returns-in_err-medium : goal.returns-in_err-medium
returns-in_err-medium c =
    let p = err_from_is_err_and c.from_residual.result c.from_residual.ensures.1 in
    let h = c.in_err-medium.ensures {u = tt} in
    rw (p.1, p.2, h.0) (neither h.1)

pub returns-then-count-lt1 : goal.returns-then-count-lt1
returns-then-count-lt1 c =
    uncounted (brought_as c.in_ok-medium.medium) c.in_ok-medium.ensures
    (⊎_elim (none_few c.args.count) (λ h. many_few c.args.count h.0 h.1) c.then-count-lt1.either)

pub returns : goal.returns
returns c =
    let m = brought_as c.in_ok-medium.medium in
    let n = c.args.count in
    let lent = c.args.lent.now in
    let few = some_few n c.if-count-lt1.false c.if-count-gt-MOST.false in
    MatchResult-weaker c.judged.result c.judged.ensures
    (λ r h. record { kind = rw h.0 c.in_ok-medium.ensures; counted = few; count_is = sym (ap length h.1 ∙ length-take-le n lent (omega (arith, c.told-lent, c.if-count-gt-MOST.false))); lent = ap segments_of h.1 ∙ sym (take-map (λ (s : Bor (List ℕ)). s.now) n lent) })
    (λ e h. judged m c.in_ok-medium.ensures few (ap (judged_run (read_as m)) (take-map (λ (s : Bor (List ℕ)). s.now) n lent) ∙ h))
