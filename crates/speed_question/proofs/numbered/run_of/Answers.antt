-- `speed_question::numbered::run_of` meets its contract.
use mathlib.Core.Path.{sym, ap, ap₂, ◌∙◌}
use mathlib.Core.List.{List}
use Prim.Native.Nat.{ℕ}
use native.Mathlib.Omega.{arith}
use Rattle.std.proofs.Common.{Bor}
use Rattle.std.proofs.lemmas.List.{length-take-le}
use Rattle.std.specs.List.{take-map}
use Rattle.speed_question.specs.Question.{read_as}
use Rattle.speed_question.specs.internal.Run.{brought_of, was_accepted, all_accepted}
use Rattle.speed_question.proofs.Runs.{run_accepted}
use Rattle.speed_question.proofs.numbered.run_of.Goals as goal

pub invariant_of-result-clause-few : goal.invariant_of-result-clause-few
invariant_of-result-clause-few c =
    let e = length-take-le c.args.count c.args.lent.now (omega (arith, c.told-lent, c.requires.0.1)) in
    (omega (arith, e, c.requires.0.0), omega (arith, e, c.requires.0.1))

pub invariant_of-result-clause-accepted : goal.invariant_of-result-clause-accepted
invariant_of-result-clause-accepted c =
    ap₂ all_accepted c.of.ensures (sym (take-map (λ (s : Bor (List ℕ)). s.now) c.args.count c.args.lent.now))
    ∙ ap was_accepted (run_accepted (read_as (brought_of c.args.medium)) _ c.requires.1)

pub returns : goal.returns
returns c = (c.of.ensures, sym (take-map (λ (s : Bor (List ℕ)). s.now) c.args.count c.args.lent.now))
