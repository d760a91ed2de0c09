-- `restricted::on_journey` meets its contract.
use mathlib.Core.Path.{◌≡◌, ap, ◌∙◌}
use Prim.Native.Nat.{ℕ, ◌+◌, ◌-◌}
use native.Mathlib.Omega.{arith}
use lib.ListN.{length}
use Rattle.speed_question.specs.internal.Asked.{values_of_run}
use Rattle.legs.specs.Travelled.{travelled_legs}
use Rattle.leg_parts.proofs.Reading.{legs_count, legs_all}
use Rattle.restricted.specs.Question.{restricted_along}
use Rattle.restricted.specs.internal.Travelled.{ReadsIn, legs_of}
use Rattle.restricted.proofs.Answers.{no_leg, too_early, on_journey_lem, on_refused, on_answered}
use Rattle.restricted.proofs.on_journey.Goals as goal

pub returns-then-legs-leg : goal.returns-then-legs-leg
returns-then-legs-leg c =
    let r = c.args.run.now in
    let j = c.args.journey.now in
    on_refused (length r.segments.now) c.args.leg c.args.train c.args.x (values_of_run r) (legs_of j)
    (no_leg (length r.segments.now) c.args.leg (legs_of j) (omega (arith, legs_count (ReadsIn j) c.legs-legs.ensures, c.if-legs-leg.true)))

pub returns-then-leg-count : goal.returns-then-leg-count
returns-then-leg-count c =
    let r = c.args.run.now in
    let j = c.args.journey.now in
    on_refused (length r.segments.now) c.args.leg c.args.train c.args.x (values_of_run r) (legs_of j)
    (too_early (length r.segments.now) c.args.leg (legs_of j) (omega (arith, legs_count (ReadsIn j) c.legs-legs.ensures, c.if-legs-leg.false)) c.if-leg-count.true)

pub find-place-requires : goal.find-place-requires
find-place-requires c =
    let j = c.args.journey.now in
    let l = c.legs-legs.ensures in
    (legs_all (ReadsIn j) l, omega (arith, legs_count (ReadsIn j) l, c.if-legs-leg.false))

pub along-requires : goal.along-requires
along-requires c =
    record { legs = c.find-place.ensures; enough = omega (arith, legs_count (ReadsIn c.args.journey.now) c.legs-legs.ensures, c.if-legs-leg.false, c.if-leg-count.false) }

pub returns : goal.returns
returns c =
    let r = c.args.run.now in
    let j = c.args.journey.now in
    let n = length r.segments.now in
    let last : c.args.leg + 1 - n + n - 1 ≡ c.args.leg = omega (arith, c.if-leg-count.false) in
    c.along.ensures
    ∙ ap (λ (m : ℕ). restricted_along n m c.args.train c.args.x (values_of_run r) (travelled_legs n c.args.leg (legs_of j))) last
    ∙ on_answered n c.args.leg c.args.train c.args.x (values_of_run r) (legs_of j)
    (on_journey_lem n c.args.leg (legs_of j) (omega (arith, legs_count (ReadsIn j) c.legs-legs.ensures, c.if-legs-leg.false)) (omega (arith, c.if-leg-count.false)))
