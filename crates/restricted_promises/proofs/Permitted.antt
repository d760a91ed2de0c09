-- The restricted speed beside the permitted speed, which is the public question's own answer: never above it, and equal to it where no constraint holds.
use mathlib.Core.Path.{◌≡◌, sym, ap, ◌∙◌, subst₂}
use mathlib.Core.Bool.{Bool}
use mathlib.Core.List.{List, ◌∷◌}
use mathlib.Core.Logic.{◌↔◌}
use Prim.Native.Nat.{ℕ, ◌≤◌}
use native.Mathlib.Omega.{arith}
use lib.Dec.{eqb}
use Rattle.bits.proofs.Tests.{by_cases}
use Rattle.kinds.specs.declared.Item.{Item}
use Rattle.format.specs.Format.{Read, answer_of, sheet_numbers}
use Rattle.format.specs.Grounds.{Among, first, later}
use Rattle.speed.specs.declared.Train.{Train}
use Rattle.speed.specs.Speed.{limited, lowest}
use Rattle.speed.specs.Run.{numbers_of, speed_in_run}
use Rattle.speed_question.specs.declared.Speed.{Speed}
use Rattle.speed_question.specs.Question.{Brought, no_speed, read_as, lent, RunRead, accepted, refused, judged_run, answer_of_run, speed_of_run, permitted_speed}
use Rattle.promises.specs.Promised.{LowestOf}
use Rattle.promises.proofs.Held.{lowest_of}
use Rattle.promises.proofs.Speeds.{asking, permitted_speed_judged, permitted_speed_value}
use Rattle.legs.specs.Legs.{Leg, journey_legs}
use Rattle.legs.specs.Restricted.{held_restrictions}
use Rattle.legs.specs.Holding.{HeldAlong}
use Rattle.legs.specs.Travelled.{on_journey, travelled_legs, legs_refusal, tail_before}
use Rattle.legs.proofs.Holding.{held_exactly, none_held}
use Rattle.restricted.specs.Question.{journey_as, under_restrictions, restricted_on, restricted_speed}
use Rattle.restricted_promises.specs.Promised.{AnswerableOn}
use Rattle.restricted_promises.proofs.Speeds.{restricted_speed_neither, restricted_speed_count, restricted_speed_judged, restricted_speed_value}

lowest_front : (v : ℕ) (l : List ℕ) → lowest v l ≤ v
lowest_front v l = (lowest_of v l).lowest v first

under_not_above : (b : Bool) (held : List ℕ) (p : Speed) → (under_restrictions b held p).speed ≤ p.speed
under_not_above b held p =
    by_cases (eqb p.refusal 0)
    (λ e. by_cases b (λ d. rw (e, d) (omega arith)) (λ d. rw (e, d) (lowest_front p.speed held)))
    (λ e. rw e (omega arith))

on_not_above : (count leg : ℕ) (t : Train) (x : ℕ) (v : List (List Item)) (l : List Leg) → (restricted_on count leg t x v l).speed ≤ (speed_of_run t x v).speed
on_not_above count leg t x v l =
    let g = travelled_legs count leg l in
    by_cases (on_journey count leg l)
    (λ on. by_cases (eqb (legs_refusal (numbers_of v) g) 0)
    (λ e. rw (on, e) (under_not_above (tail_before count leg t x (numbers_of v)) (held_restrictions t x (numbers_of v) g) (speed_of_run t x v)))
    (λ e. rw (on, e) (omega arith)))
    (λ on. rw on (omega arith))

module _ (medium count : ℕ) (first second third fourth journey : List ℕ) (leg : ℕ) (t : Train) (x : ℕ) where
  abbrev run : List (List ℕ)
  run = lent count first second third fourth

  abbrev answer : Speed
  answer = restricted_speed medium count first second third fourth journey leg t x

  abbrev permitted : Speed
  permitted = permitted_speed medium count first second third fourth t x

  -- whatever is asked, the speed is not above that of the permitted speed's question
  pub never_above : answer.speed ≤ permitted.speed
  never_above =
      asking medium count (λ n. none 15 (restricted_speed_neither medium count first second third fourth journey leg t x n))
      (λ b k c. none 16 (restricted_speed_count medium count first second third fourth journey leg t x b k c))
      (λ b k c. subst₂ (λ (o p : Speed). o.speed ≤ p.speed) (sym (restricted_speed_judged medium count first second third fourth journey leg t x b k c))
      (sym (permitted_speed_judged medium count first second third fourth t x b k c)) (go b (judged_run (read_as b) run)))
    where
      none : (r : ℕ) → answer ≡ no_speed r 0 → answer.speed ≤ permitted.speed
      none r e = omega (arith, ap (λ (o : Speed). o.speed) e)

      way : (v : List (List Item)) (o : Read) → (answer_of no_speed (λ m. restricted_on count leg t x v (journey_legs (sheet_numbers m))) o).speed ≤ (speed_of_run t x v).speed
      way v (Read.refused q place) = omega arith
      way v (Read.accepted m) = on_not_above count leg t x v (journey_legs (sheet_numbers m))

      go : (b : Brought) (o : RunRead)
          → (answer_of_run no_speed (λ v. answer_of no_speed (λ m. restricted_on count leg t x v (journey_legs (sheet_numbers m))) (journey_as b journey)) o).speed
          ≤ (answer_of_run no_speed (speed_of_run t x) o).speed
      go b (refused q place) = omega arith
      go b (accepted v) = way v (journey_as b journey)

  module _ (c : AnswerableOn medium count run journey leg t x) where
    -- the numbers of the run, and the journey's segments that it travels
    abbrev numbers : List (List ℕ)
    numbers = numbers_of c.of.values

    abbrev legs : List Leg
    legs = travelled_legs count leg (journey_legs (sheet_numbers c.way.values))

    permitted_value : permitted ≡ record { refusal = 0; place = 0; speed = limited t (speed_in_run t x numbers) }
    permitted_value =
        permitted_speed_value medium count first second third fourth t x
        (record { brought = c.brought; named = c.named; few = c.few; of = c.of; valid = c.travelled.valid; inside = c.travelled.inside })

    -- where the restricted speed is answered, the permitted speed is
    pub permitted_too : permitted.refusal ≡ 0
    permitted_too = ap (λ (o : Speed). o.refusal) permitted_value

    -- "The answer is the lowest of the permitted speed (A9, A10) and the speeds of the constraints that hold there"
    pub restricted_lowest : LowestOf answer.speed (permitted.speed ∷ held_restrictions t x numbers legs)
    restricted_lowest =
        subst₂ (λ (o p : Speed). LowestOf o.speed (p.speed ∷ held_restrictions t x numbers legs))
        (sym (restricted_speed_value medium count first second third fourth journey leg t x c)) (sym permitted_value)
        (lowest_of (limited t (speed_in_run t x numbers)) (held_restrictions t x numbers legs))

    -- the speeds that are taken are those of the constraints that hold
    pub restricted_held : (v : ℕ) → Among v (held_restrictions t x numbers legs) ↔ HeldAlong t x v numbers legs
    restricted_held v = held_exactly t x v numbers legs

    -- never above a constraint that holds
    pub under_each : (v : ℕ) → HeldAlong t x v numbers legs → answer.speed ≤ v
    under_each v h = restricted_lowest.lowest v (later ((restricted_held v).1 h))

    -- the permitted speed's own answer where none holds
    pub where_none_holds : ((v : ℕ) → HeldAlong t x v numbers legs → ⊥) → answer ≡ permitted
    where_none_holds n =
        restricted_speed_value medium count first second third fourth journey leg t x c
        ∙ ap (λ (l : List ℕ). record { refusal = 0; place = 0; speed = lowest (limited t (speed_in_run t x numbers)) l }) (none_held t x numbers legs n) ∙ sym permitted_value
