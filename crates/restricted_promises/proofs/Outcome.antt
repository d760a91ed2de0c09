-- "one possible outcome for every input": a question on the restricted speed ends with a listed refusal, or with a speed of at most 600 km/h.
use mathlib.Core.Path.{refl, ap}
use mathlib.Core.List.{List}
use Prim.Native.Nat.{ℕ}
use native.Mathlib.Omega.{arith}
use Rattle.bits.specs.Bits.{Bytes}
use Rattle.format.specs.Grounds.{Among}
use Rattle.speed.specs.declared.Train.{Train}
use Rattle.speed.specs.Run.{Each}
use Rattle.speed_question.specs.declared.Speed.{Speed}
use Rattle.speed_question.specs.Question.{Brought, no_speed, lent}
use Rattle.promises.specs.Ranges.{OneOutcome}
use Rattle.promises.specs.Refused.{speed_refusals}
use Rattle.promises.proofs.Maximum.{valid_maximum}
use Rattle.promises.proofs.Ranges.{own_listed}
use Rattle.promises.proofs.Refused.{one_outcome, among_by, among_into}
use Rattle.promises.proofs.Runs.{ground_own}
use Rattle.promises.proofs.Speeds.{permitted_speed_maximum}
use Rattle.legs.specs.Legs.{Leg}
use Rattle.legs.specs.Grounds.{LegGround, LegsGround}
use Rattle.restricted.specs.Question.{restricted_speed}
use Rattle.restricted_promises.specs.Promised.{TravelGround, AnswerableOn, RestrictedGround, restricted_refusals, RestrictedEnds}
use Rattle.restricted_promises.proofs.Journeys.{journey_listed}
use Rattle.restricted_promises.proofs.Speeds.{restricted_speed_value, ends}
use Rattle.restricted_promises.proofs.Permitted.{never_above}

-- the refusals of a segment are listed
segment_listed : (b : Brought) {r : ℕ} → Among r (speed_refusals b) → Among r (restricted_refusals b)
segment_listed Brought.packet a = among_into (restricted_refusals Brought.packet) refl a
segment_listed Brought.sheet a = among_into (restricted_refusals Brought.sheet) refl a

-- those that come after the journey's own
late_listed : (b : Brought) → Among 10 (restricted_refusals b) × Among 11 (restricted_refusals b) × Among 22 (restricted_refusals b) × Among 23 (restricted_refusals b) × Among 24 (restricted_refusals b) × Among 25 (restricted_refusals b) × Among 26 (restricted_refusals b)
late_listed Brought.packet =
    let l = restricted_refusals Brought.packet in
    (among_by 10 l refl, among_by 11 l refl, among_by 22 l refl, among_by 23 l refl, among_by 24 l refl, among_by 25 l refl, among_by 26 l refl)
late_listed Brought.sheet =
    let l = restricted_refusals Brought.sheet in
    (among_by 10 l refl, among_by 11 l refl, among_by 22 l refl, among_by 23 l refl, among_by 24 l refl, among_by 25 l refl, among_by 26 l refl)

leg_listed : (b : Brought) {r : ℕ} {s : List ℕ} {g : Leg} → LegGround s g r → Among r (restricted_refusals b)
leg_listed b (LegGround.other d e) = rw e (late_listed b).3
leg_listed b (LegGround.reverse n d e) = rw e (late_listed b).4
leg_listed b (LegGround.outside n d o e) = rw e (late_listed b).5

legs_listed : (b : Brought) {r : ℕ} {run : List (List ℕ)} {l : List Leg} → LegsGround r run l → Among r (restricted_refusals b)
legs_listed b (LegsGround.here g) = leg_listed b g
legs_listed b (LegsGround.later h g) = legs_listed b g

travel_listed : (b : Brought) {count leg : ℕ} {t : Train} {x : ℕ} {run : List (List ℕ)} {l : List Leg} {r place : ℕ} → TravelGround count leg t x run l r place → Among r (restricted_refusals b)
travel_listed b (TravelGround.off_journey d e p) = rw e (late_listed b).2
travel_listed b (TravelGround.of_leg h g p) = legs_listed b g
travel_listed b (TravelGround.bad_train w v e p) = rw e (late_listed b).0
travel_listed b (TravelGround.past_end w v h e p) = rw e (late_listed b).1
travel_listed b (TravelGround.tail_before w v i h e p) = rw e (late_listed b).6

module _ (medium count : ℕ) (first second third fourth journey : List ℕ) (leg : ℕ) (t : Train) (x : ℕ) (ok : Each Bytes (lent count first second third fourth)) (fine : Bytes journey) where
  abbrev answer : Speed
  answer = restricted_speed medium count first second third fourth journey leg t x

  -- any two outcomes that satisfy the contract coincide, and each is a listed refusal or a speed
  pub restricted_speed_outcome : OneOutcome answer (RestrictedEnds medium count)
  restricted_speed_outcome = one_outcome answer (ends medium count first second third fourth journey leg t x ok fine success (λ r place g e h. rw e (on r place g)))
    where
      success : AnswerableOn medium count (lent count first second third fourth) journey leg t x → RestrictedEnds medium count answer
      success c =
          let e = restricted_speed_value medium count first second third fourth journey leg t x c in
          RestrictedEnds.success c.brought c.named c.few (ap (λ (o : Speed). o.refusal) e) (ap (λ (o : Speed). o.place) e)
          (omega (arith, never_above medium count first second third fourth journey leg t x, permitted_speed_maximum medium count first second third fourth t x, (valid_maximum t c.travelled.valid).1))

      on : (r place : ℕ) → RestrictedGround medium count (lent count first second third fourth) journey leg t x r place → RestrictedEnds medium count (no_speed r place)
      on r place (RestrictedGround.neither m e p) = RestrictedEnds.neither m e p refl
      on r place (RestrictedGround.bad_count b k c e p) = RestrictedEnds.counted b k c e p refl
      on r place (RestrictedGround.of_segment b k c g) = RestrictedEnds.refusal b k c (ground_own (λ s o. segment_listed b (own_listed b s r place o)) g) refl
      on r place (RestrictedGround.of_journey b k c w g) = RestrictedEnds.refusal b k c (journey_listed b journey r place g) refl
      on r place (RestrictedGround.of_travel b k c w j g) = RestrictedEnds.refusal b k c (travel_listed b g) refl
