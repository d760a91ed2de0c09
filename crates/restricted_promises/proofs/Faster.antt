-- "Longer or slower never means faster", for the restricted speed: a longer train, a lower maximum, one restriction more, a restriction to a lower speed.
use mathlib.Core.Path.{◌≡◌, refl, sym, ap, ◌∙◌, subst}
use mathlib.Core.List.{List, [], ◌∷◌}
use Prim.Native.Nat.{ℕ, ◌≤◌, ◌<◌}
use native.Mathlib.Omega.{arith}
use lib.Dec.{lit≤}
use Rattle.bits.specs.Bits.{Bytes}
use Rattle.bits.proofs.Tests.{by_cases}
use Rattle.kinds.specs.declared.Item.{Item}
use Rattle.format.specs.Format.{sheet_numbers}
use Rattle.format.specs.Conforming.{Conforming, InSheet}
use Rattle.format.proofs.Lawful.{to_sheet_lem}
use Rattle.grammar.specs.journey.Journey.{journey_sheet, constraints}
use Rattle.grammar.proofs.journey.Ends.{sheet_lawful}
use Rattle.speed.specs.declared.Train.{Train}
use Rattle.speed.specs.Speed.{segment_length}
use Rattle.speed.specs.Run.{Each, EachTwo, none, another, numbers_of, last_of, speed_in_run}
use Rattle.speed.specs.Faster.{Slower}
use Rattle.speed.proofs.Runs.{AsLong}
use Rattle.speed.proofs.Faster.{limited_slower}
use Rattle.speed.proofs.Raised as raised
use Rattle.speed_question.specs.declared.Speed.{Speed}
use Rattle.speed_question.specs.Question.{Brought, medium_of, lent, run_count}
use Rattle.promises.specs.Promised.{GoodIn, SegmentValues, RunOfValues, with_maximum}
use Rattle.promises.specs.Faster.{NotFaster, with_length}
use Rattle.promises.proofs.Ranges.{good_sheet}
use Rattle.legs.specs.Legs.{journey_legs}
use Rattle.legs.specs.Restricted.{restricted_in_run}
use Rattle.legs.specs.Travelled.{travelled_legs}
use Rattle.legs.specs.Faster.{LegsTighter}
use Rattle.legs.proofs.Faster.{restrictions_tighter, travelled_tighter, legs_stay}
use Rattle.legs.proofs.Raised.{journey_raised}
use Rattle.restricted.specs.Question.{restricted_speed}
use Rattle.restricted_promises.specs.Journey.{JourneyOfValues}
use Rattle.restricted_promises.specs.Faster.{TighterJourney, RaisedJourney}
use Rattle.restricted_promises.proofs.Speeds.{travel_value, travel_cases, values_count, restricted_speed_count, of_way, restricted_speed_answered}

-- ---- a run against itself

as_long : (r : List (List ℕ)) → AsLong r r
as_long [] = none
as_long (s ∷ r) = another refl (as_long r)

sheet_values : (b : Brought) {l : List Item} → SegmentValues b l → SegmentValues Brought.sheet l
sheet_values Brought.packet c = good_sheet c
sheet_values Brought.sheet c = c

stays : (b : Brought) (v : List (List Item)) → Each (SegmentValues b) v → EachTwo raised.SheetRaised v v
stays b [] c = none
stays b (l ∷ v) c = another (record { here = sheet_values b c.0; there = sheet_values b c.0; raising = raised.raising_stays c.0 }) (stays b v c.1)

-- ---- an accepted question about good values

module _ (b : Brought) (count : ℕ) (first second third fourth journey : List ℕ) (leg : ℕ) (t : Train) (x : ℕ)
    (w : RunOfValues b (lent count first second third fourth)) (j : JourneyOfValues b journey) where
  abbrev answer : Speed
  answer = restricted_speed (medium_of b) count first second third fourth journey leg t x

  -- its speed, and that x lies in the last segment
  accepted_speed : answer.refusal ≡ 0
      → (answer.speed ≡ restricted_in_run t x (numbers_of w.values) (travelled_legs count leg (journey_legs (sheet_numbers j.values)))) × (x < segment_length (last_of (numbers_of w.values)))
  accepted_speed ok =
      by_cases (run_count count)
      (λ few. let e = of_way (medium_of b) count first second third fourth journey leg t x b refl few w j in
      let l = journey_legs (sheet_numbers j.values) in
      travel_cases count leg t x w.values l (values_count b count first second third fourth few w)
      (λ h. (ap (λ (o : Speed). o.speed) (e ∙ travel_value count leg t x w.values l h), h.inside))
      (λ q place g d i. absurd (omega (arith, ok, ap (λ (o : Speed). o.refusal) (e ∙ d)))))
      (λ many. absurd (omega (arith, ok, ap (λ (o : Speed). o.refusal) (restricted_speed_count (medium_of b) count first second third fourth journey leg t x b refl many))))

-- ---- a journey whose speeds are raised

good_journey : (b : Brought) {l : List Item} → Conforming (GoodIn b) (journey_sheet constraints) l → Conforming InSheet (journey_sheet constraints) l
good_journey Brought.packet c = to_sheet_lem (sheet_lawful constraints (lit≤ tt)) c
good_journey Brought.sheet c = c

abbrev tighter_than_raised : (b : Brought) {s t : List ℕ} → RaisedJourney b s t → TighterJourney b s t
tighter_than_raised b r = record {
  values = r.values;
  other = r.higher;
  tighter = journey_raised r.values.values r.higher.values (good_journey b r.values.good.good) (good_journey b r.higher.good.good) r.raising;
}

slower_itself : (t : Train) → Slower t t
slower_itself t = record { longer = omega arith; lower = omega arith; alike = record { cant = refl; in_p = refl; in_g = refl; passengers = refl } }

-- ==== "Longer or slower never means faster."

module _ (b : Brought) (count : ℕ) (first second third fourth : List ℕ) (leg : ℕ) (u t : Train) (x : ℕ) (slower : Slower u t) (w : RunOfValues b (lent count first second third fourth)) where
  -- for a train that is as long or longer and has the same or a lower maximum, on a journey that restricts as the other does or more: all at once
  on_values : (journey way : List ℕ) (j : JourneyOfValues b journey) (k : JourneyOfValues b way) → LegsTighter (journey_legs (sheet_numbers j.values)) (journey_legs (sheet_numbers k.values))
      → NotFaster (restricted_speed (medium_of b) count first second third fourth journey leg u x) (restricted_speed (medium_of b) count first second third fourth way leg t x)
  on_values journey way j k tight p q =
      let n = numbers_of w.values in
      let low = accepted_speed b count first second third fourth journey leg u x w j p in
      let high = accepted_speed b count first second third fourth way leg t x w k q in
      let profile = raised.never_faster u t slower x (stays b w.values w.good) high.1 in
      omega (
        arith,
        low.0,
        high.0,
        restrictions_tighter u t slower.longer x (limited_slower u t slower (speed_in_run u x n) (speed_in_run t x n) profile) (as_long n) (travelled_tighter count leg tight),
      )

same_brought : (a b : Brought) → medium_of a ≡ medium_of b → a ≡ b
same_brought Brought.packet Brought.packet e = refl
same_brought Brought.packet Brought.sheet e = absurd (omega arith)
same_brought Brought.sheet Brought.packet e = absurd (omega arith)
same_brought Brought.sheet Brought.sheet e = refl

module _ (b : Brought) (count : ℕ) (first second third fourth journey way : List ℕ) (leg : ℕ) (u t : Train) (x : ℕ) (ok : Each Bytes (lent count first second third fourth)) (fine : Bytes way) where
  -- one restriction more, a restriction to a lower speed, a longer train, a lower maximum: all at once
  pub tighter_never_faster : Slower u t → TighterJourney b journey way
      → NotFaster (restricted_speed (medium_of b) count first second third fourth journey leg u x) (restricted_speed (medium_of b) count first second third fourth way leg t x)
  tighter_never_faster slower k p q =
      let c = (restricted_speed_answered (medium_of b) count first second third fourth way leg t x ok fine).0 q in
      let w : RunOfValues b (lent count first second third fourth) = subst (λ (a : Brought). RunOfValues a (lent count first second third fourth)) (sym (same_brought b c.brought c.named)) c.of in
      on_values b count first second third fourth leg u t x slower w journey way k.values k.other k.tighter p q

module _ (b : Brought) (count : ℕ) (first second third fourth journey way : List ℕ) (leg : ℕ) (t : Train) (x : ℕ) (ok : Each Bytes (lent count first second third fourth)) (fine : Bytes way) where
  -- one restriction more never raises an answer
  pub restriction_never_raises : TighterJourney b journey way
      → NotFaster (restricted_speed (medium_of b) count first second third fourth journey leg t x) (restricted_speed (medium_of b) count first second third fourth way leg t x)
  restriction_never_raises k = tighter_never_faster b count first second third fourth journey way leg t t x ok fine (slower_itself t) k

  -- a higher restriction never lowers one: "raising any speed in the sheet never lowers an answer", any number of them at once
  pub raised_never_slower : RaisedJourney b journey way
      → NotFaster (restricted_speed (medium_of b) count first second third fourth journey leg t x) (restricted_speed (medium_of b) count first second third fourth way leg t x)
  raised_never_slower r = restriction_never_raises (tighter_than_raised b r)

module _ (medium count : ℕ) (first second third fourth journey : List ℕ) (leg : ℕ) (t : Train) (x : ℕ) (ok : Each Bytes (lent count first second third fourth)) (fine : Bytes journey) where
  -- about one run and one journey
  pub slower_never_faster : (u : Train) → Slower u t
      → NotFaster (restricted_speed medium count first second third fourth journey leg u x) (restricted_speed medium count first second third fourth journey leg t x)
  slower_never_faster u slower p q =
      let c = (restricted_speed_answered medium count first second third fourth journey leg t x ok fine).0 q in
      subst (λ (m : ℕ). NotFaster (restricted_speed m count first second third fourth journey leg u x) (restricted_speed m count first second third fourth journey leg t x)) (sym c.named)
      (on_values c.brought count first second third fourth leg u t x slower c.of journey journey c.way c.way (legs_stay (journey_legs (sheet_numbers c.way.values)))) p q

  -- "a longer train never gets a higher speed at the same location"
  pub longer_never_faster : (n : ℕ) → t.length ≤ n
      → NotFaster (restricted_speed medium count first second third fourth journey leg (with_length n t) x) (restricted_speed medium count first second third fourth journey leg t x)
  longer_never_faster n h =
      slower_never_faster (with_length n t) (record { longer = h; lower = omega arith; alike = record { cant = refl; in_p = refl; in_g = refl; passengers = refl } })

  -- "a lower card maximum never raises one"
  pub lower_never_raises : (n : ℕ) → n ≤ t.maximum
      → NotFaster (restricted_speed medium count first second third fourth journey leg (with_maximum n t) x) (restricted_speed medium count first second third fourth journey leg t x)
  lower_never_raises n h =
      slower_never_faster (with_maximum n t) (record { longer = omega arith; lower = h; alike = record { cant = refl; in_p = refl; in_g = refl; passengers = refl } })
