-- The promises on the restricted speed: when a question is answered, with which speed, and on which ground it is refused.
use mathlib.Core.Path.{◌≡◌, refl, sym, ap, ◌∙◌, subst}
use mathlib.Core.Bool.{true, false}
use mathlib.Core.List.{List, [], ◌∷◌}
use mathlib.Core.Logic.{◌↔◌}
use Prim.Native.Nat.{ℕ, ◌≤◌}
use native.Mathlib.Omega.{arith}
use borrow.Author.Tests.{leb-true, ne_eqb, ltb-true, ltb-false, lt-ltb, le-ltb}
use lib.Dec.{ltb, leb}
use lib.ListN.{length}
use lib.Seq.{length-take-le}
use Rattle.bits.specs.Bits.{Bytes}
use Rattle.bits.proofs.Tests.{by_cases, and_right}
use Rattle.kinds.specs.declared.Item.{Item}
use Rattle.format.specs.Format.{Read, answer_of, sheet_numbers}
use Rattle.format.specs.Grounds.{OneEnding}
use Rattle.speed.specs.declared.Train.{Train}
use Rattle.speed.specs.Speed.{valid_train, segment_length}
use Rattle.speed.specs.Run.{Each, numbers_of, last_of}
use Rattle.speed_question.specs.declared.Speed.{Speed}
use Rattle.speed_question.specs.Question.{Brought, medium_of, Neither, no_speed, read_as, lent, run_count, RunRead, accepted, refused, judged_run, answer_of_run, run_asked}
use Rattle.speed_question.proofs.Asked.{asked_neither, asked_count, asked_run_lem}
use Rattle.promises.specs.Promised.{segment_of, RunOfValues}
use Rattle.promises.specs.Refused.{Refuses}
use Rattle.promises.proofs.Refused.{one_ending, of_values, own_refused}
use Rattle.promises.proofs.Runs.{run_accepted, run_of_values, run_refuses, run_on}
use Rattle.promises.proofs.Speeds.{asking}
use Rattle.legs.specs.Legs.{Leg, journey_legs}
use Rattle.legs.specs.Restricted.{restricted_in_run}
use Rattle.legs.specs.Travelled.{on_journey, travelled_legs, tail_before}
use Rattle.legs.proofs.Grounds.{on_journey_lem, off_journey_lem, journey_on, journey_off, travelled_count, legs_cases, legs_given, legs_fit, tail_before_lem, before_tail, behind_tail}
use Rattle.legs.proofs.Lowering.{length_map}
use Rattle.restricted.specs.Question.{journey_as, journey_read, restricted_on, restricted_of_run, restricted_speed}
use Rattle.restricted_promises.specs.Journey.{JourneyOfValues}
use Rattle.restricted_promises.specs.Promised.{Travels, TravelGround, Travelled, AnswerableOn, RestrictedGround}
use Rattle.restricted_promises.proofs.Journeys.{journeys, journeys_on}

abbrev said : Speed → ℕ × ℕ
said o = (o.refusal, o.place)

-- ---- the values of a run on the legs of a journey

module _ (count leg : ℕ) (t : Train) (x : ℕ) (v : List (List Item)) (l : List Leg) where
  abbrev told : Speed
  told = restricted_on count leg t x v l

  abbrev lsp : ℕ
  lsp = segment_length (last_of (numbers_of v))

  abbrev spoken : Speed
  spoken = record { refusal = 0; place = 0; speed = restricted_in_run t x (numbers_of v) (travelled_legs count leg l) }

  pub travel_value : Travelled count leg t x (numbers_of v) l → told ≡ spoken
  travel_value c =
      rw (journey_on count leg l c.travels.on, legs_fit c.travels.fit, c.valid, lt-ltb x lsp c.inside, behind_tail count leg t x (numbers_of v) c.behind)

  -- where all segments fit, 10, 11 and 26 are left
  last_cases : {C : Type 0} → Travels count leg (numbers_of v) l → (Travelled count leg t x (numbers_of v) l → C)
      → ((q place : ℕ) → TravelGround count leg t x (numbers_of v) l q place → told ≡ no_speed q place → 1 ≤ q → C) → C
  last_cases w f k =
      let on = journey_on count leg l w.on in
      let fit = legs_fit w.fit in
      by_cases (valid_train t)
      (λ valid. by_cases (ltb x lsp)
      (λ i. by_cases (tail_before count leg t x (numbers_of v))
      (λ b. k 26 0 (TravelGround.tail_before w valid (ltb-true x lsp i) (tail_before_lem count leg t x (numbers_of v) b) refl refl) (rw (on, fit, valid, i, b)) (omega arith))
      (λ b. f (record {
        travels = w;
        valid = valid;
        inside = ltb-true x lsp i;
        behind = λ h. let e : true ≡ false = sym (before_tail count leg t x (numbers_of v) h) ∙ b in let z : ◌≡◌ {A = ℕ} 0 1 = cc in omega arith;
      })))
      (λ i. k 11 0 (TravelGround.past_end w valid (ltb-false x lsp i) refl refl) (rw (on, fit, valid, i)) (omega arith)))
      (λ valid. k 10 0 (TravelGround.bad_train w valid refl refl) (rw (on, fit, valid)) (omega arith))

  -- the run is travelled, or there is a ground and it is refused on it
  pub travel_cases : {C : Type 0} → length (numbers_of v) ≡ count → (Travelled count leg t x (numbers_of v) l → C)
      → ((q place : ℕ) → TravelGround count leg t x (numbers_of v) l q place → told ≡ no_speed q place → 1 ≤ q → C) → C
  travel_cases long f k =
      by_cases (on_journey count leg l)
      (λ on. let h = on_journey_lem count leg l on in
      legs_cases (numbers_of v) (travelled_legs count leg l) (long ∙ sym (travelled_count count leg l h))
      (λ fit e. last_cases (record { on = h; fit = fit }) f k)
      (λ q g e i. k q 0 (TravelGround.of_leg h g refl) (rw (on, e, ne_eqb q 0 (λ z. omega arith))) i))
      (λ on. k 22 0 (TravelGround.off_journey (off_journey_lem count leg l on) refl refl) (rw on) (omega arith))

  travel_given : (q place : ℕ) → TravelGround count leg t x (numbers_of v) l q place → (told ≡ no_speed q place) × (1 ≤ q)
  travel_given q place (TravelGround.off_journey d e p) = (rw (journey_off count leg l d, e, p), omega arith)
  travel_given q place (TravelGround.of_leg h g p) =
      let e = legs_given g in
      let i = e.1 in
      (rw (journey_on count leg l h, e.0, ne_eqb q 0 (λ z. omega arith), p), i)
  travel_given q place (TravelGround.bad_train w valid e p) = (rw (journey_on count leg l w.on, legs_fit w.fit, valid, e, p), omega arith)
  travel_given q place (TravelGround.past_end w valid h e p) = (rw (journey_on count leg l w.on, legs_fit w.fit, valid, le-ltb x lsp h, e, p), omega arith)
  travel_given q place (TravelGround.tail_before w valid i h e p) =
      (rw (journey_on count leg l w.on, legs_fit w.fit, valid, lt-ltb x lsp i, before_tail count leg t x (numbers_of v) h, e, p), omega arith)

-- ---- the question

-- as many values as segments are lent
pub values_count : (b : Brought) (count : ℕ) (first second third fourth : List ℕ) → run_count count ≡ true → (w : RunOfValues b (lent count first second third fourth)) → length (numbers_of w.values) ≡ count
values_count b count first second third fourth few w =
    length_map sheet_numbers w.values ∙ sym (length_map (segment_of b) w.values) ∙ ap length (sym w.whole)
    ∙ length-take-le count (first ∷ second ∷ third ∷ fourth ∷ []) (leb-true count 4 (and_right (leb 1 count) (leb count 4) few))

module _ (medium count : ℕ) (first second third fourth journey : List ℕ) (leg : ℕ) (t : Train) (x : ℕ) where
  -- "They are lent apart, with a count": the run of a question, and its answer
  abbrev run : List (List ℕ)
  run = lent count first second third fourth

  abbrev answer : Speed
  answer = restricted_speed medium count first second third fourth journey leg t x

  lent_restricted : answer ≡ run_asked no_speed (restricted_of_run medium count journey leg t x) medium count run
  unfolding restricted_speed
  lent_restricted = refl

  -- "15, first of all, for a kind that is neither", whatever is lent
  pub restricted_speed_neither : Neither medium → answer ≡ no_speed 15 0
  restricted_speed_neither n = lent_restricted ∙ asked_neither no_speed (restricted_of_run medium count journey leg t x) medium count run n

  module _ (b : Brought) (k : medium ≡ medium_of b) where
    -- "16 for a run of none or more than 4, judged right after 15", whatever is lent
    pub restricted_speed_count : run_count count ≡ false → answer ≡ no_speed 16 0
    restricted_speed_count c = lent_restricted ∙ asked_count no_speed (restricted_of_run medium count journey leg t x) medium count run b k c

    -- the journey "is of the same kind as the segments"
    journey_same : journey_read medium journey ≡ journey_as b journey
    journey_same = by_medium b k
      where
        by_medium : (b : Brought) → medium ≡ medium_of b → journey_read medium journey ≡ journey_as b journey
        by_medium Brought.packet e = rw e
        by_medium Brought.sheet e = rw e

    abbrev of_journey : List (List Item) → Read → Speed
    of_journey v o = answer_of no_speed (λ m. restricted_on count leg t x v (journey_legs (sheet_numbers m))) o

    abbrev of_run : RunRead → Speed
    of_run o = answer_of_run no_speed (λ v. of_journey v (journey_as b journey)) o

    -- "each segment's own, in order; the journey's own"
    pub restricted_speed_judged : run_count count ≡ true → answer ≡ of_run (judged_run (read_as b) run)
    restricted_speed_judged c =
        lent_restricted ∙ asked_run_lem no_speed (restricted_of_run medium count journey leg t x) medium count run b k c
        ∙ ap (λ (o : Read). answer_of_run no_speed (λ v. of_journey v o) (judged_run (read_as b) run)) journey_same

    module _ (c : run_count count ≡ true) (w : RunOfValues b run) where
      of_run_lem : answer ≡ of_journey w.values (journey_as b journey)
      of_run_lem = restricted_speed_judged c ∙ ap of_run (run_accepted b run w)

      -- the answer from the values of the run and of the journey
      pub of_way : (j : JourneyOfValues b journey) → answer ≡ restricted_on count leg t x w.values (journey_legs (sheet_numbers j.values))
      of_way j = of_run_lem ∙ ap (of_journey w.values) (ap (journey_as b) j.whole ∙ (journeys b).again j.values j.good)

  -- a question that has an answer is answered with "the lowest of the permitted speed (A9, A10) and the speeds of the constraints that hold there"
  pub restricted_speed_value : (c : AnswerableOn medium count run journey leg t x)
      → answer ≡ record { refusal = 0; place = 0; speed = restricted_in_run t x (numbers_of c.of.values) (travelled_legs count leg (journey_legs (sheet_numbers c.way.values))) }
  restricted_speed_value c =
      of_way c.brought c.named c.few c.of c.way ∙ travel_value count leg t x c.of.values (journey_legs (sheet_numbers c.way.values)) c.travelled

  module _ (ok : Each Bytes run) (fine : Bytes journey) where
    -- every question can be answered, or has a ground and is refused with it
    pub ends : {C : Type 0} → (AnswerableOn medium count run journey leg t x → C)
        → ((r place : ℕ) → RestrictedGround medium count run journey leg t x r place → answer ≡ no_speed r place → 1 ≤ r → C) → C
    ends {C} f g =
        asking medium count (λ n. g 15 0 (RestrictedGround.neither n refl refl) (restricted_speed_neither n) (omega arith))
        (λ b k c. g 16 0 (RestrictedGround.bad_count b k c refl refl) (restricted_speed_count b k c) (omega arith)) (λ b k c. go b k c (judged_run (read_as b) run) refl)
      where
        way : (b : Brought) (k : medium ≡ medium_of b) (c : run_count count ≡ true) (w : RunOfValues b run) → (o : Read) → journey_as b journey ≡ o → C
        way b k c w (Read.refused q p) a =
            g q p (RestrictedGround.of_journey b k c w (((journeys_on b).refused_on journey q p fine).0 a)) (of_run_lem b k c w ∙ ap (of_journey b k w.values) a) ((journeys b).refuses journey fine q p a)
        way b k c w (Read.accepted m) a =
            let j = of_values (journeys b) (journeys_on b) journey fine m a in
            let e = of_way b k c w j in
            travel_cases count leg t x w.values (journey_legs (sheet_numbers m)) (values_count b count first second third fourth c w)
            (λ h. f (record { brought = b; named = k; few = c; of = w; way = j; travelled = h }))
            (λ q p h d i. g q p (RestrictedGround.of_travel b k c w j h) (e ∙ d) i)

        go : (b : Brought) → medium ≡ medium_of b → run_count count ≡ true → (o : RunRead) → judged_run (read_as b) run ≡ o → C
        go b k c (refused q p) a = g q p (RestrictedGround.of_segment b k c ((run_on b run ok q p).0 a)) (restricted_speed_judged b k c ∙ ap (of_run b k) a) (run_refuses b run ok q p a)
        go b k c (accepted v) a = way b k c (run_of_values b run ok v a) (journey_as b journey) refl

    -- a question is answered exactly for a medium of 0 or 1, a count of 1 to 4, segments and a journey of good values, and a run that is travelled on it
    pub restricted_speed_answered : (answer.refusal ≡ 0) ↔ AnswerableOn medium count run journey leg t x
    restricted_speed_answered = (
      λ d. ends (λ c. c) (λ r place g e h. absurd (omega (arith, ap (λ (o : Speed). o.refusal) e))),
      λ c. ap (λ (o : Speed). o.refusal) (restricted_speed_value c),
    )

    -- "Each refusal is given then and not otherwise"
    pub restricted_speed_refused : (r place : ℕ) → Refuses (answer.refusal, answer.place) r place ↔ RestrictedGround medium count run journey leg t x r place
    restricted_speed_refused r place = (only, given)
      where
        only : Refuses (said answer) r place → RestrictedGround medium count run journey leg t x r place
        only q =
            let h = q.1 in
            ends (λ c. absurd (omega (arith, ap (λ (u : ℕ × ℕ). u.0) (sym (ap said (restricted_speed_value c)) ∙ q.0))))
            (λ n p g e _. subst (λ (u : ℕ × ℕ). RestrictedGround medium count run journey leg t x u.0 u.1) (sym (ap said e) ∙ q.0) g)

        given : RestrictedGround medium count run journey leg t x r place → Refuses (said answer) r place
        given (RestrictedGround.neither n e p) = (ap said (restricted_speed_neither n) ∙ rw (e, p), omega arith)
        given (RestrictedGround.bad_count b k c e p) = (ap said (restricted_speed_count b k c) ∙ rw (e, p), omega arith)
        given (RestrictedGround.of_segment b k c g) =
            let a = (run_on b run ok r place).1 g in
            (ap said (restricted_speed_judged b k c ∙ ap (of_run b k) a), run_refuses b run ok r place a)
        given (RestrictedGround.of_journey b k c w g) =
            let e = own_refused (journeys b) (journeys_on b) journey fine r place g in
            (ap said (of_run_lem b k c w ∙ ap (of_journey b k w.values) e.0), e.1)
        given (RestrictedGround.of_travel b k c w j g) =
            let e = travel_given count leg t x w.values (journey_legs (sheet_numbers j.values)) r place g in
            (ap said (of_way b k c w j ∙ e.0), e.1)

    -- "an answer or the one refusal"
    pub restricted_speed_ending : OneEnding (AnswerableOn medium count run journey leg t x) {I = ℕ × ℕ} (λ p. RestrictedGround medium count run journey leg t x p.0 p.1)
    restricted_speed_ending = one_ending (said answer) restricted_speed_answered restricted_speed_refused

    -- "It returns its number with .. speed .. 0"
    pub restricted_speed_none : (answer.refusal ≡ 0 → ⊥) → answer.speed ≡ 0
    restricted_speed_none n = ends (λ c. absurd (n (restricted_speed_answered.1 c))) (λ r place g e h. ap (λ (o : Speed). o.speed) e)

-- "those past it are not read": questions that agree in the segments up to the count have one answer
pub restricted_speed_past : (medium count : ℕ) (a b c d e f g h journey : List ℕ) (leg : ℕ) (t : Train) (x : ℕ) → lent count a b c d ≡ lent count e f g h
    → restricted_speed medium count a b c d journey leg t x ≡ restricted_speed medium count e f g h journey leg t x
restricted_speed_past medium count a b c d e f g h journey leg t x same =
    lent_restricted medium count a b c d journey leg t x ∙ ap (λ (r : List (List ℕ)). run_asked no_speed (restricted_of_run medium count journey leg t x) medium count r) same
    ∙ sym (lent_restricted medium count e f g h journey leg t x)
