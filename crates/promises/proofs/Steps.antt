-- The promises on a supplier's steps: accepted exactly when the question about each centimetre answers the step's speed, refused exactly on a ground, and each refusal is given.
use mathlib.Core.Path.{◌≡◌, refl, sym, ap, ◌∙◌, subst}
use mathlib.Core.Bool.{true, false}
use mathlib.Core.List.{List, ◌∷◌, ◌++◌, map}
use mathlib.Core.Logic.{◌↔◌}
use mathlib.Core.Option.{Option, none, some}
use Prim.Native.Nat.{ℕ, ◌≤◌, ◌<◌}
use native.Mathlib.Omega.{arith}
use borrow.Author.Tests.{eqb-true, eq-eqb}
use Rattle.bits.specs.Bits.{Bytes, field_at}
use Rattle.bits.proofs.Tests.{by_cases}
use Rattle.numbers.specs.Numbers.{number_of, groups_in}
use Rattle.kinds.specs.declared.Item.{Item}
use Rattle.kinds.specs.Kinds.{digits}
use Rattle.kinds.specs.Tables.{place}
use Rattle.format.specs.Grounds.{OneEnding, Among}
use Rattle.grammar.specs.segment.Segment.{entries, changes, lists, body, fields, sheet_fields}
use Rattle.grammar.specs.segment.Judgement.{from_packet, from_sheet, to_packet, to_sheet}
use Rattle.speed.specs.declared.Train.{Train}
use Rattle.speed.specs.Speed.{valid_train, segment_length}
use Rattle.speed.specs.Run.{Each, numbers_of, last_of}
use Rattle.speed_question.specs.declared.Speed.{Speed}
use Rattle.speed_question.specs.Question.{Brought, medium_of, Neither, read_as, lent, run_count, RunRead, accepted, refused, judged_run, answer_of_run, run_asked, permitted_speed}
use Rattle.speed_question.proofs.Asked.{asked_neither, asked_count, asked_run_lem}
use Rattle.steps.specs.declared.Checked.{Checked}
use Rattle.steps.specs.Steps.{stepped, step_speed, right, first_wrong, not_checked, our_speed, checked_steps, steps_of_run, check_steps, FirstWrong}
use Rattle.steps.proofs.First.{counted_none, counted_some}
use Rattle.steps.proofs.Starts.{steps_rising, stepped_some, stepped_most, stepped_same, stepped_zero, stepped_rising, rises, lies, rising_given, step_at_lem, step_there}
use Rattle.steps.proofs.Checking.{lent_checked, accepted_exactly, wrong_exactly}
use Rattle.promises.specs.Promised.{RunOfValues}
use Rattle.promises.specs.Refused.{Refuses, placeless}
use Rattle.promises.specs.Ranges.{OneOutcome}
use Rattle.promises.specs.Steps.{Stepped, Gives, RightSteps, WrongFirst, StepsGround, steps_refusals, StepsEnds, asked_steps}
use Rattle.promises.proofs.Refused.{one_ending, one_outcome}
use Rattle.promises.proofs.Runs.{run_accepted, run_of_values, run_refuses, run_on, ground_own}
use Rattle.promises.proofs.Ranges.{own_among, late_among}
use Rattle.promises.proofs.Speeds.{asking, permitted_speed_value}
use Rattle.promises.proofs.Placeless.{placed, segment_place}

-- ---- the steps, as statements

module _ (lsp : ℕ) (starts speeds : List ℕ) where
  pub stepped_is : stepped lsp starts speeds ≡ true → Stepped lsp starts speeds
  stepped_is e =
      let r = stepped_rising lsp starts speeds e in
      record {
        some = stepped_some lsp starts speeds e;
        most = stepped_most lsp starts speeds e;
        equal = stepped_same lsp starts speeds e;
        first = stepped_zero lsp starts speeds e;
        rise = rises lsp starts r;
        below = lies lsp starts r;
      }

  pub is_stepped : Stepped lsp starts speeds → stepped lsp starts speeds ≡ true
  is_stepped s = sym (steps_rising lsp starts speeds s.some s.most s.equal s.first) ∙ rising_given lsp starts s.rise s.below

module _ (medium count : ℕ) (first second third fourth : List ℕ) (t : Train) (starts speeds : List ℕ) where
  -- "They are lent apart, with a count": the run of a check, the question about a place of it, and the answer
  abbrev run : List (List ℕ)
  run = lent count first second third fourth

  abbrev question : ℕ → Speed
  question x = permitted_speed medium count first second third fourth t x

  abbrev answer : Checked
  answer = check_steps medium count first second third fourth t starts speeds

  abbrev said : Checked → ℕ × ℕ
  said o = (o.refusal, o.place)

  abbrev of_run : RunRead → Checked
  of_run o = answer_of_run not_checked (steps_of_run t starts speeds) o

  -- "15, first of all, for a kind that is neither", whatever is lent
  pub check_steps_neither : Neither medium → answer ≡ not_checked 15 0
  check_steps_neither n = lent_checked medium count first second third fourth t starts speeds ∙ asked_neither not_checked (steps_of_run t starts speeds) medium count run n

  module _ (b : Brought) (k : medium ≡ medium_of b) where
    -- "16 for a run of none or more than 4, judged right after 15", whatever is lent
    pub check_steps_count : run_count count ≡ false → answer ≡ not_checked 16 0
    check_steps_count c = lent_checked medium count first second third fourth t starts speeds ∙ asked_count not_checked (steps_of_run t starts speeds) medium count run b k c

    -- "those of the speed question without 11; then 18 ..; then 19"
    pub check_steps_judged : run_count count ≡ true → answer ≡ of_run (judged_run (read_as b) run)
    check_steps_judged c = lent_checked medium count first second third fourth t starts speeds ∙ asked_run_lem not_checked (steps_of_run t starts speeds) medium count run b k c

    -- ---- at a centimetre of an accepted run, for a valid train

    module _ (c : run_count count ≡ true) (w : RunOfValues b run) (valid : valid_train t ≡ true) where
      abbrev lsp : ℕ
      lsp = segment_length (last_of (numbers_of w.values))

      abbrev ours : ℕ → ℕ
      ours = our_speed t w.values

      answers : (x : ℕ) → x < lsp → question x ≡ record { refusal = 0; place = 0; speed = ours x }
      answers x h = permitted_speed_value medium count first second third fourth t x (record { brought = b; named = k; few = c; of = w; valid = valid; inside = h })

      module _ (s : Stepped lsp starts speeds) where
        gives : (x : ℕ) → x < lsp → step_speed 0 x starts speeds ≡ ours x → Gives starts speeds question x
        gives x h e =
            let r = rising_given lsp starts s.rise s.below in
            step_there lsp x starts r s.some (omega (arith, s.first)) λ i inside before last.
            record {
              number = i;
              step = record { inside = inside; before = before; last = last };
              answers = answers x h ∙ ap (λ (v : ℕ). record { refusal = 0; place = 0; speed = v }) (sym e ∙ step_at_lem lsp 0 x i starts speeds r s.equal inside before last);
            }

        given : (x : ℕ) → x < lsp → Gives starts speeds question x → step_speed 0 x starts speeds ≡ ours x
        given x h g =
            let r = rising_given lsp starts s.rise s.below in
            step_at_lem lsp 0 x g.number starts speeds r s.equal g.step.inside g.step.before g.step.last
            ∙ ap (λ (o : Speed). o.speed) (sym g.answers ∙ answers x h)

        -- the first wrong centimetre, counted and by the question's answers
        wrong_first : (c : ℕ) → FirstWrong lsp (right ours starts speeds) c → WrongFirst lsp starts speeds question c
        wrong_first c f =
            record {
              inside = f.inside;
              wrong = λ g. let z : true ≡ false = sym (eq-eqb (step_speed 0 c starts speeds) (ours c) (given c f.inside g)) ∙ f.wrong in let y : ◌≡◌ {A = ℕ} 0 1 = cc in omega arith;
              before = λ x h. let i = f.inside in gives x (omega arith) (eqb-true (step_speed 0 x starts speeds) (ours x) (f.before x h));
            }

        first_wrong_lem : (c : ℕ) → WrongFirst lsp starts speeds question c → FirstWrong lsp (right ours starts speeds) c
        first_wrong_lem c f =
            record {
              inside = f.inside;
              wrong = by_cases (right ours starts speeds c) (λ e. absurd (f.wrong (gives c f.inside (eqb-true (step_speed 0 c starts speeds) (ours c) e)))) (λ e. e);
              before = λ x h. let i = f.inside in eq-eqb (step_speed 0 x starts speeds) (ours x) (given x (omega arith) (f.before x h));
            }

  -- a list that is accepted is answered with 0 and the place 0
  pub check_steps_right : RightSteps medium count run t starts speeds question → answer ≡ not_checked 0 0
  check_steps_right a =
      let n = segment_length (last_of (numbers_of a.of.values)) in
      check_steps_judged a.brought a.named a.few ∙ ap of_run (run_accepted a.brought run a.of)
      ∙ rw a.valid
      ((accepted_exactly n (our_speed t a.of.values) starts speeds).1
      (record {
        steps = is_stepped n starts speeds a.steps;
        everywhere = λ x h. given a.brought a.named a.few a.of a.valid a.steps x h (a.everywhere x h);
      }))

  module _ (ok : Each Bytes run) where
    -- every list is accepted, or has a ground and is refused with it
    ends : {C : Type 0} → (RightSteps medium count run t starts speeds question → C)
        → ((r place : ℕ) → StepsGround medium count run t starts speeds question r place → answer ≡ not_checked r place → 1 ≤ r → C) → C
    ends {C} f g =
        asking medium count (λ n. g 15 0 (StepsGround.neither n refl refl) (check_steps_neither n) (omega arith))
        (λ b k c. g 16 0 (StepsGround.bad_count b k c refl refl) (check_steps_count b k c) (omega arith)) (λ b k c. go b k c (judged_run (read_as b) run) refl)
      where
        look : (b : Brought) (k : medium ≡ medium_of b) (c : run_count count ≡ true) (w : RunOfValues b run) (d : valid_train t ≡ true) → answer ≡ steps_of_run t starts speeds w.values
            → (s : stepped (segment_length (last_of (numbers_of w.values))) starts speeds ≡ true) → (o : Option ℕ)
            → first_wrong (segment_length (last_of (numbers_of w.values))) 0 (right (our_speed t w.values) starts speeds) ≡ o → C
        look b k c w d e s none q =
            let n = segment_length (last_of (numbers_of w.values)) in
            let p = right (our_speed t w.values) starts speeds in
            let z = stepped_is n starts speeds s in
            f (record {
              brought = b;
              named = k;
              few = c;
              of = w;
              valid = d;
              steps = z;
              everywhere = λ x h. gives b k c w d z x h (eqb-true (step_speed 0 x starts speeds) (our_speed t w.values x) (counted_none p n q x h));
            })
        look b k c w d e s (some i) q =
            let n = segment_length (last_of (numbers_of w.values)) in
            let p = right (our_speed t w.values) starts speeds in
            let z = stepped_is n starts speeds s in
            g 19 i (StepsGround.wrong_speed b k c w d z (wrong_first b k c w d z i (counted_some p n i q)) refl) (e ∙ rw (d, s, q)) (omega arith)

        go : (b : Brought) → medium ≡ medium_of b → run_count count ≡ true → (o : RunRead) → judged_run (read_as b) run ≡ o → C
        go b k c (refused q p) a = g q p (StepsGround.own b k c ((run_on b run ok q p).0 a)) (check_steps_judged b k c ∙ ap of_run a) (run_refuses b run ok q p a)
        go b k c (accepted v) a =
            let n = segment_length (last_of (numbers_of v)) in
            let w = run_of_values b run ok v a in
            let e = check_steps_judged b k c ∙ ap of_run a in
            by_cases (valid_train t)
            (λ d. by_cases (stepped n starts speeds)
            (λ s. look b k c w d e s (first_wrong n 0 (right (our_speed t v) starts speeds)) refl)
            (λ s. g 18 0 (StepsGround.bad_steps b k c w d (λ z. let y : true ≡ false = sym (is_stepped n starts speeds z) ∙ s in let x : ◌≡◌ {A = ℕ} 0 1 = cc in omega arith) refl refl) (e ∙ rw (d, s)) (omega arith)))
            (λ d. g 10 0 (StepsGround.bad_train b k c w d refl refl) (e ∙ rw d) (omega arith))

    -- "Accept it exactly when ..": accepted exactly when at every centimetre the question answers the step's speed
    pub check_steps_accepted : (answer.refusal ≡ 0) ↔ RightSteps medium count run t starts speeds question
    check_steps_accepted = (
      λ d. ends (λ a. a) (λ r place g e h. absurd (omega (arith, ap (λ (o : Checked). o.refusal) e))),
      λ a. ap (λ (o : Checked). o.refusal) (check_steps_right a),
    )

    -- "Each refusal is given then and not otherwise"; 19 exactly with the first wrong centimetre
    pub check_steps_refused : (r place : ℕ) → Refuses (answer.refusal, answer.place) r place ↔ StepsGround medium count run t starts speeds question r place
    check_steps_refused r place = (only, back)
      where
        only : Refuses (said answer) r place → StepsGround medium count run t starts speeds question r place
        only q =
            let h = q.1 in
            ends (λ a. absurd (omega (arith, ap (λ (u : ℕ × ℕ). u.0) (sym (ap said (check_steps_right a)) ∙ q.0))))
            (λ n p g e _. subst (λ (u : ℕ × ℕ). StepsGround medium count run t starts speeds question u.0 u.1) (sym (ap said e) ∙ q.0) g)

        -- the answer from what the run is judged to be
        from : (b : Brought) → medium ≡ medium_of b → run_count count ≡ true → (o : RunRead) → judged_run (read_as b) run ≡ o → said answer ≡ said (of_run o)
        from b k c o a = ap said (check_steps_judged b k c ∙ ap of_run a)

        values : (b : Brought) → medium ≡ medium_of b → run_count count ≡ true → (w : RunOfValues b run) → said answer ≡ said (steps_of_run t starts speeds w.values)
        values b k c w = from b k c (accepted w.values) (run_accepted b run w)

        bad : (v : List (List Item)) → valid_train t ≡ false → said (steps_of_run t starts speeds v) ≡ (10, 0)
        bad v f = rw f

        unstepped : (v : List (List Item)) → valid_train t ≡ true → (Stepped (segment_length (last_of (numbers_of v))) starts speeds → ⊥) → said (steps_of_run t starts speeds v) ≡ (18, 0)
        unstepped v f n =
            let lsp = segment_length (last_of (numbers_of v)) in
            by_cases (stepped lsp starts speeds) (λ s. absurd (n (stepped_is lsp starts speeds s))) (λ s. rw (f, s))

        wrong : (v : List (List Item)) (c : ℕ) → valid_train t ≡ true → checked_steps (segment_length (last_of (numbers_of v))) (our_speed t v) starts speeds ≡ not_checked 19 c
            → said (steps_of_run t starts speeds v) ≡ (19, c)
        wrong v c f e = rw f (ap said e)

        back : StepsGround medium count run t starts speeds question r place → Refuses (said answer) r place
        back (StepsGround.neither n e p) = (ap said (check_steps_neither n) ∙ rw (e, p), omega arith)
        back (StepsGround.bad_count b k c e p) = (ap said (check_steps_count b k c) ∙ rw (e, p), omega arith)
        back (StepsGround.own b k c g) = let a = (run_on b run ok r place).1 g in (from b k c (refused r place) a, run_refuses b run ok r place a)
        back (StepsGround.bad_train b k c w f e p) = (values b k c w ∙ bad w.values f ∙ rw (e, p), omega arith)
        back (StepsGround.bad_steps b k c w f n e p) = (values b k c w ∙ unstepped w.values f n ∙ rw (e, p), omega arith)
        back (StepsGround.wrong_speed b k c w f s h e) =
            let n = segment_length (last_of (numbers_of w.values)) in
            let x = (wrong_exactly n (our_speed t w.values) starts speeds place).1 (is_stepped n starts speeds s, first_wrong_lem b k c w f s place h) in
            (values b k c w ∙ wrong w.values place f x ∙ rw e, omega arith)

    -- "an answer or the one refusal"
    pub check_steps_ending : OneEnding (RightSteps medium count run t starts speeds question) {I = ℕ × ℕ} (λ p. StepsGround medium count run t starts speeds question p.0 p.1)
    check_steps_ending = one_ending (said answer) check_steps_accepted check_steps_refused

    -- "one possible outcome for every input": the refusals of the C header
    pub check_steps_outcome : OneOutcome answer (StepsEnds medium count)
    check_steps_outcome = one_outcome answer (ends success (λ r place g e h. rw e (on r place g)))
      where
        success : RightSteps medium count run t starts speeds question → StepsEnds medium count answer
        success a = rw (check_steps_right a) (StepsEnds.success a.brought a.named a.few refl refl)

        on : (r place : ℕ) → StepsGround medium count run t starts speeds question r place → StepsEnds medium count (not_checked r place)
        on r place (StepsGround.neither n e p) = StepsEnds.neither n e p
        on r place (StepsGround.bad_count b k c e p) = StepsEnds.counted b k c e p
        on r place (StepsGround.own b k c g) = StepsEnds.refusal b k c (ground_own (λ s o. own_among steps_refusals refl refl b s r place o) g)
        on r place (StepsGround.bad_train b k c w f e p) = StepsEnds.refusal b k c (rw e (late_among steps_refusals 10 refl refl b))
        on r place (StepsGround.bad_steps b k c w f n e p) = StepsEnds.refusal b k c (rw e (late_among steps_refusals 18 refl refl b))
        on r place (StepsGround.wrong_speed b k c w f s h e) = StepsEnds.refusal b k c (rw e (late_among steps_refusals 19 refl refl b))

    -- "unless said, numbers above 13 it is 0": only 19 and a segment's own have a place
    pub check_steps_placeless : Among answer.refusal placeless → answer.place ≡ 0
    check_steps_placeless a =
        ends (λ r. ap (λ (o : Checked). o.place) (check_steps_right r))
        (λ r place g e h. ap (λ (o : Checked). o.place) e ∙ at_zero r place g (rw (ap (λ (o : Checked). o.refusal) e) at a))
      where
        at_zero : (r place : ℕ) → StepsGround medium count run t starts speeds question r place → Among r placeless → place ≡ 0
        at_zero r place (StepsGround.neither n e p) m = p
        at_zero r place (StepsGround.bad_count b k c e p) m = p
        at_zero r place (StepsGround.own b k c g) m = ground_own (λ s o. segment_place b s r place o m) g
        at_zero r place (StepsGround.bad_train b k c w f e p) m = p
        at_zero r place (StepsGround.bad_steps b k c w f n e p) m = p
        at_zero r place (StepsGround.wrong_speed b k c w f s h e) m = placed 19 e m refl

-- "those past it are not read": lists that are checked with segments that agree up to the count have one answer
pub check_steps_past : (medium count : ℕ) (a b c d e f g h : List ℕ) (t : Train) (starts speeds : List ℕ) → lent count a b c d ≡ lent count e f g h
    → check_steps medium count a b c d t starts speeds ≡ check_steps medium count e f g h t starts speeds
unfolding check_steps
check_steps_past medium count a b c d e f g h t starts speeds same = ap (λ (r : List (List ℕ)). run_asked not_checked (steps_of_run t starts speeds) medium count r) same

-- each refusal is given
pub check_steps_reached : map (λ o. o.refusal) asked_steps ≡ 15 ∷ 16 ∷ 16 ∷ steps_refusals Brought.packet ++ steps_refusals Brought.sheet
unfolding field_at number_of groups_in digits place entries changes lists body fields sheet_fields from_packet from_sheet to_packet to_sheet first_wrong check_steps
check_steps_reached = refl
