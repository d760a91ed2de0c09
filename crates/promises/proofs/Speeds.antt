-- The promises on speeds, for runs of packets and of sheets by one law: when a question is answered, with which speed, and on which ground it is refused.
-- A question about one segment is one with a count of 1. The profile's speed has its own promises, and the card's maximum is one step above it.
use mathlib.Core.Path.{◌≡◌, refl, sym, ap, ◌∙◌, subst}
use mathlib.Core.Bool.{true, false}
use mathlib.Core.List.{List, [], ◌∷◌, map}
use mathlib.Core.Logic.{◌↔◌, ◌⊎◌, inl, inr}
use Prim.Native.Nat.{ℕ, ◌+◌, ◌*◌, ◌/◌, ◌≤◌, ◌<◌, min}
use native.Mathlib.Omega.{arith}
use borrow.Author.Tests.{leb-true, leb-false, ltb-true, ltb-false, lt-ltb, le-ltb}
use lib.Dec.{ltb, leb}
use Rattle.bits.specs.Bits.{Bytes}
use Rattle.bits.proofs.Tests.{by_cases}
use Rattle.kinds.specs.declared.Item.{Item}
use Rattle.format.specs.Format.{sheet_numbers}
use Rattle.format.specs.Grounds.{OneEnding}
use Rattle.speed.specs.declared.Train.{Train}
use Rattle.speed.specs.Speed.{Element, valid_train, limited, held_speeds, permitted, segment_length, in_fives}
use Rattle.speed.specs.Run.{Each, numbers_of, run_elements, run_end, last_of, last_start, speed_in_run}
use Rattle.speed.proofs.Runs.{run_not_above}
use Rattle.speed_question.specs.declared.Speed.{Speed}
use Rattle.speed_question.specs.Question.{Brought, medium_of, Neither, no_speed, read_as, lent, run_count, RunRead, accepted, refused, judged_run, answer_of_run, speed_of_run, speed_from, speed_asked, permitted_speed}
use Rattle.speed_question.proofs.Asked.{either_medium, neither_first, count_next, run_asked_lem}
use Rattle.promises.specs.Promised.{GoodIn, SegmentValues, segment_of, Answerable, with_maximum, answer_limited, LengthOf, RunStands, TheirElements, LowestOf}
use Rattle.promises.specs.Refused.{Refuses, SpeedGround}
use Rattle.promises.specs.Ranges.{highest_of_profile, SpeedEnds, OneOutcome}
use Rattle.promises.proofs.Held.{lowest_held}
use Rattle.promises.proofs.Maximum.{profile_same, valid_maximum, valid_same, limited_lower, limited_lowest, judged_limited}
use Rattle.promises.proofs.Standing.{length_stands}
use Rattle.promises.proofs.Refused.{one_outcome, one_ending}
use Rattle.promises.proofs.Runs.{ground_own, last_values, run_accepted, run_of_values, run_refuses, run_on, run_only, run_stands}
use Rattle.promises.proofs.Ranges.{packet_speed_fives, highest, own_listed, late_listed}

-- exactly one list of elements stands in the values of a run, laid end to end
pub elements_theirs : (b : Brought) (l : List Item) (v : List (List Item)) → Each (SegmentValues b) (l ∷ v) → TheirElements b (l ∷ v)
elements_theirs b l v c = record {
  elements = run_elements 0 (numbers_of (l ∷ v));
  start = last_start 0 (numbers_of (l ∷ v));
  stop = run_end 0 (numbers_of (l ∷ v));
  stand = run_stands b 0 l v c;
  only = λ es a e w. run_only b w;
}

-- a question is refused for its medium, or for its count, or its run is judged
pub asking : {C : Type 0} (medium count : ℕ) → (Neither medium → C) → ((b : Brought) → medium ≡ medium_of b → run_count count ≡ false → C)
    → ((b : Brought) → medium ≡ medium_of b → run_count count ≡ true → C) → C
asking medium count f g h = either_medium medium (λ b k. by_cases (run_count count) (h b k) (g b k)) f

abbrev said : Speed → ℕ × ℕ
said o = (o.refusal, o.place)

module _ (medium count : ℕ) (first second third fourth : List ℕ) (t : Train) (x : ℕ) where
  -- "They are lent apart, with a count": the run of a question, and its answer
  abbrev run : List (List ℕ)
  run = lent count first second third fourth

  abbrev answer : Speed
  answer = permitted_speed medium count first second third fourth t x

  abbrev of_run : RunRead → Speed
  of_run o = answer_of_run no_speed (speed_of_run t x) o

  -- "15, first of all, for a kind that is neither", whatever is lent
  pub permitted_speed_neither : Neither medium → answer ≡ no_speed 15 0
  unfolding permitted_speed
  permitted_speed_neither n = neither_first medium count run t x n

  module _ (b : Brought) (k : medium ≡ medium_of b) where
    -- "16 for a run of none or more than 4, judged right after 15", whatever is lent
    pub permitted_speed_count : run_count count ≡ false → answer ≡ no_speed 16 0
    unfolding permitted_speed
    permitted_speed_count c = count_next medium count run t x b k c

    -- "each segment is then judged in order (place within it), then 10, then 11 against the last"
    pub permitted_speed_judged : run_count count ≡ true → answer ≡ speed_from b run t x
    unfolding permitted_speed
    permitted_speed_judged c = run_asked_lem medium count run t x b k c

  -- ==== "Every permitted speed is the one the speed rules give."

  -- the profile's speed, from the values of a question that has an answer
  abbrev profile : Answerable medium count run t x → ℕ
  profile c = speed_in_run t x (numbers_of c.of.values)

  -- a question that has an answer is answered with "the lower of that and the profile's"
  pub permitted_speed_value : (c : Answerable medium count run t x) → answer ≡ record { refusal = 0; place = 0; speed = limited t (speed_in_run t x (numbers_of c.of.values)) }
  permitted_speed_value c =
      permitted_speed_judged c.brought c.named c.few ∙ ap of_run (run_accepted c.brought run c.of)
      ∙ rw (c.valid, lt-ltb x (segment_length (last_of (numbers_of c.of.values))) c.inside)

  module _ (c : Answerable medium count run t x) (es : List Element) (start stop : ℕ) (w : RunStands c.brought 0 c.of.values es start stop) where
    -- in the words of the tree: the profile's speed is the rule's over the elements that stand in the values, laid end to end
    pub profile_rule : speed_in_run t x (numbers_of c.of.values) ≡ permitted t stop (start + x) es
    profile_rule = let p = run_only c.brought w in rw (p.0, p.1, p.2)

    -- the answer is the lower of the card's maximum and that
    pub permitted_speed_rule : answer ≡ record { refusal = 0; place = 0; speed = limited t (permitted t stop (start + x) es) }
    permitted_speed_rule = permitted_speed_value c ∙ rw profile_rule

    -- the profile's speed is "the lowest speed of the elements that hold there": some element holds, so it is never a speed that no element has
    pub profile_held : LowestOf (permitted t stop (start + x) es) (held_speeds t stop (start + x) es)
    profile_held = let p = run_only c.brought w in rw (p.0, p.1, p.2) (lowest_held t x (numbers_of c.of.values) c.inside)

    -- the answer is the lowest of the card's maximum and these
    pub permitted_speed_held : LowestOf answer.speed (t.maximum ∷ held_speeds t stop (start + x) es)
    permitted_speed_held = rw permitted_speed_rule (limited_lowest t profile_held)

  -- "every permitted speed is the lower of that and the profile's"
  pub permitted_speed_lower : (c : Answerable medium count run t x) → LowestOf answer.speed (t.maximum ∷ speed_in_run t x (numbers_of c.of.values) ∷ [])
  permitted_speed_lower c = rw (permitted_speed_value c) (limited_lower t (profile c))

  -- it is the profile's own where that is not above the maximum
  pub permitted_speed_own : (c : Answerable medium count run t x) → speed_in_run t x (numbers_of c.of.values) ≤ t.maximum
      → answer ≡ record { refusal = 0; place = 0; speed = speed_in_run t x (numbers_of c.of.values) }
  permitted_speed_own c h = let e : limited t (profile c) ≡ profile c = omega arith in permitted_speed_value c ∙ rw e

  -- the profile's speed is at most 600 from packets and 604 from sheets
  pub profile_highest : (c : Answerable medium count run t x) → speed_in_run t x (numbers_of c.of.values) ≤ highest_of_profile c.brought
  profile_highest c = highest c.brought t x c.of.values c.of.good

  -- what is true of every refusal and of every limited speed is true of the answer
  always : (P : Speed → Type 0) → ((r place : ℕ) → P (no_speed r place)) → ((v : ℕ) → P (record { refusal = 0; place = 0; speed = limited t v })) → P answer
  always P f g =
      asking medium count (λ m. subst P (sym (permitted_speed_neither m)) (f 15 0)) (λ b k c. subst P (sym (permitted_speed_count b k c)) (f 16 0))
      (λ b k c. subst P (sym (permitted_speed_judged b k c)) (go (judged_run (read_as b) run)))
    where
      go : (o : RunRead) → P (of_run o)
      go (refused q place) = f q place
      go (accepted v) =
          by_cases (valid_train t)
          (λ d. by_cases (ltb x (segment_length (last_of (numbers_of v)))) (λ b. rw (d, b) (g (speed_in_run t x (numbers_of v)))) (λ b. rw (d, b) (f 11 0)))
          (λ d. rw d (f 10 0))

  -- "It returns its number with .. speed .. 0"
  pub permitted_speed_none : (answer.refusal ≡ 0 → ⊥) → answer.speed ≡ 0
  permitted_speed_none = always (λ o. (o.refusal ≡ 0 → ⊥) → o.speed ≡ 0) (λ r place n. refl) (λ v n. absurd (n refl))

  -- no answer is above the card's maximum, whatever is asked
  pub permitted_speed_maximum : answer.speed ≤ t.maximum
  permitted_speed_maximum = always (λ o. o.speed ≤ t.maximum) (λ r place. omega arith) (λ v. omega arith)

  module _ (ok : Each Bytes run) where
    -- every question can be answered, or has a ground and is refused with it
    ends : {C : Type 0} → (Answerable medium count run t x → C) → ((r place : ℕ) → SpeedGround medium count run t x r place → answer ≡ no_speed r place → 1 ≤ r → C) → C
    ends {C} f g =
        asking medium count (λ n. g 15 0 (SpeedGround.neither n refl refl) (permitted_speed_neither n) (omega arith))
        (λ b k c. g 16 0 (SpeedGround.bad_count b k c refl refl) (permitted_speed_count b k c) (omega arith)) (λ b k c. go b k c (judged_run (read_as b) run) refl)
      where
        go : (b : Brought) → medium ≡ medium_of b → run_count count ≡ true → (o : RunRead) → judged_run (read_as b) run ≡ o → C
        go b k c (refused q p) a = g q p (SpeedGround.own b k c ((run_on b run ok q p).0 a)) (permitted_speed_judged b k c ∙ ap of_run a) (run_refuses b run ok q p a)
        go b k c (accepted v) a =
            let lsp = segment_length (last_of (numbers_of v)) in
            let w = run_of_values b run ok v a in
            let e = permitted_speed_judged b k c ∙ ap of_run a in
            by_cases (valid_train t)
            (λ d. by_cases (ltb x lsp)
            (λ h. f (record { brought = b; named = k; few = c; of = w; valid = d; inside = ltb-true x lsp h }))
            (λ h. g 11 0 (SpeedGround.past_end b k c w d (ltb-false x lsp h) refl refl) (e ∙ rw (d, h)) (omega arith)))
            (λ d. g 10 0 (SpeedGround.bad_train b k c w d refl refl) (e ∙ rw d) (omega arith))

    -- a question is answered exactly for a medium of 0 or 1, a count of 1 to 4, segments of good values, a valid train and an x below L_SP of the last
    pub permitted_speed_answered : (answer.refusal ≡ 0) ↔ Answerable medium count run t x
    permitted_speed_answered = (
      λ d. ends (λ c. c) (λ r place g e h. absurd (omega (arith, ap (λ (o : Speed). o.refusal) e))),
      λ c. ap (λ (o : Speed). o.refusal) (permitted_speed_value c),
    )

    -- ==== "Each refusal is given then and not otherwise"

    pub permitted_speed_refused : (r place : ℕ) → Refuses (answer.refusal, answer.place) r place ↔ SpeedGround medium count run t x r place
    permitted_speed_refused r place = (only, given)
      where
        only : Refuses (said answer) r place → SpeedGround medium count run t x r place
        only q =
            let h = q.1 in
            ends (λ c. absurd (omega (arith, ap (λ (u : ℕ × ℕ). u.0) (sym (ap said (permitted_speed_value c)) ∙ q.0))))
            (λ n p g e _. subst (λ (u : ℕ × ℕ). SpeedGround medium count run t x u.0 u.1) (sym (ap said e) ∙ q.0) g)

        bad : (v : List (List Item)) → valid_train t ≡ false → said (speed_of_run t x v) ≡ (10, 0)
        bad v f = rw f

        beyond : (v : List (List Item)) → valid_train t ≡ true → segment_length (last_of (numbers_of v)) ≤ x → said (speed_of_run t x v) ≡ (11, 0)
        beyond v f h = rw (f, le-ltb x (segment_length (last_of (numbers_of v))) h)

        -- the answer from what the run is judged to be
        from : (b : Brought) → medium ≡ medium_of b → run_count count ≡ true → (o : RunRead) → judged_run (read_as b) run ≡ o → said answer ≡ said (of_run o)
        from b k c o a = ap said (permitted_speed_judged b k c ∙ ap of_run a)

        given : SpeedGround medium count run t x r place → Refuses (said answer) r place
        given (SpeedGround.neither n e p) = (ap said (permitted_speed_neither n) ∙ rw (e, p), omega arith)
        given (SpeedGround.bad_count b k c e p) = (ap said (permitted_speed_count b k c) ∙ rw (e, p), omega arith)
        given (SpeedGround.own b k c g) = let a = (run_on b run ok r place).1 g in (from b k c (refused r place) a, run_refuses b run ok r place a)
        given (SpeedGround.bad_train b k c w f e p) = (from b k c (accepted w.values) (run_accepted b run w) ∙ bad w.values f ∙ rw (e, p), omega arith)
        given (SpeedGround.past_end b k c w f h e p) = (from b k c (accepted w.values) (run_accepted b run w) ∙ beyond w.values f h ∙ rw (e, p), omega arith)

    -- "an answer or the one refusal"
    pub permitted_speed_ending : OneEnding (Answerable medium count run t x) {I = ℕ × ℕ} (λ p. SpeedGround medium count run t x p.0 p.1)
    permitted_speed_ending = one_ending (said answer) permitted_speed_answered permitted_speed_refused

    -- "one possible outcome for every input": the refusals of the C header, and the highest speed
    pub permitted_speed_outcome : OneOutcome answer (SpeedEnds medium count)
    permitted_speed_outcome = one_outcome answer (ends success (λ r place g e h. rw e (on r place g)))
      where
        success : Answerable medium count run t x → SpeedEnds medium count answer
        success c = rw (permitted_speed_value c) (SpeedEnds.success c.brought c.named c.few refl refl (omega (arith, (valid_maximum t c.valid).1)))

        on : (r place : ℕ) → SpeedGround medium count run t x r place → SpeedEnds medium count (no_speed r place)
        on r place (SpeedGround.neither m e p) = SpeedEnds.neither m e p refl
        on r place (SpeedGround.bad_count b k c e p) = SpeedEnds.counted b k c e p refl
        on r place (SpeedGround.own b k c g) = SpeedEnds.refusal b k c (ground_own (λ s o. own_listed b s r place o) g) refl
        on r place (SpeedGround.bad_train b k c w v e p) = SpeedEnds.refusal b k c (rw e (late_listed b).0) refl
        on r place (SpeedGround.past_end b k c w v h e p) = SpeedEnds.refusal b k c (rw e (late_listed b).1) refl

-- "those past it are not read": questions that agree in the segments up to the count have one answer
pub permitted_speed_past : (medium count : ℕ) (a b c d e f g h : List ℕ) (t : Train) (x : ℕ) → lent count a b c d ≡ lent count e f g h
    → permitted_speed medium count a b c d t x ≡ permitted_speed medium count e f g h t x
unfolding permitted_speed
permitted_speed_past medium count a b c d e f g h t x same = ap (λ (r : List (List ℕ)). speed_asked medium count r t x) same

module _ (medium count : ℕ) (a b c d : List ℕ) (t : Train) (x : ℕ) where
  -- the card with the maximum 600, and the answer to a card
  abbrev highest_card : Train
  highest_card = with_maximum 600 t

  abbrev answer_to : Train → Speed
  answer_to u = permitted_speed medium count a b c d u x

  -- in the operation's own words: under a maximum within its range the answer is that under 600, refusals too, with its speed limited
  pub permitted_speed_step : 1 ≤ t.maximum → t.maximum ≤ 600 → permitted_speed medium count a b c d t x ≡ answer_limited t (permitted_speed medium count a b c d (with_maximum 600 t) x)
  permitted_speed_step h g =
      asking medium count (λ n. by 15 (λ u. permitted_speed_neither medium count a b c d u x n)) (λ m k e. by 16 (λ u. permitted_speed_count medium count a b c d u x m k e))
      (λ m k e. permitted_speed_judged medium count a b c d t x m k e ∙ go (judged_run (read_as m) (lent count a b c d))
      ∙ sym (ap (answer_limited t) (permitted_speed_judged medium count a b c d highest_card x m k e)))
    where
      none : (r place : ℕ) → no_speed r place ≡ answer_limited t (no_speed r place)
      none r place = let e : 0 ≡ limited t 0 = omega arith in ap (λ (v : ℕ). record { refusal = r; place = place; speed = v }) e

      by : (r : ℕ) → ((u : Train) → answer_to u ≡ no_speed r 0) → answer_to t ≡ answer_limited t (answer_to highest_card)
      by r f = f t ∙ none r 0 ∙ sym (ap (answer_limited t) (f highest_card))

      go : (o : RunRead) → answer_of_run no_speed (speed_of_run t x) o ≡ answer_limited t (answer_of_run no_speed (speed_of_run highest_card x) o)
      go (refused q place) = none q place
      go (accepted v) =
          judged_limited t x (segment_length (last_of (numbers_of v))) (speed_in_run t x (numbers_of v)) (speed_in_run highest_card x (numbers_of v)) h g
          (profile_same 600 t x (numbers_of v))

  -- to the card with the maximum 600 a question is answered with the profile's speed, and with 600 where that is above 600
  pub profile_asked : (q : Answerable medium count (lent count a b c d) t x)
      → permitted_speed medium count a b c d (with_maximum 600 t) x ≡ record { refusal = 0; place = 0; speed = min 600 (speed_in_run t x (numbers_of q.of.values)) }
  profile_asked q =
      let own = valid_maximum t q.valid in
      let r : Answerable medium count (lent count a b c d) highest_card x =
      record {
        brought = q.brought;
        named = q.named;
        few = q.few;
        of = q.of;
        valid = sym (valid_same t own.0 own.1) ∙ q.valid;
        inside = q.inside;
      } in
      permitted_speed_value medium count a b c d highest_card x r
      ∙ ap (λ (v : ℕ). record { refusal = 0; place = 0; speed = min 600 v }) (profile_same 600 t x (numbers_of q.of.values))

module _ (count : ℕ) (first second third fourth : List ℕ) (t : Train) (x : ℕ) where
  -- segments before the last never make the profile's speed higher
  pub profile_not_above : (medium : ℕ) (c : Answerable medium count (lent count first second third fourth) t x)
      → speed_in_run t x (numbers_of c.of.values) ≤ speed_in_run t x (last_of (numbers_of c.of.values) ∷ [])
  profile_not_above medium c = go c.of.values c.inside
    where
      go : (v : List (List Item)) → x < segment_length (last_of (numbers_of v)) → speed_in_run t x (numbers_of v) ≤ speed_in_run t x (last_of (numbers_of v) ∷ [])
      go [] h = absurd (omega arith)
      go (l ∷ v) h = run_not_above t x (sheet_numbers l) (numbers_of v) h

  -- "while half the set stands in the slower segment": a run's speed is never above that of its last segment alone, whatever else is lent
  pub permitted_speed_not_above : (medium : ℕ) (a b c : List ℕ) → Answerable medium count (lent count first second third fourth) t x
      → (permitted_speed medium count first second third fourth t x).speed ≤ (permitted_speed medium 1 (last_of (lent count first second third fourth)) a b c t x).speed
  permitted_speed_not_above medium a b c q = go q.of.values q.of.good q.of.whole q.inside (permitted_speed_value medium count first second third fourth t x q)
    where
      go : (v : List (List Item)) → Each (SegmentValues q.brought) v → lent count first second third fourth ≡ map (segment_of q.brought) v → x < segment_length (last_of (numbers_of v))
          → permitted_speed medium count first second third fourth t x ≡ record { refusal = 0; place = 0; speed = limited t (speed_in_run t x (numbers_of v)) }
          → (permitted_speed medium count first second third fourth t x).speed ≤ (permitted_speed medium 1 (last_of (lent count first second third fourth)) a b c t x).speed
      go [] good whole h e = absurd (omega arith)
      go (l ∷ v) good whole h e =
          last_values (SegmentValues q.brought) (segment_of q.brought) l v good λ m p n w.
          let alone : Answerable medium 1 (last_of (lent count first second third fourth) ∷ []) t x =
          record {
            brought = q.brought;
            named = q.named;
            few = refl;
            of = record { values = m ∷ []; good = (p, tt); whole = ap (λ (r : List (List ℕ)). last_of r ∷ []) whole ∙ ap (λ (s : List ℕ). s ∷ []) w };
            valid = q.valid;
            inside = rw n at h;
          } in
          let own = subst (λ (s : List ℕ). speed_in_run t x (numbers_of (l ∷ v)) ≤ speed_in_run t x (s ∷ [])) n (run_not_above t x (sheet_numbers l) (numbers_of v) h) in
          rw (e, permitted_speed_value medium 1 (last_of (lent count first second third fourth)) a b c t x alone) (omega arith)

  module _ (c : Answerable 0 count (lent count first second third fourth) t x) where
    -- "the packet's speeds times 5": the profile's speed from packets is a multiple of 5
    pub profile_fives : speed_in_run t x (numbers_of c.of.values) ≡ speed_in_run t x (numbers_of c.of.values) / 5 * 5
    profile_fives = go c.brought c.named c.of.good
      where
        go : (b : Brought) → 0 ≡ medium_of b → Each (SegmentValues b) c.of.values → speed_in_run t x (numbers_of c.of.values) ≡ in_fives (speed_in_run t x (numbers_of c.of.values))
        go Brought.packet e g = packet_speed_fives t x c.of.values g
        go Brought.sheet e g = absurd (omega arith)

    -- a speed from packets is the card's maximum or a multiple of 5
    pub packet_fives : let v = (permitted_speed 0 count first second third fourth t x).speed in (v ≡ t.maximum) ⊎ (v ≡ v / 5 * 5)
    packet_fives =
        let p = speed_in_run t x (numbers_of c.of.values) in
        rw (permitted_speed_value 0 count first second third fourth t x c)
        (by_cases (leb t.maximum p)
        (λ d. let h = leb-true t.maximum p d in inl (omega arith))
        (λ d. let h = leb-false t.maximum p d in let e : limited t p ≡ p = omega arith in inr (rw e profile_fives)))

-- the length that x is compared with is the number of L_SP
pub segment_length_lem : (b : Brought) (l : List Item) → SegmentValues b l → LengthOf (GoodIn b) l (segment_length (sheet_numbers l))
segment_length_lem b l c = length_stands l c
