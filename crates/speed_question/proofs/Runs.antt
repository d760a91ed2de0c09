-- Loops over the segments of a run: its verdict, its last segment, and what holds in it.
use mathlib.Core.Path.{◌≡◌, refl, sym, ap, ◌∙◌, subst}
use mathlib.Core.Bool.{true}
use mathlib.Core.List.{List, [], ◌∷◌, map}
use Prim.Native.Nat.{ℕ, zero, suc, ◌+◌, ◌-◌, ◌*◌, ◌≤◌, ◌<◌}
use native.Mathlib.Omega.{arith}
use lib.ListN.{length, drop, get_or}
use Rattle.std.proofs.Common.{Bor}
use Rattle.std.proofs.Math.ListN.{get_or-map}
use Rattle.std.proofs.lemmas.List.{drop_more, drop_all, length-map}
use Rattle.format.specs.Format.{Read, values_of}
use Rattle.speed.specs.declared.Train.{Train}
use Rattle.speed.specs.Speed.{segment_length}
use Rattle.speed.specs.Run.{Each, numbers_of, run_end, last_of, last_start, speed_in_run}
use Rattle.speed.proofs.Runs.{last_start_lem, run_end_lem}
use Rattle.speed_element.specs.declared.Head.{Head}
use Rattle.speed_element.specs.internal.Elements.{none, instead_from}
use Rattle.speed_element.specs.internal.Passing.{Passed, RunPassed, over, one}
use Rattle.speed_element.proofs.Passing.{run_passed}
use Rattle.speed_question.specs.declared.run.LastSegment.{LastSegment}
use Rattle.speed_question.specs.declared.run.Run.{Run}
use Rattle.speed_question.specs.Question.{Brought, packet, sheet, medium_of, read_as, RunRead, accepted, refused, in_front, judged_run}
use Rattle.speed_question.specs.internal.Run.{brought_of, segments_of, passed, failed, was_accepted, all_accepted, judged_of, run_judged, AcceptedAs, values_in, numbers_as, numbers_in, HeadOf, LastRead}
use Rattle.speed_question.specs.internal.Asked.{kind_of, lent_of, segment_at}

-- ---- the medium

pub brought_named : (b : Brought) → brought_of (medium_of b) ≡ b
brought_named packet = refl
brought_named sheet = refl

-- ---- the verdict

module _ (judge : List ℕ → Read) where
  pub first_refused : (s : List ℕ) (r : List (List ℕ)) {q place : ℕ} → failed q place ≡ judged_of (judge s) → failed q place ≡ run_judged (judged_run judge (s ∷ r))
  first_refused s r {q} {place} e = go (judge s) e
    where
      go : (o : Read) → failed q place ≡ judged_of o → failed q place ≡ run_judged (in_front o (judged_run judge r))
      go (Read.refused a p) d = d
      go (Read.accepted l) d = absurd (cc)

  pub first_accepted : (s : List ℕ) (r : List (List ℕ)) → passed ≡ judged_of (judge s) → run_judged (judged_run judge r) ≡ run_judged (judged_run judge (s ∷ r))
  first_accepted s r e = go (judge s) (judged_run judge r) e
    where
      go : (o : Read) (p : RunRead) → passed ≡ judged_of o → run_judged p ≡ run_judged (in_front o p)
      go (Read.refused a place) p d = absurd (cc)
      go (Read.accepted l) (accepted v) d = refl
      go (Read.accepted l) (refused a place) d = refl

  pub run_passed_lem : (o : RunRead) → passed ≡ run_judged o → was_accepted o ≡ true
  run_passed_lem (accepted l) d = refl
  run_passed_lem (refused a p) d = absurd (cc)

  pub run_passes : (o : RunRead) → was_accepted o ≡ true → passed ≡ run_judged o
  run_passes (accepted l) d = refl
  run_passes (refused a p) d = absurd (cc)

  pub run_refusal : (r : List (List ℕ)) {q place : ℕ} → failed q place ≡ run_judged (judged_run judge r) → judged_run judge r ≡ refused q place
  run_refusal r {q} {place} e = go (judged_run judge r) e
    where
      go : (o : RunRead) → failed q place ≡ run_judged o → o ≡ refused q place
      go (refused a p) d = let i : q ≡ a = cc in let j : place ≡ p = cc in rw (i, j)
      go (accepted l) d = absurd (cc)

  both : (o : Read) (p : RunRead) → was_accepted (in_front o p) ≡ true → (o ≡ Read.accepted (values_of o)) × (was_accepted p ≡ true)
  both (Read.refused a place) p d = absurd (cc)
  both (Read.accepted l) (refused a place) d = absurd (cc)
  both (Read.accepted l) (accepted v) d = (refl, refl)

  -- each segment of an accepted run is accepted
  pub run_each : (r : List (List ℕ)) → was_accepted (judged_run judge r) ≡ true → Each (λ (s : List ℕ). judge s ≡ Read.accepted (values_of (judge s))) r
  run_each [] e = tt
  run_each (s ∷ r) e = let h = both (judge s) (judged_run judge r) e in (h.0, run_each r h.1)

  pub run_accepted : (r : List (List ℕ)) → Each (λ (s : List ℕ). judge s ≡ Read.accepted (values_of (judge s))) r → judged_run judge r ≡ accepted (map (λ (s : List ℕ). values_of (judge s)) r)
  run_accepted [] c = refl
  run_accepted (s ∷ r) c = rw (c.0, run_accepted r c.1)

-- ---- the values, and their numbers

module _ (b : Brought) where
  pub numbers_in_lem : (r : List (List ℕ)) → numbers_of (values_in b r) ≡ numbers_in b r
  numbers_in_lem [] = refl
  numbers_in_lem (s ∷ r) = ap (λ (n : List (List ℕ)). numbers_as b s ∷ n) (numbers_in_lem r)

  last_numbers : (s : List ℕ) (r : List (List ℕ)) → last_of (numbers_in b (s ∷ r)) ≡ numbers_as b (last_of (s ∷ r))
  last_numbers s [] = refl
  last_numbers s (n ∷ r) = last_numbers n r

  each_dropped : (i : ℕ) (r : List (List ℕ)) → Each (AcceptedAs b) r → Each (AcceptedAs b) (drop i r)
  each_dropped zero r e = e
  each_dropped (suc i) [] e = e
  each_dropped (suc i) (s ∷ r) e = each_dropped i r e.1

-- ---- loops over the segments

last_taken : (s : List ℕ) (r : List (List ℕ)) → last_of (s ∷ r) ≡ get_or (s ∷ r) (length r) []
last_taken s [] = refl
last_taken s (n ∷ r) = last_taken n r

-- a segment as the code takes it from those lent
abbrev pub taken : List (Bor (List ℕ)) → ℕ → List ℕ
taken r i = (get_or r i (record { ref_ptr = (0, 0); now = [] })).now

pub taken_is : (r : List (Bor (List ℕ))) (i : ℕ) → taken r i ≡ get_or (segments_of r) i []
taken_is r i = sym (get_or-map (λ (s : Bor (List ℕ)). s.now) r i (record { ref_ptr = (0, 0); now = [] }))

pub lent_count : (r : List (Bor (List ℕ))) → length (segments_of r) ≡ length r
lent_count r = length-map r (λ (s : Bor (List ℕ)). s.now)

module _ (b : Brought) (all : List (List ℕ)) where
  abbrev left : ℕ → List (List ℕ)
  left i = drop i all

  abbrev nth : ℕ → List ℕ
  nth i = get_or all i []

  -- the first i segments are accepted
  pub record Judging (i : ℕ) : Type 0 where
    pub up : i ≤ length all
    pub same : run_judged (judged_run (read_as b) (left i)) ≡ run_judged (judged_run (read_as b) all)

  -- start and the length of the last of the first i segments together are where the next one starts
  pub record Finding (i start : ℕ) (last : Head) : Type 0 where
    pub up : i ≤ length all
    pub end : run_end (start + last.lsp) (numbers_in b (left i)) ≡ run_end 0 (numbers_in b all)
    pub small : start + last.lsp ≤ i * 16777215
    pub head : 0 < i → HeadOf b (nth (i - 1)) last.lsp last.profile

  -- held stands for what holds in the first i segments, and the next one starts at start
  pub record Passing (t : Train) (x i start held : ℕ) : Type 0 where
    pub up : i ≤ length all
    pub place : i < length all → start + last_start 0 (numbers_in b (left i)) ≡ last_start 0 (numbers_in b all)
    pub small : start ≤ i * 16777215
    pub done : (out : ℕ) → RunPassed t x (numbers_in b (left i)) held out → RunPassed t x (numbers_in b all) none out

  pub judging_first : Judging 0
  judging_first = record { up = omega arith; same = refl }

  pub finding_first : {last : Head} → last.lsp ≡ 0 → Finding 0 0 last
  finding_first e = record { up = omega arith; end = ap (λ (n : ℕ). run_end n (numbers_in b all)) (omega (arith, e)); small = omega (arith, e); head = λ h. absurd (omega arith) }

  pub passing_first : {t : Train} {x : ℕ} → Passing t x 0 0 none
  passing_first = record { up = omega arith; place = λ h. omega arith; small = omega arith; done = λ out r. r }

  -- the place y, counted from the run's start, is not before the segment that is left
  pub passing_before : {t : Train} {x i start held : ℕ} {l : LastSegment} → Passing t x i start held → i < length all → LastRead b all l → start ≤ l.start + x
  passing_before g h k = omega (arith, g.place h, k.start_is)

  -- a segment that is left, and those after it
  module _ (i : ℕ) (h : i < length all) where
    pub split : left i ≡ nth i ∷ left (i + 1)
    split = drop_more all i [] h

    pub one_accepted : Each (AcceptedAs b) all → AcceptedAs b (nth i)
    one_accepted e = (subst (Each (AcceptedAs b)) split (each_dropped b i all e)).0

    pub judging_refused : {n place : ℕ} → Judging i → failed n place ≡ judged_of (read_as b (nth i)) → judged_run (read_as b) all ≡ refused n place
    judging_refused g e =
        run_refusal (read_as b) all (first_refused (read_as b) (nth i) (left (i + 1)) e ∙ ap (λ (r : List (List ℕ)). run_judged (judged_run (read_as b) r)) (sym split) ∙ g.same)

    pub judging_next : Judging i → passed ≡ judged_of (read_as b (nth i)) → Judging (i + 1)
    judging_next g e = record {
      up = omega arith;
      same = first_accepted (read_as b) (nth i) (left (i + 1)) e ∙ ap (λ (r : List (List ℕ)). run_judged (judged_run (read_as b) r)) (sym split) ∙ g.same;
    }

    pub finding_next : {start : ℕ} {last next : Head} → Finding i start last → HeadOf b (nth i) next.lsp next.profile → Finding (i + 1) (start + last.lsp) next
    finding_next {start} {last} {next} g d =
        let e : i + 1 - 1 ≡ i = omega arith in
        record {
          up = omega arith;
          end = ap (λ (n : ℕ). run_end (start + last.lsp + n) (numbers_in b (left (i + 1)))) d.length_is
              ∙ ap (λ (r : List (List ℕ)). run_end (start + last.lsp) (numbers_in b r)) (sym split) ∙ g.end;
          small = omega (arith, g.small, d.small);
          head = λ z. rw e d;
        }

    -- where the last segment starts, counted from the one that is left
    pub start_on : {lsp at : ℕ} → HeadOf b (nth i) lsp at → i + 1 < length all → last_start 0 (numbers_in b (left i)) ≡ lsp + last_start 0 (numbers_in b (left (i + 1)))
    start_on {lsp} d more =
        let n = nth (i + 1) in
        let r = left (i + 1 + 1) in
        let next : left (i + 1) ≡ n ∷ r = drop_more all (i + 1) [] more in
        let two : left i ≡ nth i ∷ n ∷ r = split ∙ ap (λ (l : List (List ℕ)). nth i ∷ l) next in
        ap (λ (l : List (List ℕ)). last_start 0 (numbers_in b l)) two
        ∙ last_start_lem (0 + segment_length (numbers_as b (nth i))) (numbers_in b (n ∷ r))
        ∙ omega (arith, d.length_is, ap (λ (l : List (List ℕ)). last_start 0 (numbers_in b l)) next)

    pub passing_next : {t : Train} {x start held next lsp at : ℕ} (y : ℕ) → Passing t x i start held → HeadOf b (nth i) lsp at → y + start ≡ last_start 0 (numbers_in b all) + x
        → Passed t (numbers_as b (nth i)) y held next → Passing t x (i + 1) (start + lsp) next
    passing_next {t} {x} {start} {held} {next} {lsp} {at} y g d e c = record {
      up = omega arith;
      place = λ more. omega (arith, g.place h, start_on d more);
      small = omega (arith, g.small, d.small);
      done = λ out r. g.done out (there out r);
    }
      where
        here : y ≡ last_start 0 (numbers_in b (left i)) + x
        here = omega (arith, e, g.place h)

        from_here : Passed t (numbers_as b (nth i)) (last_start 0 (numbers_in b (nth i ∷ left (i + 1))) + x) held next
        from_here = subst (λ (z : ℕ). Passed t (numbers_as b (nth i)) z held next) (here ∙ ap (λ (l : List (List ℕ)). last_start 0 (numbers_in b l) + x) split) c

        there : (out : ℕ) → RunPassed t x (numbers_in b (left (i + 1))) next out → RunPassed t x (numbers_in b (left i)) held out
        there out r = rw split (one from_here r)

  -- from the count of the segments on, where none is left: the run is accepted
  pub judging_past : {i : ℕ} → run_judged (judged_run (read_as b) (left i)) ≡ run_judged (judged_run (read_as b) all) → length all ≤ i → all_accepted b all ≡ true
  judging_past {i} g e =
      run_passed_lem (read_as b) (judged_run (read_as b) all) (ap (λ (r : List (List ℕ)). run_judged (judged_run (read_as b) r)) (sym (drop_all i all e)) ∙ g)

  -- from the count of the segments on, where none is left: held is the speed in the run
  pub passing_past : {t : Train} {x i held : ℕ} → ((out : ℕ) → RunPassed t x (numbers_in b (left i)) held out → RunPassed t x (numbers_in b all) none out) → length all ≤ i
      → instead_from held 0 [] ≡ speed_in_run t x (numbers_in b all)
  passing_past {t} {x} {i} {held} g e = run_passed (g held (subst (λ (r : List (List ℕ)). RunPassed t x (numbers_in b r) held held) (sym (drop_all i all e)) over))

  pub judging_last : {i : ℕ} → Judging i → length all ≤ i → all_accepted b all ≡ true
  judging_last g e = judging_past g.same e

  pub passing_last : {t : Train} {x i start held : ℕ} → Passing t x i start held → length all ≤ i → instead_from held 0 [] ≡ speed_in_run t x (numbers_in b all)
  passing_last g e = passing_past g.done e

module _ (b : Brought) where
  end_is : (all : List (List ℕ)) → 1 ≤ length all → last_of all ≡ get_or all (length all - 1) []
  end_is [] h = absurd (omega arith)
  end_is (s ∷ r) h = let e : length (s ∷ r) - 1 ≡ length r = omega arith in last_taken s r ∙ ap (λ (n : ℕ). get_or (s ∷ r) n []) (sym e)

  last_is : (all : List (List ℕ)) → 1 ≤ length all → last_of (numbers_in b all) ≡ numbers_as b (last_of all)
  last_is [] h = absurd (omega arith)
  last_is (s ∷ r) h = last_numbers b s r

  whole_end : (all : List (List ℕ)) → 1 ≤ length all → last_start 0 (numbers_in b all) + segment_length (last_of (numbers_in b all)) ≡ run_end 0 (numbers_in b all)
  whole_end [] h = absurd (omega arith)
  whole_end (s ∷ r) h = run_end_lem 0 (numbers_as b s) (numbers_in b r)

  module _ (all : List (List ℕ)) (some : 1 ≤ length all) where
    pub finding_last : {i start : ℕ} {last : Head} → Finding b all i start last → length all ≡ i → length all ≤ 4 → LastRead b all (record { start = start; head = last })
    finding_last {i} {start} {last} g z few =
        let d : HeadOf b (get_or all (length all - 1) []) last.lsp last.profile = subst (λ (n : ℕ). HeadOf b (get_or all (n - 1) []) last.lsp last.profile) (sym z) (g.head (omega arith)) in
        let sum : start + last.lsp ≡ run_end 0 (numbers_in b all) = ap (λ (r : List (List ℕ)). run_end (start + last.lsp) (numbers_in b r)) (sym (drop_all i all (omega arith))) ∙ g.end in
        let long : last.lsp ≡ segment_length (last_of (numbers_in b all)) = d.length_is ∙ ap (λ (s : List ℕ). segment_length (numbers_as b s)) (sym (end_is all some)) ∙ ap segment_length (sym (last_is all some)) in
        record { start_is = omega (arith, sum, long, whole_end all some); small = omega (arith, g.small); head = rw (end_is all some) d }

    -- the segment before the end is the last
    pub last_head : (i : ℕ) → i + 1 ≡ length all → {l : LastSegment} → LastRead b all l → HeadOf b (get_or all i []) l.head.lsp l.head.profile
    last_head i z {l} k =
        let e : length all - 1 ≡ i = omega arith in
        subst (λ (s : List ℕ). HeadOf b s l.head.lsp l.head.profile) (end_is all some ∙ ap (λ (n : ℕ). get_or all n []) e) k.head

    -- what is answered from the length of the last segment and from the numbers of the run
    pub run_answer : {C : Type 0} (f : ℕ → List (List ℕ) → C) {lsp : ℕ} → lsp ≡ segment_length (numbers_as b (last_of all))
        → f lsp (numbers_in b all) ≡ f (segment_length (last_of (numbers_of (values_in b all)))) (numbers_of (values_in b all))
    run_answer f d =
        ap (λ (n : ℕ). f n (numbers_in b all)) (d ∙ ap segment_length (sym (last_is all some))) ∙ ap (λ (n : List (List ℕ)). f (segment_length (last_of n)) n) (sym (numbers_in_lem b all))

-- ---- a run, as the code takes its segments

module _ (r : Run) where
  pub some_lent : 1 ≤ length (lent_of r)
  some_lent = omega (arith, r.few.0, lent_count r.segments.now)

  pub lent_accepted : Each (AcceptedAs (kind_of r)) (lent_of r)
  lent_accepted = run_each (read_as (kind_of r)) (lent_of r) r.accepted

  module _ (i : ℕ) where
    pub in_lent : i < length r.segments.now → i < length (lent_of r)
    in_lent h = omega (arith, h, lent_count r.segments.now)

    pub taken_accepted : i < length r.segments.now → AcceptedAs (kind_of r) (taken r.segments.now i)
    taken_accepted h = rw taken_is (one_accepted (kind_of r) (lent_of r) i (in_lent h) lent_accepted)

    pub taken_head : {lsp at : ℕ} → HeadOf (kind_of r) (taken r.segments.now i) lsp at → HeadOf (kind_of r) (segment_at r i) lsp at
    taken_head {lsp} {at} d = subst (λ (s : List ℕ). HeadOf (kind_of r) s lsp at) (taken_is r.segments.now i) d

-- ---- the verdict, as the code takes the segments

module _ (b : Brought) (r : List (Bor (List ℕ))) (i : ℕ) (h : i < length r) where
  within : i < length (segments_of r)
  within = omega (arith, h, lent_count r)

  same_verdict : judged_of (read_as b (taken r i)) ≡ judged_of (read_as b (get_or (segments_of r) i []))
  same_verdict = ap (λ (s : List ℕ). judged_of (read_as b s)) (taken_is r i)

  pub taken_refused : {n place : ℕ} → Judging b (segments_of r) i → failed n place ≡ judged_of (read_as b (taken r i)) → judged_run (read_as b) (segments_of r) ≡ refused n place
  taken_refused g e = judging_refused b (segments_of r) i within g (e ∙ same_verdict)

  pub taken_next : Judging b (segments_of r) i → passed ≡ judged_of (read_as b (taken r i)) → Judging b (segments_of r) (i + 1)
  taken_next g e = judging_next b (segments_of r) i within g (e ∙ same_verdict)
