-- A run of good values: how it is judged, its last segment, its elements, and what lowering makes of it.
use mathlib.Core.Path.{◌≡◌, refl, sym, ap, ap₂, ◌∙◌, subst, subst₂}
use mathlib.Core.List.{List, [], ◌∷◌, ◌++◌, map, append-nil}
use mathlib.Core.Logic.{◌↔◌}
use Prim.Native.Nat.{ℕ, zero, suc, ◌+◌, ◌≤◌, min}
use native.Mathlib.Omega.{arith}
use lib.Dec.{ltb}
use lib.ListN.{take}
use Rattle.bits.specs.Bits.{Bytes}
use Rattle.bits.proofs.Tests.{by_cases}
use Rattle.kinds.specs.declared.Item.{Item}
use Rattle.format.specs.Format.{Read, sheet_numbers}
use Rattle.format.specs.Conforming.{InPacket, InSheet}
use Rattle.grammar.specs.segment.Segment.{wire_changes}
use Rattle.grammar.specs.segment.Judgement.{to_packet, to_sheet}
use Rattle.speed.specs.declared.Train.{Train}
use Rattle.speed.specs.Speed.{Element, valid_train, limited, elements_from, segment_length, profile_of, in_fives}
use Rattle.speed.specs.Run.{Each, numbers_of, each_given_back, run_elements, run_end, last_of, last_start, speed_in_run}
use Rattle.speed.specs.Standing.{SegmentStands}
use Rattle.speed.proofs.Runs.{last_same, lowered_as_long, run_in_fives}
use Rattle.speed.proofs.Standing.{segment_stands, segment_only, packet_count, sheet_count}
use Rattle.speed_question.specs.declared.Speed.{Speed}
use Rattle.speed_question.specs.Question.{Brought, no_speed, read_as, run_count, RunRead, accepted, refused, in_front, judged_run, answer_of_run, judged_speed, speed_of_run, speed_asked}
use Rattle.speed_question.specs.Grounds.{RunGround, here, later}
use Rattle.speed_question.proofs.Judged.{run_taken, run_values, run_refused, run_grounded}
use Rattle.promises.specs.Promised.{GoodIn, SegmentValues, segment_of, SegmentOfValues, RunOfValues, with_maximum, answer_in_fives, answer_with, RunStands}
use Rattle.promises.specs.Refused.{SegmentGround}
use Rattle.promises.proofs.Values.{segments, lowered_packet, lowered_good}
use Rattle.promises.proofs.Refused.{segments_on, of_values, taken}

-- ---- each segment

pub each_on : {A : Type 0} {P Q : A → Type 0} → ((a : A) → P a → Q a) → (r : List A) → Each P r → Each Q r
each_on f [] c = tt
each_on f (a ∷ r) c = (f a c.0, each_on f r c.1)

pub take_map : {A B : Type 0} (f : A → B) (n : ℕ) (l : List A) → take n (map f l) ≡ map f (take n l)
take_map f zero l = refl
take_map f (suc n) [] = refl
take_map {B = B} f (suc n) (a ∷ l) = ap (λ (r : List B). f a ∷ r) (take_map f n l)

-- the ground of a run is a segment's own
pub ground_own : {Own : List ℕ → ℕ → ℕ → Type 0} {Taken : List ℕ → Type 0} {C : Type 0} {q place : ℕ} {r : List (List ℕ)}
    → ((s : List ℕ) → Own s q place → C) → RunGround Own Taken q place r → C
ground_own f (here {s = s} g) = f s g
ground_own f (later u g) = ground_own f g

-- the values of the last segment: their numbers are the last numbers, and what is written of them is the last that is written
pub last_values : {C : Type 0} (P : List Item → Type 0) (input : List Item → List ℕ) (l : List Item) (v : List (List Item)) → Each P (l ∷ v)
    → ((m : List Item) → P m → last_of (numbers_of (l ∷ v)) ≡ sheet_numbers m → last_of (map input (l ∷ v)) ≡ input m → C) → C
last_values P input l [] c k = k l c.0 refl refl
last_values P input l (n ∷ v) c k = last_values P input n v c.1 k

-- ---- how a run is judged

written : (b : Brought) (v : List (List Item)) → Each (SegmentValues b) v → judged_run (read_as b) (map (segment_of b) v) ≡ accepted v
written b v c = run_taken (read_as b) (SegmentValues b) (segment_of b) (segments b).again v c

module _ (b : Brought) (r : List (List ℕ)) where
  pub run_accepted : (w : RunOfValues b r) → judged_run (read_as b) r ≡ accepted w.values
  run_accepted w = ap (judged_run (read_as b)) w.whole ∙ written b w.values w.good

  module _ (ok : Each Bytes r) where
    abbrev pub run_of_values : (v : List (List Item)) → judged_run (read_as b) r ≡ accepted v → RunOfValues b r
    run_of_values v e = let p = run_values (read_as b) (SegmentValues b) (segment_of b) (segments b).only r v ok e in record { values = v; good = p.0; whole = p.1 }

    module _ (q place : ℕ) where
      pub run_refuses : judged_run (read_as b) r ≡ refused q place → 1 ≤ q
      run_refuses e =
          ground_own (λ s g. g) (run_refused (read_as b) (λ s a p. 1 ≤ a) (λ s. Unit {0}) q place (λ s o d. (segments b).refuses s o q place d) (λ s l o d. tt) r ok e)

      -- a run is refused exactly on the ground of its first segment that is not of good values
      pub run_on : (judged_run (read_as b) r ≡ refused q place) ↔ RunGround (SegmentGround b) (SegmentOfValues b) q place r
      run_on = (
        run_refused (read_as b) (SegmentGround b) (SegmentOfValues b) q place (λ s o d. ((segments_on b).refused_on s q place o).0 d)
            (λ s l o d. of_values (segments b) (segments_on b) s o l d) r ok,
        run_grounded (read_as b) (SegmentGround b) (SegmentOfValues b) q place (λ s o g. ((segments_on b).refused_on s q place o).1 g)
            (λ s o w. (w.values, taken (segments b) (segments_on b) s o w)) r ok,
      )

-- a run that a judge accepts is accepted by any other that accepts what it accepts, with these values
pub run_higher : {judge other : List ℕ → Read} → ((s : List ℕ) (l : List Item) → Bytes s → judge s ≡ Read.accepted l → other s ≡ Read.accepted l)
    → (r : List (List ℕ)) (v : List (List Item)) → Each Bytes r → judged_run judge r ≡ accepted v → judged_run other r ≡ accepted v
run_higher f [] v ok e = e
run_higher {judge} {other} f (s ∷ r) v ok e = go (judge s) (judged_run judge r) (λ l. f s l ok.0) (λ w. run_higher f r w ok.1) e
  where
    go : (o : Read) (p : RunRead) → ((l : List Item) → o ≡ Read.accepted l → other s ≡ Read.accepted l) → ((w : List (List Item)) → p ≡ accepted w → judged_run other r ≡ accepted w)
        → in_front o p ≡ accepted v → in_front (other s) (judged_run other r) ≡ accepted v
    go (Read.refused q place) p g h d = absurd (let z : ◌≡◌ {A = ℕ} 0 1 = cc in omega arith)
    go (Read.accepted l) (refused q place) g h d = absurd (let z : ◌≡◌ {A = ℕ} 0 1 = cc in omega arith)
    go (Read.accepted l) (accepted w) g h d = ap₂ in_front (g l refl) (h w refl) ∙ d

-- ---- the elements that stand in a run's values

-- the elements that stand in the values of a segment are those that its numbers give by their order, and so is L_SP
stands_only : (b : Brought) (from : ℕ) (l : List Item) (es : List Element) (w : SegmentStands (GoodIn b) from l es)
    → (w.length.sheet ≡ segment_length (sheet_numbers l)) × (es ≡ elements_from from (profile_of (sheet_numbers l)))
stands_only Brought.packet from l es w = segment_only InPacket packet_count from l es w
stands_only Brought.sheet from l es w = segment_only InSheet sheet_count from l es w

stands_there : (b : Brought) (from : ℕ) (l : List Item) → SegmentValues b l → SegmentStands (GoodIn b) from l (elements_from from (profile_of (sheet_numbers l)))
stands_there Brought.packet from l c = segment_stands InPacket packet_count from l c
stands_there Brought.sheet from l c = segment_stands InSheet sheet_count from l c

-- those of a run are those that its numbers give, laid end to end
pub run_only : (b : Brought) {from : ℕ} {v : List (List Item)} {es : List Element} {start stop : ℕ} → RunStands b from v es start stop
    → (es ≡ run_elements from (numbers_of v)) × (start ≡ last_start from (numbers_of v)) × (stop ≡ run_end from (numbers_of v))
run_only b (RunStands.last {from = from} {l = l} {es = es} w) =
    let p = stands_only b from l es w in
    (p.1 ∙ sym (append-nil (elements_from from (profile_of (sheet_numbers l)))), refl, ap (λ (n : ℕ). from + n) p.0)
run_only b {stop = stop} (RunStands.further {from = from} {l = l} {es = es} {run = run} {more = more} {start = start} w rest) = go run rest (run_only b rest)
  where
    go : (r : List (List Item)) → RunStands b (from + w.length.sheet) r more start stop → (let next = from + w.length.sheet in
        (more ≡ run_elements next (numbers_of r)) × (start ≡ last_start next (numbers_of r)) × (stop ≡ run_end next (numbers_of r))
        → (es ++ more ≡ run_elements from (numbers_of (l ∷ r))) × (start ≡ last_start from (numbers_of (l ∷ r))) × (stop ≡ run_end from (numbers_of (l ∷ r))))
    go [] d q = elim d [ ]
    go (n ∷ r) d q =
        let p = stands_only b from l es w in
        let here : from + w.length.sheet ≡ from + segment_length (sheet_numbers l) = ap (λ (m : ℕ). from + m) p.0 in (
          ap₂ (λ (a c : List Element). a ++ c) p.1 (q.0 ∙ ap (λ (m : ℕ). run_elements m (numbers_of (n ∷ r))) here),
          q.1 ∙ ap (λ (m : ℕ). last_start m (numbers_of (n ∷ r))) here,
          q.2 ∙ ap (λ (m : ℕ). run_end m (numbers_of (n ∷ r))) here,
        )

pub run_stands : (b : Brought) (from : ℕ) (l : List Item) (v : List (List Item)) → Each (SegmentValues b) (l ∷ v)
    → RunStands b from (l ∷ v) (run_elements from (numbers_of (l ∷ v))) (last_start from (numbers_of (l ∷ v))) (run_end from (numbers_of (l ∷ v)))
run_stands b from l [] c =
    let w = stands_there b from l c.0 in
    subst₂ (λ (es : List Element) (n : ℕ). RunStands b from (l ∷ []) es from (from + n)) (sym (append-nil (elements_from from (profile_of (sheet_numbers l)))))
    (stands_only b from l (elements_from from (profile_of (sheet_numbers l))) w).0 (RunStands.last w)
run_stands b from l (n ∷ v) c =
    let w = stands_there b from l c.0 in
    let r = numbers_of (n ∷ v) in
    let next = from + segment_length (sheet_numbers l) in
    RunStands.further w
    (subst (λ (m : ℕ). RunStands b (from + m) (n ∷ v) (run_elements next r) (last_start next r) (run_end next r))
    (sym (stands_only b from l (elements_from from (profile_of (sheet_numbers l))) w).0) (run_stands b next n v c.1))

-- ---- lowering

pub each_lowered : (v : List (List Item)) → Each (SegmentValues Brought.sheet) v → Each (SegmentValues Brought.packet) (each_given_back v)
each_lowered [] c = tt
each_lowered (l ∷ v) c = (lowered_good c.0, each_lowered v c.1)

pub packets_lowered : (v : List (List Item)) → map (to_packet wire_changes) (each_given_back v) ≡ map (to_packet wire_changes) v
packets_lowered [] = refl
packets_lowered (l ∷ v) = ap₂ (λ (a : List ℕ) (r : List (List ℕ)). a ∷ r) (lowered_packet l) (packets_lowered v)

pub last_lowered : (v : List (List Item)) → Each (SegmentValues Brought.sheet) v → segment_length (last_of (numbers_of (each_given_back v))) ≡ segment_length (last_of (numbers_of v))
last_lowered v c = last_same (lowered_as_long v c)

-- a change of an answer that keeps the refusals of a question about good values
record Keeping (change : Speed → Speed) : Type 0 where
  bad_train : change (no_speed 10 0) ≡ no_speed 10 0
  past_end : change (no_speed 11 0) ≡ no_speed 11 0
  bad_count : change (no_speed 16 0) ≡ no_speed 16 0

abbrev answering : ℕ → Speed
answering v = record { refusal = 0; place = 0; speed = v }

-- the question about the packets of a run of sheets: what changes the one speed to the other, and no refusal, changes the answer
asked_changed : {change : Speed → Speed} → Keeping change → (count : ℕ) (v : List (List Item)) (t : Train) (x : ℕ) → Each (SegmentValues Brought.sheet) v
    → (let p = speed_in_run t x (numbers_of v) in answering (limited t (in_fives p)) ≡ change (answering (limited t p)))
    → speed_asked 0 count (map (to_packet wire_changes) v) t x ≡ change (speed_asked 1 count (map (to_sheet wire_changes) v) t x)
asked_changed {change} k count v t x c e =
    let packets = ap (judged_run (read_as Brought.packet)) (sym (packets_lowered v)) ∙ written Brought.packet (each_given_back v) (each_lowered v c) in
    let sheets = written Brought.sheet v c in
    let lsp = segment_length (last_of (numbers_of v)) in
    let p = speed_in_run t x (numbers_of v) in
    let judged : judged_speed t x lsp (limited t (in_fives p)) ≡ change (judged_speed t x lsp (limited t p)) =
    by_cases (valid_train t) (λ d. by_cases (ltb x lsp) (λ b. rw (d, b) e) (λ b. rw (d, b) (sym k.past_end))) (λ d. rw d (sym k.bad_train)) in
    let values : speed_of_run t x (each_given_back v) ≡ change (speed_of_run t x v) =
    ap₂ (λ (n w : ℕ). judged_speed t x n (limited t w)) (last_lowered v c) (run_in_fives t x v c) ∙ judged in
    by_cases (run_count count)
    (λ d. rw d (ap (answer_of_run no_speed (speed_of_run t x)) packets ∙ values ∙ ap (λ (o : RunRead). change (answer_of_run no_speed (speed_of_run t x) o)) (sym sheets)))
    (λ d. rw d (sym k.bad_count))

-- its speed is the lower of the maximum and the greatest multiple of 5 not above the profile's speed from the sheets, its refusal theirs
pub asked_profile : (count : ℕ) (v : List (List Item)) (t : Train) (x : ℕ) → Each (SegmentValues Brought.sheet) v
    → speed_asked 0 count (map (to_packet wire_changes) v) t x
    ≡ answer_with (limited t (in_fives (speed_in_run t x (numbers_of v)))) (speed_asked 1 count (map (to_sheet wire_changes) v) t x)
asked_profile count v t x c = asked_changed {change = answer_with (limited t (in_fives (speed_in_run t x (numbers_of v))))} (record { bad_train = refl; past_end = refl; bad_count = refl }) count v t x c refl

-- to a train with the maximum 600 it is their answer with its speed lowered
pub asked_lowered : (count : ℕ) (v : List (List Item)) (t : Train) (x : ℕ) → Each (SegmentValues Brought.sheet) v
    → speed_asked 0 count (map (to_packet wire_changes) v) (with_maximum 600 t) x ≡ answer_in_fives (speed_asked 1 count (map (to_sheet wire_changes) v) (with_maximum 600 t) x)
asked_lowered count v t x c =
    let p = speed_in_run (with_maximum 600 t) x (numbers_of v) in
    let e : min 600 (in_fives p) ≡ in_fives (min 600 p) = omega arith in
    asked_changed {change = answer_in_fives} (record { bad_train = refl; past_end = refl; bad_count = refl }) count v (with_maximum 600 t) x c (ap answering e)
