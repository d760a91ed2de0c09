-- Spans kept one after the other: of a segment's elements, and of a run's segments. They stand for what holds at each place.
use mathlib.Core.Path.{◌≡◌, refl, sym, ap₂, ◌∙◌, subst}
use mathlib.Core.Bool.{Bool, ◌&&◌}
use mathlib.Core.List.{List, []}
use Prim.Native.Nat.{ℕ, zero, suc, ◌+◌, ◌-◌, ◌*◌, ◌≤◌, ◌<◌, min}
use native.Mathlib.Omega.{arith}
use native.Mathlib.Numerals.{add-one}
use borrow.Author.Tests.{eqb-true, eqb-false, leb-true, leb-false, le-leb, lt-leb, ltb-true, ltb-false, lt-ltb, le-ltb}
use lib.Dec.{eqb, ltb, leb}
use lib.ListN.{length, length-set, take, set, get_or}
use Rattle.std.proofs.lemmas.List.{get_or-take, length-take-le}
use lib.Seq.{get_or-set_same, get_or-set_other}
use Rattle.bits.proofs.Tests.{by_cases}
use Rattle.kinds.specs.declared.Item.{Item}
use Rattle.format.specs.Format.{Format}
use Rattle.speed.specs.declared.Train.{Train}
use Rattle.speed.specs.Speed.{held_to}
use Rattle.speed_element.specs.declared.First.{First}
use Rattle.speed_element.specs.declared.Following.{Following}
use Rattle.speed_element.specs.declared.Open.{Open}
use Rattle.speed_element.specs.internal.Elements.{none, counted, element_with}
use Rattle.speed_element.specs.internal.Reading.{NextRead, FirstRead, HeadRead, Opens}
use Rattle.speed_element.specs.internal.Passing.{Passed}
use Rattle.speed_element.proofs.Reading.{Ending, ending_all, ending_next, kept_small, ended_kept, first_changes, first_profile, head_readable, head_passed}
use Rattle.speed_question.specs.declared.run.LastSegment.{LastSegment}
use Rattle.speed_question.specs.Question.{Brought}
use Rattle.speed_question.specs.internal.Run.{HeadOf, numbers_as, numbers_in, LastRead}
use Rattle.speed_question.proofs.Runs.{Passing, passing_first, passing_before, passing_next, passing_last}
use Rattle.steps.specs.declared.spans.Span.{Span}
use Rattle.steps.specs.declared.spans.Spans.{Spans}
use Rattle.steps.specs.internal.Spans.{lowest_at, lowest_in, Speeds, SpeedRead, Whole, with_span, Few, SegmentKept, RunKept}

abbrev no_span : Span
no_span = record { start = 0; stop = 0; speed = 0 }

-- ---- one span more

module _ (l : List Span) where
  set_past : (n i : ℕ) (w : Span) (y : ℕ) → n ≤ i → lowest_at n (set l i w) y ≡ lowest_at n l y
  set_past zero i w y h = refl
  set_past (suc n) i w y h =
      let other : n ≡ i → ⊥ = λ e. omega arith in
      rw (get_or-set_other l i n w no_span other, set_past n i w y (omega arith))

-- the first spans alone
low_taken : (n m : ℕ) (l : List Span) (y : ℕ) → n ≤ m → lowest_at n (take m l) y ≡ lowest_at n l y
low_taken zero m l y h = refl
low_taken (suc n) m l y h = let z : n < m = omega arith in rw (get_or-take m l n no_span z, low_taken n m l y (omega arith))

pub all_kept : {m : ℕ} (s : Spans) (y : ℕ) → Few m s → m ≤ 128 → lowest_at (length (take s.count s.spans)) (take s.count s.spans) y ≡ lowest_in s y
all_kept s y f h =
    let long : length (take s.count s.spans) ≡ s.count = length-take-le s.count s.spans (omega (arith, f.most, f.whole)) in
    rw long (low_taken s.count s.count s.spans y (omega arith))

module _ (s : Spans) (whole : Whole s) (room : s.count < 128) (p q w : ℕ) where
  abbrev more : Span
  more = record { start = p; stop = q; speed = w }

  pub one_more : (y : ℕ) → lowest_in (with_span s p q w) y ≡ min (lowest_in s y) (counted (leb p y && ltb y q) w)
  one_more y =
      let n = s.count in
      let a : n < length s.spans = omega (arith, whole) in
      let z : n ≤ n = omega arith in
      rw (add-one n, get_or-set_same s.spans n more no_span a, set_past s.spans n n more y z)

  pub whole_more : Whole (with_span s p q w)
  whole_more = length-set s.spans s.count more ∙ whole

pub speeds_more : (n : ℕ) (w : Span) (l : List Span) → Speeds n l → n < length l → w.speed < none → Speeds (n + 1) (set l n w)
speeds_more n w l all h small j less =
    by_cases (eqb j n)
    (λ e. let z : j ≡ n = eqb-true j n e in rw (z, get_or-set_same l n w no_span h) small)
    (λ e. rw (get_or-set_other l n j w no_span (eqb-false j n e)) (all j (omega (arith, eqb-false j n e))))

-- places counted from further on
leb_from : (d a x : ℕ) → leb (d + a) (d + x) ≡ leb a x
leb_from d a x =
    by_cases (leb a x)
    (λ e. le-leb (d + a) (d + x) (omega (arith, leb-true a x e)) ∙ sym e)
    (λ e. lt-leb (d + a) (d + x) (omega (arith, leb-false a x e)) ∙ sym e)

ltb_from : (d x a : ℕ) → ltb (d + x) (d + a) ≡ ltb x a
ltb_from d x a =
    by_cases (ltb x a)
    (λ e. lt-ltb (d + x) (d + a) (omega (arith, ltb-true x a e)) ∙ sym e)
    (λ e. le-ltb (d + x) (d + a) (omega (arith, ltb-false x a e)) ∙ sym e)

-- ---- the elements of a segment

module _ (Reads : Format → ℕ → List Item → Type 0) (t : Train) (lsp start : ℕ) (begun : First) (before : Spans) where
  -- so many elements have yet to end; what is kept stands, at each place, for those that have
  pub record Keeping (left to : ℕ) (o : Open) (kept : Spans) : Type 0 where
    pub ending : (x : ℕ) → Ending Reads t lsp x (lowest_in before (start + x)) begun.«open» begun.count begun.next left to (lowest_in kept (start + x)) o
    pub room : kept.count + left ≤ before.count + 32
    pub speeds : Speeds kept.count kept.spans
    pub whole : Whole kept

  module _ {ns : List ℕ} {at : ℕ} (h : HeadRead Reads ns lsp at) (i : FirstRead Reads at begun) where
    pub keeping_first : {n : ℕ} → Few n before → Keeping (begun.count + 1) begun.next begun.«open» before
    keeping_first f =
        let r = first_changes Reads lsp i (head_readable Reads h) in
        record { ending = λ x. ending_all Reads r.0 r.1; room = omega (arith, i.few); speeds = f.speeds; whole = f.whole }

    pub keeping_last : {left to : ℕ} {o : Open} {kept : Spans} → Keeping left to o kept → left ≤ 0 → SegmentKept t ns start before.count before kept
    keeping_last {left} g z =
        let e : left ≡ 0 = omega arith in
        record {
          passed = λ x. head_passed Reads h (first_profile Reads lsp i ((g.ending x).done e));
          few = record { most = omega (arith, g.room); speeds = g.speeds; whole = g.whole };
        }

  module _ {left to : ℕ} {o : Open} {kept : Spans} (g : Keeping left to o kept) (h : 0 < left) where
    pub keeping_opens : Opens Reads o
    keeping_opens = ((g.ending 0).more h).opens

    -- one more has room
    pub keeping_room : before.count ≤ 96 → kept.count < 128
    keeping_room m = omega (arith, g.room)

    pub keeping_next : {n : Following} {v until : ℕ} → before.count ≤ 96 → NextRead Reads lsp o (left - 1) to n → until ≡ held_to t (element_with o []) n.end → SpeedRead Reads t n.end o v
        → Keeping (left - 1) n.next n.«open» (with_span kept (start + o.start) (start + until) v)
    keeping_next {n} {v} {until} few r up s =
        record {
          ending = ending;
          room = omega (arith, g.room);
          speeds = speeds_more kept.count (record { start = start + o.start; stop = start + until; speed = v }) kept.spans g.speeds (omega (arith, g.whole, keeping_room few)) (kept_small Reads s.ended s.is up);
          whole = whole_more kept g.whole (keeping_room few) (start + o.start) (start + until) v;
        }
      where
        here : (x : ℕ) → lowest_in (with_span kept (start + o.start) (start + until) v) (start + x) ≡ min (lowest_in kept (start + x)) (counted (leb o.start x && ltb x until) v)
        here x =
            one_more kept g.whole (keeping_room few) (start + o.start) (start + until) v (start + x)
            ∙ ap₂ (λ (a b : Bool). min (lowest_in kept (start + x)) (counted (a && b) v)) (leb_from start o.start x) (ltb_from start x until)

        ending : (x : ℕ) → Ending Reads t lsp x (lowest_in before (start + x)) begun.«open» begun.count begun.next (left - 1) n.next (lowest_in (with_span kept (start + o.start) (start + until) v) (start + x)) n.«open»
        ending x =
            subst (λ (m : ℕ). Ending Reads t lsp x (lowest_in before (start + x)) begun.«open» begun.count begun.next (left - 1) n.next m n.«open») (sym (here x))
            (ending_next Reads ((g.ending x).more h) r (ended_kept Reads s.ended s.is up (lowest_in kept (start + x)) x))

-- ---- the segments of a run

module _ (b : Brought) (all : List (List ℕ)) (t : Train) (from : ℕ) where
  -- what is kept stands, at each place of the last segment, for what holds in the first i segments
  pub record RunKeeping (i start : ℕ) (kept : Spans) : Type 0 where
    pub passing : (x : ℕ) → Passing b all t x i start (lowest_in kept (from + x))
    pub few : Few (i * 32) kept

  pub run_keeping_first : {kept : Spans} → kept.count ≡ 0 → Whole kept → RunKeeping 0 0 kept
  run_keeping_first {kept} e whole =
      record {
        passing = λ x.
            subst (λ (m : ℕ). Passing b all t x 0 0 (lowest_at m kept.spans (from + x))) (sym e) (passing_first b all);
        few = record { most = omega (arith, e); speeds = λ j h. absurd (omega (arith, e)); whole = whole };
      }

  pub run_keeping_next : {i start lsp at : ℕ} {kept more : Spans} {l : LastSegment} → RunKeeping i start kept → i < length all → LastRead b all l → l.start ≡ from → HeadOf b (get_or all i []) lsp at
      → SegmentKept t (numbers_as b (get_or all i [])) start kept.count kept more → RunKeeping (i + 1) (start + lsp) more
  run_keeping_next {i} {start} {lsp} {kept = kept} {more = more} {l = l} g h k is d s =
      record { passing = passing; few = record { most = omega (arith, s.few.most, g.few.most); speeds = s.few.speeds; whole = s.few.whole } }
    where
      passing : (x : ℕ) → Passing b all t x (i + 1) (start + lsp) (lowest_in more (from + x))
      passing x =
          let y = from + x - start in
          let far = passing_before b all (g.passing x) h k in
          let e : start + y ≡ from + x = omega arith in
          passing_next b all i h y (g.passing x) d (omega (arith, k.start_is))
          (subst (λ (m : ℕ). Passed t (numbers_as b (get_or all i [])) y (lowest_in kept m) (lowest_in more m)) e (s.passed y))

  pub run_keeping_last : {i start : ℕ} {kept : Spans} → RunKeeping i start kept → length all ≡ i → length all ≤ 4 → RunKept t (numbers_in b all) from kept
  run_keeping_last g h up =
      record {
        held = λ x. passing_last b all (g.passing x) (omega arith);
        few = record { most = omega (arith, g.few.most); speeds = g.few.speeds; whole = g.few.whole };
      }
