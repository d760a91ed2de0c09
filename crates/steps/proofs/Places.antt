-- Stretch by stretch: where no span starts or stops, the permitted speed stays as it is; so the first place that is found wrong is the first wrong centimetre.
use mathlib.Core.Path.{◌≡◌, refl, sym, ap, ap₂, ◌∙◌}
use mathlib.Core.Bool.{Bool, true, false}
use mathlib.Core.List.{List, []}
use Prim.Native.Nat.{ℕ, zero, suc, ◌+◌, ◌-◌, ◌≤◌, ◌<◌, min}
use native.Mathlib.Omega.{arith}
use native.Mathlib.Numerals.{add-one}
use borrow.Author.Tests.{eq-eqb, ne_eqb, leb-true, leb-false, le-leb, lt-leb, lt-ltb, le-ltb}
use lib.Dec.{leb}
use lib.ListN.{length, get_or}
use Rattle.bits.proofs.Tests.{by_cases}
use Rattle.speed.specs.declared.Train.{Train}
use Rattle.speed.specs.Speed.{limited}
use mathlib.Core.Option as Option
use Rattle.speed_element.specs.internal.Elements.{none, instead_from, counted}
use Rattle.steps.specs.declared.looking.Reached.{Reached}
use Rattle.steps.specs.declared.looking.Stretch.{Stretch}
use Rattle.steps.specs.declared.spans.Span.{Span}
use Rattle.steps.specs.Steps.{stepped, step_speed, first_wrong}
use Rattle.steps.specs.internal.Spans.{span, holds_at, lowest_at}
use Rattle.steps.specs.internal.Places.{speed_at, right_in, Gone, Stretched, StepAt, StepsGive, NextStep, Compares}
use Rattle.steps.proofs.First.{everywhere_counted, first_counted}
use Rattle.steps.proofs.Starts.{stepped_some, stepped_same, stepped_zero, stepped_rising, rises, step_at_lem}

-- ---- spans at a place

pub gone_more : (i y : ℕ) (l : List Span) → Gone i l y → (span l i).stop ≤ y → Gone (i + 1) l y
gone_more i y l g h j less = by_cases (leb i j) (λ e. let q : j ≡ i = omega (arith, leb-true i j e) in rw q h) (λ e. g j (leb-false i j e))

module _ (l : List Span) (j z : ℕ) where
  early_not : z < (span l j).start → holds_at l j z ≡ false
  early_not h = rw (lt-leb (span l j).start z h)

  late_not : (span l j).stop ≤ z → holds_at l j z ≡ false
  late_not h = rw (le-ltb z (span l j).stop h) (by_cases (leb (span l j).start z) (λ e. rw e) (λ e. rw e))

  between_holds : (span l j).start ≤ z → z < (span l j).stop → holds_at l j z ≡ true
  between_holds h k = rw (le-leb (span l j).start z h, lt-ltb z (span l j).stop k)

module _ (l : List Span) (y : ℕ) where
  low_most : (n : ℕ) → lowest_at n l y ≤ none
  low_most zero = omega arith
  low_most (suc n) = omega (arith, low_most n)

  -- one that does not hold changes nothing
  low_not : (n : ℕ) → holds_at l n y ≡ false → lowest_at (n + 1) l y ≡ lowest_at n l y
  low_not n e = rw (add-one n, e) (omega (arith, low_most n))

  low_more : (n : ℕ) → holds_at l n y ≡ true → lowest_at (n + 1) l y ≡ min (lowest_at n l y) (span l n).speed
  low_more n e = rw (add-one n, e)

  low_gone : (n : ℕ) → Gone n l y → lowest_at n l y ≡ none
  low_gone zero g = refl
  low_gone (suc n) g = rw (late_not l n y (g n (omega arith)), low_gone n (λ j h. g j (omega arith))) (omega arith)

-- ---- a stretch, span by span

-- the first n spans hold at each place from y up to until as they do at y
abbrev Same : ℕ → List Span → ℕ → ℕ → Type 0
Same n l y until = (j z : ℕ) → j < n → y ≤ z → z < until → holds_at l j z ≡ holds_at l j y

-- the first i of n spans were looked at
pub record Stretching (n : ℕ) (l : List Span) (y end i low until : ℕ) : Type 0 where
  pub up : i ≤ n
  pub is : low ≡ lowest_at i l y
  pub past : y < until
  pub most : until ≤ end
  pub same : (j z : ℕ) → j < i → y ≤ z → z < until → holds_at l j z ≡ holds_at l j y

module _ (n : ℕ) (l : List Span) (y end : ℕ) where
  pub stretching_first : {i : ℕ} → i ≤ n → Gone i l y → y < end → Stretching n l y end i none end
  stretching_first {i} h g less =
      record {
        up = h;
        is = sym (low_gone l y i g);
        past = less;
        most = omega arith;
        same = λ j z k m u. late_not l j z (omega (arith, g j k)) ∙ sym (late_not l j y (g j k));
      }

  module _ {i low until : ℕ} (g : Stretching n l y end i low until) (h : i < n) where
    -- one span more, which holds up to next as it does at y
    one_span : {less next : ℕ} → next ≤ until → y < next → ((z : ℕ) → y ≤ z → z < next → holds_at l i z ≡ holds_at l i y) → less ≡ lowest_at (i + 1) l y → Stretching n l y end (i + 1) less next
    one_span {less} {next} near past stays is = record { up = omega arith; is = is; past = past; most = omega (arith, g.most); same = same }
      where
        same : Same (i + 1) l y next
        same j z k m u =
            by_cases (leb i j)
            (λ e. let q : j ≡ i = omega (arith, leb-true i j e) in rw q (stays z m u))
            (λ e. g.same j z (leb-false i j e) m (omega arith))

    pub span_early : {less next : ℕ} → y < (span l i).start → next ≡ min until (span l i).start → less ≡ low → Stretching n l y end (i + 1) less next
    span_early {less} {next} early e f =
        one_span (omega arith) (omega (arith, g.past)) (λ z m u. early_not l i z (omega arith) ∙ sym (early_not l i y early))
        (f ∙ g.is ∙ sym (low_not l y i (early_not l i y early)))

    pub span_holds : {less next : ℕ} → (span l i).start ≤ y → y < (span l i).stop → next ≡ min until (span l i).stop → less ≡ min low (span l i).speed → Stretching n l y end (i + 1) less next
    span_holds {less} {next} begun on e f =
        one_span (omega arith) (omega (arith, g.past)) (λ z m u. between_holds l i z (omega arith) (omega arith) ∙ sym (between_holds l i y begun on))
        (f ∙ ap (λ (m : ℕ). min m (span l i).speed) g.is ∙ sym (low_more l y i (between_holds l i y begun on)))

    pub span_late : {less next : ℕ} → (span l i).stop ≤ y → next ≡ until → less ≡ low → Stretching n l y end (i + 1) less next
    span_late {less} {next} late e f =
        one_span (omega arith) (omega (arith, g.past)) (λ z m u. late_not l i z (omega arith) ∙ sym (late_not l i y late))
        (f ∙ g.is ∙ sym (low_not l y i (late_not l i y late)))

  pub stretching_last : {i low until : ℕ} → Stretching n l y end i low until → n ≤ i → Stretched n l y end (record { low = low; until = until })
  stretching_last {i} g h =
      let e : i ≡ n = omega (arith, g.up) in
      record {
        low = g.is ∙ ap (λ (m : ℕ). lowest_at m l y) e;
        past = g.past;
        most = g.most;
        same = λ j z k. g.same j z (omega arith);
      }

-- in a stretch the lowest speed stays
same_low : (n : ℕ) (l : List Span) (y until z : ℕ) → Same n l y until → y ≤ z → z < until → lowest_at n l z ≡ lowest_at n l y
same_low zero l y until z s h k = refl
same_low (suc n) l y until z s h k =
    ap₂ (λ (m : ℕ) (c : Bool). min m (counted c (span l n).speed)) (same_low n l y until z (λ j x i. s j x (omega arith)) h k) (s n z (omega arith) h k)

-- ---- steps, one after the other

pub steps_give : (lsp : ℕ) (starts speeds : List ℕ) → stepped lsp starts speeds ≡ true → StepsGive starts speeds
steps_give lsp starts speeds e =
    let r = stepped_rising lsp starts speeds e in
    let q = stepped_same lsp starts speeds e in
    record {
      equal = q;
      rise = λ i k. rw (add-one i) (rises lsp starts r i (omega arith));
      give = λ x i s. step_at_lem lsp 0 x i starts speeds r q s.inside s.before (λ k. rw (add-one i) at (s.last (omega arith)));
    }

-- the steps from x up to a place give the speed v
pub record Comparing (starts speeds : List ℕ) (x until v place step : ℕ) : Type 0 where
  pub low : x ≤ place
  pub most : place ≤ until
  pub right : (d : ℕ) → x ≤ d → d < place → step_speed 0 d starts speeds ≡ v
  pub at : StepAt starts place step

module _ (starts speeds : List ℕ) (x until v : ℕ) where
  pub comparing_first : {step : ℕ} → StepAt starts x step → x ≤ until → Comparing starts speeds x until v x step
  comparing_first s h = record { low = omega arith; most = h; right = λ d a b. absurd (omega arith); at = s }

  module _ (g : StepsGive starts speeds) {place step : ℕ} (c : Comparing starts speeds x until v place step) where
    pub comparing_wrong : place < until → (get_or speeds step 0 ≡ v → ⊥) → Compares starts speeds x until v (record { place = place; step = step })
    comparing_wrong h n = record { low = c.low; most = c.most; right = c.right; wrong = λ _ e. n (sym (g.give place step c.at) ∙ e); step = c.at }

    pub comparing_last : until ≤ place → Compares starts speeds x until v (record { place = place; step = step })
    comparing_last h = record { low = c.low; most = c.most; right = c.right; wrong = λ k. absurd (omega arith); step = c.at }

    -- up to the next place the step is the last
    up_to_lem : (next : ℕ) → get_or speeds step 0 ≡ v → (step + 1 < length starts → next ≤ get_or starts (step + 1) 0) → (d : ℕ) → x ≤ d → d < next → step_speed 0 d starts speeds ≡ v
    up_to_lem next e before d a b =
        by_cases (leb place d)
        (λ q. g.give d step (record { inside = c.at.inside; before = omega (arith, c.at.before, leb-true place d q); last = λ k. omega (arith, before k) }) ∙ e)
        (λ q. c.right d a (leb-false place d q))

    pub comparing_more : {r : Reached} → place < until → NextStep starts step until r → place < r.place
    comparing_more h (NextStep.there k m p q) = omega (arith, c.at.last k)
    comparing_more h (NextStep.later n p q) = omega arith

    pub comparing_next : {r : Reached} → place < until → get_or speeds step 0 ≡ v → NextStep starts step until r → Comparing starts speeds x until v r.place r.step
    comparing_next {r} h e (NextStep.there k m p q) =
        record {
          low = omega (arith, c.low, c.at.last k);
          most = omega arith;
          right = up_to_lem r.place e (λ _. omega arith);
          at = rw (p, q) (record { inside = k; before = omega arith; last = g.rise (step + 1) });
        }
    comparing_next {r} h e (NextStep.later n p q) =
        record {
          low = omega (arith, c.low);
          most = omega arith;
          right = up_to_lem r.place e (λ k. omega (arith, n k));
          at = rw (p, q) (record { inside = c.at.inside; before = omega (arith, c.at.before); last = n });
        }

-- ---- stretch after stretch

module _ (t : Train) (l : List Span) (from : ℕ) (starts speeds : List ℕ) (lsp : ℕ) where
  abbrev test : ℕ → Bool
  test = right_in t l from starts speeds

  -- up to x the steps are right
  pub record Looked (first x step : ℕ) : Type 0 where
    pub up : x ≤ lsp
    pub right : (d : ℕ) → d < x → right_in t l from starts speeds d ≡ true
    pub few : first ≤ length l
    pub gone : Gone first l (from + x)
    pub at : StepAt starts x step

  pub looked_first : stepped lsp starts speeds ≡ true → Looked 0 0 0
  looked_first e =
      let zero_first = stepped_zero lsp starts speeds e in
      record {
        up = omega arith;
        right = λ d h. absurd (omega arith);
        few = omega arith;
        gone = λ j h. absurd (omega arith);
        at = record {
          inside = omega (arith, stepped_some lsp starts speeds e);
          before = omega arith;
          last = λ k. omega (arith, (steps_give lsp starts speeds e).rise 0 k);
        };
      }

  pub looked_last : {first x step : ℕ} → Looked first x step → lsp ≤ x → first_wrong lsp 0 (right_in t l from starts speeds) ≡ Option.none
  looked_last g h = everywhere_counted test lsp (λ c k. g.right c (omega arith))

  module _ {first x step : ℕ} (g : Looked first x step) {here : Stretch} (s : Stretched (length l) l (from + x) (from + lsp) here)
      {ours until : ℕ} (is : ours ≡ limited t (instead_from here.low 0 [])) (ends : until ≡ here.until - from) {found : Reached} (c : Compares starts speeds x until ours found) where
    -- our speed in the stretch
    there : (d : ℕ) → x ≤ d → d < until → speed_at t (length l) l (from + d) ≡ ours
    there d a b =
        ap (λ (m : ℕ). limited t (instead_from m 0 []))
        (same_low (length l) l (from + x) here.until (from + d) s.same (omega arith) (omega arith) ∙ sym s.low)
        ∙ sym is

    right_up : (d : ℕ) → d < found.place → test d ≡ true
    right_up d h =
        by_cases (leb x d)
        (λ e. let k = leb-true x d e in eq-eqb (step_speed 0 d starts speeds) _ (c.right d k h ∙ sym (there d k (omega (arith, c.most)))))
        (λ e. g.right d (leb-false x d e))

    pub looked_wrong : found.place < until → first_wrong lsp 0 (right_in t l from starts speeds) ≡ Option.some found.place
    looked_wrong h =
        let p = found.place in
        let o = there p c.low h in
        let w : test p ≡ false = ne_eqb (step_speed 0 p starts speeds) _ (λ e. c.wrong h (e ∙ o)) in
        first_counted test lsp p (record { inside = omega (arith, s.most); wrong = w; before = right_up })

    pub looked_next : {more : ℕ} → more ≤ length l → Gone more l (from + x) → until ≤ found.place → Looked more found.place found.step
    looked_next few gone h =
        record {
          up = omega (arith, s.most, c.most);
          right = right_up;
          few = few;
          gone = λ j k. omega (arith, gone j k, c.low);
          at = c.step;
        }
