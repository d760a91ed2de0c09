-- "Longer or slower never means faster": the three sentences in the words of the question, for runs of packets and of sheets, and the lowest of some answers.
use mathlib.Core.Path.{◌≡◌, refl, sym, ap, ap₂, ◌∙◌, subst}
use mathlib.Core.List.{List, [], ◌∷◌, map}
use Prim.Native.Nat.{ℕ, ◌≤◌, ◌<◌}
use native.Mathlib.Omega.{arith}
use borrow.Author.Tests.{ltb-true}
use lib.Dec.{ltb}
use Rattle.bits.specs.Bits.{Bytes}
use Rattle.bits.proofs.Tests.{by_cases}
use Rattle.kinds.specs.declared.Item.{Item}
use Rattle.speed.specs.declared.Train.{Train}
use Rattle.speed.specs.Speed.{valid_train, limited, segment_length}
use Rattle.speed.specs.Run.{Each, EachTwo, none, another, numbers_of, each_given_back, last_of, speed_in_run}
use Rattle.speed.specs.Faster.{Slower}
use Rattle.speed.proofs.Faster.{limited_slower}
use Rattle.speed.proofs.Raised as raised
use Rattle.speed_question.specs.declared.Speed.{Speed}
use Rattle.speed_question.specs.Question.{Brought, medium_of, no_speed, lent, run_count, answer_of_run, speed_of_run, permitted_speed}
use Rattle.promises.specs.Promised.{SegmentValues, segment_of, SegmentOfValues, RunOfValues, with_maximum, EachConverted}
use Rattle.promises.specs.Faster.{NotFaster, with_length, RaisedRun}
use Rattle.promises.proofs.Ranges.{good_sheet}
use Rattle.promises.proofs.Runs.{run_accepted, each_lowered, packets_lowered, last_lowered}
use Rattle.promises.proofs.Speeds.{permitted_speed_count, permitted_speed_judged, permitted_speed_answered}
use Rattle.promises.proofs.DemandThree.{packets_of}

-- ---- an accepted question about a run of good values

module _ (b : Brought) (count : ℕ) (first second third fourth : List ℕ) (t : Train) (x : ℕ) where
  abbrev answer : Speed
  answer = permitted_speed (medium_of b) count first second third fourth t x

  -- its speed, and that x lies in the last segment
  accepted_speed : (w : RunOfValues b (lent count first second third fourth)) → answer.refusal ≡ 0
      → (answer.speed ≡ limited t (speed_in_run t x (numbers_of w.values))) × (x < segment_length (last_of (numbers_of w.values)))
  accepted_speed w ok =
      by_cases (run_count count)
      (λ few. given (permitted_speed_judged (medium_of b) count first second third fourth t x b refl few
      ∙ ap (answer_of_run no_speed (speed_of_run t x)) (run_accepted b (lent count first second third fourth) w)))
      (λ many. not 16 (omega arith) (permitted_speed_count (medium_of b) count first second third fourth t x b refl many))
    where
      not : {C : Type 0} (r : ℕ) → 1 ≤ r → answer ≡ no_speed r 0 → C
      not r h e = absurd (omega (arith, ok, ap (λ (o : Speed). o.refusal) e))

      given : answer ≡ speed_of_run t x w.values → (answer.speed ≡ limited t (speed_in_run t x (numbers_of w.values))) × (x < segment_length (last_of (numbers_of w.values)))
      given e =
          let lsp = segment_length (last_of (numbers_of w.values)) in
          by_cases (valid_train t)
          (λ v. by_cases (ltb x lsp) (λ i. (ap (λ (o : Speed). o.speed) e ∙ rw (v, i), ltb-true x lsp i)) (λ i. not 11 (omega arith) (e ∙ rw (v, i))))
          (λ v. not 10 (omega arith) (e ∙ rw v))

-- ---- the values of two runs, those of the second raised

record Both (b : Brought) (r s : List (List ℕ)) : Type 0 where
  lower : RunOfValues b r
  higher : RunOfValues b s
  each : EachTwo raised.SheetRaised lower.values higher.values

sheet_values : (b : Brought) {l : List Item} → SegmentValues b l → SegmentValues Brought.sheet l
sheet_values Brought.packet c = good_sheet c
sheet_values Brought.sheet c = c

abbrev before : {b : Brought} {s : List ℕ} {r : List (List ℕ)} → SegmentOfValues b s → RunOfValues b r → RunOfValues b (s ∷ r)
before w rest = record {
  values = w.values ∷ rest.values;
  good = (w.good, rest.good);
  whole = ap₂ (λ (s : List ℕ) (r : List (List ℕ)). s ∷ r) w.whole rest.whole;
}

both : (b : Brought) {r s : List (List ℕ)} → RaisedRun b r s → Both b r s
both b none = record { lower = record { values = []; good = tt; whole = refl }; higher = record { values = []; good = tt; whole = refl }; each = none }
both b (another p rest) =
    let q = both b rest in
    record {
      lower = before p.values q.lower;
      higher = before p.higher q.higher;
      each = another (record { here = sheet_values b p.values.good; there = sheet_values b p.higher.good; raising = p.raising }) q.each;
    }

-- ==== "Longer or slower never means faster."

-- for a train that is as long or longer and has the same or a lower maximum, on a run whose speeds are as high or lower: all at once
pub never_faster : (b : Brought) (count : ℕ) (s₁ s₂ s₃ s₄ r₁ r₂ r₃ r₄ : List ℕ) (u t : Train) (x : ℕ) → Slower u t → RaisedRun b (lent count s₁ s₂ s₃ s₄) (lent count r₁ r₂ r₃ r₄)
    → NotFaster (permitted_speed (medium_of b) count s₁ s₂ s₃ s₄ u x) (permitted_speed (medium_of b) count r₁ r₂ r₃ r₄ t x)
never_faster b count s₁ s₂ s₃ s₄ r₁ r₂ r₃ r₄ u t x slower run p q =
    let w = both b run in
    let low = accepted_speed b count s₁ s₂ s₃ s₄ u x w.lower p in
    let high = accepted_speed b count r₁ r₂ r₃ r₄ t x w.higher q in
    omega (arith, low.0, high.0, limited_slower u t slower _ _ (raised.never_faster u t slower x w.each high.1))

-- a run of good values is raised to itself
stays : (b : Brought) (v : List (List Item)) → Each (SegmentValues b) v → RaisedRun b (map (segment_of b) v) (map (segment_of b) v)
stays b [] good = none
stays b (l ∷ v) good =
    let w : SegmentOfValues b (segment_of b l) = record { values = l; good = good.0; whole = refl } in
    another (record { values = w; higher = w; raising = raised.raising_stays good.0 }) (stays b v good.1)

module _ (medium count : ℕ) (first second third fourth : List ℕ) (t : Train) (x : ℕ) (ok : Each Bytes (lent count first second third fourth)) where
  -- about one run
  pub slower_never_faster : (u : Train) → Slower u t → NotFaster (permitted_speed medium count first second third fourth u x) (permitted_speed medium count first second third fourth t x)
  slower_never_faster u slower p q =
      let c = (permitted_speed_answered medium count first second third fourth t x ok).0 q in
      let same = subst (λ (r : List (List ℕ)). RaisedRun c.brought r r) (sym c.of.whole) (stays c.brought c.of.values c.of.good) in
      subst (λ (m : ℕ). NotFaster (permitted_speed m count first second third fourth u x) (permitted_speed m count first second third fourth t x)) (sym c.named)
      (never_faster c.brought count first second third fourth first second third fourth u t x slower same) p q

  -- ==== "a longer train never gets a higher speed at the same location"

  pub longer_never_faster : (n : ℕ) → t.length ≤ n → NotFaster (permitted_speed medium count first second third fourth (with_length n t) x) (permitted_speed medium count first second third fourth t x)
  longer_never_faster n h =
      slower_never_faster (with_length n t) (record { longer = h; lower = omega arith; alike = record { cant = refl; in_p = refl; in_g = refl; passengers = refl } })

  -- ==== "a lower card maximum never raises one"

  pub lower_never_raises : (n : ℕ) → n ≤ t.maximum → NotFaster (permitted_speed medium count first second third fourth (with_maximum n t) x) (permitted_speed medium count first second third fourth t x)
  lower_never_raises n h =
      slower_never_faster (with_maximum n t) (record { longer = omega arith; lower = h; alike = record { cant = refl; in_p = refl; in_g = refl; passengers = refl } })

-- the packets of sheets, by the values that they give back
abbrev packets : {sheets made : List (List ℕ)} (w : RunOfValues Brought.sheet sheets) → Each Bytes sheets → EachConverted sheets made → RunOfValues Brought.packet made
packets w ok c = record {
  values = each_given_back w.values;
  good = each_lowered w.values w.good;
  whole = packets_of w.values ok w.good w.whole c ∙ sym (packets_lowered w.values);
}

-- ==== "raising any speed in the sheet never lowers an answer"

module _ (count : ℕ) (s₁ s₂ s₃ s₄ r₁ r₂ r₃ r₄ : List ℕ) (t : Train) (x : ℕ) where
  slower_itself : Slower t t
  slower_itself = record { longer = omega arith; lower = omega arith; alike = record { cant = refl; in_p = refl; in_g = refl; passengers = refl } }

  -- from sheets and from packets: any V_STATIC and V_DIFF of any segment, any number of them at once
  pub raised_never_slower : (b : Brought) → RaisedRun b (lent count s₁ s₂ s₃ s₄) (lent count r₁ r₂ r₃ r₄)
      → NotFaster (permitted_speed (medium_of b) count s₁ s₂ s₃ s₄ t x) (permitted_speed (medium_of b) count r₁ r₂ r₃ r₄ t x)
  raised_never_slower b run = never_faster b count s₁ s₂ s₃ s₄ r₁ r₂ r₃ r₄ t t x slower_itself run

  -- nor one from the packets that such sheets are converted to
  pub raised_packets_never_slower : (p₁ p₂ p₃ p₄ q₁ q₂ q₃ q₄ : List ℕ) → Each Bytes (lent count s₁ s₂ s₃ s₄) → Each Bytes (lent count r₁ r₂ r₃ r₄)
      → RaisedRun Brought.sheet (lent count s₁ s₂ s₃ s₄) (lent count r₁ r₂ r₃ r₄) → EachConverted (lent count s₁ s₂ s₃ s₄) (lent count p₁ p₂ p₃ p₄)
      → EachConverted (lent count r₁ r₂ r₃ r₄) (lent count q₁ q₂ q₃ q₄) → NotFaster (permitted_speed 0 count p₁ p₂ p₃ p₄ t x) (permitted_speed 0 count q₁ q₂ q₃ q₄ t x)
  raised_packets_never_slower p₁ p₂ p₃ p₄ q₁ q₂ q₃ q₄ ok ok' run made made' p q =
      let w = both Brought.sheet run in
      let low = accepted_speed Brought.packet count p₁ p₂ p₃ p₄ t x (packets w.lower ok made) p in
      let high = accepted_speed Brought.packet count q₁ q₂ q₃ q₄ t x (packets w.higher ok' made') q in
      let inside = rw (last_lowered w.higher.values w.higher.good) at high.1 in
      omega (arith, low.0, high.0, limited_slower t t slower_itself _ _ (raised.packets_never_faster t t slower_itself x w.each inside))

-- ---- the lowest of some answers, as the fleet board has it

-- of n accepted answers, none of them faster than the one at its number among n others: what is not above any of them is not above any of the others
pub lowest_never_raised : (n : ℕ) (slower others : ℕ → Speed) → ((j : ℕ) → j < n → ((slower j).refusal ≡ 0) × ((others j).refusal ≡ 0) × NotFaster (slower j) (others j))
    → (v w i : ℕ) → ((j : ℕ) → j < n → v ≤ (slower j).speed) → i < n → w ≡ (others i).speed → v ≤ w
lowest_never_raised n slower others each v w i least h e = let p = each i h in omega (arith, least i h, p.2 p.0 p.1)
