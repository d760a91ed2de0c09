-- Loops over the legs of a run: their refusal, and the lowest speed of their constraints.
use mathlib.Core.Path.{◌≡◌, sym, ap, ap₂, ◌∙◌, subst, subst₂}
use mathlib.Core.List.{List, [], ◌∷◌}
use Prim.Native.Nat.{ℕ, ◌+◌, ◌*◌, ◌≤◌, ◌<◌}
use native.Mathlib.Omega.{arith}
use borrow.Author.Tests.{eq-eqb, ne_eqb}
use lib.ListN.{length, drop, get_or}
use Rattle.std.proofs.lemmas.List.{drop_all}
use Rattle.speed.specs.declared.Train.{Train}
use Rattle.speed.specs.Speed.{lowest, segment_length}
use Rattle.speed.specs.Run.{last_start}
use Rattle.speed_element.specs.internal.Reading.{Passes}
use Rattle.format.specs.Format.{times}
use Rattle.grammar.specs.journey.Journey.{temporary_constraint}
use Rattle.speed_question.specs.Question.{Brought}
use Rattle.speed_question.specs.declared.run.LastSegment.{LastSegment}
use Rattle.speed_question.specs.internal.Run.{numbers_as, numbers_in, ReadsAs, HeadOf, LastRead}
use Rattle.speed_question.proofs.Runs.{split, start_on}
use Rattle.legs.specs.Legs.{Constraint, Leg, after_constraints}
use Rattle.legs.specs.Restricted.{held_restrictions}
use Rattle.legs.specs.Travelled.{leg_refusal, first_refusal, legs_refusal}
use Rattle.legs.specs.internal.Passing.{passed_over, LegsPassed, over, one}
use Rattle.legs.proofs.Passing.{legs_passed}
use Rattle.leg_parts.specs.declared.LegHead.{LegHead}
use Rattle.leg_parts.specs.internal.Reading.{LegRead, LegsAt}
use Rattle.restricted.specs.internal.Travelling.{legs_in, Stands, OverRead, LegJudged}
use Rattle.restricted.proofs.Journeys.{at_leg, at_next}

-- count segments of a medium, and the bytes of a journey of a medium
module _ (b kind : Brought) (count : ℕ) (all : List (List ℕ)) (s : List ℕ) (before : ℕ) where
  abbrev left : ℕ → List (List ℕ)
  left i = drop i all

  -- the legs from the number n on
  abbrev legs : ℕ → List Leg
  legs n = drop n (legs_in kind s)

  -- i legs of the run are passed, and the next one stands at the place at
  pub record Along (i at : ℕ) : Type 0 where
    pub up : i ≤ count
    pub stand : LegsAt (ReadsAs kind s) at (legs (before + i))

  -- the first i legs are allowed
  pub record Judging (i at : ℕ) : Type 0 where
    pub along : Along i at
    pub same : legs_refusal (numbers_in b (left i)) (legs (before + i)) ≡ legs_refusal (numbers_in b all) (legs before)

  -- low stands for what holds of the first i legs, and the next segment starts at start
  pub record Lowering (t : Train) (x held i start at low : ℕ) : Type 0 where
    pub along : Along i at
    pub place : i < count → start + last_start 0 (numbers_in b (left i)) ≡ last_start 0 (numbers_in b all)
    pub small : start ≤ i * 16777215
    pub done : (out : ℕ) → LegsPassed t x (numbers_in b (left i)) (legs (before + i)) low out → LegsPassed t x (numbers_in b all) (legs before) held out

  -- the legs of n segments stand at first
  module _ {n first : ℕ} (h : Stands kind s n before first) where
    along_first : Along 0 first
    along_first =
        let z : before + 0 ≡ before = omega arith in
        record { up = omega arith; stand = rw z h.legs }

    pub judging_first : Judging 0 first
    judging_first = let z : before + 0 ≡ before = omega arith in record { along = along_first; same = rw z }

    pub lowering_first : {t : Train} {x held : ℕ} → Lowering t x held 0 0 first held
    lowering_first {t} {x} {held} =
        let z : before + 0 ≡ before = omega arith in
        record {
          along = along_first;
          place = λ m. omega arith;
          small = omega arith;
          done = λ out r. subst (λ (m : ℕ). LegsPassed t x (numbers_in b all) (legs m) held out) z r;
        }

    -- the leg of a segment is on the journey
    pub leg_on : (i : ℕ) → i < n → before + i < length (legs_in kind s)
    leg_on i m = omega (arith, h.enough)

  -- the place, counted from the run's start, is not before the segment that is left
  pub lowering_before : {t : Train} {x held i start at low : ℕ} {l : LastSegment} → Lowering t x held i start at low → i < count → LastRead b all l → start ≤ l.start + x
  lowering_before g h k = omega (arith, g.place h, k.start_is)

  -- from the count of the segments on, where none is left: no leg is refused
  pub judging_past : {i : ℕ} → legs_refusal (numbers_in b (left i)) (legs (before + i)) ≡ legs_refusal (numbers_in b all) (legs before) → length all ≤ i → 0 ≡ legs_refusal (numbers_in b all) (legs before)
  judging_past {i} g e = ap (λ (r : List (List ℕ)). legs_refusal (numbers_in b r) (legs (before + i))) (sym (drop_all i all e)) ∙ g

  -- from the count of the segments on, where none is left: low is the lowest of held and the restrictions that hold
  pub lowering_past : {t : Train} {x held i low : ℕ} → ((out : ℕ) → LegsPassed t x (numbers_in b (left i)) (legs (before + i)) low out → LegsPassed t x (numbers_in b all) (legs before) held out) → length all ≤ i
      → low ≡ lowest held (held_restrictions t x (numbers_in b all) (legs before))
  lowering_past {t} {x} {i = i} {low = low} g e =
      legs_passed t x (g low (subst (λ (r : List (List ℕ)). LegsPassed t x (numbers_in b r) (legs (before + i)) low low) (sym (drop_all i all e)) over))

  module _ (few : count ≡ length all) where
    module _ (i : ℕ) (h : i < count) (on : before + i < length (legs_in kind s)) {at : ℕ} {leg : LegHead} (r : LegRead (ReadsAs kind s) at leg) where
      inside : i < length all
      inside = omega (arith, few, h)

      along_next : {to : ℕ} → Along i at → Passes (ReadsAs kind s) (times temporary_constraint leg.count) (after_constraints leg.count) leg.constraints to → Along (i + 1) to
      along_next g d =
          let z : before + i + 1 ≡ before + (i + 1) = omega arith in
          let n = at_next (ReadsAs kind s) (legs_in kind s) g.stand on r d in
          record { up = omega arith; stand = rw z at n }

      -- a segment's refusal, and those after it
      refusal_split : {w : ℕ} → Along i at → LegJudged (ReadsAs kind s) (numbers_as b (get_or all i [])) leg w
          → legs_refusal (numbers_in b (left i)) (legs (before + i)) ≡ first_refusal w (legs_refusal (numbers_in b (left (i + 1))) (legs (before + (i + 1))))
      refusal_split {w} a j =
          at_leg (ReadsAs kind s) (legs_in kind s) a.stand on r λ g l e d c.
          let z : before + i + 1 ≡ before + (i + 1) = omega arith in
          let own : leg_refusal (numbers_as b (get_or all i [])) g ≡ w = ap (leg_refusal (numbers_as b (get_or all i []))) d ∙ sym (j.said l c) in
          ap₂ (λ (m : List (List ℕ)) (k : List Leg). legs_refusal (numbers_in b m) k) (split b all i inside) e
          ∙ ap₂ (λ (n m : ℕ). first_refusal n (legs_refusal (numbers_in b (left (i + 1))) (legs m))) own z

      pub judging_refused : {w : ℕ} → Judging i at → LegJudged (ReadsAs kind s) (numbers_as b (get_or all i [])) leg w → (w ≡ 0 → ⊥) → w ≡ legs_refusal (numbers_in b all) (legs before)
      judging_refused {w} g j n =
          let more = legs_refusal (numbers_in b (left (i + 1))) (legs (before + (i + 1))) in
          let own : w ≡ first_refusal w more = rw (ne_eqb w 0 n) in
          own ∙ sym (refusal_split g.along j) ∙ g.same

      pub judging_next : {w to : ℕ} → Judging i at → LegJudged (ReadsAs kind s) (numbers_as b (get_or all i [])) leg w → w ≡ 0
          → Passes (ReadsAs kind s) (times temporary_constraint leg.count) (after_constraints leg.count) leg.constraints to → Judging (i + 1) to
      judging_next {w} g j n d =
          let more = legs_refusal (numbers_in b (left (i + 1))) (legs (before + (i + 1))) in
          let own : more ≡ first_refusal w more = rw (eq-eqb w 0 n) in
          record { along = along_next g.along d; same = own ∙ sym (refusal_split g.along j) ∙ g.same }

      pub lowering_next : {t : Train} {x held start low next lsp profile to : ℕ} (y : ℕ) → Lowering t x held i start at low → HeadOf b (get_or all i []) lsp profile
          → y + start ≡ last_start 0 (numbers_in b all) + x → OverRead (ReadsAs kind s) leg t lsp y low next
          → Passes (ReadsAs kind s) (times temporary_constraint leg.count) (after_constraints leg.count) leg.constraints to → Lowering t x held (i + 1) (start + lsp) to next
      lowering_next {t} {x} {held} {start} {low} {next} {lsp} y g d e c o = record {
        along = along_next g.along o;
        place = λ more. omega (arith, g.place h, start_on b all i inside d (omega (arith, few, more)));
        small = omega (arith, g.small, d.small);
        done = λ out m. g.done out (there out m);
      }
        where
          here : y ≡ last_start 0 (numbers_in b (left i)) + x
          here = omega (arith, e, g.place h)

          there : (out : ℕ) → LegsPassed t x (numbers_in b (left (i + 1))) (legs (before + (i + 1))) next out → LegsPassed t x (numbers_in b (left i)) (legs (before + i)) low out
          there out m =
              at_leg (ReadsAs kind s) (legs_in kind s) g.along.stand on r λ k l f j w.
              let z : before + (i + 1) ≡ before + i + 1 = omega arith in
              let whole = split b all i inside in
              let list : l ≡ k.constraints = sym (ap (λ (n : Leg). n.constraints) j) in
              let own : next ≡ passed_over t (segment_length (numbers_as b (get_or all i []))) (last_start 0 (numbers_in b (get_or all i [] ∷ left (i + 1))) + x) low k.constraints =
              c.said l w ∙ ap₂ (λ (n : ℕ) (a : List Constraint). passed_over t n y low a) d.length_is list
              ∙ ap (λ (n : ℕ). passed_over t (segment_length (numbers_as b (get_or all i []))) n low k.constraints) (here ∙ ap (λ (n : List (List ℕ)). last_start 0 (numbers_in b n) + x) whole) in
              subst₂ (λ (n : List (List ℕ)) (a : List Leg). LegsPassed t x (numbers_in b n) a low out) (sym whole) (sym f)
              (one own (subst (λ (n : ℕ). LegsPassed t x (numbers_in b (left (i + 1))) (legs n) next out) z m))

    pub judging_last : {i at : ℕ} → Judging i at → count ≤ i → 0 ≡ legs_refusal (numbers_in b all) (legs before)
    judging_last g e = judging_past g.same (omega (arith, few, e))

    pub lowering_last : {t : Train} {x held i start at low : ℕ} → Lowering t x held i start at low → count ≤ i → low ≡ lowest held (held_restrictions t x (numbers_in b all) (legs before))
    lowering_last g e = lowering_past g.done (omega (arith, few, e))
