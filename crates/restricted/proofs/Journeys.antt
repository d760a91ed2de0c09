-- The verdict on a journey, and its legs, by the medium; a leg's constraints, one after another.
use mathlib.Core.Path.{◌≡◌, refl, sym, ap, ◌∙◌, subst}
use mathlib.Core.Bool.{Bool, true, false, cond}
use mathlib.Core.List.{List, [], ◌∷◌}
use Prim.Native.Nat.{ℕ, zero, suc, ◌+◌, ◌-◌, ◌<◌}
use native.Mathlib.Omega.{arith}
use borrow.Author.Tests.{eq-eqb, ne_eqb}
use lib.Dec.{eqb}
use lib.ListN.{length, drop}
use Rattle.kinds.specs.declared.Item.{Item}
use Rattle.format.specs.Format.{Format, Read, accepted, times, values_of}
use Rattle.format.specs.Media.{packet, sheet}
use Rattle.grammar.specs.declared.link.Tree.TheVariants.{Journey}
use Rattle.grammar.specs.internal.link.Trees.{tree_sheet_fields, tree_packet, tree_sheet}
use Rattle.grammar.specs.journey.Journey.{temporary_constraint, journey_segment, journey_fields, journey_sheet, constraints}
use Rattle.grammar.proofs.link.Values.{count_accepted}
use Rattle.verdict.specs.internal.Verdict.{Verdict, size_from, packet_verdict}
use Rattle.verdict.proofs.Sizes.{verdict_sorts}
use Rattle.verdict.proofs.Accepted.{verdict_accepted, verdict_refused}
use Rattle.convert.specs.internal.Writers.{sheet_judged}
use Rattle.convert_sheet.specs.internal.Counted.{counted_verdict}
use Rattle.speed.specs.declared.Train.{Train}
use Rattle.speed.specs.Speed.{segment_length}
use Rattle.speed_element.specs.internal.Reading.{Readable, Passes}
use Rattle.speed_packet.specs.internal.Asking as speed_packet
use Rattle.speed_sheet.specs.internal.Asking as speed_sheet
use Rattle.speed_question.specs.Question.{Brought}
use Rattle.speed_question.specs.internal.Run.{passed, failed, judged_of}
use Rattle.legs.specs.Legs.{Constraint, Leg, after_constraints}
use Rattle.legs.specs.Travelled.{same_segment, all_inside, leg_refusal}
use Rattle.legs.specs.internal.Passing.{passed_over}
use Rattle.leg_parts.specs.declared.Legs.{Legs}
use Rattle.leg_parts.specs.declared.Identity.{Identity}
use Rattle.leg_parts.specs.declared.ConstraintAt.{ConstraintAt}
use Rattle.leg_parts.specs.declared.LegHead.{LegHead}
use Rattle.leg_parts.specs.internal.Reading.{leg_with, constraint_with, ConstraintRead, IdentityRead, same_identity, LegsRead, LegRead, LegsAt, ConstraintsAt}
use Rattle.leg_parts.proofs.Reading.{legs_readable, constraints_read, leg_is, leg_constraints, constraints_readable, legs_next, Left, left_all, left_next}
use Rattle.leg_packet.specs.internal.Asking as leg_packet
use Rattle.leg_sheet.specs.internal.Asking as leg_sheet
use Rattle.restricted.specs.Question.{journey_as}
use Rattle.restricted.specs.internal.Travelling.{JourneyAccepted, was_accepted, accepted_journey, journey_numbers}

-- ---- the journey's judgement

module _ (s : List ℕ) where
  packet_journey : journey_as Brought.packet s ≡ tree_packet Journey s
  unfolding journey_as journey_fields
  packet_journey = refl

  sheet_journey : journey_as Brought.sheet s ≡ sheet_judged Journey s
  unfolding journey_as journey_fields journey_sheet
  sheet_journey = refl

  pub packet_refused : (q place : ℕ) → Verdict.refused q place ≡ packet_verdict Journey s → failed q place ≡ judged_of (journey_as Brought.packet s)
  unfolding packet_verdict
  packet_refused q place e = sym (ap judged_of (packet_journey ∙ verdict_refused verdict_sorts (size_from sheet (tree_sheet_fields Journey) 0) (tree_packet Journey s) q place e))

  pub packet_accepted : (n : ℕ) → Verdict.sized n ≡ packet_verdict Journey s → passed ≡ judged_of (journey_as Brought.packet s)
  unfolding packet_verdict
  packet_accepted n e = sym (ap judged_of (packet_journey ∙ verdict_accepted verdict_sorts (size_from sheet (tree_sheet_fields Journey) 0) (tree_packet Journey s) n e λ p q. p))

  pub sheet_refused : (q place : ℕ) → Verdict.refused q place ≡ counted_verdict Journey s → failed q place ≡ judged_of (journey_as Brought.sheet s)
  unfolding counted_verdict
  sheet_refused q place e = sym (ap judged_of (sheet_journey ∙ verdict_refused verdict_sorts (size_from packet (tree_sheet_fields Journey) 0) (sheet_judged Journey s) q place e))

  pub sheet_accepted : (n : ℕ) → Verdict.sized n ≡ counted_verdict Journey s → passed ≡ judged_of (journey_as Brought.sheet s)
  unfolding counted_verdict
  sheet_accepted n e = sym (ap judged_of (sheet_journey ∙ verdict_accepted verdict_sorts (size_from packet (tree_sheet_fields Journey) 0) (sheet_judged Journey s) n e λ p q. p))

  -- ---- an accepted journey, by its tree

  pub packet_taken : JourneyAccepted Brought.packet s → leg_packet.AcceptedJourney s
  packet_taken e = let d = packet_journey in rw d at e

  sheet_values : JourneyAccepted Brought.sheet s → tree_sheet Journey s ≡ accepted (values_of (journey_as Brought.sheet s))
  sheet_values e = count_accepted (tree_sheet Journey s) (values_of (journey_as Brought.sheet s)) (sym sheet_journey ∙ e) λ a few. a

  pub sheet_taken : JourneyAccepted Brought.sheet s → leg_sheet.AcceptedJourney s
  sheet_taken e = let a = sheet_values e in a ∙ ap accepted (sym (ap values_of a))

  pub packet_legs : {r : Legs} → LegsRead (speed_packet.Reads s) (leg_packet.numbers_of_journey s) r → LegsRead (speed_packet.Reads s) (journey_numbers Brought.packet s) r
  packet_legs a = let d = packet_journey in rw d a

  pub sheet_legs : JourneyAccepted Brought.sheet s → {r : Legs} → LegsRead (speed_sheet.Reads s) (leg_sheet.numbers_of_journey s) r → LegsRead (speed_sheet.Reads s) (journey_numbers Brought.sheet s) r
  sheet_legs e a =
      let d : values_of (tree_sheet Journey s) ≡ values_of (journey_as Brought.sheet s) = ap values_of (sheet_values e) in
      rw (← d) a

-- the test of an accepted journey
pub accepted_lem : (b : Brought) (s : List ℕ) → accepted_journey b s ≡ true → JourneyAccepted b s
accepted_lem b s e = go (journey_as b s) e
  where
    go : (o : Read) → was_accepted o ≡ true → o ≡ Read.accepted (values_of o)
    go (Read.accepted l) d = refl
    go (Read.refused a p) d = absurd (cc)

pub judged_refused : (o : Read) {n place : ℕ} → failed n place ≡ judged_of o → o ≡ Read.refused n place
judged_refused (Read.refused a p) {n} {place} e = let i : n ≡ a = cc in let j : place ≡ p = cc in rw (i, j)
judged_refused (Read.accepted l) e = absurd (cc)

pub judged_accepted : (o : Read) → passed ≡ judged_of o → was_accepted o ≡ true
judged_accepted (Read.accepted l) e = refl
judged_accepted (Read.refused a p) e = absurd (cc)

-- ---- the legs that are left

-- the first of those that are left
drop_first : {C : Type 0} (i : ℕ) (l : List Leg) → i < length l → ((g : Leg) → drop i l ≡ g ∷ drop (i + 1) l → C) → C
drop_first i [] h f = absurd (omega arith)
drop_first zero (g ∷ l) h f = f g refl
drop_first (suc i) (g ∷ l) h f = let z : suc i + 1 ≡ suc (i + 1) = omega arith in drop_first i l (omega arith) λ k e. f k (rw z e)

module _ (Reads : Format → ℕ → List Item → Type 0) (all : List Leg) {at i : ℕ} (a : LegsAt Reads at (drop i all)) (h : i < length all) where
  pub at_head : Readable Reads (journey_segment constraints) at
  at_head = drop_first i all h λ g e. legs_readable Reads (subst (LegsAt Reads at) e a)

  module _ {leg : LegHead} (r : LegRead Reads at leg) where
    pub at_constraints : Readable Reads (times temporary_constraint leg.count) leg.constraints
    at_constraints = drop_first i all h λ g e. constraints_readable Reads (subst (LegsAt Reads at) e a) r

    pub at_next : {to : ℕ} → Passes Reads (times temporary_constraint leg.count) (after_constraints leg.count) leg.constraints to → LegsAt Reads to (drop (i + 1) all)
    at_next p = drop_first i all h λ g e. legs_next Reads (subst (LegsAt Reads at) e a) r p

    -- it is the leg of its head and its constraints
    pub at_leg : {C : Type 0} → ((g : Leg) (l : List Constraint) → drop i all ≡ g ∷ drop (i + 1) all → g ≡ leg_with leg l → ConstraintsAt Reads leg.constraints leg.count l → C) → C
    at_leg f =
        drop_first i all h λ g e.
        let b = subst (LegsAt Reads at) e a in
        f g (constraints_read Reads b r) e (leg_is Reads b r) (leg_constraints Reads b r)

-- ---- constraints, one after another

-- what is known of all constraints of a leg from those that are left
abbrev pub SameInside : ℕ → List Constraint → List Constraint → Type 0
SameInside lsp l m = all_inside lsp l ≡ all_inside lsp m

abbrev pub SameOver : Train → ℕ → ℕ → ℕ → ℕ → List Constraint → List Constraint → Type 0
SameOver t lsp y held low l m = passed_over t lsp y held l ≡ passed_over t lsp y low m

-- constraints, counted up: none yet, and one more
pub left_begun : (Reads : Format → ℕ → List Item → Type 0) {at whole : ℕ} (Same : List Constraint → List Constraint → Type 0) → ((l : List Constraint) → Same l l)
    → Readable Reads (times temporary_constraint whole) at → Left Reads at whole Same at (whole - 0)
left_begun Reads {at} {whole} Same same r =
    let e : whole ≡ whole - 0 = omega arith in
    subst (Left Reads at whole Same at) e (left_all Reads Same same r)

pub left_one : (Reads : Format → ℕ → List Item → Type 0) {at : ℕ} {c : ConstraintAt} {first whole : ℕ} {Same : List Constraint → List Constraint → Type 0} → ConstraintRead Reads at c
    → (Next : List Constraint → List Constraint → Type 0) → ((l m : List Constraint) → Same l (constraint_with c ∷ m) → Next l m) → (n i : ℕ) → i < n
    → Left Reads first whole Same at (n - i) → Left Reads first whole Next c.next (n - (i + 1))
left_one Reads {c = c} {first} {whole} r Next next n i h g =
    let e : n - i - 1 ≡ n - (i + 1) = omega arith in
    subst (Left Reads first whole Next c.next) e (left_next Reads r Next next (n - i) (omega arith) g)

-- ---- the refusal of a leg

module _ (ns : List ℕ) (h : LegHead) (l : List Constraint) where
  pub same_segment_lem : {own : Identity} → IdentityRead ns own → same_identity own h.identity ≡ same_segment ns (leg_with h l)
  same_segment_lem i = rw (i.country, i.number, i.first, i.second)

  pub leg_other : same_segment ns (leg_with h l) ≡ false → 23 ≡ leg_refusal ns (leg_with h l)
  leg_other d = sym (ap (λ (b : Bool). cond b (cond (eqb h.direction 1) (cond (all_inside (segment_length ns) l) 0 25) 24) 23) d)

  module _ (d : same_segment ns (leg_with h l) ≡ true) where
    own : cond (eqb h.direction 1) (cond (all_inside (segment_length ns) l) 0 25) 24 ≡ leg_refusal ns (leg_with h l)
    own = sym (ap (λ (b : Bool). cond b (cond (eqb h.direction 1) (cond (all_inside (segment_length ns) l) 0 25) 24) 23) d)

    pub leg_reverse : (h.direction ≡ 1 → ⊥) → 24 ≡ leg_refusal ns (leg_with h l)
    leg_reverse n = sym (ap (λ (b : Bool). cond b (cond (all_inside (segment_length ns) l) 0 25) 24) (ne_eqb h.direction 1 n)) ∙ own

    module _ (e : h.direction ≡ 1) where
      inside : cond (all_inside (segment_length ns) l) 0 25 ≡ leg_refusal ns (leg_with h l)
      inside = sym (ap (λ (b : Bool). cond b (cond (all_inside (segment_length ns) l) 0 25) 24) (eq-eqb h.direction 1 e)) ∙ own

      pub leg_outside : all_inside (segment_length ns) l ≡ false → 25 ≡ leg_refusal ns (leg_with h l)
      leg_outside w = sym (ap (λ (b : Bool). cond {A = ℕ} b 0 25) w) ∙ inside

      pub leg_allowed : all_inside (segment_length ns) l ≡ true → 0 ≡ leg_refusal ns (leg_with h l)
      leg_allowed w = sym (ap (λ (b : Bool). cond {A = ℕ} b 0 25) w) ∙ inside
