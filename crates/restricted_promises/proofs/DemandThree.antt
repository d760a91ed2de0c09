-- Demand 3 for the restricted speed: from the packets, the lower of the card's maximum and the greatest multiple of 5 not above what the sheets give without it; refusals too.
use mathlib.Core.Path.{◌≡◌, refl, sym, ap, ap₂, ◌∙◌}
use mathlib.Core.Bool.{Bool, true, false, cond}
use mathlib.Core.List.{List, [], ◌∷◌, ◌++◌, map}
use Prim.Native.Nat.{ℕ, ◌+◌, ◌≤◌, min}
use native.Mathlib.Omega.{arith}
use lib.Dec.{eqb, ltb}
use lib.ListN.{take}
use borrow.Author.Tests.{eqb-false, ne_eqb}
use Rattle.bits.specs.Bits.{Bytes}
use Rattle.bits.proofs.Tests.{by_cases}
use Rattle.kinds.specs.declared.Item.{Item}
use Rattle.format.specs.Format.{accepted, sheet_numbers}
use Rattle.format.specs.Conforming.{Conforming, also, InSheet, given_back}
use Rattle.grammar.specs.segment.Segment.{wire_changes}
use Rattle.grammar.specs.segment.Judgement.{to_packet, to_sheet}
use Rattle.grammar.specs.journey.Journey.{journey_fields, journey_sheet, constraints}
use Rattle.grammar.specs.link.Link.{link_number, tree_fields, tree_of, link_fields, from_either_sheet, to_either_packet, to_either_sheet}
use Rattle.grammar.specs.link.Grounds.{EitherSheetValues}
use Rattle.grammar.proofs.link.Values.{either_sheet_taken}
use Rattle.speed.specs.declared.Train.{Train}
use Rattle.speed.specs.Speed.{valid_train, limited, lowest, segment_length, in_fives}
use Rattle.speed.specs.Run.{Each, numbers_of, each_given_back, last_of, last_start, speed_in_run}
use Rattle.speed.proofs.Lowering.{same_is}
use Rattle.speed.proofs.Runs.{run_in_fives}
use Rattle.speed_question.specs.declared.Speed.{Speed}
use Rattle.speed_question.specs.Question.{Brought, no_speed, lent, run_count, judged_speed}
use Rattle.promises.specs.Promised.{SegmentValues, RunOfValues, with_maximum, answer_in_fives, answer_limited, answer_with, result, ConvertedTo, EachConverted}
use Rattle.promises.proofs.Maximum.{profile_same, valid_same}
use Rattle.promises.proofs.Runs.{take_map, each_lowered, packets_lowered, last_lowered}
use Rattle.promises.proofs.Values.{placed_result}
use Rattle.promises.proofs.DemandTwo.{sheet_converted, sheet_result}
use Rattle.promises.proofs.DemandThree.{packets_of}
use Rattle.legs.specs.Legs.{Constraint, Leg, journey_legs}
use Rattle.legs.specs.Restricted.{holds_at, held_in, held_restrictions}
use Rattle.legs.specs.Travelled.{on_journey, travelled_legs, legs_refusal, tail_before}
use Rattle.legs.specs.internal.Lowered.{leg_in_fives}
use Rattle.legs.proofs.Opened.{opened}
use Rattle.legs.proofs.Lowered.{journey_lowered}
use Rattle.legs.proofs.Lowering.{restrictions_lowered, lowered_lowest, min_lowest, on_lowered, travelled_lowered, refusal_lowered, tail_lowered}
use Rattle.restricted.specs.Question.{under_restrictions, restricted_on, restricted_speed}
use Rattle.restricted_promises.specs.Journey.{JourneyValues, JourneyOfValues}
use Rattle.restricted_promises.proofs.Journeys.{four, journey_lowered_packet, journey_lowered_good}
use Rattle.restricted_promises.proofs.Speeds.{restricted_speed_count, of_way}

-- ---- the answer of the values, by what it depends on

abbrev shaped : Bool → ℕ → Train → ℕ → ℕ → Bool → ℕ → List ℕ → Speed
shaped on refusal t x lsp before v held = cond on (cond (eqb refusal 0) (under_restrictions before held (judged_speed t x lsp v)) (no_speed refusal 0)) (no_speed 22 0)

abbrev answering : ℕ → Speed
answering v = record { refusal = 0; place = 0; speed = v }

-- what changes the one speed to the other, and no refusal, changes the answer
module _ (change : Speed → Speed) (keeps : (q : ℕ) → (q ≡ 0 → ⊥) → no_speed q 0 ≡ change (no_speed q 0)) (u t : Train) (same : valid_train u ≡ valid_train t) where
  shape_changed : (on : Bool) (refusal x lsp : ℕ) (before : Bool) (v w : ℕ) (l m : List ℕ) → answering (lowest v l) ≡ change (answering (lowest w m))
      → shaped on refusal u x lsp before v l ≡ change (shaped on refusal t x lsp before w m)
  shape_changed on refusal x lsp before v w l m e =
      by_cases on
      (λ a. by_cases (eqb refusal 0)
      (λ b. by_cases (valid_train t)
      (λ c. let d = same ∙ c in
      by_cases (ltb x lsp)
      (λ i. by_cases before (λ f. rw (a, b, c, d, i, f) (keeps 26 (λ z. omega arith))) (λ f. rw (a, b, c, d, i, f) e))
      (λ i. rw (a, b, c, d, i) (keeps 11 (λ z. omega arith))))
      (λ c. let d = same ∙ c in rw (a, b, c, d) (keeps 10 (λ z. omega arith))))
      (λ b. rw (a, b) (keeps refusal (eqb-false refusal 0 b))))
      (λ a. rw a (keeps 22 (λ z. omega arith)))

-- ---- the maximum plays no part in what holds

held_same : (m : ℕ) (t : Train) (lsp y : ℕ) (l : List Constraint) → held_in (with_maximum m t) lsp y l ≡ held_in t lsp y l
held_same m t lsp y [] = refl
held_same m t lsp y (c ∷ l) = ap (λ (k : List ℕ). cond (holds_at t lsp y c) (c.speed ∷ k) k) (held_same m t lsp y l)

restrictions_same : (m : ℕ) (t : Train) (x : ℕ) (r : List (List ℕ)) (g : List Leg) → held_restrictions (with_maximum m t) x r g ≡ held_restrictions t x r g
restrictions_same m t x [] g = refl
restrictions_same m t x (s ∷ r) [] = refl
restrictions_same m t x (s ∷ r) (h ∷ g) = ap₂ (λ (a b : List ℕ). a ++ b) (held_same m t (segment_length s) (last_start 0 (s ∷ r) + x) h.constraints) (restrictions_same m t x r g)

-- ---- the values as their packets give them back

module _ (count leg : ℕ) (t : Train) (x : ℕ) (v : List (List Item)) (l : List Leg) (c : Each (SegmentValues Brought.sheet) v) where
  -- the numbers of the run, the legs that it travels, and the lowest speed without the maximum
  abbrev numbers : List (List ℕ)
  numbers = numbers_of v

  abbrev legs : List Leg
  legs = travelled_legs count leg l

  abbrev without : ℕ
  without = lowest (speed_in_run t x numbers) (held_restrictions t x numbers legs)

  -- from lowered values: the refusals are those of the values, and the speeds are lowered
  given_back_lem : restricted_on count leg t x (each_given_back v) (map leg_in_fives l)
      ≡ shaped (on_journey count leg l) (legs_refusal numbers legs) t x (segment_length (last_of numbers)) (tail_before count leg t x numbers) (limited t (in_fives (speed_in_run t x numbers)))
      (map in_fives (held_restrictions t x numbers legs))
  given_back_lem =
      let low = numbers_of (each_given_back v) in
      let travelled = travelled_lowered count leg l in
      let a = on_lowered count leg l in
      let b = ap (legs_refusal low) travelled ∙ refusal_lowered v legs c in
      let d = last_lowered v c in
      let e = tail_lowered count leg t x v c in
      let f = ap (limited t) (run_in_fives t x v c) in
      let g = ap (held_restrictions t x low) travelled ∙ restrictions_lowered t x v legs c in
      λ i. shaped (a i) (b i) t x (d i) (e i) (f i) (g i)

  lowered_without : lowest (limited t (in_fives (speed_in_run t x numbers))) (map in_fives (held_restrictions t x numbers legs)) ≡ min t.maximum (in_fives without)
  lowered_without =
      let p = speed_in_run t x numbers in
      let held = held_restrictions t x numbers legs in
      min_lowest t.maximum (in_fives p) (map in_fives held) ∙ ap (min t.maximum) (lowered_lowest p held)

  -- for any train: the refusal and the place of the answer from the values, and the speed of the sentence
  on_without : restricted_on count leg t x (each_given_back v) (map leg_in_fives l) ≡ answer_with (min t.maximum (in_fives without)) (restricted_on count leg t x v l)
  on_without =
      given_back_lem
      ∙ shape_changed (answer_with (min t.maximum (in_fives without))) (λ q n. rw (ne_eqb q 0 n)) t t refl (on_journey count leg l) (legs_refusal numbers legs) x (segment_length (last_of numbers))
      (tail_before count leg t x numbers) (limited t (in_fives (speed_in_run t x numbers))) (limited t (speed_in_run t x numbers)) (map in_fives (held_restrictions t x numbers legs))
      (held_restrictions t x numbers legs) (ap answering lowered_without)

  -- in the words of the answer to the card with the maximum 600
  on_asked : 1 ≤ t.maximum → t.maximum ≤ 600
      → restricted_on count leg t x (each_given_back v) (map leg_in_fives l) ≡ answer_limited t (answer_in_fives (restricted_on count leg (with_maximum 600 t) x v l))
  on_asked h g =
      let none : 0 ≡ min t.maximum (in_fives 0) = omega arith in
      let p = speed_in_run t x numbers in
      let q = speed_in_run (with_maximum 600 t) x numbers in
      let held = held_restrictions t x numbers legs in
      let same = min_lowest 600 q held ∙ ap (λ (n : ℕ). min 600 (lowest n held)) (profile_same 600 t x numbers) in
      let step : min t.maximum (in_fives without) ≡ min t.maximum (in_fives (lowest (min 600 q) held)) = omega (arith, same) in
      given_back_lem
      ∙ shape_changed (λ (o : Speed). answer_limited t (answer_in_fives o)) (λ n z i. record { refusal = n; place = 0; speed = none i }) t (with_maximum 600 t) (valid_same t h g)
      (on_journey count leg l) (legs_refusal numbers legs) x (segment_length (last_of numbers)) (tail_before count leg t x numbers) (limited t (in_fives p)) (min 600 q)
      (map in_fives held) held (ap answering (lowered_without ∙ step))
      ∙ ap (λ (k : List ℕ). answer_limited t (answer_in_fives (shaped (on_journey count leg l) (legs_refusal numbers legs) (with_maximum 600 t) x (segment_length (last_of numbers))
      (tail_before count leg t x numbers) (min 600 q) k))) (sym (restrictions_same 600 t x numbers legs))

-- ---- the question, from sheets and from their packets

module _ (count : ℕ) (a b c d s : List ℕ) (e f g h p : List ℕ) (v : List (List Item)) (j : List Item) (leg : ℕ) (t : Train) (x : ℕ)
    (good : Each (SegmentValues Brought.sheet) v) (way : JourneyValues Brought.sheet j)
    (sheets : lent count a b c d ≡ map (to_sheet wire_changes) v) (packets : lent count e f g h ≡ map (to_packet wire_changes) v) (sheet : s ≡ to_either_sheet j) (packet : p ≡ to_either_packet j) where
  abbrev from_packets : Train → Speed
  from_packets u = restricted_speed 0 count e f g h p leg u x

  abbrev from_sheets : Train → Speed
  from_sheets u = restricted_speed 1 count a b c d s leg u x

  packets_told : run_count count ≡ true → from_packets t ≡ restricted_on count leg t x (each_given_back v) (map leg_in_fives (journey_legs (sheet_numbers j)))
  packets_told few =
      of_way 0 count e f g h p leg t x Brought.packet refl few (record { values = each_given_back v; good = each_lowered v good; whole = packets ∙ sym (packets_lowered v) })
      (record { values = given_back (journey_sheet constraints) j; good = journey_lowered_good j way; whole = packet ∙ sym (journey_lowered_packet j way.good) })
      ∙ ap (restricted_on count leg t x (each_given_back v)) (journey_lowered j way.good)

  sheets_told : (u : Train) → run_count count ≡ true → from_sheets u ≡ restricted_on count leg u x v (journey_legs (sheet_numbers j))
  sheets_told u few =
      of_way 1 count a b c d s leg u x Brought.sheet refl few (record { values = v; good = good; whole = sheets }) (record { values = j; good = way; whole = sheet })

  -- a count that is refused
  counted : (change : Speed → Speed) (u : Train) → no_speed 16 0 ≡ change (no_speed 16 0) → run_count count ≡ false → from_packets t ≡ change (from_sheets u)
  counted change u q few =
      restricted_speed_count 0 count e f g h p leg t x Brought.packet refl few ∙ q ∙ ap change (sym (restricted_speed_count 1 count a b c d s leg u x Brought.sheet refl few))

  told_without : from_packets t ≡ answer_with (min t.maximum (in_fives (without count leg t x v (journey_legs (sheet_numbers j)) good))) (from_sheets t)
  told_without =
      let l = journey_legs (sheet_numbers j) in
      let change : Speed → Speed = answer_with (min t.maximum (in_fives (without count leg t x v l good))) in
      by_cases (run_count count)
      (λ few. packets_told few ∙ on_without count leg t x v l good ∙ ap change (sym (sheets_told t few)))
      (λ few. counted change t refl few)

  told_asked : 1 ≤ t.maximum → t.maximum ≤ 600 → from_packets t ≡ answer_limited t (answer_in_fives (from_sheets (with_maximum 600 t)))
  told_asked low high =
      let change : Speed → Speed = λ o. answer_limited t (answer_in_fives o) in
      let none : 0 ≡ min t.maximum (in_fives 0) = omega arith in
      by_cases (run_count count)
      (λ few. packets_told few ∙ on_asked count leg t x v (journey_legs (sheet_numbers j)) good low high ∙ ap change (sym (sheets_told (with_maximum 600 t) few)))
      (λ few. counted change (with_maximum 600 t) (λ i. record { refusal = 16; place = 0; speed = none i }) few)

-- ==== "the lower of the card's maximum and the greatest multiple of 5 not above the profile's speed from the sheet, for runs too", with the constraints that hold

module _ (count : ℕ) (a b c d j : List Item) (leg : ℕ) (t : Train) (x : ℕ) (good : Each (SegmentValues Brought.sheet) (take count (a ∷ b ∷ c ∷ d ∷ []))) (way : JourneyValues Brought.sheet j) where
  -- the values, up to the count
  abbrev values : List (List Item)
  values = take count (a ∷ b ∷ c ∷ d ∷ [])

  -- for any train: the answer from the packets has the refusal and the place of that from the sheets, and the lower of the card's maximum and "the greatest multiple of 5 not above" what
  -- the sheets give without it, the lowest of the profile's speed and of the constraints' that hold
  pub lowered_restricted : restricted_speed 0 count (to_packet wire_changes a) (to_packet wire_changes b) (to_packet wire_changes c) (to_packet wire_changes d) (to_either_packet j) leg t x
      ≡ answer_with (min t.maximum (in_fives (lowest (speed_in_run t x (numbers_of values)) (held_restrictions t x (numbers_of values) (travelled_legs count leg (journey_legs (sheet_numbers j)))))))
      (restricted_speed 1 count (to_sheet wire_changes a) (to_sheet wire_changes b) (to_sheet wire_changes c) (to_sheet wire_changes d) (to_either_sheet j) leg t x)
  lowered_restricted =
      told_without count (to_sheet wire_changes a) (to_sheet wire_changes b) (to_sheet wire_changes c) (to_sheet wire_changes d) (to_either_sheet j)
      (to_packet wire_changes a) (to_packet wire_changes b) (to_packet wire_changes c) (to_packet wire_changes d) (to_either_packet j) values j leg t x good way
      (take_map (to_sheet wire_changes) count (a ∷ b ∷ c ∷ d ∷ [])) (take_map (to_packet wire_changes) count (a ∷ b ∷ c ∷ d ∷ [])) refl refl

-- a journey's values stand on the link
on_link : (l : List Item) → JourneyValues Brought.sheet l → EitherSheetValues l
unfolding journey_sheet journey_fields link_fields
on_link l v =
    opened v.good λ i m p g c.
    let e : i.packet ≡ 4 = four i g in
    let f : i.packet ≡ i.sheet = same_is i g in
    let n : i.sheet ≡ 4 = sym f ∙ e in
    let h : InSheet link_number i = record { lowered = rw (n, e); fits = g.fits } in
    let d : Conforming InSheet (tree_fields (tree_of i.packet)) m = rw e c in
    let whole : Conforming InSheet link_fields (i ∷ m) = also {i = i} h d in
    record { good = rw p whole; few = v.few }

-- a converted sheet of a journey's values has their packet
packet_of : (s p : List ℕ) → Bytes s → (j : JourneyOfValues Brought.sheet s) → ConvertedTo s p → p ≡ to_either_packet j.values
packet_of s p ok j d =
    let room = d.room in
    let c = (sheet_converted s room ok).0 d.done in
    let same : accepted c.values ≡ accepted j.values =
    sym (either_sheet_taken c.values c.good) ∙ ap from_either_sheet (sym c.whole ∙ j.whole) ∙ either_sheet_taken j.values (on_link j.values j.good) in
    let v : c.values ≡ j.values = cc in
    d.whole ∙ ap result (sheet_result s room c) ∙ placed_result (to_either_packet c.values) room ∙ ap to_either_packet v

-- in the operation's own words, of sheets and the packets that they were converted to, under a maximum within its range:
-- the answer from the sheets to the card with the maximum 600, lowered to a multiple of 5, then limited; refusals too
pub restricted_again : (count : ℕ) (a b c d s : List ℕ) (e f g h p : List ℕ) (leg : ℕ) (t : Train) (x : ℕ) → Each Bytes (lent count a b c d) → Bytes s
    → RunOfValues Brought.sheet (lent count a b c d) → JourneyOfValues Brought.sheet s → EachConverted (lent count a b c d) (lent count e f g h) → ConvertedTo s p
    → 1 ≤ t.maximum → t.maximum ≤ 600
    → restricted_speed 0 count e f g h p leg t x ≡ answer_limited t (answer_in_fives (restricted_speed 1 count a b c d s leg (with_maximum 600 t) x))
restricted_again count a b c d s e f g h p leg t x ok fine w j made turned low high =
    told_asked count a b c d s e f g h p w.values j.values leg t x w.good j.good w.whole (packets_of w.values ok w.good w.whole made) j.whole
    (packet_of s p fine j turned) low high
