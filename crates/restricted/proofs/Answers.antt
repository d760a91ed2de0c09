-- The answer, from the refusal of the legs, the permitted speed's answer, the train's tail and the lowest speed; and by the journey's verdict.
use mathlib.Core.Path.{◌≡◌, refl, sym, ap, ap₂, ◌∙◌}
use mathlib.Core.Bool.{Bool, true, false, cond, ◌&&◌}
use mathlib.Core.List.{List}
use Prim.Native.Nat.{ℕ, ◌+◌, ◌-◌, ◌≤◌, ◌<◌}
use native.Mathlib.Omega.{arith}
use borrow.Author.Tests.{eq-eqb, ne_eqb, ltb-true, ltb-false, lt-ltb, le-ltb, le-leb, lt-leb}
use lib.Dec.{eqb, ltb}
use lib.ListN.{length, take, drop}
use Rattle.std.proofs.lemmas.List.{length-map}
use Rattle.bits.proofs.Tests.{by_cases}
use Rattle.kinds.specs.declared.Item.{Item}
use Rattle.kinds.specs.declared.refusals.Refusal.{Refusal}
use Rattle.kinds.specs.declared.refusals.Refusal.TheVariants.{ShortPacket, PacketNumber, PacketLength, FieldValue, ChangeLocation, BodyBits, PaddingBit, ShortRoom, SheetForm, TrainValue, PastEnd, LongBody, BitsLeft, TooEarly, UnknownKind, RunCount, NotKept, Steps, WrongSpeed, CardList, NoShelf, NoLeg, OtherSegment, ReverseLeg, ConstraintPlace, TailBefore}
use Rattle.kinds.specs.Refusals.{refusal_number}
use Rattle.format.specs.Format.{Read, answer_of, sheet_numbers}
use Rattle.speed.specs.declared.Train.{Train}
use Rattle.speed.specs.Speed.{valid_train, limited, lowest, segment_length}
use Rattle.speed.specs.Run.{numbers_of, last_of, last_start, speed_in_run}
use Rattle.speed_question.specs.declared.Speed.{Speed}
use Rattle.speed_question.specs.Question.{Brought, medium_of, no_speed, judged_speed, speed_of_run, run_asked, lent}
use Rattle.speed_question.specs.internal.Run.{values_in, numbers_as, numbers_in}
use Rattle.speed_question.proofs.Runs.{numbers_in_lem, run_answer}
use Rattle.legs.specs.Legs.{Leg, journey_legs}
use Rattle.legs.specs.Restricted.{held_restrictions}
use Rattle.legs.specs.Travelled.{on_journey, travelled_legs, legs_refusal, tail_before}
use Rattle.legs.proofs.Passing.{held_taken, refusal_taken}
use Rattle.restricted.specs.Question.{journey_as, journey_read, under_restrictions, restricted_along, restricted_on, restricted_of_run, restricted_speed}
use Rattle.restricted.specs.internal.Travelling.{JourneyAccepted, legs_in}
use Rattle.restricted.specs.internal.Travelled.{legs_of}
use Rattle.restricted.specs.declared.accepted.Journey.{Journey}

-- no refusal has the number 0
pub numbered_lem : (r : Refusal) → refusal_number r ≡ 0 → ⊥
numbered_lem ShortPacket e = omega arith
numbered_lem PacketNumber e = omega arith
numbered_lem PacketLength e = omega arith
numbered_lem FieldValue e = omega arith
numbered_lem ChangeLocation e = omega arith
numbered_lem BodyBits e = omega arith
numbered_lem PaddingBit e = omega arith
numbered_lem ShortRoom e = omega arith
numbered_lem SheetForm e = omega arith
numbered_lem TrainValue e = omega arith
numbered_lem PastEnd e = omega arith
numbered_lem LongBody e = omega arith
numbered_lem BitsLeft e = omega arith
numbered_lem TooEarly e = omega arith
numbered_lem UnknownKind e = omega arith
numbered_lem RunCount e = omega arith
numbered_lem NotKept e = omega arith
numbered_lem Steps e = omega arith
numbered_lem WrongSpeed e = omega arith
numbered_lem CardList e = omega arith
numbered_lem NoShelf e = omega arith
numbered_lem NoLeg e = omega arith
numbered_lem OtherSegment e = omega arith
numbered_lem ReverseLeg e = omega arith
numbered_lem ConstraintPlace e = omega arith
numbered_lem TailBefore e = omega arith

-- the answer of its parts
abbrev pub answered : ℕ → Bool → List ℕ → Speed → Speed
answered refusal tail held permitted = cond (eqb refusal 0) (under_restrictions tail held permitted) (no_speed refusal 0)

-- ---- the answer, branch by branch of the code

module _ {refusal : ℕ} (tail : Bool) (held : List ℕ) (permitted : Speed) where
  pub legs_refused : (refusal ≡ 0 → ⊥) → no_speed refusal 0 ≡ answered refusal tail held permitted
  legs_refused n = rw (ne_eqb refusal 0 n)

  module _ (z : refusal ≡ 0) where
    pub permitted_refused : (permitted.refusal ≡ 0 → ⊥) → permitted ≡ answered refusal tail held permitted
    permitted_refused n = rw (eq-eqb refusal 0 z, ne_eqb permitted.refusal 0 n)

    module _ (o : permitted.refusal ≡ 0) where
      pub tail_refused : tail ≡ true → no_speed 26 0 ≡ answered refusal tail held permitted
      tail_refused d = rw (eq-eqb refusal 0 z, eq-eqb permitted.refusal 0 o, d)

      pub lowest_answered : tail ≡ false → {w : ℕ} → w ≡ lowest permitted.speed held → record { refusal = 0; place = 0; speed = w } ≡ answered refusal tail held permitted
      lowest_answered d e = rw (eq-eqb refusal 0 z, eq-eqb permitted.refusal 0 o, d, e)

-- a place that is answered is in the last segment
pub judged_inside : (t : Train) (x lsp v : ℕ) → (judged_speed t x lsp v).refusal ≡ 0 → x < lsp
judged_inside t x lsp v e =
    by_cases (ltb x lsp) (λ d. ltb-true x lsp d) λ d.
    absurd (by_cases (valid_train t)
    (λ a. let n : (judged_speed t x lsp v).refusal ≡ 11 = rw (a, d) in omega (arith, e, n))
    (λ a. let n : (judged_speed t x lsp v).refusal ≡ 10 = rw a in omega (arith, e, n)))

-- ---- the train's tail

-- legs stand before the run where it does not begin at leg 0
begins_later : (count before : ℕ) → 1 ≤ count → ltb count (before + count - 1 + 1) ≡ ltb 0 before
begins_later count before some =
    by_cases (ltb 0 before)
    (λ d. lt-ltb count (before + count - 1 + 1) (omega (arith, ltb-true 0 before d)) ∙ sym d)
    (λ d. le-ltb count (before + count - 1 + 1) (omega (arith, ltb-false 0 before d)) ∙ sym d)

module _ (b : Brought) (all : List (List ℕ)) (s : Journey) (before : ℕ) (t : Train) (x : ℕ) where
  abbrev count : ℕ
  count = length all

  abbrev legs : List Leg
  legs = drop before (legs_of s)

  few_numbers : length (numbers_in b all) ≤ count
  few_numbers = omega (arith, length-map all (numbers_as b))

  along_answer : 1 ≤ count → {start : ℕ} → start ≡ last_start 0 (numbers_in b all)
      → answered (legs_refusal (numbers_in b all) legs) (ltb 0 before && ltb (start + x) t.length) (held_restrictions t x (numbers_in b all) legs) (speed_of_run t x (values_in b all))
      ≡ restricted_along count (before + count - 1) t x (values_in b all) (take count legs)
  along_answer some {start} e =
      let permitted = speed_of_run t x (values_in b all) in
      let tail : (ltb 0 before && ltb (start + x) t.length) ≡ tail_before count (before + count - 1) t x (numbers_in b all) =
      ap₂ (λ (c : Bool) (n : ℕ). c && ltb (n + x) t.length) (sym (begins_later count before some)) e in
      ap (λ (c : Bool). answered (legs_refusal (numbers_in b all) legs) c (held_restrictions t x (numbers_in b all) legs) permitted) tail
      ∙ ap₂ (λ (n : ℕ) (l : List ℕ). answered n (tail_before count (before + count - 1) t x (numbers_in b all)) l permitted)
      (sym (refusal_taken count (numbers_in b all) legs few_numbers)) (sym (held_taken t x count (numbers_in b all) legs few_numbers))
      ∙ ap (λ (r : List (List ℕ)). answered (legs_refusal r (take count legs)) (tail_before count (before + count - 1) t x r) (held_restrictions t x r (take count legs)) permitted) (sym (numbers_in_lem b all))

  abbrev tail : ℕ → Bool
  tail start = ltb 0 before && ltb (start + x) t.length

  abbrev held : List ℕ
  held = held_restrictions t x (numbers_in b all) legs

  abbrev whole : Speed
  whole = restricted_along count (before + count - 1) t x (values_in b all) (take count legs)

  -- the last segment's start, and the refusal of the legs
  module _ (some : 1 ≤ count) {start refusal : ℕ} (e : start ≡ last_start 0 (numbers_in b all)) (j : refusal ≡ legs_refusal (numbers_in b all) legs) where
    pub along_refused : (refusal ≡ 0 → ⊥) → no_speed refusal 0 ≡ whole
    along_refused n =
        let permitted = speed_of_run t x (values_in b all) in
        legs_refused (tail start) held permitted n ∙ ap (λ (r : ℕ). answered r (tail start) held permitted) j ∙ along_answer some e

    module _ (z : refusal ≡ 0) {permitted : Speed} (o : permitted ≡ speed_of_run t x (values_in b all)) where
      known : answered refusal (tail start) held permitted ≡ whole
      known = ap₂ (λ (r : ℕ) (v : Speed). answered r (tail start) held v) j o ∙ along_answer some e

      pub along_permitted : (permitted.refusal ≡ 0 → ⊥) → permitted ≡ whole
      along_permitted n = permitted_refused (tail start) held permitted z n ∙ known

      module _ (g : permitted.refusal ≡ 0) where
        pub along_inside : {lsp : ℕ} → lsp ≡ segment_length (numbers_as b (last_of all)) → x < lsp
        along_inside {lsp} d =
            let f : lsp ≡ segment_length (last_of (numbers_of (values_in b all))) = run_answer b all some (λ n r. n) d in
            rw f (judged_inside t x (segment_length (last_of (numbers_of (values_in b all)))) (limited t (speed_in_run t x (numbers_of (values_in b all)))) (sym (ap (λ (v : Speed). v.refusal) o) ∙ g))

        pub along_tail : {d : Bool} → d ≡ tail start → d ≡ true → no_speed 26 0 ≡ whole
        along_tail f w = tail_refused (tail start) held permitted z g (sym f ∙ w) ∙ known

        pub along_lowest : {d : Bool} → d ≡ tail start → d ≡ false → {w : ℕ} → w ≡ lowest permitted.speed held → record { refusal = 0; place = 0; speed = w } ≡ whole
        along_lowest f w q = lowest_answered (tail start) held permitted z g (sym f ∙ w) q ∙ known

-- ---- 22

module _ (count leg : ℕ) (l : List Leg) where
  pub no_leg : length l ≤ leg → on_journey count leg l ≡ false
  no_leg h = rw (le-ltb leg (length l) h)

  pub too_early : leg < length l → leg + 1 < count → on_journey count leg l ≡ false
  too_early a b = rw (lt-ltb leg (length l) a, lt-leb count (leg + 1) b)

  pub on_journey_lem : leg < length l → count ≤ leg + 1 → on_journey count leg l ≡ true
  on_journey_lem a b = rw (lt-ltb leg (length l) a, le-leb count (leg + 1) b)

module _ (count leg : ℕ) (t : Train) (x : ℕ) (r : List (List Item)) (l : List Leg) where
  abbrev answer : Bool → Speed
  answer d = cond d (restricted_along count leg t x r (travelled_legs count leg l)) (no_speed 22 0)

  pub on_refused : on_journey count leg l ≡ false → no_speed 22 0 ≡ restricted_on count leg t x r l
  on_refused d = sym (ap answer d)

  pub on_answered : on_journey count leg l ≡ true → restricted_along count leg t x r (travelled_legs count leg l) ≡ restricted_on count leg t x r l
  on_answered d = sym (ap answer d)

-- ---- the journey's verdict

module _ (b : Brought) (s : List ℕ) (count leg : ℕ) (t : Train) (x : ℕ) (r : List (List Item)) where
  read_as_lem : journey_read (medium_of b) s ≡ journey_as b s
  read_as_lem = go b
    where
      go : (c : Brought) → journey_read (medium_of c) s ≡ journey_as c s
      go Brought.packet = refl
      go Brought.sheet = refl

  pub journey_refused : {n place : ℕ} → journey_as b s ≡ Read.refused n place → no_speed n place ≡ restricted_of_run (medium_of b) count s leg t x r
  journey_refused e = sym (ap (answer_of no_speed (λ l. restricted_on count leg t x r (journey_legs (sheet_numbers l)))) (read_as_lem ∙ e))

  pub journey_answered : JourneyAccepted b s → restricted_on count leg t x r (legs_in b s) ≡ restricted_of_run (medium_of b) count s leg t x r
  journey_answered e = sym (ap (answer_of no_speed (λ l. restricted_on count leg t x r (journey_legs (sheet_numbers l)))) (read_as_lem ∙ e))

-- the question as it is lent
pub lent_restricted : (medium count : ℕ) (first second third fourth journey : List ℕ) (leg : ℕ) (t : Train) (x : ℕ)
    → restricted_speed medium count first second third fourth journey leg t x
    ≡ run_asked no_speed (restricted_of_run medium count journey leg t x) medium count (lent count first second third fourth)
unfolding restricted_speed
lent_restricted medium count first second third fourth journey leg t x = refl
