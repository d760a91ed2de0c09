-- The customer's third demand: "Two accepted sheets make the same packet exactly when they agree in every field after that lowering", and the speed from a sheet's packet.
use mathlib.Core.Path.{◌≡◌, refl, sym, ap, ap₂, ◌∙◌, subst}
use mathlib.Core.List.{List, [], ◌∷◌, map}
use mathlib.Core.Logic.{◌↔◌}
use Prim.Native.Nat.{ℕ, ◌≤◌, min}
use native.Mathlib.Omega.{arith}
use lib.ListN.{take}
use Rattle.bits.specs.Bits.{Bytes}
use Rattle.kinds.specs.declared.Item.{Item}
use Rattle.format.specs.Format.{accepted}
use Rattle.grammar.specs.segment.Segment.{wire_changes}
use Rattle.grammar.specs.segment.Judgement.{to_packet, to_sheet}
use Rattle.grammar.specs.link.Link.{from_either_sheet, to_either_packet}
use Rattle.grammar.specs.link.Grounds.{EitherSheetValues}
use Rattle.grammar.proofs.link.Values.{either_sheet_taken}
use Rattle.grammar.proofs.link.Segments.{on_link}
use Rattle.speed.specs.declared.Train.{Train}
use Rattle.speed.specs.Speed.{limited, in_fives}
use Rattle.speed.specs.Run.{Each, none, another, numbers_of, speed_in_run}
use Rattle.speed_question.specs.declared.Speed.{Speed}
use Rattle.speed_question.specs.Question.{Brought, medium_of, lent, speed_asked, permitted_speed}
use Rattle.convert.specs.Convert.{success_with, sheet_to_packet}
use Rattle.promises.specs.Promised.{SegmentValues, segment_of, ConvertibleSheet, Answerable, with_maximum, answer_in_fives, answer_limited, answer_with, GreatestFive, Agreeing, result, ConvertedTo, EachConverted, Lowered}
use Rattle.promises.proofs.Agreeing.{packets_agree, agreeing_packets}
use Rattle.promises.proofs.DemandTwo.{sheet_converted, sheet_result}
use Rattle.promises.proofs.Maximum.{limited_lower}
use Rattle.promises.proofs.Ranges.{highest}
use Rattle.promises.proofs.Speeds.{permitted_speed_value, permitted_speed_step, profile_asked}
use Rattle.promises.proofs.Runs.{take_map, asked_profile, asked_lowered}
use Rattle.promises.proofs.Values.{in_fives_lem, placed_result}

-- ==== "Two accepted sheets make the same packet exactly when they agree in every field after that lowering."

-- the values of two accepted sheets make the same packet exactly when both are lowered, field by field, to the same numbers
pub same_packet_lem : (l m : List Item) → EitherSheetValues l → EitherSheetValues m → (to_either_packet l ≡ to_either_packet m) ↔ Agreeing l m
same_packet_lem l m cl cm = (packets_agree cl cm, agreeing_packets cl cm)

-- the operation gives two converted sheets one outcome, answer and room, exactly when their values agree
pub same_outcome : (s t room : List ℕ) (c : ConvertibleSheet s room) (d : ConvertibleSheet t room)
    → (sheet_to_packet s room ≡ sheet_to_packet t room) ↔ Agreeing c.values d.values
same_outcome s t room c d = (there, back)
  where
    law : (to_either_packet c.values ≡ to_either_packet d.values) ↔ Agreeing c.values d.values
    law = same_packet_lem c.values d.values c.good d.good

    there : sheet_to_packet s room ≡ sheet_to_packet t room → Agreeing c.values d.values
    there e =
        law.0 (sym (placed_result (to_either_packet c.values) room) ∙ ap result (sym (sheet_result s room c) ∙ e ∙ sheet_result t room d)
        ∙ placed_result (to_either_packet d.values) room)

    back : Agreeing c.values d.values → sheet_to_packet s room ≡ sheet_to_packet t room
    back e = sheet_result s room c ∙ ap (λ (x : List ℕ). success_with x room) (law.1 e) ∙ sym (sheet_result t room d)

-- ==== "from the packet, the lower of the card's maximum and the greatest multiple of 5 not above the profile's speed from the sheet, for runs too"

module _ (count : ℕ) (a b c d : List Item) (t : Train) (x : ℕ) (good : Each (SegmentValues Brought.sheet) (take count (a ∷ b ∷ c ∷ d ∷ []))) where
  -- the values, up to the count
  abbrev values : List (List Item)
  values = take count (a ∷ b ∷ c ∷ d ∷ [])

  -- the answers from their packets and from their sheets
  abbrev from_packets : Train → Speed
  from_packets u = permitted_speed 0 count (to_packet wire_changes a) (to_packet wire_changes b) (to_packet wire_changes c) (to_packet wire_changes d) u x

  abbrev from_sheets : Train → Speed
  from_sheets u = permitted_speed 1 count (to_sheet wire_changes a) (to_sheet wire_changes b) (to_sheet wire_changes c) (to_sheet wire_changes d) u x

  -- both over the values
  asked : (change : Speed → Speed) (u : Train) → speed_asked 0 count (map (to_packet wire_changes) values) u x ≡ change (speed_asked 1 count (map (to_sheet wire_changes) values) u x)
      → from_packets u ≡ change (from_sheets u)
  unfolding permitted_speed
  asked change u e =
      let l = a ∷ b ∷ c ∷ d ∷ [] in
      ap (λ (r : List (List ℕ)). speed_asked 0 count r u x) (take_map (to_packet wire_changes) count l) ∙ e
      ∙ ap (λ (r : List (List ℕ)). change (speed_asked 1 count r u x)) (sym (take_map (to_sheet wire_changes) count l))

  -- for any train: the answer from the packets has the refusal and the place of that from the sheets, and by their profile the speed of the sentence
  pub lowered_profile : from_packets t ≡ answer_with (min t.maximum (in_fives (speed_in_run t x (numbers_of values)))) (from_sheets t)
  lowered_profile = asked (answer_with (limited t (in_fives (speed_in_run t x (numbers_of values))))) t (asked_profile count values t x good)

  -- in the operation's own words, under a maximum within its range: the answer from the sheets to the card with the maximum 600, lowered to a multiple of 5, then limited; refusals too
  pub lowered_speed : 1 ≤ t.maximum → t.maximum ≤ 600 → from_packets t ≡ answer_limited t (answer_in_fives (from_sheets (with_maximum 600 t)))
  lowered_speed h g =
      permitted_speed_step 0 count (to_packet wire_changes a) (to_packet wire_changes b) (to_packet wire_changes c) (to_packet wire_changes d) t x h g
      ∙ ap (answer_limited t) (asked answer_in_fives (with_maximum 600 t) (asked_lowered count values t x good))

-- a converted sheet of these values has their packet
packet_of : {s packet : List ℕ} (l : List Item) → Bytes s → SegmentValues Brought.sheet l → s ≡ to_sheet wire_changes l → ConvertedTo s packet → packet ≡ to_packet wire_changes l
packet_of {s} l ok good whole d =
    let room = d.room in
    let c = (sheet_converted s room ok).0 d.done in
    let o = on_link good in
    let same : accepted c.values ≡ accepted l =
    sym (either_sheet_taken c.values c.good) ∙ ap from_either_sheet (sym c.whole ∙ whole ∙ sym o.same_sheet) ∙ either_sheet_taken l o.values in
    let v : c.values ≡ l = cc in
    d.whole ∙ ap result (sheet_result s room c) ∙ placed_result (to_either_packet c.values) room ∙ ap to_either_packet v ∙ o.same_packet

-- converted sheets of these values have their packets
pub packets_of : {sheets packets : List (List ℕ)} (v : List (List Item)) → Each Bytes sheets → Each (SegmentValues Brought.sheet) v → sheets ≡ map (to_sheet wire_changes) v
    → EachConverted sheets packets → packets ≡ map (to_packet wire_changes) v
packets_of [] ok good whole none = refl
packets_of (l ∷ v) ok good whole none = absurd (let z : ◌≡◌ {A = ℕ} 0 1 = cc in omega arith)
packets_of [] ok good whole (another d rest) = absurd (let z : ◌≡◌ {A = ℕ} 0 1 = cc in omega arith)
packets_of (l ∷ v) ok good whole (another {a = s} {r = sheets} d rest) =
    let first : s ≡ to_sheet wire_changes l = cc in
    let later : sheets ≡ map (to_sheet wire_changes) v = cc in
    ap₂ (λ (p : List ℕ) (r : List (List ℕ)). p ∷ r) (packet_of l ok.0 good.0 first d) (packets_of v ok.1 good.1 later rest)

module _ (count : ℕ) (a b c d : List ℕ) (e f g h : List ℕ) (t : Train) (x : ℕ) (ok : Each Bytes (lent count a b c d)) (made : EachConverted (lent count a b c d) (lent count e f g h))
    (q : Answerable 1 count (lent count a b c d) t x) where
  -- the profile's speed, and the answer from the sheets to the card with the maximum 600
  abbrev profile : ℕ
  profile = speed_in_run t x (numbers_of q.of.values)

  abbrev highest_asked : Speed
  highest_asked = permitted_speed 1 count a b c d (with_maximum 600 t) x

  -- a question that is answered from converted sheets is answered from their packets, with the speed of the sentence
  pub speed_again : Lowered t.maximum (speed_in_run t x (numbers_of q.of.values)) (permitted_speed 1 count a b c d (with_maximum 600 t) x) (permitted_speed 0 count e f g h t x)
  unfolding permitted_speed
  speed_again = go q.brought q.named q.of.good q.of.whole
    where
      go : (m : Brought) → 1 ≡ medium_of m → Each (SegmentValues m) q.of.values → lent count a b c d ≡ map (segment_of m) q.of.values
          → Lowered t.maximum profile highest_asked (permitted_speed 0 count e f g h t x)
      go Brought.packet k good whole = absurd (omega arith)
      go Brought.sheet k good whole =
          let v = q.of.values in
          let low : permitted_speed 0 count e f g h t x ≡ record { refusal = 0; place = 0; speed = limited t (in_fives profile) } =
          ap (λ (r : List (List ℕ)). speed_asked 0 count r t x) (packets_of v ok good whole made) ∙ asked_profile count v t x good
          ∙ ap (λ (r : List (List ℕ)). answer_with (limited t (in_fives profile)) (speed_asked 1 count r t x)) (sym whole)
          ∙ ap (answer_with (limited t (in_fives profile))) (permitted_speed_value 1 count a b c d t x q) in
          let most : profile ≤ 604 = highest Brought.sheet t x v good in
          let same : in_fives (min 600 profile) ≡ in_fives profile = omega arith in
          record {
            answered = ap (λ (o : Speed). o.refusal) low;
            fives = in_fives profile;
            greatest = in_fives_lem profile;
            asked = rw (profile_asked 1 count a b c d t x q) (subst (GreatestFive (min 600 profile)) same (in_fives_lem (min 600 profile)));
            lower = rw low (limited_lower t (in_fives profile));
          }
