-- Journeys of good values: what is accepted is written of them, what is written of them is accepted, and a journey is refused exactly on its grounds.
use mathlib.Core.List.{[]}
use mathlib.Core.Path.{◌≡◌, refl, sym, ap, ap₂, ◌∙◌, subst}
use mathlib.Core.Bool.{Bool, true, ◌&&◌}
use mathlib.Core.List.{List, ◌∷◌, ◌++◌}
use mathlib.Core.Logic.{◌↔◌}
use Prim.Native.Nat.{ℕ, ◌+◌, ◌-◌, ◌≤◌, ◌<◌}
use native.Mathlib.Omega.{arith}
use borrow.Author.Tests.{leb-true, ltb-true, lt-ltb, le-ltb}
use lib.Dec.{leb, ltb, lit<, lit≤}
use lib.ListN.{length}
use Rattle.bits.specs.Bits.{Bytes}
use Rattle.bits.proofs.Tests.{by_cases, and_left, and_right}
use Rattle.numbers.specs.Numbers.{groups_in}
use Rattle.kinds.specs.declared.Item.{Item}
use Rattle.kinds.specs.journey.Kinds.{journey_number}
use Rattle.fields.proofs.Lawful.{narrow, range_lawful}
use Rattle.format.specs.Format.{Read, accepted, refused, read, write}
use Rattle.format.specs.Media.{packet, sheet}
use Rattle.format.specs.Conforming.{Conforming, also, InPacket, InSheet, given_back}
use Rattle.format.specs.Grounds.{Every, each, Among, first}
use Rattle.format.proofs.Generic.{never}
use Rattle.format.proofs.Media.{sheet_again, sheet_only}
use Rattle.format.proofs.Grounds.{sheet_ground, sheet_written}
use Rattle.format.proofs.Lawful.{to_packet_lem, lowered_bits}
use Rattle.grammar.specs.segment.Frame.{number_item, unframed, packet_of_bits}
use Rattle.grammar.specs.segment.Grounds.{sheet_refusals}
use Rattle.grammar.proofs.segment.Framing.{framed_again, framed_only}
use Rattle.grammar.proofs.segment.Grounds.{packet_grounds, packet_listed, numbers_refusals, numbers_listed}
use Rattle.grammar.proofs.segment.Refusals.{among_positive}
use Rattle.grammar.specs.journey.Journey.{journey_fields, journey_sheet, constraints}
use Rattle.grammar.proofs.journey.Ends.{sheet_lawful}
use Rattle.grammar.specs.declared.link.Tree.TheVariants.{Journey}
use Rattle.grammar.specs.link.Link.{tree_number, tree_fields, tree_of, link_fields, link_bits, number_among, within_count, to_either_packet, to_either_sheet}
use Rattle.grammar.proofs.link.Trees.{tree_least}
use Rattle.grammar.proofs.link.Values.{tree_packet_lem, count_accepted}
use Rattle.grammar.proofs.link.Grounds.{tree_refusals}
use Rattle.speed_question.specs.Question.{Brought}
use Rattle.promises.proofs.Values.{Side}
use Rattle.promises.proofs.Refused.{Grounded, among_by, among_into}
use Rattle.legs.proofs.Opened.{opened}
use Rattle.restricted.specs.Question.{journey_as}
use Rattle.restricted_promises.specs.Promised.{restricted_refusals}
use Rattle.restricted_promises.specs.Journey.{JourneyValues, journey_of, JourneySheetGround, in_numbers, too_long, JourneyGround}

-- ---- packets

number_is : (i : Item) → (leb 4 i.packet && leb i.packet 4) ≡ true → i.sheet ≡ i.packet → i ≡ number_item 4
number_is i a r =
    let l : 4 ≤ i.packet = leb-true 4 i.packet (and_left (leb 4 i.packet) (leb i.packet 4) a) in
    let h : i.packet ≤ 4 = leb-true i.packet 4 (and_right (leb 4 i.packet) (leb i.packet 4) a) in
    let p : i.packet ≡ 4 = omega arith in
    let q : i.sheet ≡ 4 = omega arith in
    λ j. record { sheet = q j; packet = p j }

packet_values_lem : (s : List ℕ) (l : List Item) → Bytes s → journey_as Brought.packet s ≡ accepted l → JourneyValues Brought.packet l × (s ≡ to_either_packet l)
unfolding journey_as journey_sheet journey_fields
packet_values_lem s l ok e =
    let r = framed_only 4 (journey_fields constraints) s l ok e in
    let c : Conforming InPacket (journey_sheet constraints) (number_item 4 ∷ r.values) = also {i = number_item 4} (record { allowed = refl; fits = lit< tt; raised = refl }) r.good in
    rw r.all (record { good = c; few = r.few }, r.bytes ∙ sym (tree_packet_lem Journey r.values))

packet_again : (l : List Item) → JourneyValues Brought.packet l → journey_as Brought.packet (to_either_packet l) ≡ accepted l
unfolding journey_as journey_sheet journey_fields
packet_again l v =
    opened v.good λ i m p g c.
    let q : i ≡ number_item 4 = number_is i g.allowed g.raised in
    let whole : l ≡ number_item 4 ∷ m = p ∙ ap (λ (j : Item). j ∷ m) q in
    let few : length (write packet (tree_fields Journey) m) ≤ 96 + 65535 = subst (λ (k : List Item). length (link_bits k) ≤ 96 + 65535) whole v.few in
    ap (λ (k : List Item). unframed 4 (journey_fields constraints) (to_either_packet k)) whole
    ∙ ap (unframed 4 (journey_fields constraints)) (tree_packet_lem Journey m)
    ∙ framed_again 4 (journey_fields constraints) m (lit< tt) c (tree_least Journey c) (omega arith)
    ∙ sym (ap accepted whole)

-- ---- sheets

pub four : (i : Item) → InSheet journey_number i → i.packet ≡ 4
four i g =
    let e = (range_lawful 8 4 4 2 (narrow tt) (lit< tt)).into i.sheet i.packet g.lowered in
    let l : 4 ≤ i.packet = leb-true 4 i.packet (and_left (leb 4 i.packet) (leb i.packet 4) e) in
    let h : i.packet ≤ 4 = leb-true i.packet 4 (and_right (leb 4 i.packet) (leb i.packet 4) e) in
    omega arith

same_sheet_lem : (l : List Item) → Conforming InSheet (journey_sheet constraints) l → write sheet (journey_sheet constraints) l ≡ to_either_sheet l
unfolding journey_sheet journey_fields to_either_sheet link_fields
same_sheet_lem l c =
    opened c λ i m p g d.
    rw p (ap (λ (n : ℕ). groups_in i.sheet ++ write sheet (tree_fields (tree_of n)) m) (sym (four i g)))

sheet_values : (s : List ℕ) (l : List Item) → Bytes s → journey_as Brought.sheet s ≡ accepted l → JourneyValues Brought.sheet l × (s ≡ to_either_sheet l)
unfolding journey_as
sheet_values s l ok e =
    count_accepted (read sheet (journey_sheet constraints) 0 s) l e λ a few.
    let p = sheet_only (journey_sheet constraints) 0 s l ok a in
    (record { good = p.0; few = few }, p.1 ∙ same_sheet_lem l p.0)

sheet_taken : (l : List Item) → JourneyValues Brought.sheet l → journey_as Brought.sheet (to_either_sheet l) ≡ accepted l
unfolding journey_as
sheet_taken l v =
    ap (λ (s : List ℕ). within_count (read sheet (journey_sheet constraints) 0 s)) (sym (same_sheet_lem l v.good)) ∙ ap within_count (sheet_again v.good 0)
    ∙ rw (le-ltb 65535 (length (link_bits l) - 96) (omega (arith, v.few)))

-- ---- grounds

-- what the count of bits refuses
count_refused : {C : Type 0} (r place : ℕ) (t : Read) → within_count t ≡ refused r place → (t ≡ refused r place → C)
    → ((l : List Item) → t ≡ accepted l → 96 + 65535 < length (link_bits l) → r ≡ 12 → place ≡ 0 → C) → C
count_refused r place (refused q m) e own long = own e
count_refused r place (accepted l) e own long =
    by_cases (ltb 65535 (length (link_bits l) - 96))
    (λ d. let p : refused 12 0 ≡ refused r place = rw d at e in long l refl (omega (arith, ltb-true 65535 (length (link_bits l) - 96) d)) (cc) (cc))
    (λ d. absurd (never (sym (rw d at e))))

sheet_grounds : (s : List ℕ) (r place : ℕ) → Bytes s → (journey_as Brought.sheet s ≡ refused r place) ↔ JourneySheetGround s r place
unfolding journey_as
sheet_grounds s r place ok = (there, back)
  where
    there : within_count (read sheet (journey_sheet constraints) 0 s) ≡ refused r place → JourneySheetGround s r place
    there e =
        count_refused r place (read sheet (journey_sheet constraints) 0 s) e (λ g. in_numbers ((sheet_ground (journey_sheet constraints) 0 s r place ok).0 g))
        λ l a long q p. too_long l ((sheet_written (journey_sheet constraints) 0 s l ok).0 a) long q p

    back : JourneySheetGround s r place → within_count (read sheet (journey_sheet constraints) 0 s) ≡ refused r place
    back (in_numbers g) = ap within_count ((sheet_ground (journey_sheet constraints) 0 s r place ok).1 g)
    back (too_long l w long q p) =
        ap within_count ((sheet_written (journey_sheet constraints) 0 s l ok).1 w) ∙ rw (lt-ltb 65535 (length (link_bits l) - 96) (omega arith), q, p)

-- "Each refusal is given then and not otherwise"
pub journeys_on : (b : Brought) → Grounded (journey_as b) (JourneyGround b)
unfolding journey_as
journeys_on Brought.packet = record { refused_on = λ s r place ok. packet_grounds 4 (journey_fields constraints) s r place }
journeys_on Brought.sheet = record { refused_on = sheet_grounds }

field_refusals : Every (λ k. (v : ℕ) → Among (k.refusal v) sheet_refusals) (journey_sheet constraints)
unfolding journey_sheet journey_fields
field_refusals = each (λ _. first) λ n. numbers_refusals (tree_refusals Journey)

-- the refusals of a journey are listed
pub journey_listed : (b : Brought) (s : List ℕ) (r place : ℕ) → JourneyGround b s r place → Among r (restricted_refusals b)
unfolding journey_fields
journey_listed Brought.packet s r place g = among_into (restricted_refusals Brought.packet) refl (packet_listed 4 (tree_refusals Journey) s r place g)
journey_listed Brought.sheet s r place (in_numbers g) = among_into (restricted_refusals Brought.sheet) refl (numbers_listed field_refusals 0 s r place g)
journey_listed Brought.sheet s r place (too_long l w long q p) = rw q (among_by 12 (restricted_refusals Brought.sheet) refl)

sheet_positive : (s : List ℕ) (r place : ℕ) → JourneySheetGround s r place → 1 ≤ r
sheet_positive s r place (in_numbers g) = among_positive (numbers_listed field_refusals 0 s r place g) refl
sheet_positive s r place (too_long l w long q p) = omega arith

packet_positive : (s : List ℕ) (r place : ℕ) → JourneyGround Brought.packet s r place → 1 ≤ r
unfolding journey_fields
packet_positive s r place g = among_positive (packet_listed 4 (tree_refusals Journey) s r place g) refl

pub journeys : (b : Brought) → Side (journey_as b) (JourneyValues b) (journey_of b)
journeys Brought.packet = record {
  only = packet_values_lem;
  again = packet_again;
  refuses = λ s ok q place e. packet_positive s q place (((journeys_on Brought.packet).refused_on s q place ok).0 e);
}
journeys Brought.sheet = record {
  only = sheet_values;
  again = sheet_taken;
  refuses = λ s ok q place e. sheet_positive s q place (((journeys_on Brought.sheet).refused_on s q place ok).0 e);
}

-- ---- lowering leaves the packet, and makes a packet's values of a sheet's

bits_lowered : (l : List Item) → Conforming InSheet (journey_sheet constraints) l → link_bits (given_back (journey_sheet constraints) l) ≡ link_bits l
unfolding journey_sheet journey_fields
bits_lowered [] x' = elim x' [ ]
bits_lowered (i ∷ m) (also g c) =
    let e = four i g in
    ap (λ (n : ℕ). write packet (tree_fields (tree_of n)) (given_back (journey_fields constraints) m)) e ∙ lowered_bits (journey_fields constraints) m
    ∙ sym (ap (λ (n : ℕ). write packet (tree_fields (tree_of n)) m) e)

number_lowered : (l : List Item) → Conforming InSheet (journey_sheet constraints) l → number_among (given_back (journey_sheet constraints) l) ≡ number_among l
unfolding journey_sheet
number_lowered l c = opened c λ i m p g d. rw p

pub journey_lowered_packet : (l : List Item) → Conforming InSheet (journey_sheet constraints) l → to_either_packet (given_back (journey_sheet constraints) l) ≡ to_either_packet l
unfolding to_either_packet
journey_lowered_packet l c = ap₂ (λ (n : ℕ) (b : List Bool). packet_of_bits (tree_number (tree_of n)) b) (number_lowered l c) (bits_lowered l c)

pub journey_lowered_good : (l : List Item) → JourneyValues Brought.sheet l → JourneyValues Brought.packet (given_back (journey_sheet constraints) l)
journey_lowered_good l v = record { good = to_packet_lem (sheet_lawful constraints (lit≤ tt)) v.good; few = rw (bits_lowered l v.good) v.few }

-- the packet of a sheet's values is read as they are given back
pub journey_packet_lem : (l : List Item) → JourneyValues Brought.sheet l → journey_as Brought.packet (to_either_packet l) ≡ accepted (given_back (journey_sheet constraints) l)
journey_packet_lem l v =
    ap (journey_as Brought.packet) (sym (journey_lowered_packet l v.good)) ∙ (journeys Brought.packet).again (given_back (journey_sheet constraints) l) (journey_lowered_good l v)
