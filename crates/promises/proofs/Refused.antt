-- Conversions and the altitude question refuse exactly on a ground, for any judge of the input; and the refusals that each of them has.
use mathlib.Core.Path.{◌≡◌, refl, sym, ap, ◌∙◌}
use mathlib.Core.Bool.{Bool, true, false, ◌&&◌, ◌||◌}
use mathlib.Core.List.{List, [], ◌∷◌}
use mathlib.Core.Logic.{◌↔◌}
use Prim.Native.Nat.{ℕ, zero, suc, ◌≤◌, ◌<◌}
use native.Mathlib.Omega.{arith}
use borrow.Author.Tests.{eqb-true, eq-eqb, ltb-true, lt-ltb}
use lib.Dec.{eqb, ltb}
use lib.ListN.{length}
use Rattle.bits.specs.Bits.{Bytes}
use Rattle.bits.proofs.Tests.{by_cases, and_left, and_right, or_cases}
use Rattle.kinds.specs.declared.Item.{Item}
use Rattle.format.specs.Format.{Read, accepted, refused}
use Rattle.format.specs.Grounds.{Ending, grounded, OneEnding, OneJudgement, Among, first, later}
use Rattle.format.proofs.Grounds.{judged}
use Rattle.grammar.specs.segment.Segment.{fields, wire_changes}
use Rattle.grammar.specs.segment.Judgement.{segment_number, from_packet}
use Rattle.grammar.proofs.segment.Grounds.{packet_grounds, sheet_grounds}
use Rattle.grammar.specs.link.Link.{from_either_packet, from_either_sheet}
use Rattle.grammar.specs.link.Grounds.{EitherPacketGround, EitherSheetGround}
use Rattle.grammar.proofs.link.Grounds.{either_packet_grounds, either_sheet_grounds}
use Rattle.speed_question.specs.Question.{Brought, read_as}
use Rattle.altitude.specs.declared.Altitude.{Altitude}
use Rattle.altitude.specs.Altitude.{altitude_of_read, altitude_field, centimetres}
use Rattle.convert.specs.Convert.{Outcome, fitted, converted}
use Rattle.promises.specs.Promised.{OfValues, Convertible}
use Rattle.promises.specs.Refused.{Refuses, ConversionGround, SegmentGround}
use Rattle.promises.specs.Ranges.{ConversionEnds, AltitudeEnds, OneOutcome}
use Rattle.promises.proofs.Values.{Side, kept, side_result, side_converted, altitude_none}

-- `judge` refuses with r at `place` exactly on the ground `On`
pub record Grounded (judge : List ℕ → Read) (On : List ℕ → ℕ → ℕ → Type 0) : Type 0 where
  pub refused_on : (s : List ℕ) (r place : ℕ) → Bytes s → (judge s ≡ refused r place) ↔ On s r place

-- the grounds of a segment that is brought as a packet or a sheet
pub segments_on : (b : Brought) → Grounded (read_as b) (SegmentGround b)
unfolding from_packet
segments_on Brought.packet = record { refused_on = λ s r place ok. packet_grounds segment_number (fields wire_changes) s r place }
segments_on Brought.sheet = record { refused_on = sheet_grounds wire_changes }

-- the grounds of a packet of a segment or a journey
pub either_packets_on : Grounded from_either_packet EitherPacketGround
either_packets_on = record { refused_on = λ s r place ok. either_packet_grounds s r place }

-- the grounds of a sheet of a segment or a journey
pub either_sheets_on : Grounded from_either_sheet EitherSheetGround
either_sheets_on = record { refused_on = either_sheet_grounds }

-- ---- a number among the numbers of a list

abbrev pub member : ℕ → List ℕ → Bool
member a [] = false
member a (b ∷ l) = eqb a b || member a l

abbrev pub all_members : List ℕ → List ℕ → Bool
all_members [] m = true
all_members (a ∷ l) m = member a m && all_members l m

pub among_by : (a : ℕ) (l : List ℕ) → member a l ≡ true → Among a l
among_by a [] e = absurd (let z : ◌≡◌ {A = ℕ} 0 1 = cc in omega arith)
among_by a (b ∷ l) e = or_cases (eqb a b) (member a l) e (λ d. rw (eqb-true a b d) first) (λ d. later (among_by a l d))

pub among_member : {a : ℕ} {l : List ℕ} → Among a l → member a l ≡ true
among_member {a} first = rw (eq-eqb a a refl)
among_member {a} (later {b = b} {l = l} h) = by_cases (eqb a b) (λ d. rw d) (λ d. rw d (among_member h))

pub among_into : {a : ℕ} {l : List ℕ} (m : List ℕ) → all_members l m ≡ true → Among a l → Among a m
among_into {a} m e (first {l = l}) = among_by a m (and_left (member a m) (all_members l m) e)
among_into m e (later {b = b} {l = l} h) = among_into m (and_right (member b m) (all_members l m) e) h

-- ---- an answer, or one ground

-- an outcome that an equation gives is the only outcome
pub one_outcome : {Out : Type 0} {Ends : Out → Type 0} (outcome : Out) → Ends outcome → OneOutcome outcome Ends
one_outcome outcome end = record { one = λ o p e f. e ∙ sym f; ends = λ o e. rw e end }

pub one_ending : {Answered : Type 0} {Ground : ℕ → ℕ → Type 0} (said : ℕ × ℕ) → (said.0 ≡ 0) ↔ Answered → ((r place : ℕ) → Refuses said r place ↔ Ground r place)
    → OneEnding Answered {I = ℕ × ℕ} (λ p. Ground p.0 p.1)
one_ending {Answered} {Ground} said answer ground = record {
  ending = go said.0 refl;
  apart = λ p a g. let e = answer.1 a in let q = (ground p.0 p.1).1 g in let z = ap (λ (x : ℕ × ℕ). x.0) q.0 in let h = q.1 in omega arith;
  one = λ p q g h. sym ((ground p.0 p.1).1 g).0 ∙ ((ground q.0 q.1).1 h).0;
}
  where
    go : (n : ℕ) → said.0 ≡ n → Ending Answered {I = ℕ × ℕ} (λ p. Ground p.0 p.1)
    go zero e = Ending.answered (answer.0 e)
    go (suc n) e = grounded said ((ground said.0 said.1).0 (refl, omega arith))

module _ {judge : List ℕ → Read} {Good : List Item → Type 0} {input : List Item → List ℕ} (side : Side judge Good input)
    {On : List ℕ → ℕ → ℕ → Type 0} (on : Grounded judge On) (s : List ℕ) (ok : Bytes s) where
  abbrev pub of_values : (l : List Item) → judge s ≡ accepted l → OfValues Good input s
  of_values l e = let p = side.only s l ok e in record { values = l; good = p.0; whole = p.1 }

  pub taken : (w : OfValues Good input s) → judge s ≡ accepted w.values
  taken w = ap judge w.whole ∙ side.again w.values w.good

  pub own_refused : (r place : ℕ) → On s r place → (judge s ≡ refused r place) × (1 ≤ r)
  own_refused r place g = let e = (on.refused_on s r place ok).1 g in (e, side.refuses s ok r place e)

  -- if an answer passes the judge's refusals on, its refusal has a ground of the input, or comes from the accepted values
  by_judge : {C : Type 0} (answer : Read → ℕ × ℕ) (r place : ℕ) → ((q p : ℕ) → answer (refused q p) ≡ (q, p)) → answer (judge s) ≡ (r, place)
      → (On s r place → C) → ((l : List Item) → judge s ≡ accepted l → answer (accepted l) ≡ (r, place) → C) → C
  by_judge {C} answer r place same e mine values = go (judge s) refl e
    where
      go : (t : Read) → judge s ≡ t → answer t ≡ (r, place) → C
      go (accepted l) a d = values l a d
      go (refused q p) a d = mine ((on.refused_on s r place ok).0 (a ∙ ap (λ (x : ℕ × ℕ). refused x.0 x.1) (sym (same q p) ∙ d)))

  -- ---- a conversion

  module _ (write : List Item → List ℕ) (room : List ℕ) where
    abbrev conversion : Read → ℕ × ℕ
    conversion t = let o = (converted write t room).answer in (o.refusal, o.place)

    abbrev fitted_said : List Item → ℕ × ℕ
    fitted_said l = let o = (fitted (write l) room).answer in (o.refusal, o.place)

    pub conversion_refused : (r place : ℕ) → Refuses (conversion (judge s)) r place ↔ ConversionGround (On s) Good input write s room r place
    conversion_refused r place = (λ e. by_judge conversion r place (λ q p. refl) e.0 ConversionGround.own (λ l a d. fits l a d e.1), given)
      where
        fits : (l : List Item) → judge s ≡ accepted l → fitted_said l ≡ (r, place) → 1 ≤ r → ConversionGround (On s) Good input write s room r place
        fits l a e h =
            by_cases (ltb (length room) (length (write l)))
            (λ d. let z : ◌≡◌ {A = ℕ × ℕ} (8, 0) (r, place) = rw d at e in
            ConversionGround.short_room (of_values l a) (ltb-true (length room) (length (write l)) d) (sym (ap (λ (x : ℕ × ℕ). x.0) z)) (sym (ap (λ (x : ℕ × ℕ). x.1) z)))
            (λ d. let z : ◌≡◌ {A = ℕ × ℕ} (0, 0) (r, place) = rw d at e in let y : 0 ≡ r = ap (λ (x : ℕ × ℕ). x.0) z in absurd (omega arith))

        short : (l : List Item) → length room < length (write l) → fitted_said l ≡ (8, 0)
        short l h = rw (lt-ltb (length room) (length (write l)) h)

        given : ConversionGround (On s) Good input write s room r place → Refuses (conversion (judge s)) r place
        given (ConversionGround.own g) = let e = own_refused r place g in (ap conversion e.0, e.1)
        given (ConversionGround.short_room w h e p) = (ap conversion (taken w) ∙ short w.values h ∙ rw (e, p), omega arith)

    -- a conversion ends as `ConversionEnds` says, if each result is within its sizes and each refusal is listed
    pub conversion_ends : (refusals : List ℕ) (least most : ℕ) → ((r place : ℕ) → ConversionGround (On s) Good input write s room r place → Among r refusals)
        → ((l : List Item) → Good l → (least ≤ length (write l)) × (length (write l) ≤ most)) → ConversionEnds room refusals least most (converted write (judge s) room)
    conversion_ends refusals least most listed size = go (one_ending (conversion (judge s)) (side_converted side write s room ok) conversion_refused).ending
      where
        go : Ending (Convertible Good input write s room) {I = ℕ × ℕ} (λ p. ConversionGround (On s) Good input write s room p.0 p.1)
            → ConversionEnds room refusals least most (converted write (judge s) room)
        go (Ending.answered c) =
            let p = size c.values c.good in
            rw (side_result side write s room c) (ConversionEnds.success refl refl p.0 p.1 c.holds)
        go (grounded p g) =
            let e = (conversion_refused p.0 p.1).1 g in
            let n : (converted write (judge s) room).answer.refusal ≡ p.0 = ap (λ (x : ℕ × ℕ). x.0) e.0 in
            let h = e.1 in
            let k = kept write (judge s) room (λ d. omega arith) in
            ConversionEnds.refusal (rw n (listed p.0 p.1 g)) (ap (λ (o : Outcome). o.answer.length) k) (ap (λ (o : Outcome). o.room) k)

  -- ---- the altitude

  abbrev altitude : Read → ℕ × ℕ
  altitude t = let o = altitude_of_read t in (o.refusal, o.place)

  pub altitude_refused : (r place : ℕ) → Refuses (altitude (judge s)) r place ↔ On s r place
  altitude_refused r place = (
    λ e. let h = e.1 in by_judge altitude r place (λ q p. refl) e.0 (λ g. g) (λ l a d. let z : 0 ≡ r = ap (λ (u : ℕ × ℕ). u.0) d in absurd (omega arith)),
    λ g. let e = own_refused r place g in (ap altitude e.0, e.1),
  )

  pub altitude_values : (w : OfValues Good input s) → altitude_of_read (judge s) ≡ record { refusal = 0; place = 0; altitude = centimetres (altitude_field w.values) }
  altitude_values w = ap altitude_of_read (taken w)

  pub altitude_answered : ((altitude (judge s)).0 ≡ 0) ↔ OfValues Good input s
  altitude_answered = (λ e. go (judge s) refl e, λ w. ap (λ (a : Altitude). a.refusal) (altitude_values w))
    where
      go : (t : Read) → judge s ≡ t → (altitude t).0 ≡ 0 → OfValues Good input s
      go (accepted l) a e = of_values l a
      go (refused q p) a e = absurd (omega (arith, side.refuses s ok q p a))

  pub altitude_ends : (refusals : List ℕ) → ((r place : ℕ) → On s r place → Among r refusals) → ((l : List Item) → Good l → altitude_field l ≤ 1048575)
      → AltitudeEnds refusals (altitude_of_read (judge s))
  altitude_ends refusals listed bound = go (one_ending (altitude (judge s)) altitude_answered altitude_refused).ending
    where
      go : Ending (OfValues Good input s) {I = ℕ × ℕ} (λ p. On s p.0 p.1) → AltitudeEnds refusals (altitude_of_read (judge s))
      go (Ending.answered w) = rw (altitude_values w) (AltitudeEnds.success (altitude_field w.values) (bound w.values w.good) refl refl refl)
      go (grounded p g) =
          let e = (altitude_refused p.0 p.1).1 g in
          let n : (altitude_of_read (judge s)).refusal ≡ p.0 = ap (λ (u : ℕ × ℕ). u.0) e.0 in
          let h = e.1 in
          AltitudeEnds.refusal (rw n (listed p.0 p.1 g)) (altitude_none (judge s) (λ d. omega arith))

  -- ---- the judge itself

  pub side_judged : OneJudgement (λ l. Good l × (s ≡ input l)) (On s)
  side_judged = judged (judge s) (λ l. (side.only s l ok, λ p. ap judge p.1 ∙ side.again l p.0)) (λ r place. on.refused_on s r place ok)
