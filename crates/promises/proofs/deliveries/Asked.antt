-- The promises on the question for an intake's sheet, from any state, whoever made it: when it is answered, and on which ground it is refused.
use mathlib.Core.Path.{◌≡◌, refl, sym, ap, ◌∙◌}
use mathlib.Core.Bool.{true, false}
use mathlib.Core.List.{List}
use mathlib.Core.Logic.{◌⊎◌, inl, inr, ◌↔◌}
use Prim.Native.Nat.{ℕ, ◌≤◌, ◌<◌}
use native.Mathlib.Omega.{arith}
use borrow.Author.Tests.{eqb-true, eqb-false, ne_eqb, leb-true, leb-false, le-leb, lt-leb}
use lib.Dec.{eqb, leb}
use lib.ListN.{length, take}
use Rattle.bits.specs.Bits.{Bytes}
use Rattle.bits.proofs.Tests.{by_cases}
use Rattle.format.specs.Grounds.{OneEnding, Among}
use Rattle.convert.specs.Convert.{Outcome, refused_with, packet_to_sheet}
use Rattle.intake.specs.declared.Intake.{Intake}
use Rattle.intake.specs.Intake.{asked}
use Rattle.promises.specs.Promised.{Done}
use Rattle.promises.specs.Refused.{Refuses, packet_to_sheet_refusals, placeless}
use Rattle.promises.specs.Ranges.{ConversionEnds, OneOutcome}
use Rattle.promises.specs.deliveries.Refused.{Judged, Askable, AskedGround, asked_refusals}
use Rattle.promises.proofs.Refused.{one_outcome, one_ending, among_by, among_member, among_into}
use Rattle.promises.proofs.DemandOne.{packet_to_sheet_refused, packet_to_sheet_outcome}
use Rattle.promises.proofs.DemandTwo.{packet_converted}
use Rattle.promises.proofs.Placeless.{packet_to_sheet_placeless}
use Rattle.promises.proofs.deliveries.Verdicts.{tested, tested_judged, judged_tested, judged_placeless, judged_listed}
use Rattle.promises.proofs.deliveries.Completed.{bytes_front}

abbrev answer_said : Outcome → ℕ × ℕ
answer_said o = (o.answer.refusal, o.answer.place)

module _ (i : Intake) (taken room : List ℕ) where
  abbrev s : List ℕ
  s = take i.length taken

  -- ---- what the question comes to

  asked_early : (Judged i → ⊥) → asked i taken room ≡ refused_with 14 0 room
  unfolding asked
  asked_early n = by_cases (tested i) (λ e. absurd (n (tested_judged i e))) (λ e. rw e)

  module _ (j : Judged i) where
    asked_again : (i.refusal ≡ 0 → ⊥) → asked i taken room ≡ refused_with i.refusal i.place room
    unfolding asked
    asked_again n = rw (judged_tested i j, ne_eqb i.refusal 0 n)

    asked_cut : i.refusal ≡ 0 → length taken < i.length → asked i taken room ≡ refused_with 14 0 room
    unfolding asked
    asked_cut z h = rw (judged_tested i j, z, lt-leb i.length (length taken) h)

    asked_whole : i.refusal ≡ 0 → i.length ≤ length taken → asked i taken room ≡ packet_to_sheet s room
    unfolding asked
    asked_whole z h = rw (judged_tested i j, z, le-leb i.length (length taken) h)

  -- the four ways of it
  four_ways : {C : Type 0} → ((Judged i → ⊥) → C) → (Judged i → (i.refusal ≡ 0 → ⊥) → C) → (Judged i → i.refusal ≡ 0 → length taken < i.length → C)
      → (Judged i → i.refusal ≡ 0 → i.length ≤ length taken → C) → C
  four_ways early again cut whole =
      by_cases (tested i)
      (λ e. let j = tested_judged i e in
      by_cases (eqb i.refusal 0)
      (λ d. let z = eqb-true i.refusal 0 d in by_cases (leb i.length (length taken)) (λ h. whole j z (leb-true i.length (length taken) h)) (λ h. cut j z (leb-false i.length (length taken) h)))
      (λ d. again j (eqb-false i.refusal 0 d)))
      (λ e. early (λ j. let y : true ≡ false = sym (judged_tested i j) ∙ e in let z : ◌≡◌ {A = ℕ} 0 1 = cc in omega arith))

  positive : (i.refusal ≡ 0 → ⊥) → 1 ≤ i.refusal
  positive n = by_cases (eqb i.refusal 0) (λ e. absurd (n (eqb-true i.refusal 0 e))) (λ e. let m = eqb-false i.refusal 0 e in by_cases (leb 1 i.refusal) (λ h. leb-true 1 i.refusal h) (λ h. let l = leb-false 1 i.refusal h in absurd (m (omega arith))))

  module _ (ok : Bytes taken) where
    bytes : Bytes s
    bytes = bytes_front i.length taken ok

    -- "Each refusal is given then and not otherwise"
    pub asked_refused : (r place : ℕ) → Refuses ((asked i taken room).answer.refusal, (asked i taken room).answer.place) r place ↔ AskedGround i taken room r place
    asked_refused r place = (only, given)
      where
        only : Refuses (answer_said (asked i taken room)) r place → AskedGround i taken room r place
        only q =
            four_ways
            (λ n. let z : ◌≡◌ {A = ℕ × ℕ} (14, 0) (r, place) = sym (ap answer_said (asked_early n)) ∙ q.0 in
            AskedGround.early n (sym (ap (λ (u : ℕ × ℕ). u.0) z)) (sym (ap (λ (u : ℕ × ℕ). u.1) z)))
            (λ j n. let z : ◌≡◌ {A = ℕ × ℕ} (i.refusal, i.place) (r, place) = sym (ap answer_said (asked_again j n)) ∙ q.0 in
            AskedGround.again j (positive n) (sym (ap (λ (u : ℕ × ℕ). u.0) z)) (sym (ap (λ (u : ℕ × ℕ). u.1) z)))
            (λ j n h. let z : ◌≡◌ {A = ℕ × ℕ} (14, 0) (r, place) = sym (ap answer_said (asked_cut j n h)) ∙ q.0 in
            AskedGround.cut_short j n h (sym (ap (λ (u : ℕ × ℕ). u.0) z)) (sym (ap (λ (u : ℕ × ℕ). u.1) z)))
            (λ j n h. AskedGround.own j n h ((packet_to_sheet_refused s bytes room r place).0 (sym (ap answer_said (asked_whole j n h)) ∙ q.0, q.1)))

        given : AskedGround i taken room r place → Refuses (answer_said (asked i taken room)) r place
        given (AskedGround.early n e p) = (ap answer_said (asked_early n) ∙ rw (e, p), omega arith)
        given (AskedGround.again j h e p) = (ap answer_said (asked_again j (λ z. omega arith)) ∙ rw (e, p), omega arith)
        given (AskedGround.cut_short j n h e p) = (ap answer_said (asked_cut j n h) ∙ rw (e, p), omega arith)
        given (AskedGround.own j n h g) =
            let u = (packet_to_sheet_refused s bytes room r place).1 g in
            (ap answer_said (asked_whole j n h) ∙ u.0, u.1)

    pub asked_answered : Done (asked i taken room) ↔ Askable i taken room
    asked_answered = (only, λ a. ap (λ (o : Outcome). o.answer.refusal) (asked_whole a.judged a.accepted a.whole) ∙ (packet_converted s room bytes).1 a.converts)
      where
        only : Done (asked i taken room) → Askable i taken room
        only d =
            four_ways
            (λ n. let z : 14 ≡ 0 = sym (ap (λ (o : Outcome). o.answer.refusal) (asked_early n)) ∙ d in absurd (omega arith))
            (λ j n. absurd (n (sym (ap (λ (o : Outcome). o.answer.refusal) (asked_again j n)) ∙ d)))
            (λ j n h. let z : 14 ≡ 0 = sym (ap (λ (o : Outcome). o.answer.refusal) (asked_cut j n h)) ∙ d in absurd (omega arith))
            (λ j n h. record { judged = j; accepted = n; whole = h; converts = (packet_converted s room bytes).0 (sym (ap (λ (o : Outcome). o.answer.refusal) (asked_whole j n h)) ∙ d) })

    -- "an answer or the one refusal"
    pub asked_ending : OneEnding (Askable i taken room) {I = ℕ × ℕ} (λ p. AskedGround i taken room p.0 p.1)
    asked_ending = one_ending (answer_said (asked i taken room)) asked_answered asked_refused

    -- a conversion's refusals are among those of the question
    listed : {o : Outcome} → ConversionEnds room packet_to_sheet_refusals 8 15226 o → ConversionEnds room asked_refusals 8 15226 o
    listed (ConversionEnds.success e p low high fits) = ConversionEnds.success e p low high fits
    listed (ConversionEnds.refusal a n k) = ConversionEnds.refusal (among_into asked_refusals refl a) n k

    -- "one possible outcome for every input": a refusal of the listed ones with nothing written, or a sheet
    pub asked_outcome : OneOutcome (asked i taken room) (ConversionEnds room asked_refusals 8 15226)
    asked_outcome =
        one_outcome (asked i taken room)
        (four_ways
        (λ n. rw (asked_early n) (ConversionEnds.refusal (among_by 14 asked_refusals refl) refl refl))
        (λ j n. rw (asked_again j n) (ConversionEnds.refusal (judged_listed i j (positive n)) refl refl))
        (λ j n h. rw (asked_cut j n h) (ConversionEnds.refusal (among_by 14 asked_refusals refl) refl refl))
        (λ j n h. rw (asked_whole j n h) (listed ((packet_to_sheet_outcome s bytes room).ends (packet_to_sheet s room) refl))))

    -- "For 1, 2, 3, 8, 10 to 12, success and, unless said, numbers above 13 it is 0"
    pub asked_placeless : Among (asked i taken room).answer.refusal placeless → (asked i taken room).answer.place ≡ 0
    asked_placeless a =
        four_ways
        (λ n. ap (λ (o : Outcome). o.answer.place) (asked_early n))
        (λ j n. ap (λ (o : Outcome). o.answer.place) (asked_again j n) ∙ judged_placeless i j (rw (asked_again j n) at a))
        (λ j n h. ap (λ (o : Outcome). o.answer.place) (asked_cut j n h))
        (λ j n h. ap (λ (o : Outcome). o.answer.place) (asked_whole j n h) ∙ packet_to_sheet_placeless s bytes room (rw (asked_whole j n h) at a))

    -- 14 exactly where there is no verdict, or the verdict was no refusal and the packet's room is cut short
    pub asked_14 : ((asked i taken room).answer.refusal ≡ 14) ↔ ((Judged i → ⊥) ⊎ ((i.refusal ≡ 0) × (length taken < i.length)))
    asked_14 = (only, given)
      where
        given : (Judged i → ⊥) ⊎ ((i.refusal ≡ 0) × (length taken < i.length)) → (asked i taken room).answer.refusal ≡ 14
        given (inl n) = ap (λ (o : Outcome). o.answer.refusal) (asked_early n)
        given (inr p) =
            by_cases (tested i) (λ e. ap (λ (o : Outcome). o.answer.refusal) (asked_cut (tested_judged i e) p.0 p.1))
            (λ e. ap (λ (o : Outcome). o.answer.refusal) (asked_early (λ j. let y : true ≡ false = sym (judged_tested i j) ∙ e in let z : ◌≡◌ {A = ℕ} 0 1 = cc in omega arith)))

        never : {o : Outcome} → ConversionEnds room packet_to_sheet_refusals 8 15226 o → o.answer.refusal ≡ 14 → ⊥
        never (ConversionEnds.success e p low high fits) d = omega arith
        never (ConversionEnds.refusal a n k) d = let y : false ≡ true = among_member (rw d at a) in let z : ◌≡◌ {A = ℕ} 0 1 = cc in omega arith

        other : (i.refusal ≤ 8) ⊎ (i.refusal ≡ 13) → i.refusal ≡ 14 → ⊥
        other (inl h) e = omega arith
        other (inr h) e = omega arith

        only : (asked i taken room).answer.refusal ≡ 14 → (Judged i → ⊥) ⊎ ((i.refusal ≡ 0) × (length taken < i.length))
        only d =
            four_ways
            (λ n. inl n)
            (λ j n. absurd (other j.listed (sym (ap (λ (o : Outcome). o.answer.refusal) (asked_again j n)) ∙ d)))
            (λ j n h. inr (n, h))
            (λ j n h. absurd (never ((packet_to_sheet_outcome s bytes room).ends (packet_to_sheet s room) refl) (sym (ap (λ (o : Outcome). o.answer.refusal) (asked_whole j n h)) ∙ d)))

  -- "where the verdict was a refusal, asking returns that number again"
  pub asked_returns : Judged i → 1 ≤ i.refusal → asked i taken room ≡ refused_with i.refusal i.place room
  asked_returns j h = asked_again j (λ z. omega arith)
