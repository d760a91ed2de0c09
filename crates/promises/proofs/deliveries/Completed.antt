-- The promises on a completion, from any state: its verdict, on which ground it is a refusal, and that a verdict is all that it gives.
use mathlib.Core.Path.{◌≡◌, refl, sym, ap, ◌∙◌}
use mathlib.Core.List.{List, [], ◌∷◌}
use mathlib.Core.Logic.{◌⊎◌, inl, inr, ◌↔◌}
use Prim.Native.Nat.{ℕ, zero, suc, ◌≤◌, ◌<◌}
use native.Mathlib.Omega.{arith}
use borrow.Author.Tests.{eqb-true, eqb-false, ne_eqb, leb-true, leb-false, le-leb, lt-leb}
use lib.Dec.{eqb, leb}
use lib.ListN.{length, take}
use Rattle.bits.specs.Bits.{Bytes}
use Rattle.bits.proofs.Tests.{by_cases}
use Rattle.format.specs.Format.{Read, accepted, refused}
use Rattle.format.specs.Grounds.{OneEnding, Ending, grounded, Among}
use Rattle.grammar.specs.link.Link.{from_either_packet}
use Rattle.grammar.specs.link.Grounds.{EitherPacketGround}
use Rattle.grammar.proofs.link.Grounds.{either_packet_grounds, either_packet_listed}
use Rattle.intake.specs.declared.Intake.{Intake}
use Rattle.intake.specs.Intake.{judged_as, gathered, judged_of, completed}
use Rattle.promises.specs.Refused.{Refuses, placeless}
use Rattle.promises.specs.Ranges.{OneOutcome}
use Rattle.promises.specs.deliveries.Refused.{Complete, Acceptable, CompletionGround, completion_refusals, Judged, CompletionEnds}
use Rattle.promises.proofs.Values.{either_packets}
use Rattle.promises.proofs.Refused.{either_packets_on, one_outcome, one_ending, of_values, taken, own_refused, among_by, among_into}
use Rattle.promises.proofs.deliveries.Verdicts.{packet_judged, accepted_judged, exceeded_judged, judged_placeless}

-- the front of bytes is bytes
pub bytes_front : (n : ℕ) (s : List ℕ) → Bytes s → Bytes (take n s)
bytes_front zero s ok = tt
bytes_front (suc n) [] ok = tt
bytes_front (suc n) (b ∷ s) ok = (ok.0, bytes_front n s ok.1)

abbrev verdict_said : Intake → ℕ × ℕ
verdict_said o = (o.refusal, o.place)

module _ (i : Intake) (room : List ℕ) where
  abbrev s : List ℕ
  s = take (gathered i) room

  -- 8 before all others
  exceeded_completed : (i.phase ≡ 1) ⊎ (length room < gathered i) → completed i room ≡ judged_as 0 8 0
  unfolding completed
  exceeded_completed (inl e) = rw e
  exceeded_completed (inr h) = by_cases (eqb i.phase 1) (λ e. rw e) (λ e. rw (e, lt-leb (gathered i) (length room) h))

  -- else the verdict on the packet
  complete_completed : Complete i room → completed i room ≡ judged_of (gathered i) (from_either_packet s)
  unfolding completed
  complete_completed c = rw (ne_eqb i.phase 1 c.held, le-leb (gathered i) (length room) c.whole)

  either_way : {C : Type 0} → ((i.phase ≡ 1) ⊎ (length room < gathered i) → C) → (Complete i room → C) → C
  either_way over whole =
      by_cases (eqb i.phase 1) (λ e. over (inl (eqb-true i.phase 1 e)))
      (λ e. by_cases (leb (gathered i) (length room)) (λ h. whole (record { held = eqb-false i.phase 1 e; whole = leb-true (gathered i) (length room) h }))
      (λ h. over (inr (leb-false (gathered i) (length room) h))))

  not_both : (i.phase ≡ 1) ⊎ (length room < gathered i) → Complete i room → ⊥
  not_both (inl e) c = c.held e
  not_both (inr h) c = let w = c.whole in omega arith

  -- whatever the state, a completion gives a verdict
  pub completed_judged : Judged (completed i room)
  completed_judged = either_way (λ o. rw (exceeded_completed o) exceeded_judged) (λ c. rw (complete_completed c) (go (from_either_packet s) refl))
    where
      go : (q : Read) → from_either_packet s ≡ q → Judged (judged_of (gathered i) q)
      go (refused r place) e = packet_judged (gathered i) s r place ((either_packet_grounds s r place).0 e)
      go (accepted l) e = accepted_judged (gathered i)

  module _ (ok : Bytes room) where
    bytes : Bytes s
    bytes = bytes_front (gathered i) room ok

    -- "Each refusal is given then and not otherwise"
    pub completed_refused : (r place : ℕ) → Refuses ((completed i room).refusal, (completed i room).place) r place ↔ CompletionGround i room r place
    completed_refused r place = (only, given)
      where
        read : (q : Read) → from_either_packet s ≡ q → verdict_said (judged_of (gathered i) q) ≡ (r, place) → 1 ≤ r → EitherPacketGround s r place
        read (refused a b) e d h = (either_packet_grounds s r place).0 (e ∙ ap (λ (u : ℕ × ℕ). refused u.0 u.1) d)
        read (accepted l) e d h = let z : 0 ≡ r = ap (λ (u : ℕ × ℕ). u.0) d in absurd (omega arith)

        only : Refuses (verdict_said (completed i room)) r place → CompletionGround i room r place
        only q =
            either_way
            (λ o. let z : ◌≡◌ {A = ℕ × ℕ} (8, 0) (r, place) = sym (ap verdict_said (exceeded_completed o)) ∙ q.0 in
            CompletionGround.exceeded o (sym (ap (λ (u : ℕ × ℕ). u.0) z)) (sym (ap (λ (u : ℕ × ℕ). u.1) z)))
            (λ c. CompletionGround.own c (read (from_either_packet s) refl (sym (ap verdict_said (complete_completed c)) ∙ q.0) q.1))

        given : CompletionGround i room r place → Refuses (verdict_said (completed i room)) r place
        given (CompletionGround.exceeded o e p) = (ap verdict_said (exceeded_completed o) ∙ rw (e, p), omega arith)
        given (CompletionGround.own c g) =
            let u = own_refused either_packets either_packets_on s bytes r place g in
            (ap verdict_said (complete_completed c ∙ ap (judged_of (gathered i)) u.0), u.1)

    pub completed_accepted : ((completed i room).refusal ≡ 0) ↔ Acceptable i room
    completed_accepted = (only, λ a. ap (λ (o : Intake). o.refusal) (complete_completed a.complete ∙ ap (judged_of (gathered i)) (taken either_packets either_packets_on s bytes a.good)))
      where
        read : Complete i room → (q : Read) → from_either_packet s ≡ q → (judged_of (gathered i) q).refusal ≡ 0 → Acceptable i room
        read c (accepted l) e d = record { complete = c; good = of_values either_packets either_packets_on s bytes l e }
        read c (refused r place) e d = absurd (let h = either_packets.refuses s bytes r place e in omega arith)

        only : (completed i room).refusal ≡ 0 → Acceptable i room
        only d =
            either_way
            (λ o. let z : 8 ≡ 0 = sym (ap (λ (u : Intake). u.refusal) (exceeded_completed o)) ∙ d in absurd (omega arith))
            (λ c. read c (from_either_packet s) refl (sym (ap (λ (u : Intake). u.refusal) (complete_completed c)) ∙ d))

    -- "an answer or the one refusal"
    pub completed_ending : OneEnding (Acceptable i room) {I = ℕ × ℕ} (λ p. CompletionGround i room p.0 p.1)
    completed_ending = one_ending (verdict_said (completed i room)) completed_accepted completed_refused

    -- "one possible outcome for every input": a verdict of the listed ones
    pub completed_outcome : OneOutcome (completed i room) (CompletionEnds i)
    completed_outcome = one_outcome (completed i room) (go completed_ending.ending)
      where
        listed : (r place : ℕ) → CompletionGround i room r place → Among r completion_refusals
        listed r place (CompletionGround.exceeded o e p) = rw e (among_by 8 completion_refusals refl)
        listed r place (CompletionGround.own c g) = among_into completion_refusals refl (either_packet_listed s r place g)

        go : Ending (Acceptable i room) {I = ℕ × ℕ} (λ p. CompletionGround i room p.0 p.1) → CompletionEnds i (completed i room)
        go (Ending.answered a) =
            CompletionEnds.success completed_judged (completed_accepted.1 a)
            (ap (λ (o : Intake). o.length) (complete_completed a.complete ∙ ap (judged_of (gathered i)) (taken either_packets either_packets_on s bytes a.good)))
        go (grounded p g) =
            CompletionEnds.refusal completed_judged
            (rw (ap (λ (u : ℕ × ℕ). u.0) ((completed_refused p.0 p.1).1 g).0) (listed p.0 p.1 g))

  -- "For 1, 2, 3, 8, 10 to 12, success and, unless said, numbers above 13 it is 0"
  pub completed_placeless : Among (completed i room).refusal placeless → (completed i room).place ≡ 0
  completed_placeless a = judged_placeless (completed i room) completed_judged a
