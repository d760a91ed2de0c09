-- The verdicts that a completion gives, and the test of the question for the sheet.
use mathlib.Core.Path.{◌≡◌, refl, sym, ap, ◌∙◌}
use mathlib.Core.Bool.{Bool, true, false, not, ◌&&◌, ◌||◌}
use mathlib.Core.List.{List, [], ◌∷◌}
use mathlib.Core.Logic.{◌⊎◌, inl, inr}
use Prim.Native.Nat.{ℕ, zero, suc, ◌≤◌, ◌<◌}
use native.Mathlib.Omega.{arith}
use borrow.Author.Tests.{eqb-true, eqb-false, eq-eqb, leb-true, leb-false}
use lib.Dec.{eqb, leb, lit≤}
use Rattle.bits.proofs.Tests.{by_cases, and_left, and_right, or_cases}
use Rattle.format.specs.Grounds.{Among, first, later}
use Rattle.grammar.specs.segment.Grounds.{packet_refusals}
use Rattle.grammar.proofs.segment.Refusals.{among_positive}
use Rattle.grammar.specs.link.Grounds.{EitherPacketGround}
use Rattle.grammar.proofs.link.Grounds.{either_packet_listed}
use Rattle.intake.specs.declared.Intake.{Intake}
use Rattle.intake.specs.Intake.{judged_as, is_verdict}
use Rattle.intake.proofs.Outcomes.{late_verdict, placed_verdict, placeless_verdict, room_verdict}
use Rattle.promises.specs.Refused.{placeless}
use Rattle.promises.specs.deliveries.Refused.{Judged, asked_refusals}
use Rattle.promises.proofs.Refused.{member, among_by}
use Rattle.promises.proofs.Placeless.{either_packet_place}

module _ (r place : ℕ) where
  -- a refusal of at most 8 is one that has no place, or one that has
  up_to_8 : {C : Type 0} → r ≤ 8 → ((r ≤ 3) ⊎ (r ≡ 8) → C) → (3 < r → r < 8 → C) → C
  up_to_8 h none some =
      by_cases (leb r 3) (λ e. none (inl (leb-true r 3 e)))
      (λ e. let l = leb-false r 3 e in by_cases (eqb r 8) (λ d. none (inr (eqb-true r 8 d))) (λ d. let n = eqb-false r 8 d in some l (by_cases (leb r 7) (λ q. let m = leb-true r 7 q in omega arith) (λ q. let m = leb-false r 7 q in absurd (n (omega arith))))))

  at_0 : (r ≤ 3) ⊎ (r ≡ 8) → is_verdict r place ≡ eqb place 0
  at_0 (inl h) = placeless_verdict r place h
  at_0 (inr e) = room_verdict r place e

  outside : 8 < r → (r ≤ 3) ⊎ (r ≡ 8) → ⊥
  outside h (inl l) = omega arith
  outside h (inr q) = omega arith

  -- what the test says of a verdict
  verdict_given : is_verdict r place ≡ true → ((r ≤ 8) ⊎ (r ≡ 13)) × ((r ≤ 3) ⊎ (r ≡ 8) → place ≡ 0)
  verdict_given e =
      by_cases (leb r 8)
      (λ d. (inl (leb-true r 8 d), λ u. eqb-true place 0 (sym (at_0 u) ∙ e)))
      (λ d. let h = leb-false r 8 d in (inr (eqb-true r 13 (sym (late_verdict r place h) ∙ e)), λ u. absurd (outside h u)))

  given_verdict : (r ≤ 8) ⊎ (r ≡ 13) → ((r ≤ 3) ⊎ (r ≡ 8) → place ≡ 0) → is_verdict r place ≡ true
  given_verdict (inl h) z = up_to_8 h (λ u. at_0 u ∙ eq-eqb place 0 (z u)) (λ l m. placed_verdict r place l m)
  given_verdict (inr e) z = late_verdict r place (omega arith) ∙ eq-eqb r 13 e

-- ---- a state that has a verdict, and the test of the question for the sheet

abbrev pub tested : Intake → Bool
tested i = eqb i.phase 2 && is_verdict i.refusal i.place

module _ (i : Intake) where
  pub tested_judged : tested i ≡ true → Judged i
  tested_judged e =
      let g = verdict_given i.refusal i.place (and_right (eqb i.phase 2) (is_verdict i.refusal i.place) e) in
      record { phase = eqb-true i.phase 2 (and_left (eqb i.phase 2) (is_verdict i.refusal i.place) e); listed = g.0; unplaced = g.1 }

  pub judged_tested : Judged i → tested i ≡ true
  judged_tested j = rw (eq-eqb i.phase 2 j.phase) (given_verdict i.refusal i.place j.listed j.unplaced)

-- ---- one of the numbers of a list, by a test of them all

abbrev every : (ℕ → Bool) → List ℕ → Bool
every p [] = true
every p (a ∷ l) = p a && every p l

among_every : {r : ℕ} {l : List ℕ} (p : ℕ → Bool) → Among r l → every p l ≡ true → p r ≡ true
among_every {r} p (first {l = l}) e = and_left (p r) (every p l) e
among_every p (later {b = b} {l = l} a) e = among_every p a (and_right (p b) (every p l) e)

-- a packet's refusal is one of a verdict
packet_listed : {r : ℕ} → Among r packet_refusals → (r ≤ 8) ⊎ (r ≡ 13)
packet_listed {r} a =
    or_cases (leb r 8) (eqb r 13) (among_every (λ n. leb n 8 || eqb n 13) a refl) (λ e. inl (leb-true r 8 e)) (λ e. inr (eqb-true r 13 e))

-- 1, 2, 3 and 8 have no place
unplaced_among : {r : ℕ} → (r ≤ 3) ⊎ (r ≡ 8) → 1 ≤ r → Among r placeless
unplaced_among {r} (inr e) h = among_by r placeless (ap (λ (n : ℕ). member n placeless) e)
unplaced_among {r} (inl l) h =
    by_cases (eqb r 1) (λ e. at 1 (eqb-true r 1 e) refl)
    (λ e. by_cases (eqb r 2) (λ d. at 2 (eqb-true r 2 d) refl)
    (λ d. let p = eqb-false r 1 e in let q = eqb-false r 2 d in at 3 (by_cases (leb r 2) (λ z. let y = leb-true r 2 z in absurd (by_cases (leb r 1) (λ w. let v = leb-true r 1 w in p (omega arith)) (λ w. let v = leb-false r 1 w in q (omega arith)))) (λ z. let y = leb-false r 2 z in omega arith)) refl))
  where
    at : (n : ℕ) → r ≡ n → member n placeless ≡ true → Among r placeless
    at n e m = among_by r placeless (ap (λ (k : ℕ). member k placeless) e ∙ m)

-- the verdict on a packet is one
pub packet_judged : (n : ℕ) (s : List ℕ) (r place : ℕ) → EitherPacketGround s r place → Judged (judged_as n r place)
packet_judged n s r place g =
    let a = either_packet_listed s r place g in
    record { phase = refl; listed = packet_listed a; unplaced = λ u. either_packet_place s r place g (unplaced_among u (among_positive a refl)) }

pub accepted_judged : (n : ℕ) → Judged (judged_as n 0 0)
accepted_judged n = record { phase = refl; listed = inl (lit≤ tt); unplaced = λ u. refl }

pub exceeded_judged : Judged (judged_as 0 8 0)
exceeded_judged = record { phase = refl; listed = inl (lit≤ tt); unplaced = λ u. refl }

-- a verdict that has no place is at 0
pub judged_placeless : (i : Intake) → Judged i → Among i.refusal placeless → i.place ≡ 0
judged_placeless i j a =
    or_cases (leb i.refusal 3 || eqb i.refusal 8) (leb 9 i.refusal && not (eqb i.refusal 13))
    (among_every (λ n. (leb n 3 || eqb n 8) || (leb 9 n && not (eqb n 13))) a refl)
    (λ e. or_cases (leb i.refusal 3) (eqb i.refusal 8) e (λ d. j.unplaced (inl (leb-true i.refusal 3 d))) (λ d. j.unplaced (inr (eqb-true i.refusal 8 d))))
    (λ e. absurd (other (leb-true 9 i.refusal (and_left (leb 9 i.refusal) (not (eqb i.refusal 13)) e)) (and_right (leb 9 i.refusal) (not (eqb i.refusal 13)) e) j.listed))
  where
    other : 9 ≤ i.refusal → not (eqb i.refusal 13) ≡ true → (i.refusal ≤ 8) ⊎ (i.refusal ≡ 13) → ⊥
    other h n (inl l) = omega arith
    other h n (inr e) = let z : not (eqb i.refusal 13) ≡ false = rw (eq-eqb i.refusal 13 e) in let y : true ≡ false = sym n ∙ z in let x : ◌≡◌ {A = ℕ} 0 1 = cc in omega arith

-- a verdict that is a refusal is one of the question's
pub judged_listed : (i : Intake) → Judged i → 1 ≤ i.refusal → Among i.refusal asked_refusals
judged_listed i j h = go j.listed
  where
    -- a number of at most 8 is one of 1 to 8
    below : (n : ℕ) → 1 ≤ n → n ≤ 8 → member n asked_refusals ≡ true
    below zero l m = absurd (omega arith)
    below (suc zero) l m = refl
    below (suc (suc zero)) l m = refl
    below (suc (suc (suc zero))) l m = refl
    below (suc (suc (suc (suc zero)))) l m = refl
    below (suc (suc (suc (suc (suc zero))))) l m = refl
    below (suc (suc (suc (suc (suc (suc zero)))))) l m = refl
    below (suc (suc (suc (suc (suc (suc (suc zero))))))) l m = refl
    below (suc (suc (suc (suc (suc (suc (suc (suc zero)))))))) l m = refl
    below (suc (suc (suc (suc (suc (suc (suc (suc (suc n))))))))) l m = absurd (omega arith)

    go : (i.refusal ≤ 8) ⊎ (i.refusal ≡ 13) → Among i.refusal asked_refusals
    go (inl l) = among_by i.refusal asked_refusals (below i.refusal h l)
    go (inr e) = rw e (among_by 13 asked_refusals refl)
