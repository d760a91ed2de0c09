-- The answer of a question follows from the train and the place, or from the refusal of these; the verdict on a segment, from the verdict on its packet or its sheet.
use mathlib.Core.Path.{◌≡◌, sym, ap, ◌∙◌}
use mathlib.Core.Bool.{true, false}
use mathlib.Core.List.{List}
use Prim.Native.Nat.{ℕ, ◌≤◌, ◌<◌}
use native.Mathlib.Omega.{arith}
use borrow.Author.Tests.{ltb-true, lt-ltb, le-ltb}
use lib.Dec.{ltb}
use Rattle.bits.proofs.Tests.{by_cases}
use Rattle.format.specs.Media.{packet, sheet}
use Rattle.grammar.specs.segment.Segment.{fields, sheet_fields, wire_changes}
use Rattle.grammar.specs.declared.link.Tree.TheVariants.{Segment}
use Rattle.grammar.specs.internal.link.Trees.{tree_sheet_fields}
use Rattle.grammar.specs.segment.Judgement.{from_packet, from_sheet}
use Rattle.verdict.specs.internal.Verdict.{Verdict, size_from, packet_verdict, sheet_verdict}
use Rattle.verdict.proofs.Sizes.{verdict_sorts}
use Rattle.verdict.proofs.Accepted.{verdict_accepted, verdict_refused}
use Rattle.speed.specs.declared.Train.{Train}
use Rattle.speed.specs.Speed.{valid_train}
use Rattle.speed_question.specs.Question.{Brought, no_speed, judged_speed, read_as}
use Rattle.speed_question.specs.internal.Run.{passed, failed, judged_of}

-- ---- "speed questions judge 10, then 11"

module _ (t : Train) (x lsp v : ℕ) where
  pub train_judged : valid_train t ≡ false → no_speed 10 0 ≡ judged_speed t x lsp v
  train_judged e = rw e

  pub place_judged : valid_train t ≡ true → lsp ≤ x → no_speed 11 0 ≡ judged_speed t x lsp v
  place_judged e h = rw (e, le-ltb x lsp h)

  pub speed_judged : valid_train t ≡ true → x < lsp → record { refusal = 0; place = 0; speed = v } ≡ judged_speed t x lsp v
  speed_judged e h = rw (e, lt-ltb x lsp h)

-- ---- the answer from the refusal of the train and the place

module _ (t : Train) (x lsp : ℕ) where
  pub invalid : valid_train t ≡ false → 10 ≡ (judged_speed t x lsp 0).refusal
  invalid e = rw e

  pub past_end_lem : valid_train t ≡ true → lsp ≤ x → 11 ≡ (judged_speed t x lsp 0).refusal
  past_end_lem e h = rw (e, le-ltb x lsp h)

  pub in_place : valid_train t ≡ true → x < lsp → 0 ≡ (judged_speed t x lsp 0).refusal
  in_place e h = rw (e, lt-ltb x lsp h)

  -- an answer is a refusal with speed 0, or no refusal and the speed
  answer_by : {C : Type 0} (v : ℕ) → ((judged_speed t x lsp 0).refusal ≡ 0 → judged_speed t x lsp v ≡ record { refusal = 0; place = 0; speed = v } → C)
      → ((r : ℕ) → (judged_speed t x lsp 0).refusal ≡ r → (r ≡ 0 → ⊥) → judged_speed t x lsp v ≡ no_speed r 0 → C) → C
  answer_by v f g =
      by_cases (valid_train t)
      (λ a. by_cases (ltb x lsp) (λ b. f (rw (a, b)) (rw (a, b))) (λ b. g 11 (rw (a, b)) (λ q. omega arith) (rw (a, b))))
      (λ a. g 10 (rw a) (λ q. omega arith) (rw a))

  module _ {r : ℕ} (e : r ≡ (judged_speed t x lsp 0).refusal) where
    pub no_speed_lem : (v : ℕ) → (r ≡ 0 → ⊥) → no_speed r 0 ≡ judged_speed t x lsp v
    no_speed_lem v n = answer_by v (λ a b. absurd (n (e ∙ a))) (λ q a z b. ap (λ (n : ℕ). no_speed n 0) (e ∙ a) ∙ sym b)

    pub some_speed : (v : ℕ) → r ≡ 0 → record { refusal = 0; place = 0; speed = v } ≡ judged_speed t x lsp v
    some_speed v z = answer_by v (λ a b. sym b) (λ q a n b. absurd (n (sym a ∙ sym e ∙ z)))

    pub in_segment : r ≡ 0 → x < lsp
    in_segment z = by_cases (ltb x lsp) (λ d. ltb-true x lsp d) (λ d. absurd (late d))
      where
        late : ltb x lsp ≡ false → ⊥
        late d =
            by_cases (valid_train t)
            (λ a. let n : (judged_speed t x lsp 0).refusal ≡ 11 = rw (a, d) in omega (arith, e, n))
            (λ a. let n : (judged_speed t x lsp 0).refusal ≡ 10 = rw a in omega (arith, e, n))

-- ---- the verdict on a segment

module _ (s : List ℕ) where
  pub packet_refused : (q place : ℕ) → Verdict.refused q place ≡ packet_verdict Segment s → failed q place ≡ judged_of (read_as Brought.packet s)
  unfolding packet_verdict from_packet fields sheet_fields
  packet_refused q place e = sym (ap judged_of (verdict_refused verdict_sorts (size_from sheet (tree_sheet_fields Segment) 0) (from_packet wire_changes s) q place e))

  pub packet_accepted : (n : ℕ) → Verdict.sized n ≡ packet_verdict Segment s → passed ≡ judged_of (read_as Brought.packet s)
  unfolding packet_verdict from_packet fields sheet_fields
  packet_accepted n e = sym (ap judged_of (verdict_accepted verdict_sorts (size_from sheet (tree_sheet_fields Segment) 0) (from_packet wire_changes s) n e λ p q. p))

  pub sheet_refused : (q place : ℕ) → Verdict.refused q place ≡ sheet_verdict Segment s → failed q place ≡ judged_of (read_as Brought.sheet s)
  unfolding sheet_verdict from_sheet fields sheet_fields
  sheet_refused q place e = sym (ap judged_of (verdict_refused verdict_sorts (size_from packet (tree_sheet_fields Segment) 0) (from_sheet wire_changes s) q place e))

  pub sheet_accepted : (n : ℕ) → Verdict.sized n ≡ sheet_verdict Segment s → passed ≡ judged_of (read_as Brought.sheet s)
  unfolding sheet_verdict from_sheet fields sheet_fields
  sheet_accepted n e = sym (ap judged_of (verdict_accepted verdict_sorts (size_from packet (tree_sheet_fields Segment) 0) (from_sheet wire_changes s) n e λ p q. p))
