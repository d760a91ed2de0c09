-- What the proofs of the code need of the definitions, with no program in it.
use mathlib.Core.Path.{◌≡◌, refl, sym, ap, ◌∙◌}
use Prim.Native.Nat.{ℕ, zero, suc, ◌+◌, ◌≤◌, ◌<◌}
use native.Mathlib.Numerals.{add-one}
use native.Mathlib.Omega.{arith}
use mathlib.Core.Bool.{Bool, true, false, cond}
use mathlib.Core.List.{List, [], ◌∷◌}
use lib.Dec.{T, eqb, ltb, eqb→eq}
use lib.ListN.{length, get_or, set}
use borrow.Author.Tests.{ltb-true, ltb-false, eqb-true, eqb-false, ne_eqb}
use Rattle.bits.proofs.Tests.{by_cases}
use Rattle.std.specs.Prelude.{Result, Ok, Err}
use Rattle.kinds.specs.declared.Item.{Item}
use Rattle.kinds.specs.declared.refusals.Refusal.{Refusal}
use Rattle.kinds.specs.declared.refusals.Refusal.TheVariants.{CardList}
use Rattle.kinds.specs.Refusals.{refusal_number}
use Rattle.format.specs.Format.{Read, accepted, refused, values_of}
use Rattle.grammar.specs.segment.Segment.{wire_changes}
use Rattle.grammar.specs.segment.Judgement.{from_packet}
use Rattle.grammar.proofs.segment.Refusals.{packet_refusal}
use Rattle.speed_packet.specs.internal.Asking.{AcceptedPacket}
use Rattle.speed_question.specs.declared.Speed.{Speed}
use Rattle.speed_question.specs.Question.{Brought, no_speed, permitted_speed, read_as, RunRead, in_front, judged_run, speed_of_run}
use Rattle.speed_question.specs.internal.Run.{was_accepted, all_accepted, AcceptedAs}
use Rattle.speed_question.specs.internal.Asked.{judged}
use Rattle.speed_question.proofs.Asked.{lent_asked}
use Rattle.speed_question.proofs.Questions.{question_refused, question_accepted}
use Rattle.fleet.specs.declared.Board.{Board}
use Rattle.fleet.specs.declared.Card.{Card}
use Rattle.fleet.specs.Fleet.{no_card, asked_of, named_in, moved_to, moved, answer_of, no_board, alone, after, board_after}
use Rattle.fleet.specs.internal.Turns.{named_as, judged_to, started_with, turned, came_to}
use Rattle.fleet.proofs.After.{alone_refusal, turned_stays, turned_on, after_first, after_stays}

-- ---- how many cards are asked: at most all, and at most 64

asked_by : (t : Bool) (n : ℕ) → (t ≡ false → n ≤ 64) → (cond t 0 n ≤ n) × (cond t 0 n ≤ 64)
asked_by true n h = (omega arith, omega arith)
asked_by false n h = (omega arith, h refl)

pub asked_most : (n : ℕ) → (asked_of n ≤ n) × (asked_of n ≤ 64)
unfolding asked_of
asked_most n = asked_by (ltb 64 n) n (ltb-false 64 n)

-- ---- a card that is named is in the list

named_by : (t : Bool) (c n : ℕ) → (t ≡ true → c < n) → cond {A = ℕ} t 0 20 ≡ 0 → c < n
named_by true c n h e = h refl
named_by false c n h e = omega arith

pub named_within : (n c : ℕ) → named_in n c ≡ 0 → c < n
unfolding named_in
named_within n c e = let l = (asked_most n).0 in named_by (ltb c (asked_of n)) c n (λ t. let s = ltb-true c (asked_of n) t in omega arith) e

module _ (cards : List Card) (c r : ℕ) (e : r ≡ named_in (length cards) c) where
  pub found : T (eqb r 0) → c < length cards
  found t = let o : r ≡ 0 = eqb→eq r 0 t in named_within (length cards) c (cc)

-- ---- the two outcomes of a change

module _ (n c : ℕ) where
  pub named_ok : Ok tt ≡ named_as n c → named_in n c ≡ 0
  unfolding named_in named_as
  named_ok e = by_cases (ltb c (asked_of n)) (λ q. rw q) (λ q. absurd (let y : ◌≡◌ {A = Result (Unit {0}) Refusal} (Ok tt) (Err CardList) = rw q at e in let z : ◌≡◌ {A = ℕ} 0 1 = cc in omega arith))

  pub named_err : {r : Refusal} → Err r ≡ named_as n c → (refusal_number r ≡ 20) × (named_in n c ≡ 20)
  unfolding named_in named_as
  named_err {r} e =
      by_cases (ltb c (asked_of n))
      (λ q. absurd (let y : ◌≡◌ {A = Result (Unit {0}) Refusal} (Err r) (Ok tt) = rw q at e in let z : ◌≡◌ {A = ℕ} 0 1 = cc in omega arith))
      (λ q. let y : ◌≡◌ {A = Result (Unit {0}) Refusal} (Err r) (Err CardList) = rw q at e in let i : r ≡ CardList = cc in (rw i, rw q))

module _ (cards : List Card) (c z : ℕ) where
  pub moved_on : Ok tt ≡ named_as (length cards) c → record { refusal = 0; cards = set cards c (moved_to (get_or cards c no_card) z) } ≡ moved cards c z
  moved_on e = rw (named_ok (length cards) c e)

  pub moved_off : {r : Refusal} → Err r ≡ named_as (length cards) c → {n : ℕ} → n ≡ refusal_number r → record { refusal = n; cards = cards } ≡ moved cards c z
  moved_off e q = let w = named_err (length cards) c e in rw (q, w.0, w.1)

-- ---- the packet, judged once

-- no packet is refused with 0
pub refused_not_0 : (s : List ℕ) {q place : ℕ} → from_packet wire_changes s ≡ refused q place → q ≡ 0 → ⊥
refused_not_0 s {q} {place} e z = omega (arith, packet_refusal wire_changes s q place e)

-- the answer of the speed question, for a card
pub answer_is : (s : List ℕ) (c : Card) → permitted_speed 0 1 s s s s c.train c.location ≡ answer_of s c
unfolding answer_of
answer_is s c = refl

-- "then the segment's own": each card of a refused packet is answered with it
pub answer_refused : (s : List ℕ) (c : Card) {q place : ℕ} → from_packet wire_changes s ≡ refused q place → answer_of s c ≡ no_speed q place
unfolding answer_of
answer_refused s c {q} {place} e =
    let one : judged_run (read_as Brought.packet) (s ∷ []) ≡ RunRead.refused q place = ap (λ (r : Read). in_front r (RunRead.accepted [])) e in
    lent_asked 0 1 s s s s c.train c.location ∙ sym (question_refused no_speed (speed_of_run c.train c.location) 0 1 (s ∷ s ∷ s ∷ s ∷ []) (judged Brought.packet refl refl one))

-- of an accepted packet each card is answered by its train and location
pub answer_accepted : (s : List ℕ) (c : Card) {l : List Item} → from_packet wire_changes s ≡ accepted l → answer_of s c ≡ speed_of_run c.train c.location (l ∷ [])
unfolding answer_of
answer_accepted s c {l} e =
    let one : AcceptedAs Brought.packet s = e ∙ ap accepted (sym (ap values_of e)) in
    lent_asked 0 1 s s s s c.train c.location
    ∙ sym (question_accepted no_speed (speed_of_run c.train c.location) 0 1 (s ∷ s ∷ s ∷ s ∷ []) Brought.packet refl refl (one, tt))
    ∙ ap (λ (r : Read). speed_of_run c.train c.location (values_of r ∷ [])) e

module _ (n : ℕ) (some : n ≡ 0 → ⊥) (s : List ℕ) where
  started_judged : started_with n s ≡ judged_to (from_packet wire_changes s)
  unfolding started_with
  started_judged = rw (ne_eqb n 0 some)

  pub started_refused : {q place : ℕ} → judged_run (read_as Brought.packet) (s ∷ []) ≡ RunRead.refused q place → no_board q place ≡ started_with n s
  started_refused {q} {place} e = go (from_packet wire_changes s) e ∙ sym started_judged
    where
      go : (r : Read) → in_front r (RunRead.accepted []) ≡ RunRead.refused q place → no_board q place ≡ judged_to r
      go (refused a p) d = let i : q ≡ a = cc in let j : place ≡ p = cc in rw (i, j)
      go (accepted l) d = absurd (cc)

  pub started_accepted : all_accepted Brought.packet (s ∷ []) ≡ true → no_board 0 0 ≡ started_with n s
  started_accepted e = go (from_packet wire_changes s) e ∙ sym started_judged
    where
      go : (r : Read) → was_accepted (in_front r (RunRead.accepted [])) ≡ true → no_board 0 0 ≡ judged_to r
      go (refused a p) d = absurd (cc)
      go (accepted l) d = refl

pub started_none : (n : ℕ) (s : List ℕ) → n ≡ 0 → no_board 20 0 ≡ started_with n s
unfolding started_with
started_none n s e = rw e

-- ---- the board, card by card

either : {C : Type 0} (b : Board) → (b.refusal ≡ 0 → C) → ((b.refusal ≡ 0 → ⊥) → C) → C
either b f g = by_cases (eqb b.refusal 0) (λ e. f (eqb-true b.refusal 0 e)) (λ e. g (eqb-false b.refusal 0 e))

-- past the first card, `after` keeps a refusal too
turned_after : (b : Board) (i : ℕ) (s : Speed) → (i ≡ 0 → ⊥) → turned b i s ≡ after b i s
turned_after b i s h = either b (turned_on b i s) (λ p. turned_stays b i s p ∙ sym (after_stays b i s h p))

module _ (n : ℕ) (packet : List ℕ) (cards : List Card) where
  abbrev answer : ℕ → Speed
  answer i = answer_of packet (get_or cards i no_card)

  pub came_first : started_with n packet ≡ came_to n packet cards 0
  unfolding came_to
  came_first = refl

  pub came_next : (i : ℕ) → turned (came_to n packet cards i) i (answer i) ≡ came_to n packet cards (i + 1)
  unfolding came_to
  came_next i = rw (add-one i)

  -- as long as there is no refusal, the packet is accepted
  pub came_accepted : (i : ℕ) → (came_to n packet cards i).refusal ≡ 0 → AcceptedPacket packet
  unfolding came_to
  came_accepted zero e = by_cases (eqb n 0) none some
    where
      none : eqb n 0 ≡ true → AcceptedPacket packet
      none d = let z : ◌≡◌ {A = ℕ} 20 0 = ap (λ (b : Board). b.refusal) (started_none n packet (eqb-true n 0 d)) ∙ e in absurd (omega arith)

      go : (r : Read) → from_packet wire_changes packet ≡ r → (judged_to r).refusal ≡ 0 → AcceptedPacket packet
      go (accepted l) d z = d ∙ ap accepted (sym (ap values_of d))
      go (refused q place) d z = absurd (refused_not_0 packet d z)

      some : eqb n 0 ≡ false → AcceptedPacket packet
      some d = go (from_packet wire_changes packet) refl (sym (ap (λ (b : Board). b.refusal) (started_judged n (eqb-false n 0 d) packet)) ∙ e)
  came_accepted (suc i) e =
      let b = came_to n packet cards i in
      came_accepted i (either b (λ h. h) (λ h. sym (ap (λ (d : Board). d.refusal) (turned_stays b i (answer i) h)) ∙ e))

module _ (packet : List ℕ) (cards : List Card) where
  -- of a refused packet the first card's answer is the packet's refusal, so the board does not depend on when the packet is judged
  came_one : (m : ℕ) → came_to (suc m) packet cards 1 ≡ board_after packet cards 1
  unfolding came_to board_after
  came_one m =
      let s = answer_of packet (get_or cards 0 no_card) in
      ap (λ (b : Board). turned b 0 s) (started_judged (suc m) (λ e. omega arith) packet) ∙ go (from_packet wire_changes packet) refl ∙ sym (after_first (no_board 20 0) 0 s refl)
    where
      go : (r : Read) → from_packet wire_changes packet ≡ r → turned (judged_to r) 0 (answer_of packet (get_or cards 0 no_card)) ≡ alone 0 (answer_of packet (get_or cards 0 no_card))
      go (accepted l) e = let s = answer_of packet (get_or cards 0 no_card) in turned_on (no_board 0 0) 0 s refl ∙ after_first (no_board 0 0) 0 s refl
      go (refused q place) e =
          let a = answer_refused packet (get_or cards 0 no_card) e in
          let n = refused_not_0 packet e in
          turned_stays (no_board q place) 0 (answer_of packet (get_or cards 0 no_card)) n ∙ sym (ap (alone 0) a ∙ alone_refusal 0 (no_speed q place) n)

  came_same : (m i : ℕ) → came_to (suc m) packet cards (suc i) ≡ board_after packet cards (suc i)
  unfolding came_to board_after
  came_same m zero = came_one m
  came_same m (suc i) =
      let s = answer_of packet (get_or cards (suc i) no_card) in
      ap (λ (b : Board). turned b (suc i) s) (came_same m i) ∙ turned_after (board_after packet cards (suc i)) (suc i) s (λ e. omega arith)

  pub came_last : (n : ℕ) → came_to n packet cards n ≡ board_after packet cards n
  unfolding came_to board_after started_with
  came_last zero = refl
  came_last (suc m) = came_same m m
