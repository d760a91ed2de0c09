-- The board over any list: with no card refused, the first card with the lowest speed; else the first card's refusal. By induction on the number of cards.
use mathlib.Core.Path.{◌≡◌, refl, sym, ◌∙◌, ap, subst}
use Prim.Native.Nat.{ℕ, zero, suc, ◌≤◌, ◌<◌}
use native.Mathlib.Omega.{arith}
use mathlib.Core.Bool.{Bool, true, false}
use mathlib.Core.List.{List}
use lib.Dec.{eqb, leb}
use lib.ListN.{get_or}
use borrow.Author.Tests.{leb-true, leb-false, eqb-true, eqb-false}
use Rattle.speed_question.specs.declared.Speed.{Speed}
use Rattle.fleet.specs.declared.Board.{Board}
use Rattle.fleet.specs.declared.Card.{Card}
use Rattle.fleet.specs.Fleet.{no_card, answer_of, after, no_board, board_after}
use Rattle.fleet.proofs.After.{alone_speed, alone_refusal, after_first, after_keeps, after_takes, after_refused, after_stays}
use Rattle.fleet_promises.specs.Promised.{Lowest}

-- card k of n is the first that is refused
pub record FirstRefused (answer : ℕ → Speed) (n k : ℕ) : Type 0 where
  pub within : k < n
  pub refused : (answer k).refusal ≡ 0 → ⊥
  pub before : (j : ℕ) → j < k → (answer j).refusal ≡ 0

-- ---- a fact at i and at each number below it holds below i + 1
upto_by : (P : ℕ → Type 0) (i : ℕ) → P i → ((j : ℕ) → j < i → P j) → (j : ℕ) → j < suc i → (t : Bool) → eqb j i ≡ t → P j
upto_by P i here below j l true e = subst P (sym (eqb-true j i e)) here
upto_by P i here below j l false e = below j (omega (arith, eqb-false j i e))

upto : (P : ℕ → Type 0) (i : ℕ) → P i → ((j : ℕ) → j < i → P j) → (j : ℕ) → j < suc i → P j
upto P i here below j l = upto_by P i here below j l (eqb j i) refl

-- ---- one card more
module _ (s : ℕ → Speed) (b : Board) (i : ℕ) (q : (s i).refusal ≡ 0) where
  abbrev Least : ℕ → ℕ → Type 0
  Least x j = x ≤ (s j).speed

  alone : i ≡ 0 → Lowest s (suc i) (after b i (s i))
  alone h =
      rw (after_first b i (s i) h, alone_speed i (s i) q)
      (record { accepted = refl; placeless = refl; within = omega arith; speed = refl; least = upto (Least (s i).speed) i (omega arith) (λ j l. omega arith); first = λ j l. omega arith })

  more : (t : Bool) → leb b.speed (s i).speed ≡ t → (i ≡ 0 → ⊥) → Lowest s i b → Lowest s (suc i) (after b i (s i))
  more true e h w =
      rw (after_keeps b i (s i) h w.accepted q (leb-true _ _ e))
      (record { accepted = w.accepted; placeless = w.placeless; within = omega (arith, w.within); speed = w.speed; least = upto (Least b.speed) i (leb-true _ _ e) w.least; first = w.first })
  more false e h w =
      let less = leb-false b.speed (s i).speed e in
      let below : (j : ℕ) → j < i → (s i).speed < (s j).speed = λ j l. omega (arith, w.least j l) in
      rw (after_takes b i (s i) h w.accepted q less, alone_speed i (s i) q)
      (record { accepted = refl; placeless = refl; within = omega arith; speed = refl; least = upto (Least (s i).speed) i (omega arith) (λ j l. omega (arith, below j l)); first = below })

-- ---- the board
module _ (packet : List ℕ) (cards : List Card) where
  abbrev answer : ℕ → Speed
  answer i = answer_of packet (get_or cards i no_card)

  -- with no card refused: the first card with the lowest speed
  lowest : (n : ℕ) → ((j : ℕ) → j < suc n → (answer j).refusal ≡ 0) → Lowest answer (suc n) (board_after packet cards (suc n))
  unfolding board_after
  lowest zero ok = alone answer _ 0 (ok 0 (omega arith)) refl
  lowest (suc n) ok =
      let b = board_after packet cards (suc n) in
      more answer b (suc n) (ok (suc n) (omega arith)) (leb b.speed (answer (suc n)).speed) refl (λ e. omega arith) (lowest n (λ j l. ok j (omega arith)))

  pub lowest_some : (n : ℕ) → 1 ≤ n → ((j : ℕ) → j < n → (answer j).refusal ≡ 0) → Lowest answer n (board_after packet cards n)
  lowest_some zero h ok = absurd (omega arith)
  lowest_some (suc n) h ok = lowest n ok

  -- else: the first refusal, and its place
  abbrev Refused : ℕ → Board
  Refused k = no_board (answer k).refusal (answer k).place

  turned : (k : ℕ) → FirstRefused answer (suc k) k → board_after packet cards (suc k) ≡ Refused k
  unfolding board_after
  turned zero w = after_first _ 0 (answer 0) refl ∙ alone_refusal 0 (answer 0) w.refused
  turned (suc k) w =
      let b = board_after packet cards (suc k) in
      after_refused b (suc k) (answer (suc k)) (λ e. omega arith) (lowest k w.before).accepted w.refused ∙ alone_refusal (suc k) (answer (suc k)) w.refused

  -- once it is there it stays, by whether the last card is the one
  stays : (n k : ℕ) → FirstRefused answer (suc n) k → (FirstRefused answer n k → board_after packet cards n ≡ Refused k) → (t : Bool) → eqb k n ≡ t → board_after packet cards (suc n) ≡ Refused k
  unfolding board_after
  stays n k w rest true e = subst (λ (m : ℕ). board_after packet cards (suc m) ≡ Refused k) (eqb-true k n e) (turned k (record { within = omega arith; refused = w.refused; before = w.before }))
  stays n k w rest false e =
      let was = rest (record { within = omega (arith, eqb-false k n e, w.within); refused = w.refused; before = w.before }) in
      after_stays (board_after packet cards n) n (answer n) (λ z. omega (arith, eqb-false k n e, w.within)) (λ z. w.refused (sym (ap (λ (b : Board). b.refusal) was) ∙ z)) ∙ was

  pub refused : (n k : ℕ) → FirstRefused answer n k → board_after packet cards n ≡ Refused k
  refused zero k w = let l = w.within in absurd (omega arith)
  refused (suc n) k w = stays n k w (refused n k) (eqb k n) refl
