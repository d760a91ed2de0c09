-- The change of a card's location: that card's location is another, and nothing else; refused exactly for a bad list or a card number past it.
use mathlib.Core.Path.{◌≡◌, refl, ap, ◌∙◌}
use mathlib.Core.Bool.{true, false}
use mathlib.Core.List.{List}
use mathlib.Core.Logic.{◌↔◌}
use Prim.Native.Nat.{ℕ, zero, suc}
use native.Mathlib.Omega.{arith}
use borrow.Author.Tests.{ltb-true, ltb-false, lt-ltb, le-ltb}
use lib.Dec.{ltb}
use lib.ListN.{length, length-set}
use lib.Seq.{get_or-set_same, get_or-set_other}
use Rattle.bits.proofs.Tests.{by_cases}
use Rattle.fleet.specs.declared.Card.{Card}
use Rattle.fleet.specs.Fleet.{no_card, asked_of, named_in, moved_to, Moved, moved_if, moved}
use Rattle.fleet_promises.specs.Promised.{card_of, Named}

module _ (cards : List Card) (card x : ℕ) where
  abbrev after : Moved
  after = moved cards card x

  named_on : Named cards card → named_in (length cards) card ≡ 0
  unfolding named_in asked_of
  named_on n = rw (le-ltb 64 (length cards) n.0.1, lt-ltb card (length cards) n.1)

  named_off : (Named cards card → ⊥) → named_in (length cards) card ≡ 20
  unfolding named_in asked_of
  named_off h =
      by_cases (ltb 64 (length cards)) (λ a. rw (a, le-ltb card 0 (omega arith)))
      (λ a. by_cases (ltb card (length cards))
      (λ b. let l = ltb-true card (length cards) b in absurd (h ((omega arith, ltb-false 64 (length cards) a), l)))
      (λ b. rw (a, b)))

  changed : Named cards card → after ≡ moved_if 0 cards card x
  changed n = ap (λ (r : ℕ). moved_if r cards card x) (named_on n)

  kept : (Named cards card → ⊥) → after ≡ moved_if 20 cards card x
  kept h = ap (λ (r : ℕ). moved_if r cards card x) (named_off h)

  -- "20 for an empty or longer list or a card number past it"; then nothing changes
  pub move_refused : (Named cards card → ⊥) → after ≡ record { refusal = 20; cards = cards }
  move_refused h = kept h

  -- "changes a named card's location": a change is made exactly for a list of 1 to 64 cards that has the card
  pub move_made : (after.refusal ≡ 0) ↔ Named cards card
  move_made = (λ e. by_cases (ltb 64 (length cards)) (long e) (λ a. by_cases (ltb card (length cards)) (within a) (past e a)), λ n. ap (λ (m : Moved). m.refusal) (changed n))
    where
      refusal_is : {r : ℕ} → named_in (length cards) card ≡ r → after.refusal ≡ (moved_if r cards card x).refusal
      refusal_is t = ap (λ (r : ℕ). (moved_if r cards card x).refusal) t

      long : after.refusal ≡ 0 → ltb 64 (length cards) ≡ true → Named cards card
      long e a = let t = refusal_is (named_off (λ n. let l = ltb-true 64 (length cards) a in omega (arith, n.0.1))) in absurd (omega arith)

      within : ltb 64 (length cards) ≡ false → ltb card (length cards) ≡ true → Named cards card
      within a b = let l = ltb-true card (length cards) b in ((omega arith, ltb-false 64 (length cards) a), l)

      past : after.refusal ≡ 0 → ltb 64 (length cards) ≡ false → ltb card (length cards) ≡ false → Named cards card
      past e a b = let t = refusal_is (named_off (λ n. let l = ltb-false card (length cards) b in omega (arith, n.1))) in absurd (omega arith)

  -- the list keeps its length
  pub move_length : length after.cards ≡ length cards
  move_length = go (named_in (length cards) card)
    where
      go : (r : ℕ) → length (moved_if r cards card x).cards ≡ length cards
      go zero = length-set cards card _
      go (suc r) = refl

  -- "A change takes any location": the card has it, and its train as it was
  pub move_card : Named cards card → card_of after.cards card ≡ moved_to (card_of cards card) x
  move_card n = ap (λ (m : Moved). card_of m.cards card) (changed n) ∙ get_or-set_same cards card (moved_to (card_of cards card) x) no_card n.1

  -- "all other cards as they were"
  pub move_others : (j : ℕ) → (j ≡ card → ⊥) → card_of after.cards j ≡ card_of cards j
  move_others j h = go (named_in (length cards) card)
    where
      go : (r : ℕ) → card_of (moved_if r cards card x).cards j ≡ card_of cards j
      go zero = get_or-set_other cards card j (moved_to (card_of cards card) x) no_card h
      go (suc r) = refl
