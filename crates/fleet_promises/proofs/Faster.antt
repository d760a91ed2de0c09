-- "Longer or slower never means faster", of the board: a longer train on a card never raises the lowest speed.
use mathlib.Core.Path.{◌≡◌, refl}
use mathlib.Core.List.{List}
use Prim.Native.Nat.{ℕ, ◌≤◌, ◌<◌}
use native.Mathlib.Omega.{arith}
use native.Mathlib.Decide.{ℕ_discrete}
use lib.ListN.{length, length-set}
use lib.Seq.{get_or-set_same, get_or-set_other}
use Rattle.bits.specs.Bits.{Bytes}
use Rattle.speed.specs.Faster.{Slower}
use Rattle.speed_question.specs.declared.Speed.{Speed}
use Rattle.speed_question.specs.Question.{permitted_speed}
use Rattle.promises.specs.Faster.{NotFaster}
use Rattle.promises.proofs.Faster.{slower_never_faster, lowest_never_raised}
use Rattle.fleet.specs.declared.Card.{Card}
use Rattle.fleet.specs.Fleet.{no_card, board}
use Rattle.fleet_promises.specs.Faster.{SlowerCards, lengthened}
use Rattle.fleet_promises.specs.Promised.{card_of}
use Rattle.fleet_promises.proofs.Board.{board_answered, board_lowest, board_each}

module _ (packet : List ℕ) (ok : Bytes packet) where
  abbrev asked : Card → Speed
  asked c = permitted_speed 0 1 packet packet packet packet c.train c.location

  -- one card
  card_slower : (c d : Card) → Slower c.train d.train → c.location ≡ d.location → NotFaster (asked c) (asked d)
  card_slower c d s e = rw e (slower_never_faster 0 1 packet packet packet packet d.train d.location (ok, tt) c.train s)

  -- a board of longer or slower trains, each at the location of its fellow, has no higher lowest speed; "both questions accepted" is that both boards are answered
  pub slower_never_raises : (slower cards : List Card) → SlowerCards slower cards → (board packet slower).refusal ≡ 0 → (board packet cards).refusal ≡ 0
      → (board packet slower).speed ≤ (board packet cards).speed
  slower_never_raises slower cards s p q =
      let a = (board_answered packet slower ok).0 p in
      let b = (board_answered packet cards ok).0 q in
      let low = board_lowest packet cards ok b in
      lowest_never_raised (length cards) (λ j. asked (card_of slower j)) (λ j. asked (card_of cards j))
      (λ j h. (board_each packet slower ok a j (omega (arith, s.many)), board_each packet cards ok b j h, card_slower (card_of slower j) (card_of cards j) (s.trains j h) (s.places j h)))
      (board packet slower).speed (board packet cards).speed (board packet cards).card
      (λ j h. (board_lowest packet slower ok a).least j (omega (arith, s.many))) low.within low.speed

-- the list with one train longer
lengthened_slower : (cards : List Card) (k n : ℕ) → (card_of cards k).train.length ≤ n → SlowerCards (lengthened cards k n) cards
lengthened_slower cards k n longer = record { many = length-set cards k _; trains = λ j h. (card j h).0; places = λ j h. (card j h).1 }
  where
    card : (j : ℕ) → j < length cards → Slower (card_of (lengthened cards k n) j).train (card_of cards j).train × ((card_of (lengthened cards k n) j).location ≡ (card_of cards j).location)
    card j h = go (ℕ_discrete j k)
      where
        go : Dec (j ≡ k) → Slower (card_of (lengthened cards k n) j).train (card_of cards j).train × ((card_of (lengthened cards k n) j).location ≡ (card_of cards j).location)
        go (yes e) = rw (e, get_or-set_same cards k _ no_card (rw e at h)) (record { longer = longer; lower = omega arith; alike = record { cant = refl; in_p = refl; in_g = refl; passengers = refl } }, refl)
        go (no d) = rw (get_or-set_other cards k j _ no_card d) (record { longer = omega arith; lower = omega arith; alike = record { cant = refl; in_p = refl; in_g = refl; passengers = refl } }, refl)

-- "a longer train never gets a higher speed at the same location": a longer train on a card never raises the board's lowest speed
pub longer_never_raises : (packet : List ℕ) (cards : List Card) (k n : ℕ) → Bytes packet → (card_of cards k).train.length ≤ n
    → (board packet (lengthened cards k n)).refusal ≡ 0 → (board packet cards).refusal ≡ 0 → (board packet (lengthened cards k n)).speed ≤ (board packet cards).speed
longer_never_raises packet cards k n ok h = slower_never_raises packet ok (lengthened cards k n) cards (lengthened_slower cards k n h)
