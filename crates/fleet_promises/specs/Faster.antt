-- "Longer or slower never means faster", in the words of the board: two lists of cards, of which one is longer or slower.
use Rattle.std.specs.Prelude.{◌≡◌, List, ℕ, ◌<◌, length, set}
use Rattle.speed.specs.Faster.{Slower}
use Rattle.promises.specs.Faster.{with_length}
use Rattle.fleet.specs.declared.Card.{Card}
use Rattle.fleet_promises.specs.Promised.{card_of}

-- "a longer train never gets a higher speed at the same location": as many cards, each at the location of its fellow, with a train that is longer or slower
pub record SlowerCards (slower cards : List Card) : Type 0 where
  pub many : length slower ≡ length cards
  pub trains : (j : ℕ) → j < length cards → Slower (card_of slower j).train (card_of cards j).train
  pub places : (j : ℕ) → j < length cards → (card_of slower j).location ≡ (card_of cards j).location

-- "a longer train", "With all else equal": card k of the list with the length n, in cm
abbrev pub lengthened : List Card → ℕ → ℕ → List Card
lengthened cards k n = set cards k (record { train = with_length n (card_of cards k).train; location = (card_of cards k).location })
