-- The words of the promises on the fleet board: the first card with the lowest speed, when the board answers, the ground of each refusal, and how it ends.
use Rattle.std.specs.Prelude.{◌≡◌, true, false, List, ◌∷◌, ℕ, ◌≤◌, ◌<◌, length, get_or}
use Rattle.kinds.specs.declared.Item.{Item}
use Rattle.format.specs.Format.{sheet_numbers}
use Rattle.format.specs.Grounds.{Among}
use Rattle.speed.specs.Speed.{valid_train, segment_length}
use Rattle.speed_question.specs.declared.Speed.{Speed}
use Rattle.speed_question.specs.Question.{Brought}
use Rattle.promises.specs.Promised.{SegmentOfValues}
use Rattle.promises.specs.Refused.{SegmentGround, speed_refusals}
use Rattle.fleet.specs.declared.Board.{Board}
use Rattle.fleet.specs.declared.Card.{Card}
use Rattle.fleet.specs.Fleet.{no_card}

-- card i of a list
abbrev pub card_of : List Card → ℕ → Card
card_of cards i = get_or cards i no_card

-- "up to 64 train cards"; "an empty or longer list" is none
abbrev pub Listed : List Card → Type 0
Listed cards = (1 ≤ length cards) × (length cards ≤ 64)

-- "the number and speed of the first card with the lowest permitted speed": of n cards with these answers
pub record Lowest (answer : ℕ → Speed) (n : ℕ) (b : Board) : Type 0 where
  pub accepted : b.refusal ≡ 0
  pub placeless : b.place ≡ 0
  pub within : b.card < n
  pub speed : b.speed ≡ (answer b.card).speed
  pub least : (j : ℕ) → j < n → b.speed ≤ (answer j).speed
  pub first : (j : ℕ) → j < b.card → b.speed < (answer j).speed

-- a card that is refused neither with 10 nor with 11, on the segment of these values
abbrev pub Runs : List Item → Card → Type 0
Runs l c = (valid_train c.train ≡ true) × (c.location < segment_length (sheet_numbers l))

-- "each with a location on one packet's segment": a list of up to 64 cards, a packet of good values, and each card allowed on its segment
pub record Showable (packet : List ℕ) (cards : List Card) : Type 0 where
  pub listed : Listed cards
  pub of : SegmentOfValues Brought.packet packet
  pub runs : (j : ℕ) → j < length cards → Runs of.values (card_of cards j)

-- "first card first": card k is the first of the list that is not allowed on the segment of these values
pub record FirstNot (l : List Item) (cards : List Card) (k : ℕ) : Type 0 where
  pub within : k < length cards
  pub before : (j : ℕ) → j < k → Runs l (card_of cards j)

-- "20 for an empty or longer list .., before all else; for the board then the segment's own, then each card's 10 or 11, first card first"
pub data BoardGround (packet : List ℕ) (cards : List Card) (r place : ℕ) : Type 0 where
  -- nothing is said of the packet and the cards
  unlisted : (Listed cards → ⊥) → r ≡ 20 → place ≡ 0 → BoardGround packet cards r place
  -- nothing is said of the cards
  own : Listed cards → SegmentGround Brought.packet packet r place → BoardGround packet cards r place
  -- "each card's 10"
  bad_train : Listed cards → (w : SegmentOfValues Brought.packet packet) (k : ℕ) → FirstNot w.values cards k → valid_train (card_of cards k).train ≡ false
      → r ≡ 10 → place ≡ 0 → BoardGround packet cards r place
  -- "or 11"
  past_end : Listed cards → (w : SegmentOfValues Brought.packet packet) (k : ℕ) → FirstNot w.values cards k → valid_train (card_of cards k).train ≡ true
      → segment_length (sheet_numbers w.values) ≤ (card_of cards k).location → r ≡ 11 → place ≡ 0 → BoardGround packet cards r place

-- the refusals of the board: 20, and those of a speed question on a packet
abbrev pub board_refusals : List ℕ
board_refusals = 20 ∷ speed_refusals Brought.packet

-- how a board ends: a card of the list and its speed, or "It returns its number with .. speed .. 0"
pub data BoardEnds (cards : List Card) (b : Board) : Type 0 where
  success : b.refusal ≡ 0 → b.place ≡ 0 → b.card < length cards → b.speed ≤ 600 → BoardEnds cards b
  refusal : Among b.refusal board_refusals → b.card ≡ 0 → b.speed ≡ 0 → BoardEnds cards b

-- "a card number past it"
abbrev pub Named : List Card → ℕ → Type 0
Named cards card = Listed cards × (card < length cards)
