-- The fleet board, as total functions of the list of cards: the board of a packet, and the change of a card's location.
use Rattle.std.specs.Prelude.{cond, false, List, ℕ, zero, suc, eqb, leb, ltb, length, get_or, set}
use Rattle.speed_question.specs.declared.Speed.{Speed}
use Rattle.speed_question.specs.Question.{permitted_speed}
use Rattle.fleet.specs.declared.Card.{Card}
use Rattle.fleet.specs.declared.Board.{Board}

-- what stands for a card past the list's end, where nothing looks
abbrev pub no_card : Card
no_card = record { train = record { length = 0; cant = 0; maximum = 0; freight_p = false; freight_g = false; passenger = false }; location = 0 }

-- "up to 64 train cards": how many cards of a list are asked; none of a longer one
unfoldable pub asked_of : ℕ → ℕ
asked_of n = cond (ltb 64 n) 0 n

-- "20 for an empty or longer list or a card number past it"
unfoldable pub named_in : ℕ → ℕ → ℕ
named_in n card = cond (ltb card (asked_of n)) 0 20

-- ---- "changes a named card's location, all other cards as they were"

-- the refusal, and the whole list after a change
pub record Moved : Type 0 where
  pub refusal : ℕ
  pub cards : List Card

-- "A change takes any location": the card at another location
abbrev pub moved_to : Card → ℕ → Card
moved_to c x = record { train = c.train; location = x }

-- the change, by its refusal: 0, or "20 for an empty or longer list or a card number past it"
abbrev pub moved_if : ℕ → List Card → ℕ → ℕ → Moved
moved_if zero cards card x = record { refusal = 0; cards = set cards card (moved_to (get_or cards card no_card) x) }
moved_if (suc r) cards card x = record { refusal = suc r; cards = cards }

-- "changes a named card's location, all other cards as they were"
abbrev pub moved : List Card → ℕ → ℕ → Moved
moved cards card x = moved_if (named_in (length cards) card) cards card x

-- ---- "The board answers the number and speed of the first card with the lowest permitted speed"

-- "each with a location on one packet's segment": the answer of the speed question for a card on a packet's segment
unfoldable pub answer_of : List ℕ → Card → Speed
answer_of packet c = permitted_speed 0 1 packet packet packet packet c.train c.location

-- a refusal, with its place
abbrev pub no_board : ℕ → ℕ → Board
no_board r place = record { refusal = r; place = place; card = 0; speed = 0 }

-- the board of card i alone, from its answer
unfoldable pub alone : ℕ → Speed → Board
alone i s = cond (eqb s.refusal 0) (record { refusal = 0; place = 0; card = i; speed = s.speed }) (no_board s.refusal s.place)

-- the board after card i, from the board of the cards before it: "first card first", so a refusal stays; "the first card with the lowest permitted speed", so an equal speed stays
unfoldable pub after : Board → ℕ → Speed → Board
after best i s = cond (eqb i 0) (alone i s) (cond (eqb best.refusal 0) (cond (eqb s.refusal 0) (cond (leb best.speed s.speed) best (alone i s)) (alone i s)) best)

-- the board after the first i cards of a list: "20 for an empty or longer list" where none is asked
unfoldable pub board_after : List ℕ → List Card → ℕ → Board
board_after packet cards zero = no_board 20 0
board_after packet cards (suc i) = after (board_after packet cards i) i (answer_of packet (get_or cards i no_card))

-- "The board answers the number and speed of the first card with the lowest permitted speed", of the cards that are asked
abbrev pub board : List ℕ → List Card → Board
board packet cards = board_after packet cards (asked_of (length cards))
