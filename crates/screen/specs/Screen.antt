-- The text of the wall screen, as a total function of the bytes of both files.
use Rattle.std.specs.Prelude.{cond, List, [], ◌++◌, ℕ, zero, suc, eqb, length, drop, get_or}
use Rattle.text.specs.words.Words.{ascii, labelled}
use Rattle.text.specs.Listing.{refused_line, Listed}
use Rattle.fleet.specs.declared.Card.{Card}
use Rattle.fleet.specs.Fleet.{no_card, answer_of, board}
use Rattle.screen.specs.File.{Numbers, accepted, refused, file_numbers, cards_of}

-- "a line a card, as "CARD 0 AT 699 SPEED 100"": its number, location in cm and permitted speed in km/h
abbrev pub card_line : ℕ → ℕ → ℕ → List ℕ
card_line i location speed = labelled (ascii "CARD ") i ++ labelled (ascii " AT ") location ++ labelled (ascii " SPEED ") speed ++ ascii "\n"

-- "prints a line a card": the lines of the first i cards
unfoldable pub lines_after : List ℕ → List Card → ℕ → List ℕ
lines_after packet cards zero = []
lines_after packet cards (suc i) =
    lines_after packet cards i ++ card_line i (get_or cards i no_card).location (answer_of packet (get_or cards i no_card)).speed

-- "a line a card .. or the listing's refusal line", with the refusal of the board
abbrev pub text_of : List ℕ → List Card → List ℕ
text_of packet cards =
    cond (eqb (board packet cards).refusal 0) (lines_after packet cards (length cards)) (refused_line (board packet cards).refusal (board packet cards).place)

-- "The cards file is judged first"
abbrev pub shown_of : List ℕ → Numbers → List ℕ
shown_of packet (accepted l) = text_of packet (cards_of l)
shown_of packet (refused r place) = refused_line r place

-- "A wall-screen program reads the files cards .. and packet, and prints a line a card, .. or the listing's refusal line"
unfoldable pub screen_of : List ℕ → List ℕ → List ℕ
screen_of cards packet = shown_of packet (file_numbers cards)

-- what is printed, at the front of a room: its length, and the whole room
unfoldable pub screen_in : List ℕ → List ℕ → List ℕ → Listed
screen_in cards packet room = record { length = length (screen_of cards packet); room = screen_of cards packet ++ drop (length (screen_of cards packet)) room }
