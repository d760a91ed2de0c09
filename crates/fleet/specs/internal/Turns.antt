-- The board as the code comes to it, which judges the packet once, before the first card. No promise names it.
use Rattle.std.specs.Prelude.{cond, List, ℕ, zero, suc, eqb, ltb, get_or, Result, Ok, Err}
use Rattle.kinds.specs.declared.refusals.Refusal.{Refusal}
use Rattle.kinds.specs.declared.refusals.Refusal.TheVariants.{CardList}
use Rattle.format.specs.Format.{Read, accepted, refused}
use Rattle.grammar.specs.segment.Segment.{wire_changes}
use Rattle.grammar.specs.segment.Judgement.{from_packet}
use Rattle.speed_question.specs.declared.Speed.{Speed}
use Rattle.fleet.specs.declared.Card.{Card}
use Rattle.fleet.specs.declared.Board.{Board}
use Rattle.fleet.specs.Fleet.{no_card, asked_of, answer_of, no_board, after}

-- whether a card of a list of n has the number: 20 if none has
unfoldable pub named_as : ℕ → ℕ → Result (Unit {0}) Refusal
named_as n card = cond (ltb card (asked_of n)) (Ok tt) (Err CardList)

-- the packet's refusal, or 0
abbrev pub judged_to : Read → Board
judged_to (accepted l) = no_board 0 0
judged_to (refused r place) = no_board r place

-- before the first of n cards: 20 if there is none, else the packet's refusal
unfoldable pub started_with : ℕ → List ℕ → Board
started_with n packet = cond (eqb n 0) (no_board 20 0) (judged_to (from_packet wire_changes packet))

-- after card i: a refusal stays
unfoldable pub turned : Board → ℕ → Speed → Board
turned best i s = cond (eqb best.refusal 0) (after best i s) best

-- after the first i of n cards
unfoldable pub came_to : ℕ → List ℕ → List Card → ℕ → Board
came_to n packet cards zero = started_with n packet
came_to n packet cards (suc i) = turned (came_to n packet cards i) i (answer_of packet (get_or cards i no_card))
