-- The lines of the cards, one after the other.
use mathlib.Core.Path.{◌≡◌, refl, ap, ◌∙◌, subst}
use mathlib.Core.List.{List, ◌++◌}
use Prim.Native.Nat.{ℕ, zero, suc, ◌+◌, ◌*◌, ◌≤◌}
use native.Mathlib.Omega.{arith}
use native.Mathlib.Numerals.{add-one}
use lib.ListN.{length, get_or, length-append}
use Rattle.text.specs.words.Words.{Laid}
use Rattle.text.proofs.words.Putting.{laid_on, decimal_short}
use Rattle.speed_question.specs.declared.Speed.{Speed}
use Rattle.fleet.specs.declared.Card.{Card}
use Rattle.fleet.specs.Fleet.{no_card, answer_of}
use Rattle.screen.specs.Screen.{card_line, lines_after}

-- a card's line has `CARD `, ` AT `, ` SPEED `, three numbers of at most ten digits, and the line's end
pub line_short : (i location speed : ℕ) → length (card_line i location speed) ≤ 47
line_short i location speed = simp length-append (omega (arith, decimal_short i, decimal_short location, decimal_short speed))

module _ (packet : List ℕ) (cards : List Card) where
  abbrev line : ℕ → List ℕ
  line i = card_line i (get_or cards i no_card).location (answer_of packet (get_or cards i no_card)).speed

  pub lines_short : (i : ℕ) → length (lines_after packet cards i) ≤ 47 * i
  unfolding lines_after
  lines_short zero = omega arith
  lines_short (suc i) = rw (length-append (lines_after packet cards i) (line i)) (omega (arith, lines_short i, line_short i (get_or cards i no_card).location (answer_of packet (get_or cards i no_card)).speed))

  lines_next : (i : ℕ) → lines_after packet cards i ++ line i ≡ lines_after packet cards (i + 1)
  unfolding lines_after
  lines_next i = rw (add-one i)

  pub lines_first : (room : List ℕ) → Laid room 0 (lines_after packet cards 0) 0 room
  unfolding lines_after
  lines_first room = record { place = omega arith; bytes = refl }

  -- the lines of i cards, and the line of the next one behind them
  pub lines_laid : (i : ℕ) (c : Card) (s : Speed) {room cells more : List ℕ} {next last : ℕ} → c ≡ get_or cards i no_card → s ≡ answer_of packet c
      → Laid room 0 (lines_after packet cards i) next cells → Laid cells next (card_line i c.location s.speed) last more → Laid room 0 (lines_after packet cards (i + 1)) last more
  lines_laid i c s {room} {cells} {more} {next} {last} d e a b =
      let same : card_line i c.location s.speed ≡ line i = ap (λ (v : Speed). card_line i c.location v.speed) e ∙ ap (λ (k : Card). card_line i k.location (answer_of packet k).speed) d in
      subst (λ (t : List ℕ). Laid room 0 t last more) (lines_next i) (laid_on a (subst (λ (t : List ℕ). Laid cells next t last more) same b))
